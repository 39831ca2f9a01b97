-- Tasks that tell of the lives of verticles.
use Rattle.std.specs.Prelude.{Bool, true, false, Option, None, Some}
use Rattle.std.specs.Option.{option_map}
use Rattle.vx_message.specs.declared.DoneResult.{DoneResult}
use Rattle.vx_message.specs.declared.ItemKind.{ItemKind}
use Rattle.vx_message.specs.declared.ItemKind.TheVariants as kinds
use Rattle.vx_call.specs.declared.reply.Task.{Task}
use Rattle.vx_call.specs.declared.reply.Task.TheVariants as tasks
use Rattle.vx_life.specs.Stores.{LifeStore, deploy_result}

-- the task of an item of this kind: that of the end of deploying with its result
abbrev pub task_in : LifeStore → ItemKind → Option Task
task_in life (kinds.Start context) = Some (tasks.Start context)
task_in life (kinds.Stop context) = Some (tasks.Stop context)
task_in life (kinds.UndeployEnd deployment) = Some (tasks.UndeployEnd deployment)
task_in life (kinds.DeployEnd deployment) = option_map (λ (result : DoneResult). tasks.DeployEnd deployment result) (deploy_result life deployment)
task_in life _ = None

-- whether a task tells of the lives of verticles
abbrev pub is_of_lives : Task → Bool
is_of_lives (tasks.Start context) = true
is_of_lives (tasks.Stop context) = true
is_of_lives (tasks.UndeployEnd deployment) = true
is_of_lives (tasks.DeployEnd deployment result) = true
is_of_lives _ = false
