use Rattle.vx_call.proofs.Below.{children_asked}
use Rattle.vx_life_rows.proofs.RowDeploy.{failed_start}
use Rattle.vx_life_rows.proofs.RowEnds.{life_asked, life_started, life_failed, life_stopped}
use Rattle.vx_life_rows.proofs.laws.ends_are_noted.Goals as goal

pub returns : goal.returns
returns c = record {
  asked = λ history pass id tell reply states mark old life ok found children step stands. life_asked history pass id tell reply states mark ok found children old life step stands;
  started = λ history new one old ok ends started well stands. life_started history new ok ends one started well old stands;
  failed = λ history new one old life ok ends failed children step stands. life_failed history new ok ends one (failed_start history new.entry.pass new.entry.call one failed) children failed old life step stands;
  stopped = λ history new one old ok ends stopped stands. life_stopped history new ok ends one stopped old stands;
  legal = λ history legal. children_asked history legal;
}
