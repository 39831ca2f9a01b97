use Rattle.std.proofs.Common.{refl}
use Rattle.std.specs.Fmt.{digits}
use Rattle.vx_data.specs.BodyText.{escaped}
use Rattle.vx_call.specs.History.{lasting}
use Rattle.vx_call_examples.proofs.life_examples.Goals as goal

pub returns-clause-parent_and_child : goal.returns-clause-parent_and_child
unfolding lasting digits escaped
returns-clause-parent_and_child c = refl

pub returns-clause-failed_start : goal.returns-clause-failed_start
unfolding lasting digits escaped
returns-clause-failed_start c = refl

pub returns-clause-periodic_timer : goal.returns-clause-periodic_timer
unfolding lasting digits escaped
returns-clause-periodic_timer c = refl

pub returns-clause-closed_hub : goal.returns-clause-closed_hub
unfolding lasting digits escaped
returns-clause-closed_hub c = refl

pub returns-clause-no_loop : goal.returns-clause-no_loop
unfolding lasting digits escaped
returns-clause-no_loop c = refl

pub returns-clause-handed_over : goal.returns-clause-handed_over
unfolding lasting digits escaped
returns-clause-handed_over c = refl

pub returns-clause-jobs_in_turn : goal.returns-clause-jobs_in_turn
unfolding lasting digits escaped
returns-clause-jobs_in_turn c = refl

pub returns-clause-free_jobs : goal.returns-clause-free_jobs
unfolding lasting digits escaped
returns-clause-free_jobs c = refl

pub returns-clause-one_worker : goal.returns-clause-one_worker
unfolding lasting digits escaped
returns-clause-one_worker c = refl

pub returns-clause-named_pool : goal.returns-clause-named_pool
unfolding lasting digits escaped
returns-clause-named_pool c = refl

pub returns-clause-failing_parent : goal.returns-clause-failing_parent
unfolding lasting digits escaped
returns-clause-failing_parent c = refl

pub returns-clause-misfit_verticles : goal.returns-clause-misfit_verticles
unfolding lasting digits escaped
returns-clause-misfit_verticles c = refl

pub returns-clause-timers_and_requests : goal.returns-clause-timers_and_requests
unfolding lasting digits escaped
returns-clause-timers_and_requests c = refl

pub returns-clause-waiting_fire : goal.returns-clause-waiting_fire
unfolding lasting digits escaped
returns-clause-waiting_fire c = refl

pub returns-clause-no_handler : goal.returns-clause-no_handler
unfolding lasting digits escaped
returns-clause-no_handler c = refl
