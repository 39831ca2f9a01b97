use Rattle.std.proofs.Common.{refl}
use Rattle.std.specs.Fmt.{digits}
use Rattle.vx_data.specs.BodyText.{escaped}
use Rattle.vx_call.specs.History.{lasting}
use Rattle.vx_call_examples.proofs.worked_examples.Goals as goal

pub returns-clause-one_message : goal.returns-clause-one_message
unfolding lasting digits escaped
returns-clause-one_message c = refl

pub returns-clause-nobody : goal.returns-clause-nobody
unfolding lasting digits escaped
returns-clause-nobody c = refl

pub returns-clause-two_handlers : goal.returns-clause-two_handlers
unfolding lasting digits escaped
returns-clause-two_handlers c = refl

pub returns-clause-two_takes : goal.returns-clause-two_takes
unfolding lasting digits escaped
returns-clause-two_takes c = refl

pub returns-clause-no_task : goal.returns-clause-no_task
unfolding lasting digits escaped
returns-clause-no_task c = refl

pub returns-clause-misfits : goal.returns-clause-misfits
unfolding lasting digits escaped
returns-clause-misfits c = refl

pub returns-clause-handler_leaves : goal.returns-clause-handler_leaves
unfolding lasting digits escaped
returns-clause-handler_leaves c = refl

pub returns-clause-all_leave : goal.returns-clause-all_leave
unfolding lasting digits escaped
returns-clause-all_leave c = refl

pub returns-clause-two_replies : goal.returns-clause-two_replies
unfolding lasting digits escaped
returns-clause-two_replies c = refl

pub returns-clause-time_up : goal.returns-clause-time_up
unfolding lasting digits escaped
returns-clause-time_up c = refl

pub returns-clause-reply_asks : goal.returns-clause-reply_asks
unfolding lasting digits escaped
returns-clause-reply_asks c = refl

pub returns-clause-handler_lost : goal.returns-clause-handler_lost
unfolding lasting digits escaped
returns-clause-handler_lost c = refl

pub returns-clause-paused_first : goal.returns-clause-paused_first
unfolding lasting digits escaped
returns-clause-paused_first c = refl

pub returns-clause-paused_late : goal.returns-clause-paused_late
unfolding lasting digits escaped
returns-clause-paused_late c = refl

pub returns-clause-codecs_and_rules : goal.returns-clause-codecs_and_rules
unfolding lasting digits escaped
returns-clause-codecs_and_rules c = refl

pub returns-clause-asks_too_many : goal.returns-clause-asks_too_many
unfolding lasting digits escaped
returns-clause-asks_too_many c = refl

pub returns-clause-asks_in_vain : goal.returns-clause-asks_in_vain
unfolding lasting digits escaped
returns-clause-asks_in_vain c = refl
