use Rattle.vx_instances.proofs.Handing.{hands_out, has_state}
use Rattle.vx_instances.proofs.laws.takes_hand_out_what_is_kept.Goals as goal

pub returns-clause-kept : goal.returns-clause-kept
returns-clause-kept c = λ history legal new lane task may is_call is_reply. hands_out history legal new lane task may is_call is_reply

pub returns-clause-stated : goal.returns-clause-stated
returns-clause-stated c = λ history legal context here verticle. has_state history legal context here verticle
