use Rattle.std.proofs.Common.{refl}
use Rattle.std.specs.Fmt.{digits}
use Rattle.vx_data.specs.BodyText.{escaped}
use Rattle.vx_call.specs.History.{lasting}
use Rattle.vx_call_examples.proofs.bridge_examples.Goals as goal

pub returns-clause-pings : goal.returns-clause-pings
unfolding lasting digits escaped
returns-clause-pings c = refl

pub returns-clause-too_long : goal.returns-clause-too_long
unfolding lasting digits escaped
returns-clause-too_long c = refl

pub returns-clause-echo : goal.returns-clause-echo
unfolding lasting digits escaped
returns-clause-echo c = refl

pub returns-clause-asked : goal.returns-clause-asked
unfolding lasting digits escaped
returns-clause-asked c = refl

pub returns-clause-one_more : goal.returns-clause-one_more
unfolding lasting digits escaped
returns-clause-one_more c = refl

pub returns-clause-stopped : goal.returns-clause-stopped
unfolding lasting digits escaped
returns-clause-stopped c = refl

pub returns-clause-both_ways : goal.returns-clause-both_ways
unfolding lasting digits escaped
returns-clause-both_ways c = refl

pub returns-clause-late_opener : goal.returns-clause-late_opener
unfolding lasting digits escaped
returns-clause-late_opener c = refl

pub returns-clause-two_time_out : goal.returns-clause-two_time_out
unfolding lasting digits escaped
returns-clause-two_time_out c = refl

pub returns-clause-unheard : goal.returns-clause-unheard
unfolding lasting digits escaped
returns-clause-unheard c = refl

pub returns-clause-not_added : goal.returns-clause-not_added
unfolding lasting digits escaped
returns-clause-not_added c = refl
