use Rattle.vx_core_tasks.proofs.Named.{none_named, named_more, waiting_there}
use Rattle.vx_core_tasks.proofs.laws.named_contexts_are_there.Goals as goal

pub returns : goal.returns
returns c = record { none = none_named; more = named_more; waiting = waiting_there }
