use Rattle.vx_kinds.proofs.Readings.{settings-state, own-state, due-state}
use Rattle.vx_kinds.proofs.laws.states_are_read_as_written.Goals as goal

pub returns-clause-settings : goal.returns-clause-settings
returns-clause-settings c = settings-state

pub returns-clause-own : goal.returns-clause-own
returns-clause-own c = own-state

pub returns-clause-due : goal.returns-clause-due
returns-clause-due c = due-state
