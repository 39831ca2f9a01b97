use Rattle.vx_laws.proofs.Deliveries.{delivered_once}
use Rattle.vx_laws.proofs.Demand.{take_as_fetched}
use Rattle.vx_laws.proofs.Leaving.{take_nothing}
use Rattle.vx_laws.proofs.Order.{take_in_order}
use Rattle.vx_laws.proofs.Overlap.{loops_apart, never_overlap}
use Rattle.vx_laws.proofs.Requests.{ended_once}
use Rattle.vx_laws.proofs.Turns.{take_turns}
use Rattle.vx_laws.proofs.Undeploying.{end_in_order}
use Rattle.vx_script.specs.Playing.{history_of}
use Rattle.vx_script.proofs.LegalRuns.{legal_run}
use Rattle.vx_script.proofs.Settled.{settled}
use Rattle.vx_script.proofs.running.script.Goals as goal

pub returns-clause-legal : goal.returns-clause-legal
returns-clause-legal g c = legal_run

pub returns-clause-delivered_once : goal.returns-clause-delivered_once
returns-clause-delivered_once g c = λ bytes commands few ok. delivered_once (history_of commands) (legal_run bytes commands few ok)

pub returns-clause-requests_end_once : goal.returns-clause-requests_end_once
returns-clause-requests_end_once g c = λ bytes commands few ok. ended_once (history_of commands) (legal_run bytes commands few ok)

pub returns-clause-handlers_take_turns : goal.returns-clause-handlers_take_turns
returns-clause-handlers_take_turns g c = λ bytes commands few ok. take_turns (history_of commands) (legal_run bytes commands few ok)

pub returns-clause-taken_in_order : goal.returns-clause-taken_in_order
returns-clause-taken_in_order g c = λ bytes commands few ok. take_in_order (history_of commands) (legal_run bytes commands few ok)

pub returns-clause-taken_as_fetched : goal.returns-clause-taken_as_fetched
returns-clause-taken_as_fetched g c = λ bytes commands few ok. take_as_fetched (history_of commands) (legal_run bytes commands few ok)

pub returns-clause-ended_take_nothing : goal.returns-clause-ended_take_nothing
returns-clause-ended_take_nothing g c = λ bytes commands few ok. take_nothing (history_of commands) (legal_run bytes commands few ok)

pub returns-clause-never_overlap : goal.returns-clause-never_overlap
returns-clause-never_overlap g c = λ bytes commands few ok. never_overlap (history_of commands) (legal_run bytes commands few ok)

pub returns-clause-loops_never_overlap : goal.returns-clause-loops_never_overlap
returns-clause-loops_never_overlap g c = λ bytes commands few ok. loops_apart (history_of commands) (legal_run bytes commands few ok)

pub returns-clause-ends_in_order : goal.returns-clause-ends_in_order
returns-clause-ends_in_order g c = λ bytes commands few ok. end_in_order (history_of commands) (legal_run bytes commands few ok)

pub returns-clause-complete : goal.returns-clause-complete
returns-clause-complete g c = λ bytes commands words told few ok reads writes.
    settled c.run.result bytes commands _ _ _ (rw told at c.run.ensures.outcome) few ok (λ u. c.run.ensures.usage.0 u words) (λ u. reads (c.run.ensures.read_fault u)) (λ u. writes (c.run.ensures.write_fault u))
