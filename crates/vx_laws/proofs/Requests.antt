-- A request ends once.
use Rattle.std.proofs.Common.{List}
use Rattle.vx_call.specs.declared.history.Traced.{Traced}
use Rattle.vx_call.specs.Machine.{IsLegal}
use Rattle.vx_laws.specs.Outcomes.{EndsRequestsOnce}
use Rattle.vx_laws.proofs.Outcomes.{handed_out_once, goes_to_asker}
use Rattle.vx_laws.proofs.Ended.{as_settled}
use Rattle.vx_laws.proofs.Unheard.{is_unheard, is_undelivered}

pub ended_once : (history : List Traced) → IsLegal history → EndsRequestsOnce history
ended_once history legal =
    record { once = handed_out_once history legal; to_asker = goes_to_asker history legal; as_settled = as_settled history legal; unheard = is_unheard history legal; undelivered = is_undelivered history legal }
