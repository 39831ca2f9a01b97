-- What the end of a start or of a stop comes to.
use Rattle.std.specs.Prelude.{◌≡◌, true, List, Option, None, Some}
use Rattle.std.specs.Option.{option_map}
use Rattle.vx_data.specs.declared.ids.ContextId.{ContextId}
use Rattle.vx_data.specs.declared.ids.PassNo.{PassNo}
use Rattle.vx_call.specs.declared.call.Call.{Call}
use Rattle.vx_call.specs.declared.history.Traced.{Traced}
use Rattle.vx_call.specs.History.{is_accepted, no_mark}
use Rattle.vx_call.specs.Closings.{context_in}
use Rattle.vx_call.specs.Starts.{Ending, starter, stopper}
use Rattle.vx_life_rows.specs.Moves.{ends_lives}
use Rattle.vx_core_life.specs.declared.over.Over.{Over}
use Rattle.vx_core_life.specs.declared.over.Over.TheVariants as overs

-- ## What is over

-- the start that is over, and how it ended
abbrev pub start_in : Over → Option Ending
start_in (overs.Start context done) = Some (record { context = context; result = done })
start_in _ = None

-- the context whose stop is over
abbrev pub stop_in : Over → Option ContextId
stop_in (overs.Stop context) = Some context
stop_in _ = None

-- what a call of a pass ends, if it did not end before
pub record IsOver (history : List Traced) (pass : PassNo) (call : Call) (over : Over) : Type 0 where
  pub start : start_in over ≡ starter history pass call
  pub stop : stop_in over ≡ option_map context_in (stopper history pass call)

-- ## Entries

-- an entry that has nothing to do with connections, whose call was not refused and may end a start or a stop
pub record MayEnd (new : Traced) : Type 0 where
  pub accepted : is_accepted new.entry.reply ≡ true
  pub mark : new.mark ≡ no_mark
  pub call : ends_lives new.entry.call ≡ true
