use Rattle.vx_life_rows.proofs.RowStill.{life_refused, life_still, quiet_still, ends_none}
use Rattle.vx_life_rows.proofs.laws.still_entries_leave_the_store.Goals as goal

pub returns : goal.returns
returns c = record {
  still = λ history new life still stands. life_still history new still life stands;
  refused = λ history new life refused stands. life_refused history new refused life stands;
  quiet = quiet_still;
  none_pending = ends_none;
}
