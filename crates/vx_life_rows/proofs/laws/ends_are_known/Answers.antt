use Rattle.std.proofs.Common.{ap, sym}
use Rattle.vx_data.specs.declared.ids.ContextId.{ContextId}
use Rattle.std.specs.Prelude.{List}
use Rattle.vx_call.specs.Starts.{ending_among}
use Rattle.vx_life_rows.proofs.RowEnds.{known_start, known_there}
use Rattle.vx_life_rows.proofs.laws.ends_are_known.Goals as goal

pub returns : goal.returns
returns c = record {
  start = λ history life one parts. ap (λ (cs : List ContextId). ending_among cs one) (sym parts.starting);
  stop = λ history life one parts. ap (λ (cs : List ContextId). ending_among cs one) (sym parts.unstopped);
  of_start = known_start;
  there = known_there;
}
