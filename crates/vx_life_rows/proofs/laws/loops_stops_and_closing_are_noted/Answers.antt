use Rattle.vx_life_rows.proofs.RowStill.{life_loops, life_taken}
use Rattle.vx_life_rows.proofs.RowClose.{life_closed}
use Rattle.vx_life_rows.proofs.laws.loops_stops_and_closing_are_noted.Goals as goal

pub returns : goal.returns
returns c = record {
  loops = λ history pass count reply states mark life ok stands. life_loops history pass count reply states mark ok life stands;
  taken = λ history pass lane context states mark life before stands. life_taken history pass lane context states mark before life stands;
  closed = λ history pass reply states mark life ok none stands. life_closed history pass reply states mark ok none life stands;
}
