use Rattle.std.proofs.Common.{◌≤◌, ◌+◌}
use Rattle.std.specs.Vec.Iter.{into_iter_items, into_iter_len}
use Rattle.vx_script.specs.declared.limit.TheConstants.{LIMIT}
use Rattle.vx_script.specs.Held.{Plays}
use Rattle.vx_script.specs.Lines.{AreMade}
use Rattle.vx_script.proofs.Histories.{Goes}
use Rattle.vx_script.proofs.playing.make_all.Given as goal

abbrev pub invariant-loop-command : goal.invariant-loop-command
invariant-loop-command g l = record {
  goes : Goes (Plays l.hub l.held.verticles) (g.K.Sink.held l.fn.sink) (g.K.Sink.held l.sink) l.at (into_iter_items l.command-iterator) l.fn.commands.items;
  built : AreMade (into_iter_items l.command-iterator);
  few : l.at + into_iter_len l.command-iterator ≤ LIMIT;
  later : g.K.Sink.faults l.fn.sink ≤ g.K.Sink.faults l.sink;
}
