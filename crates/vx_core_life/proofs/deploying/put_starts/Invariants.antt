use Rattle.std.proofs.Common.{◌≡◌, ◌≤◌, ◌+◌, ◌++◌, map, take}
use Rattle.vx_core_life.specs.Starting.{start_item}
use Rattle.vx_core_life.proofs.deploying.put_starts.Given as goal

abbrev pub invariant-loop-context : goal.invariant-loop-context
invariant-loop-context l = record {
  starts : l.contexts ≡ record l.fn.contexts { waiting = l.fn.contexts.waiting ++ map (start_item l.fn.contexts.made l.at) (take l.context-index l.made); room = l.contexts.room };
  room : l.fn.contexts.room ≤ l.contexts.room + l.context-index;
}
