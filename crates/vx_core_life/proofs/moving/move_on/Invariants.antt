use Rattle.std.proofs.Common.{◌≡◌, ◌≤◌, ◌++◌, length}
use Rattle.vx_core_life.specs.Moving.{AreApart, tellings, said, promised, telling_items}
use Rattle.vx_core_life.proofs.moving.move_on.Given as goal

abbrev pub invariant-loop-telling : goal.invariant-loop-telling
invariant-loop-telling l = record {
  said : AreApart l.fn.life → said l.life ≡ said l.fn.life;
  apart : AreApart l.fn.life → AreApart l.life;
  told : AreApart l.fn.life → l.contexts.waiting ++ telling_items l.fn.contexts l.at l.place (tellings l.life) ≡ l.fn.contexts.waiting ++ telling_items l.fn.contexts l.at l.fn.first (tellings l.fn.life);
  rest : l.contexts ≡ record l.fn.contexts { waiting = l.contexts.waiting; owed = l.contexts.owed; room = l.contexts.room };
  owed : promised l.life ≤ l.contexts.owed;
  place : l.place ≤ length l.contexts.waiting;
  room : l.fn.contexts.room ≤ l.contexts.room;
}

abbrev pub decreases-loop-telling : goal.decreases-loop-telling
decreases-loop-telling l = promised l.life
