use Rattle.std.proofs.Common.{refl, sym}
use Rattle.vx_timer.proofs.Named.{put_ordered, put_periods, named_set}
use Rattle.vx_timer.proofs.timers.Timers.set.Goals as goal

pub invariant_of-self-then-note : goal.invariant_of-self-then-note
invariant_of-self-then-note c =
    record {
      ordered = put_ordered _ _ _ c.put-item.ensures.puts (rw c.reserve.ensures.entries c.self.invariant.ordered);
      periods = put_periods _ _ _ c.put-item.ensures.puts c.requires (rw c.reserve.ensures.entries c.self.invariant.periods);
      named = λ once. absurd (cc);
    }

pub invariant_of-self-else-note : goal.invariant_of-self-else-note
invariant_of-self-else-note c =
    record {
      ordered = put_ordered _ _ _ c.put-item.ensures.puts (rw c.reserve.ensures.entries c.self.invariant.ordered);
      periods = put_periods _ _ _ c.put-item.ensures.puts c.requires (rw c.reserve.ensures.entries c.self.invariant.periods);
      named = λ once. named_set _ _ _ _ _ c.put-item.result refl c.put-item.ensures.puts
          (rw (c.reserve.ensures.entries, c.reserve-2.ensures.entries) (c.self.invariant.named once)) (sym c.if-note.ensures.found) c.note.ensures.noted;
    }
