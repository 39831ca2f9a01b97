use Rattle.std.proofs.Common.{◌≡◌, ◌+◌, true, cond, ap, ◌∙◌, arith}
use Rattle.std.specs.Prelude.{is_ok, vec_len}
use Rattle.vx_life.proofs.Appended.{appended}
use Rattle.vx_life.proofs.stop.append_stops.Goals as goal

pub loop-instance-preserved : goal.loop-instance-preserved
loop-instance-preserved c =
    let sure : is_ok c.push.result ≡ true = ap is_ok c.unwrap.ensures in record {
      items = appended c.args.id c.loop-instance.instance c.args.stops.now.items c.loop-instance.stops.items c.push.new.self.items (is_ok c.push.result) sure c.loop-instance.invariant.items c.push.ensures.items;
      len = c.push.ensures.len ∙ ap (λ b. cond b (vec_len c.loop-instance.stops + 1) (vec_len c.loop-instance.stops)) sure ∙ omega arith;
      capacity = omega arith;
    }
