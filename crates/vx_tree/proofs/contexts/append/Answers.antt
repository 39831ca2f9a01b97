use Rattle.std.proofs.Common.{◌≡◌, ◌+◌, true, cond, ap, ◌∙◌, arith}
use Rattle.std.specs.Prelude.{is_ok, vec_len}
use Rattle.vx_tree.proofs.Added.{appended}
use Rattle.vx_tree.proofs.contexts.append.Goals as goal

pub loop-instance-preserved : goal.loop-instance-preserved
loop-instance-preserved c =
    let sure : is_ok c.push.result ≡ true = ap is_ok c.unwrap.ensures in record {
      items = appended c.args.id c.loop-instance.instance c.args.contexts.now.items c.loop-instance.contexts.items c.push.new.self.items (is_ok c.push.result) sure c.loop-instance.invariant.items c.push.ensures.items;
      len = c.push.ensures.len ∙ ap (λ b. cond b (vec_len c.loop-instance.contexts + 1) (vec_len c.loop-instance.contexts)) sure ∙ omega arith;
      capacity = omega arith;
    }
