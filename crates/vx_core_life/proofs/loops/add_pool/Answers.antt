use Rattle.std.proofs.Common.{refl, ap, sym, ◌∙◌}
use Rattle.vx_call.specs.declared.call.Call.TheVariants as calls
use Rattle.vx_call.specs.declared.reply.Reply.TheVariants as replies
use Rattle.vx_call.specs.Names.{next_pool}
use Rattle.vx_call.specs.Refusals.{unless_refused}
use Rattle.vx_core_life.proofs.Refused.{lives_refused}
use Rattle.vx_core_life.proofs.RowLoops.{pool_added}
use Rattle.vx_core_life.proofs.loops.add_pool.Goals as goal

pub returns-in-Some-clause-ok : goal.returns-in-Some-clause-ok
returns-in-Some-clause-ok c = λ history timers bus stands is_next.
    lives_refused c.args.life.now c.args.contexts.now timers bus history c.args.pass (calls.AddPool c.args.name c.args.size) c.in-Some.refusal refl stands
    (ap (λ refusal. unless_refused refusal (replies.Pool (next_pool history))) (c.in-Some.ensures history stands.stores.contexts))

pub returns-in-Ok-clause-ok : goal.returns-in-Ok-clause-ok
returns-in-Ok-clause-ok c = λ history timers bus stands is_next.
    pool_added c.args.life.now c.args.contexts.now c.add_pool.new.self timers bus history c.args.at c.args.pass c.args.name c.args.size stands is_next
    (sym (c.add_pool_refusal.ensures history stands.stores.contexts) ∙ c.in_default.is) c.in-Ok.ensures.ok
