use Rattle.std.proofs.Common.{refl, ap, sym, ◌∙◌}
use Rattle.vx_call.specs.declared.call.Call.TheVariants as calls
use Rattle.vx_call.specs.declared.reply.Reply.TheVariants as replies
use Rattle.vx_call.specs.Refusals.{unless_refused}
use Rattle.vx_core_life.proofs.Refused.{lives_refused}
use Rattle.vx_core_life.proofs.RowLoops.{counted, loops_set}
use Rattle.vx_core_life.proofs.loops.set_loops.Goals as goal

pub returns-in-Some-clause-follows : goal.returns-in-Some-clause-follows
returns-in-Some-clause-follows c = λ history timers bus stands.
    lives_refused c.args.life.now c.args.contexts.now timers bus history c.args.pass (calls.SetLoops c.args.count) c.in-Some.refusal refl stands
    (ap (λ refusal. unless_refused refusal replies.Done) (c.in-Some.ensures.refusal history stands.stores.contexts))

pub returns-clause-follows : goal.returns-clause-follows
returns-clause-follows c = λ history timers bus stands.
    loops_set c.args.life.now c.set_loops.new.self c.args.contexts.now timers bus history c.args.pass c.args.count stands
    (sym (c.set_loops_refusal.ensures.refusal history stands.stores.contexts) ∙ c.in_default.is) c.set_loops.ensures

pub set_loops-requires-clause-least : goal.set_loops-requires-clause-least
set_loops-requires-clause-least c = (counted 16 c.args.count (c.set_loops_refusal.ensures.free c.in_default.is)).least

pub set_loops-requires-clause-most : goal.set_loops-requires-clause-most
set_loops-requires-clause-most c = (counted 16 c.args.count (c.set_loops_refusal.ensures.free c.in_default.is)).greatest
