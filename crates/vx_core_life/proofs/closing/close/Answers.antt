use Rattle.std.proofs.Common.{refl, ap, sym, ◌∙◌}
use Rattle.vx_call.specs.declared.call.Call.TheVariants as calls
use Rattle.vx_call.specs.declared.reply.Reply.TheVariants as replies
use Rattle.vx_call.specs.Refusals.{unless_refused}
use Rattle.vx_core_life.proofs.Refused.{lives_refused}
use Rattle.vx_core_life.proofs.RowClose.{closes}
use Rattle.vx_core_life.proofs.closing.close.Goals as goal

pub returns-in-Some-clause-follows : goal.returns-in-Some-clause-follows
returns-in-Some-clause-follows c = λ history stands legal is_next.
    lives_refused c.args.life.now c.args.contexts.now c.args.timers.now c.args.bus.now history c.args.pass calls.Close c.in-Some.refusal refl stands
    (ap (λ refusal. unless_refused refusal replies.Done) (c.in-Some.ensures history stands.lives))

pub returns-clause-follows : goal.returns-clause-follows
returns-clause-follows c = λ history stands legal is_next.
    closes c.args.life.now c.close.new.self c.args.contexts.now c.close_bus.new.contexts c.args.timers.now c.close_bus.new.timers c.args.bus.now c.close_bus.new.bus history c.args.at c.args.pass
    stands is_next (sym (c.still_deployed.ensures history stands.lives) ∙ c.in_default.is) c.close.ensures
    (c.close_bus.ensures.stands history c.args.pass stands.stores is_next legal)
