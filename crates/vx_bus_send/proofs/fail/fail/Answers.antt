use Rattle.std.proofs.Common.{ℤ, w32, refl, ap, sym, ◌∙◌, subst}
use Rattle.std.proofs.lemmas.Int.{to_z-of_z}
use Rattle.vx_message.specs.declared.FailureKind.TheVariants as failures
use Rattle.vx_call.specs.declared.call.Call.TheVariants as calls
use Rattle.vx_call.specs.declared.reply.Reply.TheVariants as replies
use Rattle.vx_call.specs.Refusals.{unless_refused}
use Rattle.vx_call.specs.Settled.{failed}
use Rattle.vx_bus_delivery.specs.Ending.{Settles}
use Rattle.vx_bus_store.proofs.Frames.{follows_refused}
use Rattle.vx_bus_send.proofs.Settling.{follows_settled, ends_fail}
use Rattle.vx_bus_send.proofs.fail.fail.Goals as goal

pub returns-in-Some-clause-follows : goal.returns-in-Some-clause-follows
returns-in-Some-clause-follows c = λ history stands is_next.
    follows_refused c.args.contexts.now c.args.timers.now c.args.bus.now history c.args.pass (calls.Fail c.args.message c.args.code c.args.text) c.in-Some.refusal refl stands
    (ap (λ refusal. unless_refused refusal replies.Done) (c.in-Some.ensures history stands.contexts stands.bus))

pub returns-clause-follows : goal.returns-clause-follows
returns-clause-follows c = λ history stands is_next.
    let P : ℤ → Type 0 = λ code. Settles c.args.contexts.now c.settle.new.contexts c.args.timers.now c.settle.new.timers c.args.bus.now c.settle.new.bus c.args.at c.args.message
    (failed failures.RecipientFailure code c.args.text) in
    follows_settled c.args.contexts.now c.settle.new.contexts c.args.timers.now c.settle.new.timers c.args.bus.now c.settle.new.bus history c.args.at c.args.pass
    (calls.Fail c.args.message c.args.code c.args.text) replies.Done c.args.message (failed failures.RecipientFailure c.args.code c.args.text) stands is_next
    (ends_fail history c.args.pass c.args.message c.args.code c.args.text)
    (ap (λ refusal. unless_refused refusal replies.Done) (sym c.in_default.is ∙ c.fail_refusal.ensures history stands.contexts stands.bus)) (subst P (to_z-of_z w32 c.args.code c.ranges.code) c.settle.ensures.settled)
