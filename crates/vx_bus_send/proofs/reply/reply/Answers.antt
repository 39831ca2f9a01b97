use Rattle.std.proofs.Common.{◌≡◌, refl, ap, sym, ◌∙◌, subst}
use Rattle.std.specs.Prelude.{None}
use Rattle.vx_message.specs.declared.Outcome.{Outcome}
use Rattle.vx_message.specs.declared.Outcome.TheVariants as outcomes
use Rattle.vx_call.specs.declared.call.Call.TheVariants as calls
use Rattle.vx_call.specs.declared.reply.Reply.TheVariants as replies
use Rattle.vx_call.specs.Refusals.{unless_refused}
use Rattle.vx_call.specs.Settled.{replied}
use Rattle.vx_bus_delivery.specs.Ending.{Settles}
use Rattle.vx_bus_store.proofs.Frames.{follows_refused}
use Rattle.vx_bus_send.proofs.Settling.{coded_same, follows_settled, ends_reply}
use Rattle.vx_bus_refusals.proofs.Small.{reply_small}
use Rattle.vx_bus_send.proofs.reply.reply.Goals as goal

pub returns-in-Some-clause-ok : goal.returns-in-Some-clause-ok
returns-in-Some-clause-ok c = λ history stands is_next.
    follows_refused c.args.contexts.now c.args.timers.now c.args.bus.now history c.args.pass (calls.Reply c.args.message c.args.body c.args.options) c.in-Some.refusal refl stands
    (ap (λ refusal. unless_refused refusal replies.Done) (c.in-Some.ensures history stands.contexts stands.bus))

pub replied-requires : goal.replied-requires
replied-requires c =
    (reply_small c.args.contexts.now c.args.timers.now c.args.bus.now c.args.pass c.args.message c.args.body c.args.options c.requires.one
    (λ history contexts bus. sym (c.reply_refusal.ensures history contexts bus) ∙ c.in_default.is)).deep

pub returns-in-Ok-clause-ok : goal.returns-in-Ok-clause-ok
returns-in-Ok-clause-ok c = λ history stands is_next.
    let outcome : c.in-Ok.outcome ≡ replied history c.args.body c.args.options None =
    c.in-Ok.ensures ∙ ap (λ body. outcomes.Ok c.args.options.headers body None) (coded_same c.args.bus.now history c.args.options.codec c.args.body stands.bus) in
    let P : Outcome → Type 0 = Settles c.args.contexts.now c.settle.new.contexts c.args.timers.now c.settle.new.timers c.args.bus.now c.settle.new.bus c.args.at c.args.message in
    follows_settled c.args.contexts.now c.settle.new.contexts c.args.timers.now c.settle.new.timers c.args.bus.now c.settle.new.bus history c.args.at c.args.pass
    (calls.Reply c.args.message c.args.body c.args.options) replies.Done c.args.message (replied history c.args.body c.args.options None) stands is_next
    (ends_reply history c.args.pass c.args.message c.args.body c.args.options)
    (ap (λ refusal. unless_refused refusal replies.Done) (sym c.in_default.is ∙ c.reply_refusal.ensures history stands.contexts stands.bus)) (subst P outcome c.settle.ensures.settled)
