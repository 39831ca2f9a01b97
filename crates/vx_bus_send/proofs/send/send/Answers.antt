use Rattle.std.proofs.Common.{refl, ap, sym, ◌∙◌}
use Rattle.vx_call.specs.declared.call.Call.TheVariants as calls
use Rattle.vx_call.specs.declared.reply.Reply.TheVariants as replies
use Rattle.vx_call.specs.Refusals.{unless_refused}
use Rattle.vx_call.specs.Rows.{destination}
use Rattle.vx_bus_store.proofs.Frames.{follows_refused}
use Rattle.vx_bus_refusals.proofs.Small.{send_small}
use Rattle.vx_bus_send.proofs.send.send.Goals as goal

pub returns-in-Some-clause-ok : goal.returns-in-Some-clause-ok
returns-in-Some-clause-ok c = λ history stands is_next.
    let call = calls.Send c.args.address c.args.body c.args.options in
    follows_refused c.args.contexts.now c.args.timers.now c.args.bus.now history c.args.pass call c.in-Some.refusal refl stands
    (ap (λ refusal. unless_refused refusal (replies.Sent (destination history call c.args.address))) (c.in-Some.ensures history stands.contexts stands.bus))

pub send_on-requires-clause-deep : goal.send_on-requires-clause-deep
send_on-requires-clause-deep c =
    (send_small c.args.contexts.now c.args.timers.now c.args.bus.now c.args.pass c.args.address c.args.body c.args.options c.requires.one (λ history contexts bus. sym (c.send_refusal.ensures history contexts bus) ∙ c.in_default.is)).deep

pub send_on-requires-clause-pairs : goal.send_on-requires-clause-pairs
send_on-requires-clause-pairs c =
    (send_small c.args.contexts.now c.args.timers.now c.args.bus.now c.args.pass c.args.address c.args.body c.args.options c.requires.one (λ history contexts bus. sym (c.send_refusal.ensures history contexts bus) ∙ c.in_default.is)).pairs

pub send_on-requires-clause-bytes : goal.send_on-requires-clause-bytes
send_on-requires-clause-bytes c =
    (send_small c.args.contexts.now c.args.timers.now c.args.bus.now c.args.pass c.args.address c.args.body c.args.options c.requires.one (λ history contexts bus. sym (c.send_refusal.ensures history contexts bus) ∙ c.in_default.is)).bytes
