use Rattle.std.proofs.Common.{refl, ap, sym, ◌∙◌, arith}
use Rattle.std.specs.Prelude.{None}
use Rattle.vx_call.specs.declared.call.Call.TheVariants as calls
use Rattle.vx_call.specs.declared.reply.Reply.TheVariants as replies
use Rattle.vx_call.specs.Refusals.{unless_refused}
use Rattle.vx_call.specs.Rows.{destination}
use Rattle.vx_bus_store.proofs.Frames.{follows_refused}
use Rattle.vx_bus_refusals.proofs.Small.{request_small, request_short}
use Rattle.vx_bus_send.proofs.request.request.Goals as goal

pub returns-in-Some-clause-ok : goal.returns-in-Some-clause-ok
returns-in-Some-clause-ok c = λ history stands is_at.
    let call = calls.Request c.args.context c.args.address c.args.body c.args.options c.args.timeout None in
    follows_refused c.args.contexts.now c.args.timers.now c.args.bus.now history c.args.pass call c.in-Some.refusal refl stands
    (ap (λ refusal. unless_refused refusal (replies.Asked (destination history call c.args.address))) (c.in-Some.ensures history stands.contexts stands.bus))

pub overflow_add-due : goal.overflow_add-due
overflow_add-due c =
    omega (
      arith,
      request_short c.args.contexts.now c.args.timers.now c.args.bus.now c.args.pass c.args.context c.args.address c.args.body c.args.options c.args.timeout c.requires.one
          (λ history contexts bus. sym (c.request_refusal.ensures history contexts bus) ∙ c.in_default.is),
    )

pub ask-requires-clause-deep : goal.ask-requires-clause-deep
ask-requires-clause-deep c =
    (request_small c.args.contexts.now c.args.timers.now c.args.bus.now c.args.pass c.args.context c.args.address c.args.body c.args.options c.args.timeout c.requires.one
    (λ history contexts bus. sym (c.request_refusal.ensures history contexts bus) ∙ c.in_default.is)).deep

pub ask-requires-clause-pairs : goal.ask-requires-clause-pairs
ask-requires-clause-pairs c =
    (request_small c.args.contexts.now c.args.timers.now c.args.bus.now c.args.pass c.args.context c.args.address c.args.body c.args.options c.args.timeout c.requires.one
    (λ history contexts bus. sym (c.request_refusal.ensures history contexts bus) ∙ c.in_default.is)).pairs

pub ask-requires-clause-bytes : goal.ask-requires-clause-bytes
ask-requires-clause-bytes c =
    (request_small c.args.contexts.now c.args.timers.now c.args.bus.now c.args.pass c.args.context c.args.address c.args.body c.args.options c.args.timeout c.requires.one
    (λ history contexts bus. sym (c.request_refusal.ensures history contexts bus) ∙ c.in_default.is)).bytes

pub returns-in-Ok-clause-ok : goal.returns-in-Ok-clause-ok
returns-in-Ok-clause-ok c = λ history stands is_at.
    c.in-Ok.ensures.ok history c.args.pass c.args.now c.args.timeout stands is_at refl (sym (c.request_refusal.ensures history stands.contexts stands.bus) ∙ c.in_default.is)
