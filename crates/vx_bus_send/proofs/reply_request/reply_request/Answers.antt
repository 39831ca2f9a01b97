use Rattle.std.proofs.Common.{refl, ap, sym, ◌∙◌, subst, length, arith}
use Rattle.std.specs.Prelude.{List}
use Rattle.std.proofs.lemmas.List.{length_push}
use Rattle.vx_timer.specs.declared.timers.Timer.{Timer}
use Rattle.vx_call.specs.declared.call.Call.TheVariants as calls
use Rattle.vx_call.specs.declared.reply.Reply.TheVariants as replies
use Rattle.vx_call.specs.declared.reply.To.TheVariants as reached
use Rattle.vx_call.specs.Refusals.{unless_refused}
use Rattle.vx_bus_store.specs.Stores.{BusStore, held_in}
use Rattle.vx_bus_store.specs.Stands.{StoresStand}
use Rattle.vx_bus_store.proofs.Frames.{follows_refused}
use Rattle.vx_bus_refusals.proofs.Small.{again_small, again_short}
use Rattle.vx_bus_send.proofs.Asking.{asks_again}
use Rattle.vx_bus_send.proofs.reply_request.reply_request.Goals as goal

pub returns-in-Some-clause-ok : goal.returns-in-Some-clause-ok
returns-in-Some-clause-ok c = λ history stands is_at.
    follows_refused c.args.contexts.now c.args.timers.now c.args.bus.now history c.args.pass (calls.ReplyRequest c.args.message c.args.context c.args.body c.args.options c.args.timeout) c.in-Some.refusal refl stands
    (ap (λ refusal. unless_refused refusal (replies.Asked reached.Asker)) (c.in-Some.ensures history stands.contexts stands.bus))

pub overflow_add-due : goal.overflow_add-due
overflow_add-due c =
    omega (
      arith,
      again_short c.args.contexts.now c.args.timers.now c.args.bus.now c.args.pass c.args.message c.args.context c.args.body c.args.options c.args.timeout c.requires.one
          (λ history contexts bus. sym (c.reply_request_refusal.ensures history contexts bus) ∙ c.in_default.is),
    )

pub prepare_reply-requires-clause-deep : goal.prepare_reply-requires-clause-deep
prepare_reply-requires-clause-deep c =
    (again_small c.args.contexts.now c.args.timers.now c.args.bus.now c.args.pass c.args.message c.args.context c.args.body c.args.options c.args.timeout c.requires.one
    (λ history contexts bus. sym (c.reply_request_refusal.ensures history contexts bus) ∙ c.in_default.is)).deep

pub returns-in-Ok-clause-ok : goal.returns-in-Ok-clause-ok
returns-in-Ok-clause-ok c = λ history stands is_at.
    asks_again c.prepare_reply.new.contexts c.settle.new.contexts c.args.timers.now c.prepare_reply.new.timers c.settle.new.timers c.args.bus.now c.prepare_reply.new.bus c.settle.new.bus c.open.new.self
    history c.args.at c.args.now c.args.pass c.args.message c.args.context c.args.body c.args.options c.args.timeout c.in-Ok.outcome c.asker-home.result stands.bus (c.prepare_reply.ensures.keeps history c.args.timers.now stands) is_at
    (sym (c.reply_request_refusal.ensures history stands.contexts stands.bus) ∙ c.in_default.is)
    c.in-Ok.ensures.outcome c.in-Ok.ensures.timer c.settle.ensures.settled c.open.ensures c.asker-home.ensures

pub returns-in-Ok-clause-places : goal.returns-in-Ok-clause-places
returns-in-Ok-clause-places c =
    let left = c.settle.ensures.room 1 c.in-Ok.ensures.room in
    let longer = ap (λ (s : BusStore). length s.requests.waiting) c.open.ensures ∙ length_push c.settle.new.bus.requests.waiting _ in
    let held = ap (λ (s : BusStore). held_in s.consumers) c.open.ensures in
    record { items = omega (arith, left.items, held); tasks = omega (arith, left.tasks, ap (λ (s : BusStore). s.room) c.open.ensures) }

pub returns-in-Err-clause-err : goal.returns-in-Err-clause-err
returns-in-Err-clause-err c = λ history stands.
    let P : List Timer → Type 0 = λ timers. StoresStand c.prepare_reply.new.contexts timers c.prepare_reply.new.bus history in
    subst P (sym c.in-Err.ensures.err) (c.in-Err.ensures.keeps history c.args.timers.now stands)
