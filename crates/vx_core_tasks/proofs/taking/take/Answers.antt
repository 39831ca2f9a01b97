use Rattle.std.proofs.Common.{refl, ap, sym, ◌∙◌}
use Rattle.std.specs.Prelude.{is_some}
use Rattle.vx_call.specs.declared.call.Call.TheVariants as calls
use Rattle.vx_call.specs.Next.{next}
use Rattle.vx_call.specs.Refusals.{unless_refused}
use Rattle.vx_call.specs.Rows.{take_refusal, handed_out, unless_closed}
use Rattle.vx_core_life.proofs.Refused.{lives_refused}
use Rattle.vx_core_tasks.proofs.RowTake.{hub_open, takes_none, takes_stopped}
use Rattle.vx_core_tasks.proofs.taking.take.Goals as goal

pub returns-then-is_some-clause-follows : goal.returns-then-is_some-clause-follows
returns-then-is_some-clause-follows c = λ history stands named legal is_next.
    takes_stopped c.args.life.now c.args.contexts.now c.args.timers.now c.args.bus.now history c.args.pass c.args.lane stands (ap is_some (sym c.closed_at.ensures) ∙ sym c.is_some.ensures ∙ c.if-is_some.true)

pub returns-in-Some-clause-follows : goal.returns-in-Some-clause-follows
returns-in-Some-clause-follows c = λ history stands named legal is_next.
    let opened = hub_open c.args.life.now history stands.lives (ap is_some (sym c.closed_at.ensures) ∙ sym c.is_some.ensures ∙ c.if-is_some.false) in
    lives_refused c.args.life.now c.args.contexts.now c.args.timers.now c.args.bus.now history c.args.pass (calls.Take c.args.lane) c.in-Some.refusal refl stands
    (ap (λ refusal. unless_refused refusal (handed_out (next history c.args.lane))) (c.in-Some.ensures history stands.stores.contexts)
    ∙ ap (λ at. unless_closed at (unless_refused (take_refusal history c.args.pass c.args.lane) (handed_out (next history c.args.lane)))) (sym opened))

pub returns-in-None-clause-follows : goal.returns-in-None-clause-follows
returns-in-None-clause-follows c = λ history stands named legal is_next.
    let opened = hub_open c.args.life.now history stands.lives (ap is_some (sym c.closed_at.ensures) ∙ sym c.is_some.ensures ∙ c.if-is_some.false) in
    takes_none c.args.life.now c.args.contexts.now c.args.timers.now c.args.bus.now history c.args.pass c.args.lane stands named opened
    (sym (c.take_refusal.ensures history stands.stores.contexts) ∙ c.in_default.is) (sym c.in-None.ensures)

pub returns-in-Some-next-clause-follows : goal.returns-in-Some-next-clause-follows
returns-in-Some-next-clause-follows c = λ history stands named legal is_next.
    let opened = hub_open c.args.life.now history stands.lives (ap is_some (sym c.closed_at.ensures) ∙ sym c.is_some.ensures ∙ c.if-is_some.false) in
    c.hand_out.ensures.follows history c.args.lane stands named legal is_next opened (sym (c.take_refusal.ensures history stands.stores.contexts) ∙ c.in_default.is) (sym c.in-Some-next.ensures)
