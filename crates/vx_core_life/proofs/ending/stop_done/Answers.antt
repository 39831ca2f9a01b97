use Rattle.std.proofs.Common.{refl, ap, sym, ◌∙◌}
use Rattle.vx_call.specs.declared.call.Call.TheVariants as calls
use Rattle.vx_call.specs.declared.reply.Reply.TheVariants as replies
use Rattle.vx_call.specs.History.{plain_entry, no_mark}
use Rattle.vx_call.specs.Refusals.{unless_refused}
use Rattle.vx_core_life.proofs.Refused.{lives_refused}
use Rattle.vx_core_life.proofs.RowDone.{stop_is_done}
use Rattle.vx_core_life.proofs.ending.stop_done.Goals as goal

pub returns-in-Some-clause-follows : goal.returns-in-Some-clause-follows
returns-in-Some-clause-follows c = λ history stands legal is_next.
    lives_refused c.args.life.now c.args.contexts.now c.args.timers.now c.args.bus.now history c.args.pass calls.StopDone c.in-Some.refusal refl stands
    (ap (λ refusal. unless_refused refusal replies.Done) (c.in-Some.ensures history stands.stores.contexts stands.lives))

pub returns-clause-follows : goal.returns-clause-follows
returns-clause-follows c = λ history stands legal is_next.
    let free = sym (c.stop_done_refusal.ensures history stands.stores.contexts stands.lives) ∙ c.in_default.is in
    stop_is_done c.args.life.now c.end_over.new.life c.args.contexts.now c.end_over.new.contexts c.args.timers.now c.end_over.new.timers c.args.bus.now c.end_over.new.bus history c.args.pass stands free
    (c.end_over.ensures.ends history (plain_entry c.args.pass calls.StopDone replies.Done no_mark) stands legal is_next (record { accepted = refl; mark = refl; call = refl }) (c.stop_of-over.ensures history stands.stores.contexts))
