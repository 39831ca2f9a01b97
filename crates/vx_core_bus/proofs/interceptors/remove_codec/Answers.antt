use Rattle.std.proofs.Common.{refl, ap, sym, ◌∙◌}
use Rattle.std.specs.Option.{option_or}
use Rattle.vx_call.specs.declared.call.Call.TheVariants as calls
use Rattle.vx_call.specs.declared.reply.Reply.TheVariants as replies
use Rattle.vx_call.specs.Refusals.{unless_refused, no_codec}
use Rattle.vx_bus_store.proofs.Frames.{follows_refused}
use Rattle.vx_core_bus.proofs.RowInterceptors.{removes_codec}
use Rattle.vx_core_bus.proofs.interceptors.remove_codec.Goals as goal

pub returns-in-Some-clause-follows : goal.returns-in-Some-clause-follows
returns-in-Some-clause-follows c = λ history stands is_next.
    follows_refused c.args.contexts.now c.args.timers.now c.args.bus.now history c.args.pass (calls.RemoveCodec c.args.name) c.in-Some.refusal refl stands
    (ap (λ refusal. unless_refused refusal replies.Done) (sym c.in-Some.is ∙ c.or.ensures ∙ ap (λ o. option_or o c.holder_closed.result) (c.no_codec.ensures history stands.bus) ∙ ap (option_or (no_codec history c.args.name)) (c.holder_closed.ensures history stands.contexts)))

pub returns-clause-follows : goal.returns-clause-follows
returns-clause-follows c = λ history stands is_next.
    removes_codec c.args.contexts.now c.args.timers.now c.args.bus.now c.remove_codec.new.self history c.args.pass c.args.name stands
    (sym (c.or.ensures ∙ ap (λ o. option_or o c.holder_closed.result) (c.no_codec.ensures history stands.bus) ∙ ap (option_or (no_codec history c.args.name)) (c.holder_closed.ensures history stands.contexts)) ∙ c.in_default.is) c.remove_codec.ensures
