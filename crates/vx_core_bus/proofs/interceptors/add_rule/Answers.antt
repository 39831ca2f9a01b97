use Rattle.std.proofs.Common.{refl, ap, sym, ◌∙◌}
use Rattle.vx_call.specs.declared.call.Call.TheVariants as calls
use Rattle.vx_call.specs.declared.reply.Reply.TheVariants as replies
use Rattle.vx_call.specs.Names.{next_rule}
use Rattle.vx_call.specs.Refusals.{unless_refused}
use Rattle.vx_bus_store.proofs.Frames.{follows_refused}
use Rattle.vx_core_bus.proofs.RowInterceptors.{adds_rule}
use Rattle.vx_core_bus.proofs.interceptors.add_rule.Goals as goal

pub returns-in-Some-clause-ok : goal.returns-in-Some-clause-ok
returns-in-Some-clause-ok c = λ history stands is_next.
    follows_refused c.args.contexts.now c.args.timers.now c.args.bus.now history c.args.pass (calls.AddRule c.args.side c.args.condition c.args.verdict) c.in-Some.refusal refl stands
    (ap (λ refusal. unless_refused refusal (replies.Rule (next_rule history))) (c.in-Some.ensures.refusal history stands.contexts stands.bus))

pub add_rule-requires-clause-few : goal.add_rule-requires-clause-few
add_rule-requires-clause-few c = c.add_rule_refusal.ensures.few c.in_default.is

pub add_rule-requires-clause-small : goal.add_rule-requires-clause-small
add_rule-requires-clause-small c = c.add_rule_refusal.ensures.small c.in_default.is

pub returns-in-Ok-clause-ok : goal.returns-in-Ok-clause-ok
returns-in-Ok-clause-ok c = λ history stands is_next.
    adds_rule c.args.contexts.now c.args.timers.now c.args.bus.now c.add_rule.new.self history c.args.at c.args.pass c.args.side c.args.condition c.args.verdict stands is_next
    (sym (c.add_rule_refusal.ensures.refusal history stands.contexts stands.bus) ∙ c.in_default.is) c.in-Ok.ensures.added
