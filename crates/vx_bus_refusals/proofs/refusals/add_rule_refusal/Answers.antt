use Rattle.std.proofs.Common.{◌≤◌, ap, sym, ◌∙◌, arith, ◌+◌, length}
use Rattle.vx_message.specs.Rules.{rules_of}
use Rattle.vx_call.specs.Refusals.{over}
use Rattle.vx_bus_refusals.proofs.Chains.{first, more, last, none_of_first, none_of_second, none_over}
use Rattle.vx_bus_refusals.proofs.refusals.add_rule_refusal.Goals as goal

pub returns-clause-refusal : goal.returns-clause-refusal
returns-clause-refusal c = λ history contexts bus.
    last (more (first (c.holder_closed.ensures history contexts)) c.or.ensures (c.over.ensures ∙ ap (over 1024) c.added_bytes.ensures)) c.or-2.ensures
    (c.over-2.ensures ∙ ap (λ n. over 64 (n + 1)) (c.rule_count.ensures ∙ ap (λ rules. length (rules_of c.args.side rules)) bus.rules))

pub returns-clause-few : goal.returns-clause-few
returns-clause-few c = λ none.
    let fits : c.rule_count.result + 1 ≤ 64 = none_over 64 (c.rule_count.result + 1) (sym c.over-2.ensures ∙ none_of_second _ _ (sym c.or-2.ensures ∙ none)) in
    let count = c.rule_count.ensures in
    omega (arith, fits, count)

pub returns-clause-small : goal.returns-clause-small
returns-clause-small c = λ none.
    let fits : c.added_bytes.result ≤ 1024 = none_over 1024 c.added_bytes.result (sym c.over.ensures ∙ none_of_second _ _ (sym c.or.ensures ∙ none_of_first _ _ (sym c.or-2.ensures ∙ none))) in
    let count = c.added_bytes.ensures in
    omega (arith, fits, count)
