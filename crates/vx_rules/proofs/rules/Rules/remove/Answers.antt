use Rattle.std.proofs.Common.{rules, tests, ◌∙◌, ap, not, filter}
use Rattle.std.proofs.lemmas.Fn.{filter_same}
use Rattle.vx_message.specs.Rules.{is_rule}
use Rattle.vx_rules.specs.Stores.{RuleStore}
use Rattle.vx_rules.proofs.rules.Rules.remove.Goals as goal

pub returns-clause-left : goal.returns-clause-left
returns-clause-left c =
    filter_same _ (λ rule. not (is_rule c.args.id rule)) _ (λ x b q k. search (rules, tests)) _ _ c.retain.ensures.filtered
    ∙ ap (λ (store : RuleStore). filter (λ rule. not (is_rule c.args.id rule)) store.rules) c.self.view_is
