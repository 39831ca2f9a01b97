use Rattle.std.proofs.Common.{rules, tests, ◌∙◌, ap, not, filter}
use Rattle.std.proofs.lemmas.Fn.{filter_same}
use Rattle.vx_message.specs.Codecs.{is_codec}
use Rattle.vx_rules.specs.Stores.{CodecStore}
use Rattle.vx_rules.proofs.codecs.Codecs.remove.Goals as goal

pub returns-clause-left : goal.returns-clause-left
returns-clause-left c =
    filter_same _ (λ codec. not (is_codec c.args.name.now codec)) _ (λ x b q k. search (rules, tests)) _ _ c.retain.ensures.filtered
    ∙ ap (λ (store : CodecStore). filter (λ codec. not (is_codec c.args.name.now codec)) store.codecs) c.self.view_is
