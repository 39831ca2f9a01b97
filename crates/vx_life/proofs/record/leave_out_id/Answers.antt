use Rattle.std.proofs.Common.{rules, tests, not}
use Rattle.std.proofs.lemmas.Fn.{filter_same}
use Rattle.vx_data.specs.Ids.{same_deployment}
use Rattle.vx_life.proofs.record.leave_out_id.Goals as goal

pub returns : goal.returns
returns c = filter_same _ (λ other. not (same_deployment c.args.id other)) _ (λ x b q k. search (rules, tests)) _ _ c.retain.ensures.filtered
