use Rattle.std.proofs.Common.{rules, tests, not}
use Rattle.std.proofs.lemmas.Fn.{filter_same}
use Rattle.vx_request.specs.Stores.{is_request}
use Rattle.vx_request.proofs.requests.leave_out.Goals as goal

pub returns-clause-left : goal.returns-clause-left
returns-clause-left c = filter_same _ (λ row. not (is_request c.args.id row)) _ (λ x b q k. search (rules, tests)) _ _ c.retain.ensures.filtered
