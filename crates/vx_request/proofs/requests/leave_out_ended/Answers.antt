use Rattle.std.proofs.Common.{rules, tests, not}
use Rattle.std.proofs.lemmas.Fn.{filter_same}
use Rattle.vx_request.specs.Leaving.{ends_with}
use Rattle.vx_request.proofs.requests.leave_out_ended.Goals as goal

pub returns : goal.returns
returns c = filter_same _ (λ row. not (ends_with c.args.leaver c.args.given.now.given row)) _ (λ x b q k. search (rules, tests)) _ _ c.retain.ensures.filtered
