use Rattle.std.proofs.Common.{ℕ, List, ap, ◌∙◌}
use Rattle.std.specs.Prelude.{cond, nat_eq}
use Rattle.std.specs.Option.{option_or}
use Rattle.vx_kinds.specs.declared.host.HostVerticle.{HostVerticle}
use Rattle.vx_script.specs.Held.{verticle_of}
use Rattle.vx_script.proofs.HeldOn.{take_on}
use Rattle.vx_script.proofs.playing.take.Goals as goal

pub returns-clause-held : goal.returns-clause-held
returns-clause-held c = λ history stands known are.
    (let meets = c.take-reply.ensures.answered_as_the_machine history stands known in
    take_on c.args.held.now.verticles c.keep.new.self.verticles history c.args.pass c.args.lane c.take-reply.result.reply c.take-reply.result.verticle are meets.answered meets.stands.legal (c.take-reply.ensures.gives history stands known)
    (λ other. c.keep.ensures other ∙ ap (λ (vs : List (ℕ × HostVerticle)). cond (nat_eq other.0 c.args.pass.0) (option_or c.take-reply.result.verticle (verticle_of other vs)) (verticle_of other vs)) c.reserve.ensures.same))
