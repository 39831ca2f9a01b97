use Rattle.std.proofs.Common.{ap, sym, ◌∙◌}
use Rattle.vx_call.specs.declared.reply.Refusal.TheVariants as refusals
use Rattle.vx_call.specs.Refusals as machine
use Rattle.vx_life_rows.proofs.RowComing.{gone_as}
use Rattle.vx_life_rows.proofs.refusals.no_deployment.Goals as goal

pub returns-then-is_gone : goal.returns-then-is_gone
returns-then-is_gone c = λ history stands.
    ap (λ b. machine.refused_if b refusals.NoDeployment) (sym c.if-is_gone.true ∙ c.is_gone.ensures ∙ gone_as c.args.life.now history stands.parts c.args.id)

pub returns-else-is_gone : goal.returns-else-is_gone
returns-else-is_gone c = λ history stands.
    ap (λ b. machine.refused_if b refusals.NoDeployment) (sym c.if-is_gone.false ∙ c.is_gone.ensures ∙ gone_as c.args.life.now history stands.parts c.args.id)
