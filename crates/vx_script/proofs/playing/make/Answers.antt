use Rattle.std.proofs.Common.{ap, sym, ◌∙◌}
use Rattle.std.proofs.lemmas.Result.{IfOk-weaker}
use Rattle.vx_line.specs.Made.{first_call, is_made}
use Rattle.vx_line.proofs.Built.{made_plain}
use Rattle.vx_script.specs.Playing.{states_with}
use Rattle.vx_script.proofs.HeldOn.{instruction_on, moves_tasks, plain_moves}
use Rattle.vx_script.proofs.playing.make.Goals as goal

pub returns-in_ok-verticles-in-Deploy-clause-held : goal.returns-in_ok-verticles-in-Deploy-clause-held
returns-in_ok-verticles-in-Deploy-clause-held c =
    IfOk-weaker c.deploy.result _ _
    (λ reply meets history stands known are.
    (let answered = meets history stands known in
    instruction_on _ history c.args.pass c.args.instruction c.into_first_call.result reply _ c.into_first_call.ensures (c.in_ok-verticles-in-Deploy.ensures ∙ sym (ap (states_with history c.args.pass) c.in-Deploy.is))
    (ap (λ instruction. moves_tasks (first_call instruction)) c.in-Deploy.is) are answered.answered answered.stands.legal))
    c.deploy.ensures.reply

pub returns-in-Call-clause-held : goal.returns-in-Call-clause-held
returns-in-Call-clause-held c =
    IfOk-weaker c.step.result _ _
    (λ reply meets history stands known are.
    (let answered = meets history stands known in
    instruction_on _ history c.args.pass c.args.instruction c.into_first_call-in-Call.result reply _ c.into_first_call-in-Call.ensures (sym (ap (states_with history c.args.pass) c.in-Call.is))
    (ap (λ instruction. moves_tasks (first_call instruction)) c.in-Call.is ∙ plain_moves c.in-Call.field-0 (made_plain c.in-Call.field-0 (sym (ap is_made c.in-Call.is) ∙ c.requires.made))) are answered.answered answered.stands.legal))
    c.step.ensures.reply
