use Rattle.std.proofs.Common.{◌<◌, subst, sym}
use Rattle.std.proofs.lemmas.Result.{on_err_weaker, on_ok_weaker}
use Rattle.vx_call.specs.Machine.{answer}
use Rattle.vx_call.specs.Passes.{passes}
use Rattle.vx_line.specs.declared.instruction.Instruction.{Instruction}
use Rattle.vx_line.specs.Made.{first_call}
use Rattle.vx_call.specs.declared.reply.Reply.{Reply}
use Rattle.vx_data.specs.declared.ids.PassNo.{PassNo}
use Rattle.vx_hub.specs.Stands.{StandsFor}
use Rattle.vx_io.specs.Writing.{AppendsFront}
use Rattle.vx_reply_text.specs.Replies.{reply_line}
use Rattle.vx_script.specs.Held.{AreHeld}
use Rattle.vx_script.proofs.HeldOn.{behind_by}
use Rattle.vx_script.proofs.playing.make_one.Goals as goal

pub returns-in-Ok-clause-goes : goal.returns-in-Ok-clause-goes
returns-in-Ok-clause-goes g c =
    on_ok_weaker c.write_one-written.result
    (λ written history plays known.
    (let is = c.into_parts-instruction.ensures in
    let parts = c.into_parts-instruction.result in
    let within : parts.0.0 < passes history = subst (λ (parts : PassNo × Instruction). parts.0.0 < passes history) (sym is) known in
    let answered = c.in-Ok.ensures.reply history plays.stands within plays.held in
    record {
      stands = behind_by (StandsFor c.make.new.hub) history c.args.command parts c.in-Ok.reply is answered.answered answered.stands;
      held = behind_by (AreHeld c.make.new.held.verticles) history c.args.command parts c.in-Ok.reply is answered.answered (c.in-Ok.ensures.held history plays.stands within plays.held);
    }))
    c.write_one-written.ensures.ok

pub returns-in-Ok-clause-err : goal.returns-in-Ok-clause-err
returns-in-Ok-clause-err g c =
    on_err_weaker c.write_one-written.result
    (λ front history plays known.
    subst (λ (parts : PassNo × Instruction). parts.0.0 < passes history → AppendsFront (g.K.Sink.held c.args.sink.now) (g.K.Sink.held c.write_one-written.new.sink) (reply_line c.args.at (answer history parts.0 (first_call parts.1))))
    c.into_parts-instruction.ensures
    (λ within. subst (λ (v : Reply). AppendsFront (g.K.Sink.held c.args.sink.now) (g.K.Sink.held c.write_one-written.new.sink) (reply_line c.args.at v)) (c.in-Ok.ensures.reply history plays.stands within plays.held).answered front)
    known)
    c.write_one-written.ensures.err
