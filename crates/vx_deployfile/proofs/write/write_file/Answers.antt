use Rattle.vx_deployfile.proofs.Rereading.{reads_again}
use Rattle.vx_deployfile.proofs.write.write_file.Goals as goal

pub returns-clause-again : goal.returns-clause-again
returns-clause-again c = reads_again c.args.file.now

pub returns-in_err-body-clause-again : goal.returns-in_err-body-clause-again
returns-in_err-body-clause-again c = reads_again c.args.file.now
