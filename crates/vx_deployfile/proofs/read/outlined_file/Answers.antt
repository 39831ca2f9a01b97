use Rattle.std.proofs.lemmas.Result.{err_from_is_err_and}
use Rattle.vx_data.specs.Bodies.{members}
use Rattle.vx_data.specs.Tree.{no_members}
use Rattle.vx_json.specs.Grammar.{settled_members}
use Rattle.vx_deployfile.specs.Files.{settled_file}
use Rattle.vx_deployfile.proofs.Reading.{no_other_shape, from_outline}
use Rattle.vx_deployfile.proofs.read.outlined_file.Goals as goal

pub returns-in_err-pairs : goal.returns-in_err-pairs
returns-in_err-pairs c = λ ms are.
    let p = err_from_is_err_and c.from_residual-in_err-pairs.result c.from_residual-in_err-pairs.ensures.1 in
    rw (p.1, p.2) (no_other_shape c.in_ok-body.body (settled_members ms no_members) c.in_err-pairs.field-0.0 (settled_file ms) (c.in_ok-body.ensures ms are) c.in_err-pairs.ensures)

pub returns : goal.returns
returns c = λ ms are. from_outline c.in_ok-body.body (settled_members ms no_members) (members c.in_ok-pairs.pairs.now) c.file_in.result (c.in_ok-body.ensures ms are) c.in_ok-pairs.ensures c.file_in.ensures
