use Rattle.std.proofs.Common.{◌≡◌, sym, ◌∙◌, ap}
use Rattle.std.proofs.lemmas.Result.{IfOk-weaker}
use Rattle.vx_json.specs.Grammar.{settled}
use Rattle.vx_frame_read.specs.Fields.{within}
use Rattle.vx_frame_read.specs.HeaderPairs.{header_pairs}
use Rattle.vx_frame_read.proofs.Forms.{object_part}
use Rattle.vx_frame_read.proofs.headers.headers_in.Goals as goal

pub returns-in_ok-values-in-Object : goal.returns-in_ok-values-in-Object
returns-in_ok-values-in-Object c = λ t is.
    let found = object_part t c.args.part.now is (c.in-Object.ensures t is) in
    IfOk-weaker c.pairs_of.result _ _ (λ pairs made. made ∙ ap within (c.in_ok-values-in-Object.ensures found.ms found.json ∙ ap (λ u. header_pairs (settled u)) (sym found.same))) c.pairs_of.ensures
