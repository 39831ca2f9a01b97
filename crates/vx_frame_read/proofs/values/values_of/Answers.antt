use Rattle.std.proofs.Common.{◌≡◌, sym, ◌∙◌, ap}
use Rattle.std.proofs.lemmas.Result.{IfOk-weaker}
use Rattle.vx_json.specs.Grammar.{settled}
use Rattle.vx_frame_read.specs.Fields.{texts_tree}
use Rattle.vx_frame_read.specs.HeaderPairs.{values_of}
use Rattle.vx_frame_read.proofs.Forms.{array_part}
use Rattle.vx_frame_read.proofs.values.values_of.Goals as goal

pub returns-in-Array : goal.returns-in-Array
returns-in-Array c = λ t is.
    let found = array_part t c.args.part.now is (c.in-Array.ensures t is) in
    IfOk-weaker c.item_texts.result _ _ (λ body made. made ∙ ap (λ u. texts_tree (values_of (settled u))) (sym found.same)) (c.item_texts.ensures found.es found.json)
