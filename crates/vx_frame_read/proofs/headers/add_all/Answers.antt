use Rattle.std.proofs.Common.{◌≡◌, ◌+◌, ◌++◌, ◌∷◌, List, ℕ, sym, ◌∙◌, ap, drop, get_or, false, arith}
use Rattle.std.proofs.lemmas.Grind.{common_steps}
use Rattle.std.proofs.lemmas.List.{at_drop_more}
use Rattle.vx_data.specs.Tree.{Tree}
use Rattle.vx_data.specs.Bodies.{elements}
use Rattle.vx_frame_read.specs.Fields.{text_pairs, element_pairs, value_pairs}
use Rattle.vx_frame_read.specs.HeaderPairs.{are_large}
use Rattle.vx_frame_read.proofs.Adding.{adds_not, large_so_far}
use Rattle.vx_frame_read.proofs.headers.add_all.Goals as goal

pub returns-then-not-branch : goal.returns-then-not-branch
returns-then-not-branch c =
    let name = c.args.name.now in
    let texts = c.in-Array.texts.now in
    let i = c.loop-text.text-index in
    let there = c.loop-text.headers in
    let pairs : List Tree → List (List ℕ × List ℕ) = λ ts. element_pairs name (elements ts) in
    let next = at_drop_more pairs texts i c.text-item.result c.loop-text-test.true ∙ ap (λ t. pairs (t ∷ drop (i + 1) texts)) (sym c.text-item.is) in
    let all = sym (ap (λ (ps : List (List ℕ × List ℕ)). there ++ ps) next) ∙ c.loop-text.invariant.all in
    let large = adds_not there (text_pairs name c.text-item.result) c.in_ok-add.field-0 c.add.new.headers c.in_ok-add.ensures (grind (arith, common_steps)) in
    ap (λ t. are_large (c.args.headers.now ++ value_pairs name t)) (sym c.in-Array.ensures.shown)
    ∙ large_so_far there (text_pairs name c.text-item.result) (pairs (drop (i + 1) texts)) (c.args.headers.now ++ pairs texts) all large
