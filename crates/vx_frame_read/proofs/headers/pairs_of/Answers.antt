use Rattle.std.proofs.Common.{◌≡◌, ◌+◌, ◌++◌, ◌∷◌, List, ℕ, sym, ◌∙◌, ap, drop, get_or, false, arith}
use Rattle.std.proofs.lemmas.Grind.{common_steps}
use Rattle.std.proofs.lemmas.List.{at_drop_more}
use Rattle.vx_data.specs.Tree.{Tree}
use Rattle.vx_data.specs.Bodies.{members}
use Rattle.vx_frame_read.specs.Fields.{value_pairs, member_pairs, all_pairs, within}
use Rattle.vx_frame_read.proofs.Adding.{adds_not, large_so_far, none_within}
use Rattle.vx_frame_read.proofs.headers.pairs_of.Goals as goal

pub returns-then-not-branch : goal.returns-then-not-branch
returns-then-not-branch c =
    let named = c.in-Object.named.now in
    let i = c.loop-name.name-index in
    let there = c.loop-name.headers in
    let item = c.loop-name-item.result in
    let pairs : List (List ℕ × Tree) → List (List ℕ × List ℕ) = λ ps. member_pairs (members ps) in
    let next = at_drop_more pairs named i item c.loop-name-test.true ∙ ap (λ p. pairs (p ∷ drop (i + 1) named)) (sym c.loop-name-item.is) in
    let all = sym (ap (λ (ps : List (List ℕ × List ℕ)). there ++ ps) next) ∙ c.loop-name.invariant.all in
    let large = adds_not there (value_pairs item.0 item.1) c.in_ok-add_all.field-0 c.add_all.new.headers c.in_ok-add_all.ensures (grind (arith, common_steps)) in
    none_within (pairs named) (large_so_far there (value_pairs item.0 item.1) (pairs (drop (i + 1) named)) (pairs named) all large)
    ∙ ap (λ t. within (all_pairs t)) c.in-Object.ensures.shown
