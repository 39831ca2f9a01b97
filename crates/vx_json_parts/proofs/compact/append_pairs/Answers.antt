use Rattle.std.proofs.Common.{ℕ, List, [], ◌∷◌, ◌++◌, ap, sym, ◌∙◌}
use Rattle.std.proofs.lemmas.List.{at_drop_all, append-nil}
use Rattle.std.proofs.lemmas.Result.{on_ok_weaker}
use Rattle.vx_data.specs.Bodies.{members}
use Rattle.vx_data.specs.BodyText.{joined, quoted}
use Rattle.vx_json_parts.specs.Compact.{text_in, spelled_texts}
use Rattle.vx_json.proofs.Joining.{closed, more_texts}
use Rattle.vx_json_parts.proofs.compact.append_pairs.Goals as goal

pub returns : goal.returns
returns c =
    let none = at_drop_all (λ pairs. c.loop-pair.into.items ++ more_texts (spelled_texts (members pairs))) c.in-Some.more.now c.loop-pair.pair-index c.loop-pair-test.false in
    let into = sym (append-nil c.loop-pair.into.items) ∙ sym none ∙ c.loop-pair.invariant in
    let opened = c.in_ok-append_pair.ensures ∙ ap (λ (xs : List ℕ). xs ++ (quoted c.in-Some.first.now.0 ++ 58 ∷ text_in c.in-Some.first.now.1)) c.in_ok-append.ensures in
    let whole = ap (λ pairs. joined (spelled_texts (members pairs))) c.in-Some.ensures.cases.0 in
    on_ok_weaker c.append-3.result (λ written. written
    ∙ closed 123 125 c.args.into.now.items c.append_pair.new.into.items c.loop-pair.into.items (quoted c.in-Some.first.now.0 ++ 58 ∷ text_in c.in-Some.first.now.1) (spelled_texts (members c.in-Some.more.now)) opened into
    ∙ ap (λ (text : List ℕ). c.args.into.now.items ++ 123 ∷ (text ++ 125 ∷ [])) (sym whole)) c.append-3.ensures
