use Rattle.std.proofs.Common.{ℕ, List, [], ◌∷◌, ◌++◌, map, ap, sym, ◌∙◌}
use Rattle.std.proofs.lemmas.List.{at_drop_all, append-nil}
use Rattle.std.proofs.lemmas.Result.{on_ok_weaker}
use Rattle.vx_data.specs.BodyText.{joined}
use Rattle.vx_json_parts.specs.Compact.{text_in}
use Rattle.vx_json.proofs.Joining.{closed, more_texts}
use Rattle.vx_json_parts.proofs.compact.append_list.Goals as goal

pub returns : goal.returns
returns c =
    let none = at_drop_all (λ texts. c.loop-text.into.items ++ more_texts (map text_in texts)) c.in-Some.more.now c.loop-text.text-index c.loop-text-test.false in
    let into = sym (append-nil c.loop-text.into.items) ∙ sym none ∙ c.loop-text.invariant in
    let opened = c.in_ok-append_bytes.ensures ∙ ap (λ (xs : List ℕ). xs ++ text_in c.in-Some.first.now) c.in_ok-append.ensures in
    let whole = ap (λ texts. joined (map text_in texts)) c.in-Some.ensures.cases.0 in
    on_ok_weaker c.append-3.result (λ written. written
    ∙ closed 91 93 c.args.into.now.items c.append_bytes.new.into.items c.loop-text.into.items (text_in c.in-Some.first.now) (map text_in c.in-Some.more.now) opened into
    ∙ ap (λ (text : List ℕ). c.args.into.now.items ++ 91 ∷ (text ++ 93 ∷ [])) (sym whole)) c.append-3.ensures
