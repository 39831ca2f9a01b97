-- The words of the command line.
use Rattle.std.proofs.Common.{◌≡◌, ℕ, List, [], ◌∷◌, length, sym, ◌∙◌, ap, arith, Bool, true, get_or}
use Rattle.std.specs.Str.{bytes_eq}
use Rattle.std.proofs.lemmas.Slice.Eq.{bytes_eq-Decides}

-- one word, by a test of it
pub one_word : (words : List (List ℕ)) (word w : List ℕ) (r : Bool) → length words ≡ 1 → word ≡ get_or words 0 word → (r ≡ bytes_eq word w) →
    (r ≡ true → words ≡ w ∷ []) × (words ≡ w ∷ [] → r ≡ true)
one_word [] word w r l e t = absurd (omega arith)
one_word (x ∷ []) word w r l e t =
    let d = bytes_eq-Decides word w in
    (λ h. ap (λ v. v ∷ []) (sym e ∙ d.0 (sym t ∙ h)), λ h. t ∙ d.1 (e ∙ cc))
one_word (x ∷ y ∷ xs) word w r l e t = absurd (omega arith)
