-- The texts of an array's items.
use Rattle.std.proofs.Common.{◌≡◌, refl, sym, ◌∙◌, ap, ℕ, zero, suc, ◌<◌, ◌≤◌, List, [], ◌∷◌, ◌++◌, length, take, get_or, map, arith}
use mathlib.Core.Path.{subst}
use Rattle.vx_data.specs.Tree.{Tree, text, Elements, no_elements, element}
use Rattle.vx_json.specs.Grammar.{settled, settled_elements}
use Rattle.vx_json_parts.specs.declared.part.Part.{Part}
use Rattle.vx_json_parts.specs.Parts.{IsPart, AreItems}
use Rattle.vx_frame_read.specs.HeaderPairs.{plain_text, plain_texts}

abbrev pub texts_of : Elements → List Tree
texts_of es = map text (plain_texts (settled_elements es))

pub next_item : (es : Elements) (parts : List Part) (i : ℕ) (part : Part) (xs : List Tree) (value : List ℕ) → AreItems es parts → i < length parts → part ≡ get_or parts i part
    → ((t : Tree) → IsPart t part → value ≡ plain_text (settled t)) → xs ≡ take i (texts_of es) → xs ++ text value ∷ [] ≡ take (suc i) (texts_of es)
next_item no_elements [] i part xs value are within is found so_far = absurd (omega arith)
next_item no_elements (p ∷ ps) i part xs value are within is found so_far = absurd are
next_item (element t es) [] i part xs value are within is found so_far = absurd are
next_item (element t es) (p ∷ ps) zero part xs value are within is found so_far =
    ap (λ (ys : List Tree). ys ++ text value ∷ []) so_far ∙ ap (λ (s : List ℕ). text s ∷ []) (found t (subst (IsPart t) (sym is) are.0))
next_item (element t es) (p ∷ ps) (suc i) part xs value are within is found so_far =
    ap (λ (ys : List Tree). ys ++ text value ∷ []) so_far ∙ ap (λ (ys : List Tree). text (plain_text (settled t)) ∷ ys) (next_item es ps i part (take i (texts_of es)) value are.1 (omega arith) is found refl)

pub all_items : (es : Elements) (parts : List Part) (i : ℕ) → AreItems es parts → length parts ≤ i → take i (texts_of es) ≡ texts_of es
all_items no_elements [] zero are long = refl
all_items no_elements [] (suc i) are long = refl
all_items no_elements (p ∷ ps) i are long = absurd are
all_items (element t es) [] i are long = absurd are
all_items (element t es) (p ∷ ps) zero are long = absurd (omega arith)
all_items (element t es) (p ∷ ps) (suc i) are long = ap (λ (xs : List Tree). text (plain_text (settled t)) ∷ xs) (all_items es ps i are.1 (omega arith))
