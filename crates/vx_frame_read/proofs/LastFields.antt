-- The last field of a name.
use Rattle.std.proofs.Common.{◌≡◌, refl, sym, ◌∙◌, ap, ℕ, zero, suc, ◌+◌, ◌<◌, ◌≤◌, List, [], ◌∷◌, ◌++◌, length, take, get_or, Bool, true, false, Option, Some, None, if◌then◌else◌, arith, add-one}
use Rattle.std.proofs.Math.Seq.{take-suc}
use Rattle.std.specs.Option.{option_or}
use Rattle.std.specs.Str.{bytes_eq}
use Rattle.vx_json_parts.specs.declared.part.Part.{Part}
use Rattle.vx_frame_read.specs.Fields.{last_part}

or_chosen : (test : Bool) (part other : Option Part) (here : Option Part) → option_or (if test then here else part) other ≡ (if test then option_or here other else option_or part other)
or_chosen true part other here = refl
or_chosen false part other here = refl

-- of a list with one more field at its end
pub last_added : (name : List ℕ) (fields : List (List ℕ × Part)) (f : List ℕ × Part) → last_part name (fields ++ f ∷ []) ≡ (if bytes_eq f.0 name then Some f.1 else last_part name fields)
last_added name [] f = refl
last_added name (g ∷ gs) f =
    let other = if bytes_eq g.0 name then Some g.1 else None in
    ap (λ part. option_or part other) (last_added name gs f) ∙ or_chosen (bytes_eq f.0 name) (last_part name gs) other (Some f.1)

not_there : (test : Bool) (part other : Option Part) → test ≡ false → (if test then other else part) ≡ part
not_there test part other h = ap (λ b. if b then other else part) h

is_there : (test : Bool) (part other : Option Part) → test ≡ true → (if test then other else part) ≡ other
is_there test part other h = ap (λ b. if b then other else part) h

pub other_added : (name : List ℕ) (fields : List (List ℕ × Part)) (f : List ℕ × Part) → bytes_eq f.0 name ≡ false → last_part name (fields ++ f ∷ []) ≡ last_part name fields
other_added name fields f h = last_added name fields f ∙ not_there (bytes_eq f.0 name) (last_part name fields) (Some f.1) h

pub same_added : (name : List ℕ) (fields : List (List ℕ × Part)) (f : List ℕ × Part) → bytes_eq f.0 name ≡ true → last_part name (fields ++ f ∷ []) ≡ Some f.1
same_added name fields f h = last_added name fields f ∙ is_there (bytes_eq f.0 name) (last_part name fields) (Some f.1) h

pub other_at : (name : List ℕ) (fields : List (List ℕ × Part)) (i : ℕ) (f : List ℕ × Part) → i < length fields → f ≡ get_or fields i f → bytes_eq f.0 name ≡ false → last_part name (take (i + 1) fields) ≡ last_part name (take i fields)
other_at name fields i f within is h =
    ap (λ k. last_part name (take k fields)) (add-one i) ∙ ap (last_part name) (take-suc fields i f within ∙ ap (λ g. take i fields ++ g ∷ []) (sym is))
    ∙ other_added name (take i fields) f h

pub same_at : (name : List ℕ) (fields : List (List ℕ × Part)) (i : ℕ) (f : List ℕ × Part) → i < length fields → f ≡ get_or fields i f → bytes_eq f.0 name ≡ true → last_part name (take (i + 1) fields) ≡ Some f.1
same_at name fields i f within is h =
    ap (λ k. last_part name (take k fields)) (add-one i) ∙ ap (last_part name) (take-suc fields i f within ∙ ap (λ g. take i fields ++ g ∷ []) (sym is))
    ∙ same_added name (take i fields) f h
