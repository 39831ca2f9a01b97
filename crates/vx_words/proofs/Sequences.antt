-- What is read one after another: the values so far, and those that are still to come.
use Rattle.std.proofs.Common.{◌≡◌, List, [], ◌∷◌, ◌++◌, refl, sym, ◌∙◌, ap, Option, Some, None, append_assoc}
use Rattle.std.proofs.lemmas.List.{append-nil}
use Rattle.vx_words.specs.declared.fault.LineFault.{LineFault}
use Rattle.vx_words.specs.declared.fault.LineFault.TheVariants as faults
use Rattle.vx_words.specs.Reading.{Fails, ◌>>=◌}

-- the values in front of those that are read
abbrev pub onto : {A : Type 0} → List A → Option (List A) → Option (List A)
onto front more = more >>= λ values. Some (front ++ values)

pub onto_more : {A : Type 0} (front : List A) (value : A) (more : Option (List A)) → onto front (more >>= λ values. Some (value ∷ values)) ≡ onto (front ++ value ∷ []) more
onto_more front value None = refl
onto_more front value (Some values) = ap Some (sym (append_assoc front (value ∷ []) values))

pub onto_nothing : {A : Type 0} (more : Option (List A)) → onto [] more ≡ more
onto_nothing None = refl
onto_nothing (Some values) = refl

-- one more
pub onto_next : {A : Type 0} (front : List A) (value : A) (read more all : Option (List A)) → onto front read ≡ all → read ≡ (more >>= λ values. Some (value ∷ values)) → onto (front ++ value ∷ []) more ≡ all
onto_next front value read more all h e = sym (onto_more front value more) ∙ sym (ap (onto front) e) ∙ h

-- none are read
pub onto_none : {A : Type 0} (front : List A) (read all : Option (List A)) → onto front read ≡ all → read ≡ None → all ≡ None
onto_none front read all h e = sym h ∙ ap (onto front) e

-- no more
pub onto_last : {A : Type 0} (front : List A) (read all : Option (List A)) → onto front read ≡ all → read ≡ Some [] → all ≡ Some front
onto_last front read all h e = sym h ∙ ap (onto front) e ∙ ap Some (append-nil front)

-- what fails where a part fails
pub fails_with : {A B : Type 0} (fault : LineFault) (part : Option A) (all : Option B) → Fails fault part → (part ≡ None → all ≡ None) → Fails fault all
fails_with faults.NoMemory part all h more = tt
fails_with faults.Misfit part all h more = more h
