-- What options choose: their names, the one text of an option, and headers one after another.
use Rattle.std.proofs.Common.{◌≡◌, ℕ, ◌+◌, map, is_some, List, [], ◌∷◌, ◌++◌, length-append, Bool, true, false, cond, not, ◌||◌, arith, refl, sym, ◌∙◌, ap, Option, Some, None, subst}
use Rattle.std.proofs.lemmas.Bool.Decides.{nat_tests}
use Rattle.std.specs.List.{list_any}
use Rattle.std.specs.Option.{option_to_list}
use Rattle.vx_data.specs.HeaderLists.{header_bytes, too_many}
use Rattle.vx_words.specs.Reading.{◌>>=◌}
use Rattle.vx_line.specs.Reading.{one_of}
use Rattle.vx_words.proofs.Sequences.{onto, onto_last, onto_more}

-- ## Names

pub any_map : {A B : Type 0} (test : B → Bool) (view : A → B) (xs : List A) → list_any test (map view xs) ≡ list_any (λ x. test (view x)) xs
any_map test view [] = refl
any_map test view (x ∷ xs) = ap (λ b. test (view x) || b) (any_map test view xs)

-- ## One text at most

pub one_none : (found : Option (List ℕ)) (texts : List (List ℕ)) → option_to_list found ++ [] ≡ texts → one_of texts ≡ Some found
one_none None texts h = ap one_of (sym h)
one_none (Some text) texts h = ap one_of (sym h)

pub one_twice : (found : Option (List ℕ)) (text : List ℕ) (more texts : List (List ℕ)) → is_some found ≡ true → option_to_list found ++ text ∷ more ≡ texts → one_of texts ≡ None
one_twice None text more texts s h = cc
one_twice (Some first) text more texts s h = ap one_of (sym h)

pub one_next : (found : Option (List ℕ)) (text : List ℕ) (more texts : List (List ℕ)) → is_some found ≡ false → option_to_list found ++ text ∷ more ≡ texts → text ∷ more ≡ texts
one_next None text more texts s h = h
one_next (Some first) text more texts s h = cc

-- ## Headers

abbrev pub fitting : Option (List (List ℕ × List ℕ)) → Option (List (List ℕ × List ℕ))
fitting read = read >>= λ headers. cond (not (too_many headers)) (Some headers) None

header_bytes_append : (xs ys : List (List ℕ × List ℕ)) → header_bytes (xs ++ ys) ≡ header_bytes xs + header_bytes ys
header_bytes_append [] ys = omega arith
header_bytes_append (x ∷ xs) ys = omega (arith, header_bytes_append xs ys)

-- what is too many is not made less by more
pub still_too_many : (xs ys : List (List ℕ × List ℕ)) → too_many xs ≡ true → too_many (xs ++ ys) ≡ true
still_too_many xs ys h = grind (arith, nat_tests, header_bytes_append xs ys, length-append xs ys)

-- one more header
abbrev pub next_headers : Option (List ℕ × List ℕ) → Option (List (List ℕ × List ℕ)) → Option (List (List ℕ × List ℕ))
next_headers read more = read >>= λ header. (more >>= λ headers. Some (header ∷ headers))

abbrev fitted : List (List ℕ × List ℕ) → Option (List ℕ × List ℕ) → Option (List (List ℕ × List ℕ))
fitted headers read = read >>= λ header. cond (too_many (headers ++ header ∷ [])) None (Some (headers ++ header ∷ []))

over : (front : List (List ℕ × List ℕ)) (more : Option (List (List ℕ × List ℕ))) → too_many front ≡ true → fitting (onto front more) ≡ None
over front None h = refl
over front (Some headers) h = rw (still_too_many front headers h) refl

pub header_none : (headers : List (List ℕ × List ℕ)) (read : Option (List ℕ × List ℕ)) (more all : Option (List (List ℕ × List ℕ))) → onto headers (next_headers read more) ≡ all → fitted headers read ≡ None → fitting all ≡ None
header_none headers None more all h e = ap fitting (sym h)
header_none headers (Some header) more all h e = by_test (too_many (headers ++ header ∷ [])) refl e
  where
    by_test : (b : Bool) → too_many (headers ++ header ∷ []) ≡ b → cond b None (Some (headers ++ header ∷ [])) ≡ None → fitting all ≡ None
    by_test true t e = ap fitting (sym h ∙ onto_more headers header more) ∙ over (headers ++ header ∷ []) more t
    by_test false t e = cc

pub header_next : (headers new : List (List ℕ × List ℕ)) (read : Option (List ℕ × List ℕ)) (more all : Option (List (List ℕ × List ℕ))) → onto headers (next_headers read more) ≡ all → fitted headers read ≡ Some new → (onto new more ≡ all) × (too_many new ≡ false)
header_next headers new None more all h e = cc
header_next headers new (Some header) more all h e = by_test (too_many (headers ++ header ∷ [])) refl e
  where
    by_test : (b : Bool) → too_many (headers ++ header ∷ []) ≡ b → cond b None (Some (headers ++ header ∷ [])) ≡ Some new → (onto new more ≡ all) × (too_many new ≡ false)
    by_test true t e = cc
    by_test false t e =
        let same : headers ++ header ∷ [] ≡ new = cc in
        (ap (λ (v : List (List ℕ × List ℕ)). onto v more) (sym same) ∙ sym (onto_more headers header more) ∙ h, ap too_many (sym same) ∙ t)

pub header_last : (headers : List (List ℕ × List ℕ)) (read all : Option (List (List ℕ × List ℕ))) → onto headers read ≡ all → read ≡ Some [] → too_many headers ≡ false → fitting all ≡ Some headers
header_last headers read all h e t = ap fitting (onto_last headers read all h e) ∙ rw t refl

-- ## Numbers, or any other values

pub value_none : {A : Type 0} (front : List A) (read : Option A) (more all : Option (List A)) → onto front (read >>= λ value. (more >>= λ values. Some (value ∷ values))) ≡ all → (read >>= λ value. Some (front ++ value ∷ [])) ≡ None → all ≡ None
value_none front None more all h e = sym h
value_none front (Some value) more all h e = cc

pub value_next : {A : Type 0} (front new : List A) (read : Option A) (more all : Option (List A)) → onto front (read >>= λ value. (more >>= λ values. Some (value ∷ values))) ≡ all → (read >>= λ value. Some (front ++ value ∷ [])) ≡ Some new → onto new more ≡ all
value_next front new None more all h e = cc
value_next {A} front new (Some value) more all h e =
    let same : front ++ value ∷ [] ≡ new = cc in
    subst (λ (v : List A). onto v more ≡ all) same (sym (onto_more front value more) ∙ h)

-- where any number of values fits
pub each_fits : {A : Type 0} (read : Option (List A)) → (read >>= λ values. cond true (Some values) None) ≡ read
each_fits None = refl
each_fits (Some values) = refl
