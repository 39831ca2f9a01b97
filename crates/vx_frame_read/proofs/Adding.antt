-- Pairs that are added to headers, against the limits.
use Rattle.std.proofs.Common.{◌≡◌, refl, sym, ◌∙◌, ap, ℕ, ◌+◌, ◌<◌, ◌≤◌, List, [], ◌∷◌, ◌++◌, length, Bool, true, false, Option, Some, None, if◌then◌else◌, arith, length-append, append_assoc}
use Rattle.std.specs.Prelude.{nat_lt, ◌||◌}
use Rattle.std.proofs.lemmas.Bool.Decides.{nat_tests}
use Rattle.vx_data.specs.HeaderLists.{header_bytes, too_many}
use Rattle.vx_frame_read.specs.Fields.{within, Adds}
use Rattle.vx_frame_read.specs.HeaderPairs.{are_large}

header_bytes_more : (ps qs : List (List ℕ × List ℕ)) → header_bytes (ps ++ qs) ≡ header_bytes ps + header_bytes qs
header_bytes_more [] qs = omega arith
header_bytes_more (p ∷ ps) qs = omega (arith, header_bytes_more ps qs)

more : (a b c d : ℕ) → (nat_lt 1024 a || nat_lt 65536 b) ≡ true → a ≤ c → b ≤ d → (nat_lt 1024 c || nat_lt 65536 d) ≡ true
more a b c d large first second = grind (arith, nat_tests)

-- what is too large stays so
pub large_more : (ps qs : List (List ℕ × List ℕ)) → are_large ps ≡ true → are_large (ps ++ qs) ≡ true
large_more ps qs large = more (length ps) (header_bytes ps) (length (ps ++ qs)) (header_bytes (ps ++ qs)) large (omega (arith, length-append ps qs)) (omega (arith, header_bytes_more ps qs))

less : (a b : ℕ) → (nat_lt 1152 a || nat_lt 196608 b) ≡ true → (nat_lt 1024 a || nat_lt 65536 b) ≡ true
less a b h = grind (arith, nat_tests)

pub too_many_is_large : (ps : List (List ℕ × List ℕ)) → too_many ps ≡ true → are_large ps ≡ true
too_many_is_large ps h = less (length ps) (header_bytes ps) h

-- one more pair
pub large_with : (ps : List (List ℕ × List ℕ)) (name value : List ℕ) → (length ps < 1024 → 65536 < header_bytes ps + (length name + length value)) → are_large (ps ++ (name, value) ∷ []) ≡ true
large_with ps name value h = grind (arith, nat_tests, header_bytes_more ps ((name, value) ∷ []), length-append ps ((name, value) ∷ []))

pub small_with : (ps : List (List ℕ × List ℕ)) (name value : List ℕ) → length ps < 1024 → header_bytes ps + (length name + length value) ≤ 65536 → are_large (ps ++ (name, value) ∷ []) ≡ false
small_with ps name value few small = grind (arith, nat_tests, header_bytes_more ps ((name, value) ∷ []), length-append ps ((name, value) ∷ []))

-- ---- one after another: what is there and what is still to come are all

pub step : (there here rest all : List (List ℕ × List ℕ)) → there ++ (here ++ rest) ≡ all → (there ++ here) ++ rest ≡ all
step there here rest all h = append_assoc there here rest ∙ h

pub large_so_far : (there here rest all : List (List ℕ × List ℕ)) → there ++ (here ++ rest) ≡ all → are_large (there ++ here) ≡ true → are_large all ≡ true
large_so_far there here rest all h large = sym (ap are_large (step there here rest all h)) ∙ large_more (there ++ here) rest large

pub none_within : (all : List (List ℕ × List ℕ)) → are_large all ≡ true → None ≡ within all
none_within all large = sym (ap (λ (test : Bool). if test then None else Some all) large)

pub some_within : (found all : List (List ℕ × List ℕ)) → found ≡ all → are_large all ≡ false → Some found ≡ within all
some_within found all is small = ap Some is ∙ sym (ap (λ (test : Bool). if test then None else Some all) small)

by_bytes : (test : Bool) (ps : List (List ℕ × List ℕ)) (name value : List ℕ) (bytes : ℕ) → test ≡ nat_lt 65536 bytes → length ps < 1024 → (65536 < bytes → 65536 < header_bytes ps + (length name + length value)) → (bytes ≤ 65536 → header_bytes ps + (length name + length value) ≤ 65536)
    → test ≡ are_large (ps ++ (name, value) ∷ [])
by_bytes true ps name value bytes is few large small = sym (large_with ps name value (λ _. large (grind (arith, nat_tests))))
by_bytes false ps name value bytes is few large small = sym (small_with ps name value few (small (grind (arith, nat_tests))))

-- one pair more than few pairs is too many by its bytes alone
pub by_bytes_alone : (ps : List (List ℕ × List ℕ)) (name value : List ℕ) (bytes : ℕ) → length ps < 1024 → (65536 < bytes → 65536 < header_bytes ps + (length name + length value)) → (bytes ≤ 65536 → header_bytes ps + (length name + length value) ≤ 65536)
    → nat_lt 65536 bytes ≡ are_large (ps ++ (name, value) ∷ [])
by_bytes_alone ps name value bytes few large small = by_bytes (nat_lt 65536 bytes) ps name value bytes refl few large small

pub adds_not : (old more : List (List ℕ × List ℕ)) (fits : Bool) (after : List (List ℕ × List ℕ)) → Adds old more fits after → fits ≡ false → are_large (old ++ more) ≡ true
adds_not old more true after h is = absurd (cc)
adds_not old more false after h is = h
