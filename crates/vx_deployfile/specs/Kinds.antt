-- The kinds of verticles, and what each wants of its numbers. A number that is not there is within its limits.
use Rattle.std.specs.Prelude.{ℕ, ℤ, pos, negsuc, List, [], ◌∷◌, Bool, true, ◌&&◌, int_le, Option, Some, None, slice_get, codes, if◌then◌else◌}
use Rattle.std.specs.List.{list_any}
use Rattle.std.specs.Str.{bytes_eq}

abbrev pub kinds : List (List ℕ)
kinds =
    codes "echo" ∷ codes "counter" ∷ codes "relay" ∷ codes "ticker" ∷ codes "caller"
    ∷ codes "parent" ∷ codes "blocker" ∷ codes "silent" ∷ codes "late" ∷ codes "failer" ∷ []

abbrev pub is_kind : List ℕ → Bool
is_kind name = list_any (bytes_eq name) kinds

abbrev pub within : ℤ → ℤ → Option ℤ → Bool
within least most None = true
within least most (Some n) = int_le least n && int_le n most

-- whether the number in a place is within these limits
abbrev pub is_within : ℕ → ℤ → ℤ → List ℤ → Bool
is_within place least most config = within least most (slice_get config place)

-- A parent has 1 to 64 children; delays and timeouts are 1 to 1,000,000,000,000 ms; a failer's code has 32 bits.
unfoldable pub suits : List ℕ → List ℤ → Bool
suits kind config =
    if bytes_eq kind (codes "parent") then is_within 0 (pos 1) (pos 64) config
    else if bytes_eq kind (codes "ticker") then is_within 0 (pos 1) (pos 1000000000000) config
    else if bytes_eq kind (codes "late") then is_within 0 (pos 1) (pos 1000000000000) config
    else if bytes_eq kind (codes "caller") then is_within 1 (pos 1) (pos 1000000000000) config
    else if bytes_eq kind (codes "failer") then is_within 0 (negsuc 2147483647) (pos 2147483647) config
    else true
