-- Which keys of an object stay.
use Rattle.std.specs.Prelude.{ℕ, Bool, true, false, not, List}
use Rattle.vx_message.specs.Codecs.{is_one_of}

-- those that are among these, or those that are not
abbrev pub is_kept : Bool → List (List ℕ) → List ℕ → Bool
is_kept true keys key = is_one_of keys key
is_kept false keys key = not (is_one_of keys key)
