-- The states of the host's verticles, as numbers. (This project's own.)
use Rattle.std.specs.Prelude.{ℕ, ℤ, pos, negsuc, List, [], ◌∷◌, ◌++◌, length, map, take, drop}
use Rattle.vx_kinds.specs.declared.settings.Settings.{Settings}

-- numbers, with their count before them
abbrev pub counted : List ℤ → List ℤ
counted numbers = pos (length numbers) ∷ numbers

-- The place of the verticle's kind in the table of kinds; the bytes of its two addresses and its numbers, each list with its count before it; and then what the kind keeps.
abbrev pub state_of : ℤ → Settings → List ℤ → List ℤ
state_of kind settings own =
    kind ∷ (counted (map pos settings.address) ++ (counted (map pos settings.to) ++ (counted settings.config ++ own)))

-- a number from 0 on, as it stands in a state
abbrev pub natural : ℤ → ℕ
natural (pos number) = number
natural (negsuc number) = 0

-- The numbers that stand behind their count, and what stands behind these.
abbrev pub first_of : List ℤ → List ℤ
first_of [] = []
first_of (count ∷ numbers) = take (natural count) numbers

abbrev pub rest_of : List ℤ → List ℤ
rest_of [] = []
rest_of (count ∷ numbers) = drop (natural count) numbers

-- what a state says: the place of the kind, the settings, and what the kind keeps
abbrev pub kind_of : List ℤ → ℤ
kind_of [] = pos 0
kind_of (kind ∷ numbers) = kind

abbrev pub behind_kind : List ℤ → List ℤ
behind_kind [] = []
behind_kind (kind ∷ numbers) = numbers

abbrev pub settings_of : List ℤ → Settings
settings_of state =
    let address = behind_kind state in
    let to = rest_of address in
    let config = rest_of to in
    record { address = map natural (first_of address); to = map natural (first_of to); config = first_of config }

abbrev pub own_of : List ℤ → List ℤ
own_of state = rest_of (rest_of (rest_of (behind_kind state)))
