-- How the parts of a text are read, as functions on lists, for private clauses. A function answers what it reads and the bytes behind it, or nothing.
use Rattle.std.specs.Prelude.{ℕ, zero, suc, ◌-◌, List, [], ◌∷◌, length, take, Option, Some, None, option_map, option_and_then}
use Rattle.vx_data.specs.Tree.{Tree}
use Rattle.vx_json.specs.Reading.{Reader, skip, after, quoted_at, list_at, value_at}

-- a value behind white space, with the bytes in which it stands
unfoldable pub part_at : Reader Tree → Reader (Tree × List ℕ)
part_at value bs = option_map (λ v. ((v.0, take (length (skip bs) - length v.1) (skip bs)), v.1)) (value (skip bs))

-- a key, a colon and a value, with white space before each
unfoldable pub field_at : Reader Tree → Reader (List ℕ × (Tree × List ℕ))
field_at value bs = option_and_then (λ k. option_and_then (λ rest. option_map (λ v. ((k.0, v.0), v.1)) (part_at value rest)) (after (58 ∷ []) (skip k.1))) (quoted_at (skip bs))

abbrev pub if_all : {A : Type 0} → A → List ℕ → Option A
if_all x [] = Some x
if_all x (b ∷ bs) = None

abbrev pub whole_list : {A : Type 0} → ℕ → Reader A → List ℕ → Option (List A)
whole_list closing item bs = option_and_then (λ p. if_all p.0 (skip p.1)) (list_at closing item bs)

-- the members of a text that is an object, and nests no deeper than the number
unfoldable pub fields_of : ℕ → List ℕ → Option (List (List ℕ × (Tree × List ℕ)))
fields_of zero bs = None
fields_of (suc depth) bs = option_and_then (whole_list 125 (field_at (value_at depth))) (after (123 ∷ []) (skip bs))

-- the items of a text that is an array, and nests no deeper than the number
unfoldable pub items_of : ℕ → List ℕ → Option (List (Tree × List ℕ))
items_of zero bs = None
items_of (suc depth) bs = option_and_then (whole_list 93 (part_at (value_at depth))) (after (91 ∷ []) (skip bs))
