-- The headers of a frame that comes in. (Vert.x TCP EventBus bridge manual, "Message format". How values that are no texts
-- are read is this project's own.)
use Rattle.std.specs.Prelude.{ℕ, nat_lt, Bool, true, false, ◌||◌, List, [], ◌∷◌, ◌++◌, length, map}
use Rattle.vx_data.specs.Tree.{Tree, null, boolean, int, text, bytes, array, object, Elements, no_elements, element, Members, no_members, member}
use Rattle.vx_data.specs.BodyText.{body_text}
use Rattle.vx_data.specs.HeaderLists.{header_bytes}

-- a text is itself, and any other value its compact JSON text
abbrev pub plain_text : Tree → List ℕ
plain_text (text s) = s
plain_text t = body_text t

abbrev pub plain_texts : Elements → List (List ℕ)
plain_texts no_elements = []
plain_texts (element t es) = plain_text t ∷ plain_texts es

abbrev pub is_null : Tree → Bool
is_null null = true
is_null _ = false

-- the values of a field that is no array: none where it is null
abbrev pub one_value : Tree → List (List ℕ)
one_value null = []
one_value t = plain_text t ∷ []

-- the values that one field has: those of an array, else one or none
abbrev pub values_of : Tree → List (List ℕ)
values_of (array es) = plain_texts es
values_of t = one_value t

abbrev pub named : List ℕ → List (List ℕ) → List (List ℕ × List ℕ)
named name values = map (λ value. (name, value)) values

-- the pairs of an object's members, in their order
abbrev pub pairs_of : Members → List (List ℕ × List ℕ)
pairs_of no_members = []
pairs_of (member k t ms) = named k (values_of t) ++ pairs_of ms

-- what is no object has none
abbrev pub header_pairs : Tree → List (List ℕ × List ℕ)
header_pairs (object ms) = pairs_of ms
header_pairs _ = []

-- more than 1,024 pairs, or more than 65,536 bytes
abbrev pub are_large : List (List ℕ × List ℕ) → Bool
are_large pairs = nat_lt 1024 (length pairs) || nat_lt 65536 (header_bytes pairs)
