-- The fields of a frame as the reader has them, for private clauses.
use Rattle.std.specs.Prelude.{◌≡◌, ℕ, Bool, true, false, List, [], ◌∷◌, ◌++◌, map, slice_get, Option, Some, None, if◌then◌else◌, codes}
use Rattle.std.specs.Option.{option_or}
use Rattle.std.specs.Str.{bytes_eq}
use Rattle.vx_data.specs.Tree.{Tree, null, boolean, int, text, bytes, array, object, Elements, no_elements, element, Members, no_members, member}
use Rattle.vx_data.specs.Bodies.{elements}
use Rattle.vx_json_parts.specs.declared.part.Part.{Part}
use Rattle.vx_json_parts.specs.Parts.{IsPart}
use Rattle.vx_message.specs.declared.frame.InFrame.{InFrame}
use Rattle.vx_frame_read.specs.declared.read.Kind.{Kind}
use Rattle.vx_frame_read.specs.declared.read.Kind.TheVariants as kinds
use Rattle.vx_frame_read.specs.Frames.{text_in, send_in, publish_in}
use Rattle.vx_frame_read.specs.HeaderPairs.{are_large}

-- the value of the last field with this name
abbrev pub last_part : List ℕ → List (List ℕ × Part) → Option Part
last_part name [] = None
last_part name (field ∷ fields) = option_or (last_part name fields) (if bytes_eq field.0 name then Some field.1 else None)

-- the value of the field at this place
abbrev pub part_of : Option (List ℕ × Part) → Option Part
part_of None = None
part_of (Some field) = Some field.1

abbrev pub part_at : List (List ℕ × Part) → Option ℕ → Option Part
part_at fields None = None
part_at fields (Some place) = part_of (slice_get fields place)

-- the value, if there is one, stands in the part, if there is one
abbrev pub MayBePart : Option Tree → Option Part → Type 0
MayBePart None None = Unit {0}
MayBePart None (Some part) = ⊥
MayBePart (Some t) None = ⊥
MayBePart (Some t) (Some part) = IsPart t part

abbrev pub text_of_part : Part → Option (List ℕ)
text_of_part part = text_in part.body

abbrev pub body_of : Option Part → Tree
body_of None = null
body_of (Some part) = part.body

-- what a type asks for
abbrev pub kind_named : List ℕ → Option Kind
kind_named kind =
    if bytes_eq kind (codes "ping") then Some kinds.Ping
    else if bytes_eq kind (codes "register") then Some kinds.Register
    else if bytes_eq kind (codes "unregister") then Some kinds.Unregister
    else if bytes_eq kind (codes "send") then Some kinds.Send
    else if bytes_eq kind (codes "publish") then Some kinds.Publish
    else None

abbrev pub framed_message : Bool → List ℕ → Members → InFrame
framed_message publish address ms = if publish then publish_in address ms else send_in address ms

-- ---- headers

-- the pairs, none where they are too many
abbrev pub within : List (List ℕ × List ℕ) → Option (List (List ℕ × List ℕ))
within pairs = if are_large pairs then None else Some pairs

-- More pairs were added, and they are not too many; or they would be too many.
abbrev pub Adds : List (List ℕ × List ℕ) → List (List ℕ × List ℕ) → Bool → List (List ℕ × List ℕ) → Type 0
Adds old more true new = (new ≡ old ++ more) × (are_large (old ++ more) ≡ false)
Adds old more false new = are_large (old ++ more) ≡ true

abbrev pub texts_tree : List (List ℕ) → Tree
texts_tree texts = array (elements (map text texts))

-- the pair of a value that is a text
abbrev pub text_pairs : List ℕ → Tree → List (List ℕ × List ℕ)
text_pairs name (text s) = (name, s) ∷ []
text_pairs name _ = []

abbrev pub element_pairs : List ℕ → Elements → List (List ℕ × List ℕ)
element_pairs name no_elements = []
element_pairs name (element t es) = text_pairs name t ++ element_pairs name es

-- the pairs of a name whose values are an array of texts
abbrev pub value_pairs : List ℕ → Tree → List (List ℕ × List ℕ)
value_pairs name (array es) = element_pairs name es
value_pairs name _ = []

abbrev pub member_pairs : Members → List (List ℕ × List ℕ)
member_pairs no_members = []
member_pairs (member k t ms) = value_pairs k t ++ member_pairs ms

-- the pairs of an object whose values are arrays of texts
abbrev pub all_pairs : Tree → List (List ℕ × List ℕ)
all_pairs (object ms) = member_pairs ms
all_pairs _ = []
