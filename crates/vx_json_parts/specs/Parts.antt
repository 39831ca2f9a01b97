-- The parts of arrays and objects, with the bytes in which they stand.
use Rattle.std.specs.Prelude.{◌≡◌, ◌≤◌, ℕ, List, [], ◌∷◌}
use Rattle.vx_data.specs.Tree.{Tree, Elements, no_elements, element, Members, no_members, member}
use Rattle.vx_data.specs.Bodies.{tree_depth}
use Rattle.vx_json.specs.Grammar.{IsValue, settled, max_nesting}
use Rattle.vx_json.specs.Keeps.{Keeps}
use Rattle.vx_json_parts.specs.declared.part.Part.{Part}

-- the value t stands in the part's bytes
pub record IsPart (t : Tree) (part : Part) : Type 0 where
  pub stands : IsValue t part.text.now
  pub nests : tree_depth t ≤ max_nesting
  pub keeps : Keeps part.body (settled t)

abbrev pub AreItems : Elements → List Part → Type 0
AreItems no_elements [] = Unit {0}
AreItems no_elements (part ∷ parts) = ⊥
AreItems (element t es) [] = ⊥
AreItems (element t es) (part ∷ parts) = IsPart t part × AreItems es parts

abbrev pub AreFields : Members → List (List ℕ × Part) → Type 0
AreFields no_members [] = Unit {0}
AreFields no_members (field ∷ fields) = ⊥
AreFields (member k t ms) [] = ⊥
AreFields (member k t ms) (field ∷ fields) = (field.0 ≡ k) × IsPart t field.1 × AreFields ms fields
