-- What clauses see of parts, for private clauses: a value and its bytes.
use Rattle.std.specs.Prelude.{ℕ, List, map}
use Rattle.vx_data.specs.Tree.{Tree}
use Rattle.vx_json_parts.specs.declared.part.Part.{Part}

abbrev pub part_seen : Part → Tree × List ℕ
part_seen part = (part.body, part.text.now)

abbrev pub parts_seen : List Part → List (Tree × List ℕ)
parts_seen parts = map part_seen parts

abbrev pub field_seen : List ℕ × Part → List ℕ × (Tree × List ℕ)
field_seen field = (field.0, part_seen field.1)

abbrev pub fields_seen : List (List ℕ × Part) → List (List ℕ × (Tree × List ℕ))
fields_seen fields = map field_seen fields
