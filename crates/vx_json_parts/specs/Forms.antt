-- What form a value has.
use Rattle.std.specs.Prelude.{ℕ, ◌==◌, Bool, false, List, [], ◌∷◌}
use Rattle.vx_data.specs.Tree.{Tree, array, object}
use Rattle.vx_json_parts.specs.declared.part.Form.{Form}
use Rattle.vx_json_parts.specs.declared.part.Form.TheVariants as forms

abbrev pub form_of : Tree → Form
form_of (array es) = forms.Array
form_of (object ms) = forms.Object
form_of _ = forms.Scalar

abbrev pub begins_with : ℕ → List ℕ → Bool
begins_with byte [] = false
begins_with byte (b ∷ bs) = b == byte
