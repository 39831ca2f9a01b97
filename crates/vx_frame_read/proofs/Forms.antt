-- Parts that are arrays or objects.
use Rattle.std.proofs.Common.{◌≡◌, refl, ℕ, List}
use mathlib.Core.Path.{subst}
use Rattle.vx_data.specs.Tree.{Tree, null, boolean, int, text, bytes, array, object, Elements, Members}
use Rattle.vx_json.specs.Grammar.{IsValue, IsJson}
use Rattle.vx_json.proofs.RoundTrip.{unpadded}
use Rattle.vx_json_parts.specs.Forms.{form_of}
use Rattle.vx_json_parts.specs.Parts.{IsPart}
use Rattle.vx_json_parts.specs.declared.part.Part.{Part}
use Rattle.vx_json_parts.specs.declared.part.Form.TheVariants as forms

pub record ArrayPart (t : Tree) (part : Part) : Type 0 where
  pub es : Elements
  pub same : t ≡ array es
  pub json : IsJson (array es) part.text.now

pub array_part : (t : Tree) (part : Part) → IsPart t part → forms.Array ≡ form_of t → ArrayPart t part
array_part null part is form = absurd (cc)
array_part (boolean b) part is form = absurd (cc)
array_part (int n) part is form = absurd (cc)
array_part (text s) part is form = absurd (cc)
array_part (bytes s) part is form = absurd (cc)
array_part (array es) part is form = record { es = es; same = refl; json = (unpadded (IsValue (array es)) part.text.now is.stands, is.nests) }
array_part (object ms) part is form = absurd (cc)

pub record ObjectPart (t : Tree) (part : Part) : Type 0 where
  pub ms : Members
  pub same : t ≡ object ms
  pub json : IsJson (object ms) part.text.now

pub object_part : (t : Tree) (part : Part) → IsPart t part → forms.Object ≡ form_of t → ObjectPart t part
object_part null part is form = absurd (cc)
object_part (boolean b) part is form = absurd (cc)
object_part (int n) part is form = absurd (cc)
object_part (text s) part is form = absurd (cc)
object_part (bytes s) part is form = absurd (cc)
object_part (array es) part is form = absurd (cc)
object_part (object ms) part is form = record { ms = ms; same = refl; json = (unpadded (IsValue (object ms)) part.text.now is.stands, is.nests) }
