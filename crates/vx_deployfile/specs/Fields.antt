-- The fields of an object, each with its type and its rule. A value of another JSON type is `Shape`, one outside its rule `Range`.
use Rattle.std.specs.Prelude.{ℕ, ℤ, pos, List, [], ◌∷◌, length, Bool, false, ◌&&◌, nat_le, int_le, unsigned_abs, Option, Some, None, Ok, Err, if◌then◌else◌}
use Rattle.std.specs.Str.{bytes_eq}
use Rattle.vx_data.specs.Tree.{Tree, boolean, int, text, array, object, Elements, no_elements, element, Members, no_members, member}
use Rattle.vx_deployfile.specs.declared.fault.FileRefused.{FileRefused}
use Rattle.vx_deployfile.specs.declared.fault.FileRefused.TheVariants.{BadFile}
use Rattle.vx_deployfile.specs.declared.fault.FileWhy.{FileWhy}
use Rattle.vx_deployfile.specs.declared.fault.FileWhy.TheVariants.{Missing, Shape, Range}
use Rattle.vx_deployfile.specs.declared.fault.Place.{Place}
use Rattle.vx_deployfile.specs.Verdicts.{Verdict, ◌>>=◌}

abbrev pub misfit : Place → FileWhy → FileRefused
misfit place why = BadFile place why

-- the value of a field, if it is there
abbrev pub field : List ℕ → Members → Option Tree
field name no_members = None
field name (member key value others) = if bytes_eq name key then Some value else field name others

abbrev pub required : Place → Option Tree → Verdict Tree
required place None = Err (misfit place Missing)
required place (Some value) = Ok value

abbrev pub object_in : Place → Tree → Verdict Members
object_in place (object fields) = Ok fields
object_in place _ = Err (misfit place Shape)

abbrev pub array_in : Place → Tree → Verdict Elements
array_in place (array items) = Ok items
array_in place _ = Err (misfit place Shape)

-- a whole number with its limits
abbrev pub number_in : Place → ℕ → ℕ → Tree → Verdict ℕ
number_in place least most (int n) = if int_le (pos least) n && int_le n (pos most) then Ok (unsigned_abs n) else Err (misfit place Range)
number_in place least most _ = Err (misfit place Shape)

abbrev pub number_or : ℕ → Place → ℕ → ℕ → Option Tree → Verdict ℕ
number_or otherwise place least most None = Ok otherwise
number_or otherwise place least most (Some value) = number_in place least most value

abbrev pub text_in : Place → Tree → Verdict (List ℕ)
text_in place (text s) = Ok s
text_in place _ = Err (misfit place Shape)

-- an address, or the name of a pool: a text of 1 to 1,024 bytes
abbrev pub if_name : Place → List ℕ → Verdict (List ℕ)
if_name place s = if nat_le 1 (length s) && nat_le (length s) 1024 then Ok s else Err (misfit place Range)

abbrev pub name_in : Place → Tree → Verdict (List ℕ)
name_in place value = text_in place value >>= if_name place

abbrev pub name_or : List ℕ → Place → Option Tree → Verdict (List ℕ)
name_or otherwise place None = Ok otherwise
name_or otherwise place (Some value) = name_in place value

-- true or false, and false where it is not there
abbrev pub flag_in : Place → Option Tree → Verdict Bool
flag_in place None = Ok false
flag_in place (Some (boolean flag)) = Ok flag
flag_in place (Some _) = Err (misfit place Shape)

abbrev pub int_in : Place → Tree → Verdict ℤ
int_in place (int n) = Ok n
int_in place _ = Err (misfit place Shape)

-- whole numbers
abbrev pub numbers_in : Place → Elements → Verdict (List ℤ)
numbers_in place no_elements = Ok []
numbers_in place (element item items) = int_in place item >>= λ n. (numbers_in place items >>= λ numbers. Ok (n ∷ numbers))
