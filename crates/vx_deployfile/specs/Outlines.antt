-- Values down to so many levels, for private clauses. What stands deeper is null.
use Rattle.std.specs.Prelude.{ℕ, zero, suc, List, [], ◌∷◌}
use Rattle.vx_data.specs.Tree.{Tree, null, boolean, int, text, bytes, array, object, Elements, no_elements, element, Members, no_members, member}
use Rattle.vx_json.specs.Grammar.{settled}

abbrev mutual
  pub cut : ℕ → Tree → Tree
  cut n null = null
  cut n (boolean b) = boolean b
  cut n (int i) = int i
  cut n (text s) = text s
  cut n (bytes s) = bytes s
  cut zero (array es) = null
  cut (suc n) (array es) = array (cut_elements n es)
  cut zero (object ms) = null
  cut (suc n) (object ms) = object (cut_members n ms)

  pub cut_elements : ℕ → Elements → Elements
  cut_elements n no_elements = no_elements
  cut_elements n (element t es) = element (cut n t) (cut_elements n es)

  pub cut_members : ℕ → Members → Members
  cut_members n no_members = no_members
  cut_members n (member k t ms) = member k (cut n t) (cut_members n ms)

-- the outline of a value of a text: of a key that comes again the last value stays
abbrev pub outline : ℕ → Tree → Tree
outline n t = cut n (settled t)

abbrev pub item_outlines : ℕ → Elements → List Tree
item_outlines n no_elements = []
item_outlines n (element t es) = outline n t ∷ item_outlines n es

abbrev pub field_outlines : ℕ → Members → List (List ℕ × Tree)
field_outlines n no_members = []
field_outlines n (member k t ms) = (k, outline n t) ∷ field_outlines n ms
