-- Values as their compact texts, for private clauses. A text stands in a body as bytes.
use Rattle.std.specs.Prelude.{ℕ, List, [], ◌∷◌, ◌++◌}
use Rattle.vx_data.specs.BodyText.{body_text, quoted}
use Rattle.vx_data.specs.Tree.{Tree, bytes, Elements, no_elements, element, Members, no_members, member}
use Rattle.vx_json.specs.Grammar.{settled}

-- the text that stands there
abbrev pub text_in : Tree → List ℕ
text_in (bytes s) = s
text_in _ = []

abbrev pub spelled : Tree → Tree
spelled t = bytes (body_text (settled t))

abbrev pub spelled_items : Elements → List Tree
spelled_items no_elements = []
spelled_items (element t es) = spelled t ∷ spelled_items es

abbrev pub spelled_fields : Members → List (List ℕ × Tree)
spelled_fields no_members = []
spelled_fields (member k t ms) = (k, spelled t) ∷ spelled_fields ms

-- the texts of members whose values are texts
abbrev pub spelled_texts : Members → List (List ℕ)
spelled_texts no_members = []
spelled_texts (member k t ms) = (quoted k ++ 58 ∷ text_in t) ∷ spelled_texts ms
