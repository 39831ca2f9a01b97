-- The text of an object as it is written, for private clauses.
use Rattle.std.specs.Prelude.{ℕ, List, [], ◌∷◌, ◌++◌, map, codes}
use Rattle.std.specs.Fmt.{decimal}
use Rattle.vx_data.specs.BodyText.{body_text, quoted}
use Rattle.vx_data.specs.Tree.{Tree, null, boolean, int, text, bytes, array, object, Members, no_members, member}
use Rattle.vx_frame_write.specs.Outgoing.{values_named, values_tree}

-- the texts of members, with a comma before each
abbrev pub more_members : Members → List ℕ
more_members no_members = []
more_members (member k t ms) = 44 ∷ (quoted k ++ 58 ∷ (body_text t ++ more_members ms))

-- a comma, and the address of a reply under its name
abbrev pub numbered_reply : ℕ → List ℕ
numbered_reply number = 44 ∷ (quoted (codes "replyAddress") ++ 58 ∷ (quoted (codes "__vertx.reply." ++ decimal number) ++ []))

-- the text of an object up to its closing brace
abbrev pub opened : Members → List ℕ
opened no_members = 123 ∷ []
opened (member k t ms) = 123 ∷ (quoted k ++ 58 ∷ (body_text t ++ more_members ms))

-- the names alone
abbrev pub without_values : List (List ℕ × List ℕ) → List (List ℕ × Tree)
without_values pairs = map (λ (pair : List ℕ × List ℕ). (pair.0, null)) pairs

-- each name with its values among the pairs
abbrev pub valued : List (List ℕ × List ℕ) → Members → Members
valued pairs no_members = no_members
valued pairs (member k t ms) = member k (values_tree (values_named k pairs)) (valued pairs ms)

-- the members of an object likewise
abbrev pub valued_members : List (List ℕ × List ℕ) → Tree → Members
valued_members pairs (object ms) = valued pairs ms
valued_members pairs _ = no_members
