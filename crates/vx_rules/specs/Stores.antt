-- The rules and codecs that are there, in order of adding.
use Rattle.std.specs.Prelude.{◌≤◌, ◌+◌, ℕ, List, [], ◌∷◌, ◌++◌, length, Option, None, Some}
use Rattle.vx_data.specs.HeaderLists.{header_bytes}
use Rattle.vx_message.specs.declared.Message.{Message}
use Rattle.vx_message.specs.declared.rules.Codec.{Codec}
use Rattle.vx_message.specs.declared.rules.Rule.{Rule}
use Rattle.vx_message.specs.declared.rules.Verdict.{Verdict}
use Rattle.vx_message.specs.declared.rules.Verdict.TheVariants as verdicts
use Rattle.vx_rules.specs.declared.rules.Through.{Through}
use Rattle.vx_rules.specs.declared.rules.Through.TheVariants as ends

-- the rules, and how many more there is room for
pub record RuleStore : Type 0 where
  pub rules : List Rule
  pub room : ℕ

-- the codecs, and how many more there is room for
pub record CodecStore : Type 0 where
  pub codecs : List Codec
  pub room : ℕ

-- the header that a verdict adds, if it adds one
abbrev pub added_by : Verdict → List (List ℕ × List ℕ)
added_by verdicts.Stop = []
added_by (verdicts.Add name value) = (name, value) ∷ []

-- the headers that rules add, where each is for the message
abbrev pub additions : List Rule → List (List ℕ × List ℕ)
additions [] = []
additions (rule ∷ rules) = added_by rule.verdict ++ additions rules

-- the message behind the rules, if it got through
abbrev pub passed : Through → Option Message
passed ends.Stopped = None
passed (ends.Passed message) = Some message

-- a message that got through has at most so many headers, and so many bytes of them, more than before
abbrev pub GrowsBy : List (List ℕ × List ℕ) → Message → Through → Type 0
GrowsBy added message ends.Stopped = Unit {0}
GrowsBy added message (ends.Passed grown) =
    (length grown.headers ≤ length message.headers + length added) × (header_bytes grown.headers ≤ header_bytes message.headers + header_bytes added)

-- the message with these headers in place of its own
abbrev pub bearing : Message → List (List ℕ × List ℕ) → Message
bearing message headers = record message { headers = headers }
