-- How many rules the bus has at most, and how much they add.
use Rattle.std.specs.Prelude.{◌≤◌, ◌+◌, ◌*◌, List, length, All}
use Rattle.vx_data.specs.HeaderLists.{header_bytes}
use Rattle.vx_message.specs.declared.Message.{Message}
use Rattle.vx_message.specs.declared.rules.Rule.{Rule}
use Rattle.vx_message.specs.declared.rules.Side.{Side}
use Rattle.vx_message.specs.declared.rules.TheConstants.{MAX_RULES, MAX_ADDED_BYTES}
use Rattle.vx_message.specs.Rules.{rules_of, verdict_bytes}
use Rattle.vx_rules.specs.declared.rules.Through.{Through}
use Rattle.vx_rules.specs.declared.rules.Through.TheVariants as ends

-- no more rules of a side than there may be, and none adds more bytes than it may
pub record AreWithinLimits (rules : List Rule) : Type 0 where
  pub few : (side : Side) → length (rules_of side rules) ≤ MAX_RULES
  pub small : All (λ (rule : Rule). verdict_bytes rule.verdict ≤ MAX_ADDED_BYTES) rules

-- a message that got through has at most so many headers more than before, as the rules of one side may add
abbrev pub GrowsWithinLimits : Message → Through → Type 0
GrowsWithinLimits message ends.Stopped = Unit {0}
GrowsWithinLimits message (ends.Passed grown) =
    (length grown.headers ≤ length message.headers + MAX_RULES) × (header_bytes grown.headers ≤ header_bytes message.headers + MAX_RULES * MAX_ADDED_BYTES)
