-- The limits of the rules, as rules come and go, and what rules within them add.
use Rattle.std.proofs.Common.{◌≡◌, ◌+◌, ◌*◌, ◌≤◌, Bool, true, false, List, [], ◌∷◌, ◌++◌, length, ℕ, cond, filter, arith, length-append}
use Rattle.std.specs.Prelude.{All}
use Rattle.std.proofs.lemmas.List.Elements.{All-filter, All-head, All-tail}
use Rattle.vx_data.specs.HeaderLists.{header_bytes, too_many}
use Rattle.vx_message.specs.declared.Message.{Message}
use Rattle.vx_message.specs.declared.rules.Rule.{Rule}
use Rattle.vx_message.specs.declared.rules.Side.{Side}
use Rattle.vx_message.specs.declared.rules.TheConstants.{MAX_RULES, MAX_ADDED_BYTES}
use Rattle.vx_message.specs.declared.rules.Verdict.{Verdict}
use Rattle.vx_message.specs.declared.rules.Verdict.TheVariants as verdicts
use Rattle.vx_message.specs.Rules.{rules_of, same_side, verdict_bytes}
use Rattle.vx_rules.specs.Stores.{added_by, additions, GrowsBy}
use Rattle.vx_rules.specs.declared.rules.Through.{Through}
use Rattle.vx_rules.specs.declared.rules.Through.TheVariants as ends
use Rattle.vx_rules.proofs.Limits.{header_bytes_joined, fit_together}
use Rattle.vx_bus_store.specs.Limits.{AreWithinLimits, GrowsWithinLimits}

-- of fewer rules no more pass
fewer_pass : (test keep : Rule → Bool) (rules : List Rule) → length (filter test (filter keep rules)) ≤ length (filter test rules)
fewer_pass test keep [] = omega arith
fewer_pass test keep (rule ∷ rules) =
    let rest = fewer_pass test keep rules in
    elim (keep rule) as (λ k. length (filter test (cond k (rule ∷ filter keep rules) (filter keep rules))) ≤ length (cond (test rule) (rule ∷ filter test rules) (filter test rules))) [
      | true ↦ elim (test rule) as (λ t. length (cond t (rule ∷ filter test (filter keep rules)) (filter test (filter keep rules))) ≤ length (cond t (rule ∷ filter test rules) (filter test rules))) [
        | true ↦ omega arith
        | false ↦ rest
      ]
      | false ↦ elim (test rule) as (λ t. length (filter test (filter keep rules)) ≤ length (cond t (rule ∷ filter test rules) (filter test rules))) [
        | true ↦ omega arith
        | false ↦ rest
      ]
    ]

pub within_filtered : (keep : Rule → Bool) (rules : List Rule) → AreWithinLimits rules → AreWithinLimits (filter keep rules)
within_filtered keep rules within = record {
  few = λ side. omega (arith, fewer_pass (λ rule. same_side side rule.side) keep rules, within.few side);
  small = All-filter keep (λ rule. verdict_bytes rule.verdict ≤ MAX_ADDED_BYTES) rules within.small;
}

-- ## What they add

one_pair : (verdict : Verdict) → length (added_by verdict) ≤ 1
one_pair verdicts.Stop = omega arith
one_pair (verdicts.Add name value) = omega arith

its_bytes : (verdict : Verdict) → header_bytes (added_by verdict) ≡ verdict_bytes verdict
its_bytes verdicts.Stop = omega arith
its_bytes (verdicts.Add name value) = omega arith

few_added : (rules : List Rule) → length (additions rules) ≤ length rules
few_added [] = omega arith
few_added (rule ∷ rules) = omega (arith, few_added rules, one_pair rule.verdict, length-append (added_by rule.verdict) (additions rules))

abbrev IsSmall : Rule → Type 0
IsSmall rule = verdict_bytes rule.verdict ≤ MAX_ADDED_BYTES

small_added : (rules : List Rule) → All IsSmall rules → header_bytes (additions rules) ≤ 1024 * length rules
small_added [] small = omega arith
small_added (rule ∷ rules) small =
    let rest = small_added rules (All-tail IsSmall rule rules small) in
    omega (arith, rest, its_bytes rule.verdict, All-head IsSmall rule rules small, header_bytes_joined (added_by rule.verdict) (additions rules))

few_of : (side : Side) (rules : List Rule) → AreWithinLimits rules → length (additions (rules_of side rules)) ≤ MAX_RULES
few_of side rules within = omega (arith, few_added (rules_of side rules), within.few side)

small_of : (side : Side) (rules : List Rule) → AreWithinLimits rules → header_bytes (additions (rules_of side rules)) ≤ MAX_RULES * MAX_ADDED_BYTES
small_of side rules within =
    omega (arith, small_added (rules_of side rules) (All-filter (λ rule. same_side side rule.side) IsSmall rules within.small), within.few side)

-- a message has room for them
pub has_room : (headers : List (List ℕ × List ℕ)) (side : Side) (rules : List Rule) → AreWithinLimits rules → length headers ≤ 1088 → header_bytes headers ≤ 131072 → too_many (headers ++ additions (rules_of side rules)) ≡ false
has_room headers side rules within pairs bytes =
    fit_together headers (additions (rules_of side rules)) (omega (arith, few_of side rules within, pairs)) (omega (arith, small_of side rules within, bytes))

pub grows_within : (side : Side) (rules : List Rule) (message : Message) (end : Through) → AreWithinLimits rules → GrowsBy (additions (rules_of side rules)) message end → GrowsWithinLimits message end
grows_within side rules message ends.Stopped within grown = tt
grows_within side rules message (ends.Passed new) within grown =
    (omega (arith, grown.0, few_of side rules within), omega (arith, grown.1, small_of side rules within))
