-- Headers that have room for what rules add.
use Rattle.std.proofs.Common.{◌≡◌, sym, ◌∙◌, ap, ℕ, suc, ◌+◌, ◌<◌, ◌≤◌, true, false, cond, List, [], ◌∷◌, ◌++◌, length, drop, get_or, arith, add-one, drop-cons, length-append}
use Rattle.std.proofs.lemmas.Bool.Decides.{nat_tests}
use Rattle.vx_data.specs.HeaderLists.{header_bytes, too_many}
use Rattle.vx_message.specs.declared.rules.Rule.{Rule}
use Rattle.vx_message.specs.declared.rules.Side.{Side}
use Rattle.vx_message.specs.Rules.{rules_of, same_side}
use Rattle.vx_rules.specs.Stores.{added_by, additions}

pub header_bytes_joined : (ps qs : List (List ℕ × List ℕ)) → header_bytes (ps ++ qs) ≡ header_bytes ps + header_bytes qs
header_bytes_joined [] qs = omega arith
header_bytes_joined (p ∷ ps) qs = omega (arith, header_bytes_joined ps qs)

-- two lists of headers that fit together
pub few_enough : (ps qs : List (List ℕ × List ℕ)) → too_many (ps ++ qs) ≡ false → length ps + length qs ≤ 1152
few_enough ps qs fits = grind (arith, nat_tests, fits, length-append ps qs)

pub small_enough : (ps qs : List (List ℕ × List ℕ)) → too_many (ps ++ qs) ≡ false → header_bytes ps + header_bytes qs ≤ 196608
small_enough ps qs fits = grind (arith, nat_tests, fits, header_bytes_joined ps qs)

pub fit_together : (ps qs : List (List ℕ × List ℕ)) → length ps + length qs ≤ 1152 → header_bytes ps + header_bytes qs ≤ 196608 → too_many (ps ++ qs) ≡ false
fit_together ps qs few small = grind (arith, nat_tests, header_bytes_joined ps qs, length-append ps qs)

-- what the rules from the i-th on add
module _ (side : Side) (rules : List Rule) (i : ℕ) (rule : Rule) where
  from_it_on : i < length rules → rule ≡ get_or rules i rule → drop i rules ≡ rule ∷ drop (i + 1) rules
  from_it_on lt is = rw add-one (drop-cons rules i rule lt ∙ ap (λ (r : Rule). r ∷ drop (suc i) rules) (sym is))

  pub with_it : i < length rules → rule ≡ get_or rules i rule → same_side side rule.side ≡ true → additions (rules_of side (drop i rules)) ≡ added_by rule.verdict ++ additions (rules_of side (drop (i + 1) rules))
  with_it lt is same =
      ap (λ (rs : List Rule). additions (rules_of side rs)) (from_it_on lt is)
      ∙ ap (λ b. additions (cond b (rule ∷ rules_of side (drop (i + 1) rules)) (rules_of side (drop (i + 1) rules)))) same

  pub pairs_with_it : i < length rules → rule ≡ get_or rules i rule → same_side side rule.side ≡ true → length (additions (rules_of side (drop i rules))) ≡ length (added_by rule.verdict) + length (additions (rules_of side (drop (i + 1) rules)))
  pairs_with_it lt is same = ap length (with_it lt is same) ∙ length-append (added_by rule.verdict) (additions (rules_of side (drop (i + 1) rules)))

  pub bytes_with_it : i < length rules → rule ≡ get_or rules i rule → same_side side rule.side ≡ true → header_bytes (additions (rules_of side (drop i rules))) ≡ header_bytes (added_by rule.verdict) + header_bytes (additions (rules_of side (drop (i + 1) rules)))
  bytes_with_it lt is same = ap header_bytes (with_it lt is same) ∙ header_bytes_joined (added_by rule.verdict) (additions (rules_of side (drop (i + 1) rules)))

  pub without_it : i < length rules → rule ≡ get_or rules i rule → same_side side rule.side ≡ false → additions (rules_of side (drop i rules)) ≡ additions (rules_of side (drop (i + 1) rules))
  without_it lt is other =
      ap (λ (rs : List Rule). additions (rules_of side rs)) (from_it_on lt is)
      ∙ ap (λ b. additions (cond b (rule ∷ rules_of side (drop (i + 1) rules)) (rules_of side (drop (i + 1) rules)))) other
