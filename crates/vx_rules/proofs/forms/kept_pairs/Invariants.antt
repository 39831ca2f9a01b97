use Rattle.std.proofs.Common.{◌≡◌, ℕ, List, filter, take}
use Rattle.vx_data.specs.Tree.{Tree}
use Rattle.vx_rules.specs.Keys.{is_kept}
use Rattle.vx_rules.proofs.forms.kept_pairs.Given as goal

abbrev pub invariant-loop-key : goal.invariant-loop-key
invariant-loop-key l = l.kept.items ≡ filter (λ (pair : List ℕ × Tree). is_kept l.keep l.keys pair.0) (take l.key-index l.pairs)
