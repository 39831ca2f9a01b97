use Rattle.std.proofs.Common.{ℕ, List, ◌++◌, ap, ◌∙◌}
use Rattle.vx_hub.proofs.totals.Totals.write.Goals as goal

pub returns-clause-written : goal.returns-clause-written
returns-clause-written c = c.in_ok-extend_from_slice.ensures.items ∙ ap (λ (line : List ℕ). c.args.into.now.items ++ line) (c.as_bytes.ensures.value ∙ c.in_ok-line.ensures.ok)
