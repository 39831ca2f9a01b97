use Rattle.std.proofs.Common.{◌≡◌, ℕ, List, map, take}
use Rattle.vx_data.specs.Tree.{Tree}
use Rattle.vx_frame_write.proofs.Naming.{under}
use Rattle.vx_frame_write.proofs.headers.with_values.Given as goal

abbrev pub invariant-loop-name : goal.invariant-loop-name
invariant-loop-name l = l.named.items ≡ map (λ (p : List ℕ × Tree). (p.0, under l.pairs p.0)) (take l.name-index l.names)
