-- Lanes that are the same one are equal.
use Rattle.std.proofs.Common.{◌≡◌, ℕ, refl, ap}
use Rattle.std.specs.Prelude.{true}
use Rattle.std.proofs.lemmas.Bool.{eqb-true}
use Rattle.vx_data.specs.declared.ids.PoolId.{PoolId}
use Rattle.vx_message.specs.Lanes.{same_lane}
use Rattle.vx_message.specs.declared.Lane.{Lane}
use Rattle.vx_message.specs.declared.Lane.TheVariants as lanes
use Rattle.vx_call.proofs.Contexts.{same_context-true}

pub same_lane-true : (a b : Lane) → same_lane a b ≡ true → a ≡ b
same_lane-true (lanes.Loop loop) (lanes.Loop other) same = ap (λ n. lanes.Loop n) (eqb-true loop other same)
same_lane-true lanes.Pool lanes.Pool same = refl
same_lane-true (lanes.Named pool) (lanes.Named other) same =
    let by_number : ℕ → PoolId = λ n. record { 0 = record { 0 = n } } in
    ap (λ n. lanes.Named (by_number n)) (eqb-true pool.0.0 other.0.0 same)
same_lane-true (lanes.Own context) (lanes.Own other) same = ap (λ c. lanes.Own c) (same_context-true context other same)
same_lane-true _ _ same = absurd cc
