-- What is known before a deployment is added.
use Rattle.std.proofs.Common.{◌≡◌, ℕ, ◌+◌, ◌*◌, ◌<◌, ◌≤◌, ◌^◌, List, length, sym, subst, arith}
use Rattle.std.specs.Prelude.{true, ltb, slice_index_or}
use Rattle.std.proofs.Math.Bool.{Bool-set}
use Rattle.std.proofs.Math.Logic.{∥∥₁_elim}
use Rattle.std.proofs.lemmas.Bool.{lt-ltb, ltb-true}
use Rattle.vx_data.specs.declared.ids.EntryNo.{EntryNo}
use Rattle.vx_timer.specs.declared.timers.Timer.{Timer}
use Rattle.vx_tree.specs.declared.node.Node.{Node}
use Rattle.vx_call.specs.declared.history.Traced.{Traced}
use Rattle.vx_call.specs.Loops.{standard_instances}
use Rattle.vx_call.specs.Machine.{IsLegal}
use Rattle.vx_life.specs.Stores.{LifeStore}
use Rattle.vx_life.specs.Stands.{PartsStand}
use Rattle.vx_life_rows.proofs.Begins.{few_instances}
use Rattle.vx_life_rows.proofs.RowDeploy.{later}
use Rattle.vx_context.specs.Stands.{IsNext}
use Rattle.vx_context.specs.Stores.{ContextStore}
use Rattle.vx_bus_store.specs.Stores.{BusStore}
use Rattle.vx_core_life.specs.Stands.{AreAt}

fits : (at : EntryNo) (life : LifeStore) (count : ℕ) (history : List Traced) → IsLegal history → IsNext at history → PartsStand life history → at.0 < 2 ^ 48 → count ≤ 64 → life.standard + count < 2 ^ 64
fits at life count history legal is_next parts small few =
    let all : standard_instances history ≤ 64 * length history = few_instances history legal in
    let next : at.0 ≡ length history = is_next in
    let standard : life.standard ≡ standard_instances history = parts.standard in
    omega (arith, all, next, standard, small, few)

-- the instances can be numbered
pub room_for : (at : EntryNo) (life : LifeStore) (contexts : ContextStore) (timers : List Timer) (bus : BusStore) (count : ℕ) → AreAt at life contexts timers bus → at.0 < 2 ^ 48 → count ≤ 64 → life.standard + count < 2 ^ 64
room_for at life contexts timers bus count one small few =
    ltb-true (life.standard + count) (2 ^ 64)
    (∥∥₁_elim one (Bool-set (ltb (life.standard + count) (2 ^ 64)) true) (λ p. lt-ltb (life.standard + count) (2 ^ 64) (fits at life count p.0 p.1.0 p.1.1.0 p.1.1.1.lives.parts small few)))

-- the deployments that are there were made before
pub all_earlier : (at : EntryNo) (life : LifeStore) (contexts : ContextStore) (timers : List Timer) (bus : BusStore) → AreAt at life contexts timers bus → (k : ℕ) (node : Node) → k < length life.tree.there → (slice_index_or life.tree.there k node).id.0.0 < at.0
all_earlier at life contexts timers bus one k node inside =
    let number = (slice_index_or life.tree.there k node).id.0.0 in
    ltb-true number at.0
    (∥∥₁_elim one (Bool-set (ltb number at.0) true) (λ p.
    let Less : ℕ → Type 0 = λ n. number < n in
    lt-ltb number at.0 (subst Less (sym p.1.1.0) (later p.0 life p.1.1.1.lives.parts k node inside))))
