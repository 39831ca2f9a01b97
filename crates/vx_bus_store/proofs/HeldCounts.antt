-- How many messages are held for consumers together.
use Rattle.std.proofs.Common.{◌≡◌, ℕ, zero, suc, ◌+◌, ◌<◌, ◌≤◌, List, [], ◌∷◌, ◌++◌, length, take, get_or, ap, ◌∙◌, arith}
use Rattle.std.specs.Prelude.{Bool, true, false, cond, filter, Some}
use Rattle.vx_data.specs.declared.ids.ConsumerId.{ConsumerId}
use Rattle.vx_bus_store.specs.declared.bus.Handler.{Handler}
use Rattle.vx_bus_store.specs.Stores.{handler_in, names, held_in}

pub held_in-append : (handlers others : List Handler) → held_in (handlers ++ others) ≡ held_in handlers + held_in others
held_in-append [] others = omega arith
held_in-append (handler ∷ handlers) others = let rest = held_in-append handlers others in omega arith

held_in_next : (handlers : List Handler) (i : ℕ) (handler : Handler) → i < length handlers → handler ≡ get_or handlers i handler → held_in (take (suc i) handlers) ≡ held_in (take i handlers) + handler.flow.held
held_in_next [] i handler inside here = absurd (omega arith)
held_in_next (first ∷ handlers) zero handler inside here = let same = ap (λ (h : Handler). h.flow.held) here in omega arith
held_in_next (first ∷ handlers) (suc i) handler inside here = let rest = held_in_next handlers i handler (omega arith) here in omega arith

-- as a loop comes to one more
pub held_in_more : (handlers : List Handler) (i : ℕ) (handler : Handler) → i < length handlers → handler ≡ get_or handlers i handler → held_in (take (i + 1) handlers) ≡ held_in (take i handlers) + handler.flow.held
held_in_more handlers i handler inside here =
    let next : i + 1 ≡ suc i = omega arith in
    ap (λ n. held_in (take n handlers)) next ∙ held_in_next handlers i handler inside here

-- fewer handlers hold no more
pub held_in-filter : (p : Handler → Bool) (handlers : List Handler) → held_in (filter p handlers) ≤ held_in handlers
held_in-filter p [] = omega arith
held_in-filter p (handler ∷ handlers) =
    let rest = held_in-filter p handlers in
    elim (p handler) as (λ b. held_in (cond b (handler ∷ filter p handlers) (filter p handlers)) ≤ handler.flow.held + held_in handlers) [ true ↦ omega arith | false ↦ omega arith ]

-- one handler holds no more than all
pub held_within : (id : ConsumerId) (handlers : List Handler) (handler : Handler) → handler_in handlers id ≡ Some handler → handler.flow.held ≤ held_in handlers
held_within id [] handler found = cc
held_within id (first ∷ others) handler found =
    elim (names id first) as (λ b. cond b (Some first) (handler_in others id) ≡ Some handler → handler.flow.held ≤ first.flow.held + held_in others) [
      | true ↦ λ here. (let same : first ≡ handler = cc in let held = ap (λ (h : Handler). h.flow.held) same in omega (arith, held))
      | false ↦ λ later. (let rest = held_within id others handler later in omega (arith, rest))
    ] found
