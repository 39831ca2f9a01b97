use Rattle.std.proofs.Common.{◌≡◌, ℕ, ◌<◌, List, length, refl, ap, sym, ◌∙◌, subst, not, filter, get_or, arith}
use Rattle.std.specs.Prelude.{Bool, true, false, cond}
use Rattle.std.specs.Str.{bytes_eq}
use Rattle.vx_data.specs.declared.ids.ConsumerId.{ConsumerId}
use Rattle.vx_data.specs.Ids.{same_consumer}
use Rattle.vx_ring.specs.Rings.{RingAt, is_empty, consumers_at, choices_at}
use Rattle.vx_bus_store.proofs.Turns.{starts_anew, empty_left, one_leaves, one_stays, none_left}
use Rattle.vx_bus_store.proofs.leaving.leave_turns.Goals as goal
use Rattle.vx_bus_store.proofs.leaving.leave_turns.Goals.{then-owns, else-owns}

anew : (was : ℕ) (live : List ConsumerId) → (is_empty live ≡ true → was ≡ 0) → was ≡ cond (is_empty live) 0 was
anew was live idle = elim (is_empty live) as (λ b. (b ≡ true → was ≡ 0) → was ≡ cond b 0 was) [ true ↦ λ f. f refl | false ↦ λ f. refl ] idle

pub loop-handler-init : goal.loop-handler-init
loop-handler-init c = record {
  out_of_turn = λ a. none_left c.args.leaver a (consumers_at a c.args.rings.now);
  choices = λ a idle. anew (choices_at a c.args.rings.now) (consumers_at a c.args.rings.now) idle;
}

fewer : (b : Bool) (name : ConsumerId → Bool) (old : List ConsumerId) → is_empty old ≡ true → is_empty (cond b (filter name old) old) ≡ true
fewer true name old none = empty_left name old none
fewer false name old none = none

pub loop-handler-preserved : goal.loop-handler-preserved
loop-handler-preserved c =
    let handlers = c.args.handlers.now.items in
    let i = c.loop-handler.handler-index in
    let handler = c.handler-item.result in
    let same = c.deref-handler-items.ensures.value in
    let within : i < length handlers = omega (arith, c.loop-handler-test.true, ap length same) in
    let read : handler ≡ get_or handlers i handler = c.handler-item.is ∙ ap (λ hs. get_or hs i handler) same in
    elim c.if-owns.branch [
      | then-owns w ↦
          (let goes = sym c.owns.ensures ∙ w.if-owns.true in
          record {
            out_of_turn = λ a. ap (consumers_at a) w.rings-is
                ∙ one_leaves c.args.leaver handlers i handler within read a (consumers_at a c.args.rings.now) (consumers_at a c.loop-handler.rings) (consumers_at a w.remove.new.self) goes (c.loop-handler.invariant.out_of_turn a) (w.remove.ensures.left a);
            choices = λ a idle.
                (let was = choices_at a c.args.rings.now in
                let P : List RingAt → Type 0 = λ rings. choices_at a rings ≡ cond (is_empty (consumers_at a rings)) 0 was in
                subst P (sym w.rings-is)
                (starts_anew (consumers_at a c.args.rings.now) (consumers_at a c.loop-handler.rings) (consumers_at a w.remove.new.self) was (choices_at a c.loop-handler.rings) (choices_at a w.remove.new.self)
                (c.loop-handler.invariant.choices a idle) (w.remove.ensures.choices a)
                (λ none. ap is_empty (w.remove.ensures.left a) ∙ fewer (bytes_eq a handler.consumer.address) (λ other. not (same_consumer handler.consumer.id other)) (consumers_at a c.loop-handler.rings) none)));
          })
      | else-owns w ↦
          (let stays = sym c.owns.ensures ∙ w.if-owns.false in
          record {
            out_of_turn = λ a. ap (consumers_at a) w.rings-is ∙ c.loop-handler.invariant.out_of_turn a ∙ one_stays c.args.leaver handlers i handler within read a (consumers_at a c.args.rings.now) stays;
            choices = λ a idle.
                (let P : List RingAt → Type 0 = λ rings. choices_at a rings ≡ cond (is_empty (consumers_at a rings)) 0 (choices_at a c.args.rings.now) in
                subst P (sym w.rings-is) (c.loop-handler.invariant.choices a idle));
          })
    ]
