use Rattle.std.proofs.Common.{◌≡◌, ◌+◌, ◌++◌, length, ap, sym, ◌∙◌, arith, List}
use Rattle.vx_message.specs.declared.Item.{Item}
use Rattle.vx_context.specs.Stores.{ContextStore}
use Rattle.vx_core_life.specs.declared.moving.Telling.{Telling}
use Rattle.vx_core_life.specs.Moving.{tellings, telling_item, telling_items}
use Rattle.vx_core_life.proofs.Tellings.{items_next}
use Rattle.vx_core_life.proofs.moving.move_on.Goals as goal

pub tell-place-requires-clause-owed : goal.tell-place-requires-clause-owed
tell-place-requires-clause-owed c =
    let fewer = c.in-Some.ensures.fewer in
    let owed = c.loop-telling.invariant.owed in
    omega (arith, fewer, owed)

pub loop-telling-preserved : goal.loop-telling-preserved
loop-telling-preserved c =
    let inv = c.loop-telling.invariant in
    let at = c.args.at in
    let first : ContextStore = c.args.contexts.now in
    let now : ContextStore = c.loop-telling.contexts in
    let place = c.loop-telling.place in
    let telling = c.in-Some.telling in
    let same : telling_item now at place telling ≡ telling_item first at place telling = ap (λ (s : ContextStore). telling_item s at place telling) inv.rest in
    let next : c.tell-place.result ≡ place + length (telling_item first at place telling) = c.tell-place.ensures.next ∙ ap (λ (xs : List Item). place + length xs) same in
    let fewer = c.in-Some.ensures.fewer in
    let owed = inv.owed in
    let owed_then = c.tell-place.ensures.owed in
    let room = inv.room in
    let room_then = c.tell-place.ensures.room in
    record {
      said = λ apart. (c.in-Some.ensures.some (inv.apart apart)).rest ∙ inv.said apart;
      apart = λ apart. (c.in-Some.ensures.some (inv.apart apart)).apart;
      told = λ apart.
          let says = c.in-Some.ensures.some (inv.apart apart) in
          let others = tellings c.next_telling.new.life in
          ap (λ (s : ContextStore). s.waiting ++ telling_items first at c.tell-place.result others) c.tell-place.ensures.told
          ∙ ap (λ xs. (now.waiting ++ xs) ++ telling_items first at c.tell-place.result others) same
          ∙ ap (λ n. (now.waiting ++ telling_item first at place telling) ++ telling_items first at n others) next
          ∙ items_next first at place telling others now.waiting
          ∙ ap (λ (ts : List Telling). now.waiting ++ telling_items first at place ts) (sym says.first)
          ∙ inv.told apart;
      rest = c.tell-place.ensures.told
          ∙ ap (λ ws. record now { waiting = ws; owed = c.tell-place.new.contexts.owed; room = c.tell-place.new.contexts.room }) (sym (ap (λ (s : ContextStore). s.waiting) c.tell-place.ensures.told))
          ∙ ap (λ (s : ContextStore). record s { waiting = c.tell-place.new.contexts.waiting; owed = c.tell-place.new.contexts.owed; room = c.tell-place.new.contexts.room }) inv.rest;
      owed = omega (arith, fewer, owed, owed_then);
      place = c.tell-place.ensures.within;
      room = omega (arith, room, room_then);
    }
