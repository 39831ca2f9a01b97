-- A loop over tasks that makes some of them ready.
use Rattle.std.proofs.Common.{◌≡◌, ℕ, ◌+◌, List, [], ◌∷◌, ◌++◌, length, ap, sym, ◌∙◌, append_assoc, arith}
use Rattle.vx_data.specs.declared.ids.ContextId.{ContextId}
use Rattle.vx_data.specs.declared.ids.EntryNo.{EntryNo}
use Rattle.vx_message.specs.declared.Context.{Context}
use Rattle.vx_message.specs.declared.ItemKind.{ItemKind}
use Rattle.vx_call.specs.declared.reply.Task.{Task}
use Rattle.vx_call.specs.Kinds.{kind_of}
use Rattle.vx_context.specs.Stores.{ContextStore, handler_item}
use Rattle.vx_bus_store.specs.Stores.{message_items}

items_push : (made : List Context) (at : EntryNo) (context : ContextId) (place n : ℕ) (tasks : List Task) (task : Task) → n ≡ place + length tasks →
    message_items made at context place (tasks ++ task ∷ []) ≡ message_items made at context place tasks ++ handler_item made at n context (kind_of task) ∷ []
items_push made at context place n [] task is =
    let here : place ≡ n = omega arith in
    ap (λ m. handler_item made at m context (kind_of task) ∷ []) here
items_push made at context place n (first ∷ tasks) task is =
    ap (λ items. handler_item made at place context (kind_of first) ∷ items) (items_push made at context (place + 1) n tasks task (omega arith))

-- the items of one more
pub made_more : (first old new : ContextStore) (at : EntryNo) (context : ContextId) (place : ℕ) (kind : ItemKind) (task : Task) (before all : List Task) →
    old ≡ record first { waiting = first.waiting ++ message_items first.made at context 0 before; room = old.room } →
    new ≡ record old { waiting = old.waiting ++ handler_item old.made at place context kind ∷ []; room = new.room } → kind ≡ kind_of task → place ≡ length before → all ≡ before ++ task ∷ [] →
    new ≡ record first { waiting = first.waiting ++ message_items first.made at context 0 all; room = new.room }
made_more first old new at context place kind task before all is_old is_new is_kind is_place is_all =
    let made = first.made in
    is_new
    ∙ ap (λ k. record old { waiting = old.waiting ++ handler_item old.made at place context k ∷ []; room = new.room }) is_kind
    ∙ ap (λ (s : ContextStore). record s { waiting = s.waiting ++ handler_item s.made at place context (kind_of task) ∷ []; room = new.room }) is_old
    ∙ ap (λ items. record first { waiting = items; room = new.room })
    (append_assoc first.waiting (message_items made at context 0 before) (handler_item made at place context (kind_of task) ∷ [])
    ∙ ap (λ items. first.waiting ++ items) (sym (ap (message_items made at context 0) is_all ∙ items_push made at context 0 place before task (omega (arith, is_place)))))
