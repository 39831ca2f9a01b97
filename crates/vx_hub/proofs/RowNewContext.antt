-- NewContext.
use Rattle.std.proofs.Common.{◌≡◌, ℕ, List, [], ◌∷◌, ◌++◌, refl, ap, sym, ◌∙◌}
use Rattle.std.specs.Prelude.{true, is_some, map, Option, None, Some}
use Rattle.vx_data.specs.declared.ids.EntryNo.{EntryNo}
use Rattle.vx_data.specs.declared.ids.PassNo.{PassNo}
use Rattle.vx_data.specs.declared.ids.ContextId.{ContextId}
use Rattle.vx_message.specs.declared.Context.{Context}
use Rattle.vx_message.specs.declared.Item.{Item}
use Rattle.vx_message.specs.declared.Lane.TheVariants as lanes
use Rattle.vx_message.specs.declared.Mode.{Mode}
use Rattle.vx_call.specs.declared.call.Call.TheVariants as calls
use Rattle.vx_call.specs.declared.reply.Reply.TheVariants as replies
use Rattle.vx_call.specs.declared.history.Traced.{Traced}
use Rattle.vx_call.specs.History.{made_by, plain_entry, no_mark}
use Rattle.vx_call.specs.Built.{AreStored}
use Rattle.vx_call.proofs.KeepsOpen.{call_keeps, closed_kept}
use Rattle.vx_call.specs.Names.{next_context}
use Rattle.vx_call.specs.Contexts.{context_kind, contexts, context_at, is_context}
use Rattle.vx_call.specs.Given.{mode_of}
use Rattle.vx_call.specs.Held.{held_kind}
use Rattle.vx_call.specs.Items.{Waiting, waiting}
use Rattle.vx_call.specs.Kinds.{kind_of}
use Rattle.vx_call.specs.Queued.{queued_kind}
use Rattle.vx_call.specs.Refusals.{unless_refused, already_holding}
use Rattle.vx_call.proofs.Contexts.{keeps_context_at}
use Rattle.vx_call.proofs.Each.{weaken}
use Rattle.vx_call.proofs.Lasting.{lasting_same, lasting_more}
use Rattle.vx_context.specs.Stores.{closed_in, ContextStore, lane_in, item_of}
use Rattle.vx_context.specs.Stands.{ContextsStand, ContextsFollow, IsNext}
use Rattle.vx_context.proofs.Items.{never_ended, mode_left}
use Rattle.vx_bus_store.proofs.Frames.{waiting_left, pools_stay}
use Rattle.vx_bus_store.proofs.Images.{map_each}
use Rattle.vx_core_tasks.specs.Named.{NameContexts}
use Rattle.vx_core_tasks.proofs.Named.{waiting_there}

-- a context that is there keeps its lanes, and so does a task of it
item_stays : (history : List Traced) (new : Traced) → made_by queued_kind history new ≡ [] → (waiting : Waiting) → is_context history waiting.context ≡ true → item_of history waiting ≡ item_of (history ++ new ∷ []) waiting
item_stays history new none waiting there =
    let after = history ++ new ∷ [] in
    let id = waiting.context in
    let item : Option Context → Mode → Item = λ context mode.
    record { entry = waiting.entry; place = waiting.place; context = id; lane = lane_in context mode; mode = mode; kind = kind_of waiting.task } in
    elim (context_at history id) as (λ o. context_at history id ≡ o → is_some o ≡ true → item_of history waiting ≡ item_of after waiting) [
      | None ↦ λ nobody some. absurd cc
      | Some context ↦ λ found some.
          ap (λ o. item o (mode_of history waiting.task)) (found ∙ sym (keeps_context_at history new id context found))
          ∙ ap (item (context_at after id)) (sym (mode_left history new none waiting.task))
    ] refl there

items_stay : (history : List Traced) (new : Traced) → made_by queued_kind history new ≡ [] → AreStored history → NameContexts history → map (item_of history) (waiting history) ≡ map (item_of (history ++ new ∷ [])) (waiting history)
items_stay history new none stored named =
    map_each (item_of history) (item_of (history ++ new ∷ [])) (waiting history)
    (weaken (λ w. is_context history w.context ≡ true) (λ w. item_of history w ≡ item_of (history ++ new ∷ []) w) (waiting history) (item_stays history new none) (waiting_there history stored named))

-- a new context
pub makes_context : (old new : ContextStore) (history : List Traced) (at : EntryNo) (pass : PassNo) → ContextsStand old history → AreStored history → NameContexts history → IsNext at history → already_holding history pass ≡ None →
    new ≡ record old { made = old.made ++ record { id = record { entry = at; instance = 0 }; maker = Some pass; lane = lanes.Own (record { entry = at; instance = 0 }); jobs = lanes.Pool } ∷ []; closings = new.closings } →
    ((id : ContextId) → closed_in id new.closings ≡ closed_in id old.closings) →
    ContextsFollow new history pass calls.NewContext (replies.Context (record { entry = at; instance = 0 }))
makes_context old new history at pass stands stored named is_next free is_new none_closed =
    let context = λ (n : ℕ). (let c : ContextId = record { entry = record { 0 = n }; instance = 0 } in c) in
    let made = λ (n : ℕ). (let c : Context = record { id = context n; maker = Some pass; lane = lanes.Own (context n); jobs = lanes.Pool } in c) in
    let entry = plain_entry pass calls.NewContext (replies.Context (context at.0)) no_mark in
    record {
      answered = ap (λ n. replies.Context (context n)) is_next ∙ sym (ap (λ r. unless_refused r (replies.Context (next_context history))) free);
      stands = record {
        made = ap (λ (s : ContextStore). s.made) is_new
            ∙ ap (λ cs. cs ++ made at.0 ∷ []) stands.made ∙ ap (λ n. contexts history ++ made n ∷ []) is_next
            ∙ sym (lasting_more context_kind history entry (never_ended history entry));
        closings = λ id. none_closed id ∙ stands.closings id ∙ sym (closed_kept history entry id (call_keeps history entry (record { call = refl; mark = refl }) refl));
        held = ap (λ (s : ContextStore). s.held) is_new ∙ stands.held ∙ sym (lasting_same held_kind history entry refl (λ h. refl));
        pools = ap (λ (s : ContextStore). s.pools) is_new ∙ stands.pools ∙ sym (pools_stay history entry refl);
        waiting = ap (λ (s : ContextStore). s.waiting) is_new ∙ stands.waiting ∙ items_stay history entry refl stored named
            ∙ ap (map (item_of (history ++ entry ∷ []))) (sym (waiting_left history entry (record { none = refl; kept = λ w. refl })));
      };
    }
