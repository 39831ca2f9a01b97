-- What stays in a history of calls whose effects the stores keep: no connection is closed, no request ends as a context closes, and a context's
-- handler gets what arrives at a live consumer.
use Rattle.std.proofs.Common.{◌≡◌, List, [], ◌∷◌, ◌++◌, refl, ap, sym, ◌∙◌}
use Rattle.std.specs.Prelude.{Bool, true, false, not, ◌&&◌, ◌||◌, filter, map, Option, None, Some}
use Rattle.std.specs.List.{cons_option}
use Rattle.std.specs.Option.{option_map}
use Rattle.std.proofs.lemmas.List.{map-append}
use Rattle.vx_data.specs.declared.ids.ContextId.{ContextId}
use Rattle.vx_data.specs.declared.ids.PassNo.{PassNo}
use Rattle.vx_message.specs.declared.Held.{Held}
use Rattle.vx_call.specs.declared.call.Call.{Call}
use Rattle.vx_call.specs.declared.history.Consumer.{Consumer}
use Rattle.vx_call.specs.declared.history.Traced.{Traced}
use Rattle.vx_call.specs.History.{made_by, ended_by}
use Rattle.vx_call.specs.Built.{AreStored}
use Rattle.vx_call.specs.Pools.{pool_kind}
use Rattle.vx_call.specs.Owners.{context_owning}
use Rattle.vx_call.specs.Homes.{Home, homes}
use Rattle.vx_call.specs.Mailboxes.{arrival_for, arrival_at}
use Rattle.vx_call.specs.Askers.{Asker, is_asked_by}
use Rattle.vx_call.specs.Requests.{Open, closes_asker, is_lost_at}
use Rattle.vx_call.specs.Held.{held_kind}
use Rattle.vx_call.specs.Items.{Waiting, waiting}
use Rattle.vx_call.proofs.Lasting.{filter_all, lasting_same}
use Rattle.vx_call.proofs.Consumers.{IsLive}
use Rattle.vx_call.proofs.Stored.{live_of_context}
use Rattle.vx_call.proofs.KeepsOpen.{KeepsOpen, closed_kept}
use Rattle.vx_context.specs.Stores.{ContextStore, closed_in, item_of}
use Rattle.vx_context.specs.Stands.{ContextsStand}
use Rattle.vx_context.proofs.Items.{LeavesItems, contexts_stay, items_left}
use Rattle.vx_bus_store.specs.Stores.{handler_of, next_arrival}
use Rattle.vx_bus_store.proofs.Frames.{pools_stay}
use Rattle.vx_bus_store.proofs.KeptRequests.{none_shut, or_false, asker_open, home_open}

-- ## Requests

-- a request ends where the call settles it
pub settled_alone : (settles : Bool) (asker : Asker) → (settles || is_asked_by [] asker) ≡ settles
settled_alone settles asker = ap (λ b. settles || b) (none_shut asker) ∙ or_false settles

-- and all that an entry opens stay
pub all_asked : (requests : List Open) → filter (λ (request : Open). not (is_asked_by [] request.asker)) requests ≡ requests
all_asked = filter_all (λ (request : Open). not (is_asked_by [] request.asker)) (λ request. ap not (none_shut request.asker))

-- a request that ends as a context or a connection closes stays open
pub request_stays : (history : List Traced) (new : Traced) (request : Open) → KeepsOpen history new →
    ((closes_asker history new.entry.pass new.entry.call request.asker || is_lost_at history new.entry.pass new.entry.call request request.home) || is_asked_by [] request.asker) ≡ false
request_stays history new request keeps =
    ap (λ b. (b || is_lost_at history new.entry.pass new.entry.call request request.home) || is_asked_by [] request.asker) (asker_open history new request.asker keeps)
    ∙ ap (λ b. b || is_asked_by [] request.asker) (home_open history new request request.home keeps)
    ∙ none_shut request.asker

-- ## The contexts

-- an entry that makes and closes no context, makes no pool, hands no code to a context, hands out no task and finishes none
pub record KeepsContexts (history : List Traced) (new : Traced) : Type 0 where
  pub keeps : KeepsOpen history new
  pub items : LeavesItems history new
  pub pools : made_by pool_kind history new ≡ []
  pub held : made_by held_kind history new ≡ []
  pub finished : (held : Held) → ended_by held_kind history new held ≡ false

-- the contexts then, with what it makes ready
pub contexts_more : (old new_store : ContextStore) (history : List Traced) (new : Traced) (made : List Waiting) → KeepsContexts history new → waiting (history ++ new ∷ []) ≡ waiting history ++ made →
    ContextsStand old history → new_store ≡ record old { waiting = old.waiting ++ map (item_of history) made; room = new_store.room } → ContextsStand new_store (history ++ new ∷ [])
contexts_more old new_store history new made keeps more stands is_new = record {
  made = ap (λ (s : ContextStore). s.made) is_new ∙ stands.made ∙ sym (contexts_stay history new keeps.items.contexts);
  closings = λ id. ap (λ (s : ContextStore). closed_in id s.closings) is_new ∙ stands.closings id ∙ sym (closed_kept history new id keeps.keeps);
  held = ap (λ (s : ContextStore). s.held) is_new ∙ stands.held ∙ sym (lasting_same held_kind history new keeps.held keeps.finished);
  pools = ap (λ (s : ContextStore). s.pools) is_new ∙ stands.pools ∙ sym (pools_stay history new keeps.pools);
  waiting = ap (λ (s : ContextStore). s.waiting) is_new
      ∙ ap (λ items. items ++ map (item_of history) made) stands.waiting
      ∙ sym (map-append (item_of history) (waiting history) made)
      ∙ ap (map (item_of history)) (sym more)
      ∙ sym (items_left history new keeps.items (waiting (history ++ new ∷ [])));
}

-- ## Consumers

abbrev pub home_with : Consumer → ContextId → Home
home_with consumer context = record { consumer = consumer; context = context }

-- a live consumer is a context's
pub home_first : {X : Type 0} (f : List Home → X) (history : List Traced) (consumer : Consumer) (others : List Consumer) (stored : AreStored history) (is_live : IsLive history consumer) →
    f (homes (consumer ∷ others)) ≡ f (home_with consumer (live_of_context history consumer stored is_live).0 ∷ homes others)
home_first f history consumer others stored is_live =
    ap (λ owner. f (cons_option (option_map (home_with consumer) (context_owning owner)) (homes others))) (live_of_context history consumer stored is_live).1

-- a message arrives at a live consumer as its mailbox allows
pub arrives_here : (history : List Traced) (consumer : Consumer) → AreStored history → IsLive history consumer → arrival_at history consumer ≡ next_arrival (handler_of history consumer)
arrives_here history consumer stored is_live = ap (λ owner. arrival_for history owner consumer) (live_of_context history consumer stored is_live).1
