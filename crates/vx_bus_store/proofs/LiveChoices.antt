-- Choices are counted only at addresses that have handlers.
use Rattle.std.proofs.Common.{◌≡◌, ℕ, List, [], ◌∷◌, ◌++◌, length, refl, ap, sym, ◌∙◌}
use Rattle.std.specs.Prelude.{Bool, true, false, not, ◌&&◌, cond, filter}
use Rattle.std.specs.Str.{bytes_eq}
use Rattle.std.proofs.lemmas.List.Sums.{length-filter}
use Rattle.std.proofs.lemmas.Slice.Eq.{bytes_eq-Decides}
use Rattle.vx_data.specs.declared.ids.ConnId.{ConnId}
use Rattle.vx_data.specs.declared.ids.ConsumerId.{ConsumerId}
use Rattle.vx_message.specs.declared.frame.InFrame.{InFrame}
use Rattle.vx_call.specs.declared.call.Call.{Call}
use Rattle.vx_call.specs.declared.call.Call.TheVariants as calls
use Rattle.vx_call.specs.declared.history.Consumer.{Consumer}
use Rattle.vx_call.specs.declared.history.Deed.{Deed}
use Rattle.vx_call.specs.declared.history.Deed.TheVariants as deeds
use Rattle.vx_call.specs.declared.history.Traced.{Traced}
use Rattle.vx_call.specs.History.{is_accepted, lasting}
use Rattle.vx_call.specs.Built.{is_stored, AreStored}
use Rattle.vx_call.specs.Registered.{consumer_made}
use Rattle.vx_call.specs.Consumers.{consumer_kind, ends_by_name, ends, consumers, handlers, is_at}
use Rattle.vx_call.specs.Choices.{is_empty, choice_kind, choice_by, choice_made, chosen_at, choices}
use Rattle.vx_call.proofs.Lasting.{lasting_same}
use Rattle.vx_call.proofs.Each.{Each, weaken, accepted, lasting_each}
use Rattle.vx_call.proofs.Quiet.{is_loud}
use Rattle.vx_call.proofs.KeepsOpen.{call_keeps}
use Rattle.vx_call.proofs.Stored.{stored_front, stored_last}
use Rattle.vx_bus_store.proofs.Frames.{consumer_kept}

-- some handler is at the address
abbrev pub HasHandlers : List Traced → List ℕ → Type 0
HasHandlers history address = is_empty (handlers history address) ≡ false

-- where the consumers stay, so do the handlers
stays_live : (history : List Traced) (new : Traced) (address : List ℕ) → consumers (history ++ new ∷ []) ≡ consumers history → HasHandlers history address → HasHandlers (history ++ new ∷ []) address
stays_live history new address same live = ap (λ cs. is_empty (filter (is_at address) cs)) same ∙ live

nothing_made : (b : Bool) → ◌≡◌ {A = List Consumer} (cond b [] []) []
nothing_made true = refl
nothing_made false = refl

-- ## As an entry is added

refused_consumers : (history : List Traced) (new : Traced) → is_accepted new.entry.reply ≡ false → consumers (history ++ new ∷ []) ≡ consumers history
refused_consumers history new refused =
    lasting_same consumer_kind history new
    (ap (λ b. cond b (consumer_made history new.entry.call new.mark.deed) []) refused)
    (λ consumer. ap (λ b. b && ends history new.entry.pass new.entry.call new.mark consumer) refused)

keeps_live : (history : List Traced) (new : Traced) (address : List ℕ) →
    (is_accepted new.entry.reply && (not (is_empty (handlers history address)) && is_empty (handlers (history ++ new ∷ []) address))) ≡ false → HasHandlers history address → HasHandlers (history ++ new ∷ []) address
keeps_live history new address stays live =
    let emptied = is_empty (handlers (history ++ new ∷ []) address) in
    elim (is_accepted new.entry.reply) as (λ b. is_accepted new.entry.reply ≡ b → (b && (not (is_empty (handlers history address)) && emptied)) ≡ false → HasHandlers (history ++ new ∷ []) address) [
      | true ↦ λ ok kept. ap (λ b. not b && emptied) (sym live) ∙ kept
      | false ↦ λ refused kept. stays_live history new address (refused_consumers history new refused) live
    ] refl stays

-- a Send and a Request leave the consumers
same_consumers : (history : List Traced) (new : Traced) → AreStored (history ++ new ∷ []) → is_loud new.entry.call ≡ false → consumer_made history new.entry.call new.mark.deed ≡ [] →
    ((id : ConsumerId) → ends_by_name new.entry.call new.mark.deed id ≡ false) → consumers (history ++ new ∷ []) ≡ consumers history
same_consumers history new stored quiet none kept =
    lasting_same consumer_kind history new
    (ap (λ cs. cond (is_accepted new.entry.reply) cs []) none ∙ nothing_made (is_accepted new.entry.reply))
    (λ consumer. consumer_kept history new consumer (call_keeps history new (stored_last history new stored) quiet) (kept consumer.id))

-- a frame that is sent may close the connection of the last handler; no call of a history whose effects the stores keep does
abbrev IsChosenLive : List Traced → List ℕ → Type 0
IsChosenLive history address = AreStored history → HasHandlers history address

chosen_live : (history after : List Traced) (is_sent : Bool) (address : List ℕ) → (HasHandlers history address → IsChosenLive after address) → Each (IsChosenLive after) (chosen_at history is_sent address)
chosen_live history after false address stays = tt
chosen_live history after true address stays =
    elim (is_empty (handlers history address)) as (λ b. (b ≡ false → IsChosenLive after address) → Each (IsChosenLive after) (cond (not b) (address ∷ []) [])) [
      | true ↦ λ live. tt
      | false ↦ λ live. (live refl, tt)
    ] stays

framed_live : (history after : List Traced) (is_sent : Bool) (deed : Deed) → (AreStored after → ⊥) → Each (IsChosenLive after) (choice_by history is_sent deed)
framed_live history after is_sent (deeds.Sends address headers body) none = chosen_live history after is_sent address (λ live stored. absurd (none stored))
framed_live history after is_sent (deeds.Requests address headers body at) none = chosen_live history after is_sent address (λ live stored. absurd (none stored))
framed_live history after is_sent _ none = tt

not_framed : (history : List Traced) (new : Traced) (conn : ConnId) (frame : InFrame) → new.entry.call ≡ calls.FrameIn conn frame → AreStored (history ++ new ∷ []) → ⊥
not_framed history new conn frame is_call stored =
    let no : true ≡ false = sym (stored_last history new stored).call ∙ ap is_stored is_call in
    cc

made_live : (history : List Traced) (new : Traced) (call : Call) → new.entry.call ≡ call → Each (IsChosenLive (history ++ new ∷ [])) (choice_made history call new.mark.deed)
made_live history new (calls.Send address body options) is_call =
    chosen_live history (history ++ new ∷ []) _ address
    (λ live stored. stays_live history new address (same_consumers history new stored (ap is_loud is_call) (ap (λ k. consumer_made history k new.mark.deed) is_call) (λ id. ap (λ k. ends_by_name k new.mark.deed id) is_call)) live)
made_live history new (calls.Request context address body options timeout once) is_call =
    chosen_live history (history ++ new ∷ []) _ address
    (λ live stored. stays_live history new address (same_consumers history new stored (ap is_loud is_call) (ap (λ k. consumer_made history k new.mark.deed) is_call) (λ id. ap (λ k. ends_by_name k new.mark.deed id) is_call)) live)
made_live history new (calls.FrameIn conn frame) is_call = framed_live history (history ++ new ∷ []) _ new.mark.deed (not_framed history new conn frame is_call)
made_live history new _ is_call = tt

choices_live : (history : List Traced) → Each (IsChosenLive history) (lasting choice_kind history)
choices_live = lasting_each choice_kind IsChosenLive (λ history new address stays live stored. keeps_live history new address stays (live (stored_front history (new ∷ []) stored)))
    (λ history new. accepted (IsChosenLive (history ++ new ∷ [])) (is_accepted new.entry.reply) (choice_made history new.entry.call new.mark.deed) (λ ok. made_live history new new.entry.call refl))

-- ## The count

none_counted : (p : List ℕ → Bool) (xs : List (List ℕ)) → Each (λ x. p x ≡ false) xs → length (filter p xs) ≡ 0
none_counted p [] none = refl
none_counted p (x ∷ xs) none = ap (λ b. length (cond b (x ∷ filter p xs) (filter p xs))) none.0 ∙ none_counted p xs none.1

other_address : (history : List Traced) (address other : List ℕ) → is_empty (handlers history address) ≡ true → HasHandlers history other → bytes_eq address other ≡ false
other_address history address other none live =
    elim (bytes_eq address other) as (λ b. (b ≡ true → address ≡ other) → b ≡ false) [
      | true ↦ λ same. (let one : is_empty (handlers history address) ≡ is_empty (handlers history other) = ap (λ a. is_empty (handlers history a)) (same refl) in absurd cc)
      | false ↦ λ same. refl
    ] (bytes_eq-Decides address other).0

-- where an address has no handlers, no choices are counted
pub no_choices : (history : List Traced) (address : List ℕ) → AreStored history → is_empty (handlers history address) ≡ true → choices history address ≡ 0
no_choices history address stored none =
    sym (length-filter (bytes_eq address) (lasting choice_kind history))
    ∙ none_counted (bytes_eq address) (lasting choice_kind history)
    (weaken (IsChosenLive history) (λ other. bytes_eq address other ≡ false) (lasting choice_kind history) (λ other live. other_address history address other none (live stored)) (choices_live history))
