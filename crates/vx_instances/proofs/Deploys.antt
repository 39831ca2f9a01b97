-- A Deploy, and what is kept of the verticles that it brings.
use Rattle.std.proofs.Common.{◌≡◌, ℕ, zero, suc, ◌+◌, ◌≤◌, ◌<◌, List, [], ◌∷◌, ◌++◌, length, refl, ap, sym, ◌∙◌, append_assoc, arith}
use Rattle.std.specs.Prelude.{Bool, true, false, not, cond, ◌==◌, ℤ, filter, find, map, slice_get, Option, None, Some}
use Rattle.std.specs.List.{list_any}
use Rattle.std.specs.Option.{option_to_list}
use Rattle.std.proofs.lemmas.Bool.{eq-eqb}
use Rattle.std.proofs.lemmas.Bool.Decides.{nat_tests}
use Rattle.std.proofs.lemmas.List.{length_push, map-append}
use Rattle.std.proofs.lemmas.List.Elements.{filter-append}
use Rattle.vx_data.specs.declared.ids.ContextId.{ContextId}
use Rattle.vx_data.specs.declared.ids.DeploymentId.{DeploymentId}
use Rattle.vx_data.specs.declared.ids.PassNo.{PassNo}
use Rattle.vx_message.specs.declared.Context.{Context}
use Rattle.vx_message.specs.declared.Held.{Held}
use Rattle.vx_call.specs.declared.call.Call.{Call}
use Rattle.vx_call.specs.declared.call.Call.TheVariants as calls
use Rattle.vx_call.specs.declared.reply.Reply.TheVariants as replies
use Rattle.vx_call.specs.declared.history.Mark.{Mark}
use Rattle.vx_call.specs.declared.history.Traced.{Traced}
use Rattle.vx_call.specs.History.{entry_of, is_accepted, made_by, ended_by, lasting}
use Rattle.vx_call.specs.Closings.{open_context_kind, open_contexts}
use Rattle.vx_call.specs.Contexts.{instance, is_context_of}
use Rattle.vx_call.specs.Contexts as contexts
use Rattle.vx_call.specs.Held.{held, held_kind, held_context, is_of_context, context_held, runs}
use Rattle.vx_call.specs.Machine.{IsLegal}
use Rattle.vx_call.specs.Names.{next_entry}
use Rattle.vx_call.specs.States.{state_made, state_kind, state_at}
use Rattle.vx_call.proofs.Lasting.{lasting-append, lasting_same, lasting_more, lasting_none}
use Rattle.vx_call.proofs.Each.{Each, Each-filter, by_entries}
use Rattle.vx_call.proofs.Contexts.{context_key}
use Rattle.vx_call.proofs.Filters.{filter_every}
use Rattle.vx_call.proofs.Legal.{legal_front}
use Rattle.vx_laws.proofs.Running.{held_of_made, held_not_later, none_of_later, open_before}
use Rattle.vx_laws.proofs.Splits.{slice_get-at}
use Rattle.vx_instances.specs.Kept.{Kept, kept_from}
use Rattle.vx_instances.specs.Instances.{kept_of, is_of_verticle, instances}
use Rattle.vx_instances.proofs.Maps.{map_each}
use Rattle.vx_instances.proofs.Rows.{verticles}

-- ## A context that is not made yet has no state

late_made : (id : ContextId) (history : List Traced) (new : Traced) (call : Call) → length history < id.entry.0 → is_of_context id (held_context history new.entry.pass) ≡ false → state_made id history new call ≡ []
late_made id history new (calls.Deploy worker pool tell count) later other = ap (λ b. cond b (option_to_list (slice_get new.states id.instance)) []) (let e : (length history == id.entry.0) ≡ false = grind (arith, nat_tests) in e)
late_made id history new (calls.Finish end) later other = ap (λ b. cond b new.states []) other
late_made id history new _ later other = refl

if_none : {A : Type 0} (b : Bool) (xs : List A) → xs ≡ [] → cond b xs [] ≡ []
if_none true xs none = none
if_none false xs none = refl

abbrev IsStateless : List Traced → Type 0
IsStateless history = IsLegal history → (id : ContextId) → length history ≤ id.entry.0 → lasting (state_kind id) history ≡ []

pub no_state : (history : List Traced) → IsStateless history
no_state =
    by_entries IsStateless (λ legal id later. lasting_none (state_kind id))
    (λ history new before legal id later.
    let longer = length_push history new in
    let front = legal_front history (new ∷ []) legal in
    let early : lasting (state_kind id) history ≡ [] = before front id (omega arith) in
    let other = held_not_later (length history) id new.entry.pass (held history) (omega arith) (held_of_made history front) in
    lasting-append (state_kind id) history new
    ∙ ap (λ ss. filter (λ state. not (ended_by (state_kind id) history new state)) ss ++ made_by (state_kind id) history new) early
    ∙ if_none (is_accepted new.entry.reply) _ (late_made id history new new.entry.call (omega arith) other))

-- ## A Deploy

module _ (history : List Traced) (legal : IsLegal history) (pass : PassNo) (worker : Bool) (pool : Option (List ℕ)) (tell : Option ContextId) (id : DeploymentId) (states : List (List ℤ)) (mark : Mark) where
  abbrev deploying : ℕ → Traced
  deploying count = entry_of pass (calls.Deploy worker pool tell count) (replies.Deployment id) states mark

  abbrev deployed : ℕ → List Traced
  deployed count = history ++ deploying count ∷ []

  deploy_held : (count : ℕ) → held (deployed count) ≡ held history
  deploy_held count = lasting_same held_kind history (deploying count) refl (λ h. refl)

  deploy_runs : (count : ℕ) (c : ContextId) → runs (deployed count) c ≡ runs history c
  deploy_runs count c = ap (list_any (λ (h : Held). is_of_context c (context_held h))) (deploy_held count)

  -- of a context that was there nothing changes
  deploy_others : (count : ℕ) (c : Context) → context_key c < length history → kept_of (deployed count) c ≡ kept_of history c
  deploy_others count c before =
      let none : (length history == c.id.entry.0) ≡ false = grind (arith, nat_tests) in
      let same = ap (find (λ state. true)) (lasting_same (state_kind c.id) history (deploying count) (ap (λ b. cond b (option_to_list (slice_get states c.id.instance)) []) none) (λ state. refl)) in
      ap (λ b. record { context = c.id; state = cond b None (state_at (deployed count) c.id) }) (deploy_runs count c.id) ∙ ap (λ s. record { context = c.id; state = cond (runs history c.id) None s }) same

  -- the state of a new one is the one that came with it
  deploy_new : (count number : ℕ) (state : List ℤ) → slice_get states number ≡ Some state → kept_of (deployed count) (instance history worker pool number) ≡ record { context = record { entry = next_entry history; instance = number }; state = Some state }
  deploy_new count number state is =
      let c : ContextId = record { entry = next_entry history; instance = number } in
      let free : runs (deployed count) c ≡ false = deploy_runs count c ∙ none_of_later (length history) c (held history) (omega arith) (held_of_made history legal) in
      let its : (length history == length history) ≡ true = eq-eqb (length history) (length history) refl in
      let all : lasting (state_kind c) (deployed count) ≡ state ∷ [] =
      lasting-append (state_kind c) history (deploying count)
      ∙ ap (λ ss. filter (λ state. not (ended_by (state_kind c) history (deploying count) state)) ss ++ made_by (state_kind c) history (deploying count)) (no_state history legal c (omega arith))
      ∙ ap (λ b. cond b (option_to_list (slice_get states number)) []) its ∙ ap option_to_list is in
      ap (λ b. record { context = c; state = cond b None (state_at (deployed count) c) }) free ∙ ap (λ ss. record { context = c; state = find (λ state. true) ss }) all

  new_ones : (count number : ℕ) (front rest : List (List ℤ)) → states ≡ front ++ rest → length front ≡ number → map (kept_of (deployed count)) (contexts.instances history worker pool number (length rest)) ≡ kept_from (next_entry history) number rest
  new_ones count number front [] parts at = refl
  new_ones count number front (state ∷ rest) parts at =
      let c : ContextId = record { entry = next_entry history; instance = number } in
      let here : slice_get states number ≡ Some state = ap (λ n. slice_get states n) (sym at) ∙ ap (λ ss. slice_get ss (length front)) parts ∙ slice_get-at front rest state in
      let longer = length_push front state in
      ap (λ (k : Kept). k ∷ map (kept_of (deployed count)) (contexts.instances history worker pool (number + 1) (length rest))) (deploy_new count number state here)
      ∙ ap (λ ks. record { context = c; state = Some state } ∷ ks) (new_ones count (number + 1) (front ++ state ∷ []) rest (parts ∙ sym (append_assoc front (state ∷ []) rest)) (omega arith))

  all_verticles : (number count : ℕ) → Each (λ c. is_of_verticle c ≡ true) (contexts.instances history worker pool number count)
  all_verticles number zero = tt
  all_verticles number (suc count) = (refl, all_verticles (number + 1) count)

  -- the verticles come behind those that are there, each with its state
  pub deploy_row : (count : ℕ) → length states ≡ count → instances (deployed count) ≡ instances history ++ kept_from (next_entry history) 0 states
  deploy_row count many =
      let made = contexts.instances history worker pool 0 count in
      let more : verticles (deployed count) ≡ verticles history ++ made =
      ap (filter is_of_verticle) (lasting_more open_context_kind history (deploying count) (λ c. refl)) ∙ filter-append is_of_verticle (open_contexts history) made
      ∙ ap (λ cs. verticles history ++ cs) (filter_every is_of_verticle made (all_verticles 0 count)) in
      ap (map (kept_of (deployed count))) more ∙ map-append (kept_of (deployed count)) (verticles history) made
      ∙ ap (λ ks. ks ++ map (kept_of (deployed count)) made)
      (map_each (kept_of (deployed count)) (kept_of history) (verticles history)
      (Each-filter (λ c. context_key c < length history) (λ c. kept_of (deployed count) c ≡ kept_of history c) is_of_verticle (open_contexts history) (λ c passes before. deploy_others count c before) (open_before history)))
      ∙ ap (λ ks. instances history ++ ks) (ap (λ n. map (kept_of (deployed count)) (contexts.instances history worker pool 0 n)) (sym many) ∙ new_ones count 0 [] states refl refl)
