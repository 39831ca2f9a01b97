-- An outcome is handed out once, to the context that asked.
use Rattle.std.proofs.Common.{◌≡◌, ℕ, zero, suc, ◌+◌, List, [], ◌∷◌, ◌++◌, refl, ap, sym, ◌∙◌, subst, append_assoc, arith, inl, inr}
use Rattle.std.specs.Prelude.{Bool, true, false, not, ◌&&◌, ◌==◌, Option, None, Some}
use Rattle.std.proofs.lemmas.Bool.{cases_lt, and_parts, eq-eqb}
use Rattle.std.proofs.lemmas.List.{append-nil}
use Rattle.vx_data.specs.declared.ids.ContextId.{ContextId}
use Rattle.vx_data.specs.declared.ids.MessageId.{MessageId}
use Rattle.vx_data.specs.declared.ids.PassNo.{PassNo}
use Rattle.vx_message.specs.declared.Context.{Context}
use Rattle.vx_message.specs.declared.Mode.TheVariants as modes
use Rattle.vx_message.specs.declared.Lane.{Lane}
use Rattle.vx_message.specs.declared.Lane.TheVariants as lanes
use Rattle.vx_message.specs.declared.Outcome.{Outcome}
use Rattle.vx_call.specs.declared.call.Call.{Call}
use Rattle.vx_call.specs.declared.call.Call.TheVariants as calls
use Rattle.vx_call.specs.declared.reply.Task.TheVariants as tasks
use Rattle.vx_call.specs.declared.history.Traced.{Traced}
use Rattle.vx_call.specs.Contexts.{instances, context_made, context_kind, contexts, is_context_of, context_at, is_outside}
use Rattle.vx_call.specs.History.{is_accepted}
use Rattle.vx_call.specs.Given.{asker, context_of, mode_of}
use Rattle.vx_call.specs.Items.{Waiting, waiting}
use Rattle.vx_call.specs.Next.{is_lane_of, is_on, may_run, is_full}
use Rattle.vx_call.specs.Machine.{IsLegal}
use Rattle.vx_call.proofs.Lanes.{same_lane-true}
use Rattle.vx_call.proofs.Each.{Each, Each-find, accepted, by_entries, lasting_each}
use Rattle.vx_call.proofs.Found.{find_passes}
use Rattle.vx_call.proofs.Contexts.{context_at_named, keeps_context_at}
use Rattle.vx_call.proofs.Opened.{keeps_known_asker}
use Rattle.vx_call.proofs.Owners.{waiting_owned}
use Rattle.vx_laws.specs.Entries.{TakesAt}
use Rattle.vx_laws.specs.Outcomes.{HandsOutOnce, HandsToAsker}
use Rattle.vx_laws.proofs.Handed.{Handed, handed}
use Rattle.vx_laws.proofs.Gone.{takes_apart}

-- ## Once

not_twice : (history : List Traced) (i j : ℕ) (lane other_lane : Lane) (request : MessageId) (outcome other : Outcome) → IsLegal history →
    TakesAt history i lane (tasks.Outcome request outcome) → TakesAt history j other_lane (tasks.Outcome request other) → (i ≡ j → ⊥) → ⊥
not_twice history i j lane other_lane request outcome other legal one two apart =
    let no : (request.0.0 == request.0.0) ≡ false = takes_apart history i j lane other_lane (tasks.Outcome request outcome) (tasks.Outcome request other) legal one two refl refl apart in
    let yes : (request.0.0 == request.0.0) ≡ true = eq-eqb request.0.0 request.0.0 refl in
    cc

pub handed_out_once : (history : List Traced) → IsLegal history → HandsOutOnce history
handed_out_once history legal = λ i j lane other_lane request outcome other one two.
    (let none : (i ≡ j → ⊥) → ⊥ = not_twice history i j lane other_lane request outcome other legal one two in
    elim (cases_lt i j) as (λ _. i ≡ j) [
      | inl lt ↦ absurd (none (λ e. absurd (omega arith)))
      | inr le ↦ (elim (cases_lt j i) as (λ _. i ≡ j) [ inl lt ↦ absurd (none (λ e. absurd (omega arith))) | inr ge ↦ omega arith ])
    ])

-- ## To the asker

-- an outside context has a lane of its own
abbrev HasOwnLane : Context → Type 0
HasOwnLane context = is_outside (Some context) ≡ true → context.lane ≡ lanes.Own context.id

verticle_lanes : (before : List Traced) (worker : Bool) (pool : Option (List ℕ)) (number count : ℕ) → Each HasOwnLane (instances before worker pool number count)
verticle_lanes before worker pool number zero = tt
verticle_lanes before worker pool number (suc more) = (λ outside. absurd cc, verticle_lanes before worker pool (number + 1) more)

made_lanes : (history : List Traced) (pass : PassNo) (call : Call) → Each HasOwnLane (context_made history pass call)
made_lanes history pass calls.NewContext = (λ outside. refl, tt)
made_lanes history pass (calls.Deploy worker pool tell count) = verticle_lanes history worker pool 0 count
made_lanes history pass _ = tt

own_lanes : (history : List Traced) → Each HasOwnLane (contexts history)
own_lanes = lasting_each context_kind (λ history. HasOwnLane) (λ history new context stays own. own)
    (λ history new. accepted HasOwnLane (is_accepted new.entry.reply) _ (λ ok. made_lanes history new.entry.pass new.entry.call))

-- the lane of a context's handlers
context_lane : (lane : Lane) (o : Option Context) → is_lane_of lane o modes.Handler ≡ true → (context : Context) × (o ≡ Some context) × (lane ≡ context.lane)
context_lane lane None on = absurd cc
context_lane lane (Some context) on = (context, refl, same_lane-true lane context.lane on)

-- an asker stays
pub asker_on : (history after : List Traced) (request : MessageId) (context : ContextId) → asker history request ≡ Some context → asker (history ++ after) request ≡ Some context
asker_on history after request context known =
    let P : List Traced → Type 0 = λ h. asker h request ≡ Some context in
    by_entries (λ later. asker (history ++ later) request ≡ Some context) (subst P (sym (append-nil history)) known)
    (λ later new before. subst P (append_assoc history later (new ∷ [])) (keeps_known_asker (history ++ later) new request context before)) after

-- ... and so does a context
context_on : (history after : List Traced) (id : ContextId) (context : Context) → context_at history id ≡ Some context → context_at (history ++ after) id ≡ Some context
context_on history after id context found =
    let P : List Traced → Type 0 = λ h. context_at h id ≡ Some context in
    by_entries (λ later. context_at (history ++ later) id ≡ Some context) (subst P (sym (append-nil history)) found)
    (λ later new before. subst P (append_assoc history later (new ∷ [])) (keeps_context_at (history ++ later) new id context before)) after

asked : (history : List Traced) (i : ℕ) (lane : Lane) (request : MessageId) (outcome : Outcome) → Handed history i lane (tasks.Outcome request outcome) →
    (context : Context) × (asker history request ≡ Some context.id) × (context_at history context.id ≡ Some context) × (lane ≡ context.lane) × (is_outside (Some context) ≡ true → lane ≡ lanes.Own context.id)
asked history i lane request outcome take =
    let before : List Traced = take.before in
    let rest : List Traced = take.new ∷ take.after in
    let item : Waiting = take.item in
    let owned : context_of before item.task ≡ Some item.context = Each-find (λ x. context_of before x.task ≡ Some x.context) _ (waiting before) item (waiting_owned before) take.found in
    let known : asker before request ≡ Some item.context = sym (ap (context_of before) take.is_task) ∙ owned in
    let may = λ (x : Waiting). is_on before lane x && may_run before x (mode_of before x.task) in
    let passes = and_parts (not (is_full before lane)) (may item) (find_passes (λ (x : Waiting). not (is_full before lane) && may x) (waiting before) item take.found) in
    let on = and_parts (is_on before lane item) (may_run before item (mode_of before item.task)) passes.1 in
    let its = context_lane lane (context_at before item.context) (sym (ap (λ task. is_lane_of lane (context_at before item.context) (mode_of before task)) take.is_task) ∙ on.0) in
    let context : Context = its.0 in
    let same : item.context ≡ context.id = context_at_named before item.context context its.1 in (
      context,
      ap (λ (h : List Traced). asker h request) take.parts ∙ asker_on before rest request context.id (known ∙ ap (λ (c : ContextId). Some c) same),
      ap (λ (h : List Traced). context_at h context.id) take.parts ∙ context_on before rest context.id context (sym (ap (context_at before) same) ∙ its.1),
      its.2,
      λ outside. its.2 ∙ Each-find HasOwnLane (is_context_of item.context) (contexts before) context (own_lanes before) its.1 outside,
    )

pub goes_to_asker : (history : List Traced) → IsLegal history → HandsToAsker history
goes_to_asker history legal = λ i lane request outcome takes. asked history i lane request outcome (handed history i lane (tasks.Outcome request outcome) legal takes)
