-- Deployments end from below, and a context that is closed is at rest.
use Rattle.std.proofs.Common.{◌≡◌, ℕ, ◌<◌, List, [], ◌∷◌, ◌++◌, length, refl, ap, sym, ◌∙◌, subst, append_assoc, arith, inl, inr}
use Rattle.std.specs.Prelude.{true, false, not, ◌==◌, ◌||◌, None, Some}
use Rattle.std.proofs.lemmas.Bool.{eq-eqb, eqb-true}
use Rattle.std.proofs.lemmas.List.{append-nil, length_push}
use Rattle.vx_data.specs.declared.ids.ContextId.{ContextId}
use Rattle.vx_data.specs.declared.ids.DeploymentId.{DeploymentId}
use Rattle.vx_data.specs.declared.ids.PassNo.{PassNo}
use Rattle.vx_message.specs.declared.Held.{Held}
use Rattle.vx_message.specs.declared.Lane.{Lane}
use Rattle.vx_call.specs.declared.call.Call.{Call}
use Rattle.vx_call.specs.declared.call.Call.TheVariants as calls
use Rattle.vx_call.specs.declared.reply.Reply.{Reply}
use Rattle.vx_call.specs.declared.reply.Reply.TheVariants as replies
use Rattle.vx_call.specs.declared.reply.Task.{Task}
use Rattle.vx_call.specs.declared.reply.Task.TheVariants as tasks
use Rattle.vx_call.specs.declared.history.Traced.{Traced}
use Rattle.vx_call.specs.History.{is_accepted}
use Rattle.vx_call.specs.Given.{context_of}
use Rattle.vx_call.specs.Held.{held_made, held_kind, held}
use Rattle.vx_call.specs.Deployments.{Deployment, deployment_of, deployments, is_among}
use Rattle.vx_call.specs.Closings.{is_open, closed_at}
use Rattle.vx_call.specs.There.{is_child_of, is_deployment, there, is_gone}
use Rattle.vx_call.specs.Items.{Waiting, waiting}
use Rattle.vx_call.specs.Machine.{IsLegal, answer}
use Rattle.vx_call.proofs.Each.{Each, Each-both, Each-find, accepted, by_entries, lasting_each}
use Rattle.vx_call.proofs.Gone.{deployment_key, deployments_rising}
use Rattle.vx_call.proofs.Items.{Among, each_among, all_among}
use Rattle.vx_call.proofs.Legal.{legal_front}
use Rattle.vx_call.proofs.Once.{any_none, any_each}
use Rattle.vx_call.proofs.Owners.{waiting_owned, keeps_context}
use Rattle.vx_call.proofs.Quiet.{is_loud}
use Rattle.vx_call.proofs.Rising.{IsRising}
use Rattle.vx_laws.specs.Entries.{TakesAt}
use Rattle.vx_laws.specs.Undeploying.{StopsAfterChildren, TakesNothingOfClosed, FinishesWhatRan, EndsInOrder}
use Rattle.vx_laws.proofs.Splits.{slice_get-at, slice_get-front}
use Rattle.vx_laws.proofs.Handed.{handed, waited}
use Rattle.vx_laws.proofs.Closed.{closed_shut, closed_behind}
use Rattle.vx_laws.proofs.Childless.{IsChildless, deployments_earlier, no_child_added, each_there}
use Rattle.vx_laws.proofs.Opened.{open_on}
use Rattle.vx_laws.proofs.Resting.{Rests, IsAtRest, waiting_rests}

-- ## Children first

-- two deployments of one name are one
one_of_name : (all : List Deployment) (a b : Deployment) → IsRising deployment_key all → Among a all → Among b all → deployment_key a ≡ deployment_key b → a ≡ b
one_of_name [] a b rising one two same = absurd one
one_of_name (d ∷ others) a b rising one two same =
    elim one as (λ _. a ≡ b) [
      | inl first ↦
          (elim two as (λ _. a ≡ b) [
            | inl second ↦ first ∙ sym second
            | inr later ↦ absurd (let less = each_among (λ y. deployment_key d < deployment_key y) b others later rising.0 in let e = ap deployment_key first in omega arith)
          ])
      | inr earlier ↦
          (elim two as (λ _. a ≡ b) [
            | inl second ↦ absurd (let less = each_among (λ y. deployment_key d < deployment_key y) a others earlier rising.0 in let e = ap deployment_key second in omega arith)
            | inr later ↦ one_of_name others a b rising.1 earlier later same
          ])
    ]

-- a child of a deployment that has none any more is gone
child_gone : (history : List Traced) (id : DeploymentId) (child : Deployment) → IsChildless id history → Among child (deployments history) → is_child_of id child ≡ true → is_gone history child.id ≡ true
child_gone history id child childless among is_child =
    let No : Deployment → Type 0 = λ d. is_child_of id d ≡ false in
    let Old : Deployment → Type 0 = λ d. Among d (deployments history) in
    ap not
    (any_none (is_deployment child.id) (there history)
    (Each-both No Old (λ d. is_deployment child.id d ≡ false) (there history)
    (λ d other old.
    elim (is_deployment child.id d) as (λ b. is_deployment child.id d ≡ b → b ≡ false) [
      | true ↦ λ same.
          (let e : child ≡ d = one_of_name (deployments history) child d (deployments_rising history) among old (eqb-true child.id.0.0 d.id.0.0 same) in
          let yes : is_child_of id d ≡ true = ap (is_child_of id) (sym e) ∙ is_child in
          cc)
      | false ↦ λ differs. refl
    ] refl)
    (any_each (is_child_of id) (there history) childless.none)
    (each_there Old _ _ (deployments history) (all_among (deployments history)))))

same_self : (n : ℕ) → (n == n) ≡ true
same_self n = eq-eqb n n refl

has_parent : (id : DeploymentId) (child : Deployment) → child.parent ≡ Some id → is_child_of id child ≡ true
has_parent id child is_parent = ap (is_among (id ∷ [])) is_parent ∙ ap (λ b. b || false) (same_self id.0.0)

-- the next task of a lane rests
next_rests : (history : List Traced) (pass : PassNo) (lane : Lane) (task : Task) → IsLegal history → replies.Task task ≡ answer history pass (calls.Take lane) → (item : Waiting) × Rests history item.context item.task × (item.task ≡ task) × (context_of history item.task ≡ Some item.context)
next_rests history pass lane task legal answered =
    let found = waited history pass lane task answered in
    let item : Waiting = found.0 in (
      item,
      Each-find (λ (x : Waiting). Rests history x.context x.task) _ (waiting history) item (waiting_rests history legal) found.1,
      found.2,
      Each-find (λ (x : Waiting). context_of history x.task ≡ Some x.context) _ (waiting history) item (waiting_owned history) found.1,
    )

stops_after_children : (history : List Traced) → IsLegal history → StopsAfterChildren history
stops_after_children history legal = λ before new after lane context child parts called replied found is_parent.
    (let rest : List Traced = new ∷ after in
    let whole : IsLegal (before ++ rest) = subst IsLegal parts legal in
    let front = legal_front before rest whole in
    let may = legal before new after parts in
    let id = deployment_of context in
    let task = tasks.Stop context in
    let it = next_rests before new.entry.pass lane task front (sym replied ∙ may.answered ∙ ap (answer before new.entry.pass) called) in
    let childless : IsChildless id before = subst (IsAtRest before) it.2 it.1.childless in
    let Old : Deployment → Type 0 = λ d. d.parent ≡ Some id → Among d (deployments before) in
    let all : Each Old (deployments history) = subst (λ h. Each Old (deployments h)) (sym parts) (no_child_added id before rest whole childless.asked) in
    let old : Among child (deployments before) = Each-find Old (is_deployment child.id) (deployments history) child all found is_parent in (
      each_among (λ d. deployment_key d < length before) child (deployments before) old (deployments_earlier before),
      child_gone before id child childless old (has_parent id child is_parent),
    ))

-- ## What is closed is at rest

context_later : (history after : List Traced) (task : Task) (context : ContextId) → context_of history task ≡ Some context → context_of (history ++ after) task ≡ Some context
context_later history after task context owned =
    let P : List Traced → Type 0 = λ h. context_of h task ≡ Some context in
    by_entries (λ later. context_of (history ++ later) task ≡ Some context) (subst P (sym (append-nil history)) owned)
    (λ later new before. subst P (append_assoc history later (new ∷ [])) (keeps_context (history ++ later) new task context before)) after

-- what is open is not closed
open_unclosed : (history : List Traced) (context : ContextId) → is_open history context ≡ true → closed_at history context ≡ None
open_unclosed history context here =
    elim (closed_at history context) as (λ o. closed_at history context ≡ o → o ≡ None) [
      | None ↦ λ none. refl
      | Some at ↦ λ some. absurd (let no = (closed_shut history context at some).gone in cc)
    ] refl

takes_nothing_of_closed : (history : List Traced) → IsLegal history → TakesNothingOfClosed history
takes_nothing_of_closed history legal = λ i lane task context at takes is_context closed.
    (let take = handed history i lane task legal takes in
    let before : List Traced = take.before in
    let new : Traced = take.new in
    let whole : IsLegal (before ++ new ∷ take.after) = subst IsLegal take.parts legal in
    let front = legal_front before (new ∷ take.after) whole in
    let item : Waiting = take.item in
    let rests : Rests before item.context item.task = Each-find (λ (x : Waiting). Rests before x.context x.task) _ (waiting before) item (waiting_rests before front) take.found in
    let owned : context_of before item.task ≡ Some item.context = Each-find (λ (x : Waiting). context_of before x.task ≡ Some x.context) _ (waiting before) item (waiting_owned before) take.found in
    let its : context_of history task ≡ Some item.context =
    ap (λ h. context_of h task) take.parts ∙ context_later before (new ∷ take.after) task item.context (sym (ap (context_of before) take.is_task) ∙ owned) in
    let same : item.context ≡ context = cc in
    let here : is_open before context ≡ true = subst (λ c. is_open before c ≡ true) same rests.here in
    let next_open : is_open (before ++ new ∷ []) context ≡ true = open_on before new context (ap is_loud take.called) here in
    let split : (before ++ new ∷ []) ++ take.after ≡ history = append_assoc before (new ∷ []) take.after ∙ sym take.parts in
    let later = closed_behind (before ++ new ∷ []) take.after context (open_unclosed (before ++ new ∷ []) context next_open) at (ap (λ h. closed_at h context) split ∙ closed) in
    let longer = length_push before new in
    let e = take.at in
    omega arith)

-- ## What is finished had run

-- a task that is held was handed out by a Take, and is of the context that it was of then
record WasTaken (history : List Traced) (h : Held) : Type 0 where
  pub task : Task
  pub takes : TakesAt history h.at.0 h.lane task
  pub owned : (context : ContextId) → h.context ≡ Some context → context_of history task ≡ Some context

keeps_taken : (history : List Traced) (new : Traced) (h : Held) → WasTaken history h → WasTaken (history ++ new ∷ []) h
keeps_taken history new h taken =
    let takes = taken.takes in
    record {
      task = taken.task;
      takes = record { entry = takes.entry; is_there = slice_get-front history (new ∷ []) h.at.0 takes.entry takes.is_there; called = takes.called; replied = takes.replied };
      owned = λ context its. keeps_context history new taken.task context (taken.owned context its);
    }

made_taken : (history : List Traced) (new : Traced) (call : Call) (reply : Reply) → new.entry.call ≡ call → new.entry.reply ≡ reply → Each (WasTaken (history ++ new ∷ [])) (held_made history new.entry.pass call reply)
made_taken history new (calls.Take lane) (replies.Task task) is_call is_reply = (
  record {
    task = task;
    takes = record { entry = new; is_there = slice_get-at history [] new; called = is_call; replied = is_reply };
    owned = λ context its. keeps_context history new task context its;
  },
  tt,
)
made_taken history new (calls.Take lane) _ is_call is_reply = tt
made_taken history new _ reply is_call is_reply = tt

held_taken : (history : List Traced) → Each (WasTaken history) (held history)
held_taken = lasting_each held_kind WasTaken (λ history new h stays taken. keeps_taken history new h taken)
    (λ history new. accepted (WasTaken (history ++ new ∷ [])) (is_accepted new.entry.reply) _ (λ ok. made_taken history new new.entry.call new.entry.reply refl refl))

finishes_what_ran : (history : List Traced) → IsLegal history → FinishesWhatRan history
finishes_what_ran history legal = λ before new after end h context at parts called ok holds its closed.
    (let whole : IsLegal (before ++ new ∷ after) = subst IsLegal parts legal in
    let taken : WasTaken before h = Each-find (WasTaken before) _ (held before) h (held_taken before) holds in
    takes_nothing_of_closed before (legal_front before (new ∷ after) whole) h.at.0 h.lane taken.task context at taken.takes (taken.owned context its) closed)

pub end_in_order : (history : List Traced) → IsLegal history → EndsInOrder history
end_in_order history legal = record {
  children = stops_after_children history legal;
  rests = takes_nothing_of_closed history legal;
  ran = finishes_what_ran history legal;
}
