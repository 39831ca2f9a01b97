-- The verticle that a Take hands out is the one that is kept, and has the state that the history says.
use Rattle.std.proofs.Common.{◌≡◌, ℕ, zero, suc, ◌+◌, ◌<◌, List, [], ◌∷◌, ◌++◌, length, refl, ap, sym, ◌∙◌, arith}
use Rattle.std.specs.Prelude.{Bool, true, false, not, cond, ◌&&◌, ◌||◌, ℤ, filter, find, slice_get, is_some, Option, None, Some}
use Rattle.std.specs.List.{list_any}
use Rattle.std.specs.Option.{option_to_list}
use Rattle.std.proofs.lemmas.Bool.{eq-eqb}
use Rattle.vx_data.specs.declared.ids.ContextId.{ContextId}
use Rattle.vx_data.specs.declared.ids.DeploymentId.{DeploymentId}
use Rattle.vx_data.specs.declared.ids.PassNo.{PassNo}
use Rattle.vx_message.specs.declared.Context.{Context}
use Rattle.vx_message.specs.declared.Lane.{Lane}
use Rattle.vx_message.specs.declared.Lane.TheVariants as lanes
use Rattle.vx_message.specs.declared.Mode.{Mode}
use Rattle.vx_message.specs.declared.Mode.TheVariants as modes
use Rattle.vx_call.specs.declared.call.Call.{Call}
use Rattle.vx_call.specs.declared.call.Call.TheVariants as calls
use Rattle.vx_call.specs.declared.call.End.{End}
use Rattle.vx_call.specs.declared.reply.Reply.TheVariants as replies
use Rattle.vx_call.specs.declared.reply.Task.{Task}
use Rattle.vx_call.specs.declared.history.Mark.{Mark}
use Rattle.vx_call.specs.declared.history.Traced.{Traced}
use Rattle.vx_call.specs.History.{is_accepted, made_by, ended_by, lasting}
use Rattle.vx_call.specs.Closings.{closing_by, open_context_kind, open_contexts, is_open}
use Rattle.vx_call.specs.Contexts.{context_at, context_made, instance, is_context_of, is_verticle}
use Rattle.vx_call.specs.Contexts as contexts
use Rattle.vx_call.specs.Deployments.{deployment_of, deployment_of_held}
use Rattle.vx_call.specs.Given.{context_of, mode_of}
use Rattle.vx_call.specs.Held.{held_context, handler_context, is_of_context, runs}
use Rattle.vx_call.specs.Machine.{IsLegal, MayFollow, answer}
use Rattle.vx_call.specs.States.{states_due, state_made, states_ended, state_kind, state_at}
use Rattle.vx_call.proofs.Lasting.{lasting-append, filter_all, and_false}
use Rattle.vx_call.proofs.Each.{Each, Each-both, Each-filter, lasting_each, accepted}
use Rattle.vx_call.proofs.Contexts.{same_context-self, same_context-true, keeps_context_at}
use Rattle.vx_call.proofs.Legal.{legal_front}
use Rattle.vx_call.proofs.Once.{any_each, any_none}
use Rattle.vx_call.proofs.Tasks.{some_front, some_behind}
use Rattle.vx_laws.proofs.Overlap.{not_running}
use Rattle.vx_laws.proofs.Running.{open_found, open_is_there, made_found, taken_open, some_passes, holds_taken}
use Rattle.vx_instances.specs.Kept.{Kept, put_if, state_if, state_in, put_at, without_any}
use Rattle.vx_instances.specs.Instances.{is_of_verticle, instances, handler_in, verticle_state, gives, gave}
use Rattle.vx_instances.proofs.Maps.{IsAway, state_map, away_map, without_map}
use Rattle.vx_instances.proofs.Rows.{verticles, verticles_apart, finishing, finished, finish_its}

-- ## Whether a context is kept

-- an open context that has this name is the one that is found by it
named : (history : List Traced) (id : ContextId) (c : Context) → context_at history c.id ≡ Some c → is_context_of id c ≡ true → is_verticle (context_at history id) ≡ is_of_verticle c
named history id c found its = ap (λ i. is_verticle (context_at history i)) (same_context-true id c.id its) ∙ ap is_verticle found

any_kept : (history : List Traced) (id : ContextId) → is_verticle (context_at history id) ≡ true → (cs : List Context) → Each (λ c. context_at history c.id ≡ Some c) cs → list_any (is_context_of id) cs ≡ true → list_any (is_context_of id) (filter is_of_verticle cs) ≡ true
any_kept history id verticle [] found any = any
any_kept history id verticle (c ∷ cs) found any =
    let rest = filter is_of_verticle cs in
    elim (is_context_of id c) as (λ b. is_context_of id c ≡ b → (b || list_any (is_context_of id) cs) ≡ true → list_any (is_context_of id) (cond (is_of_verticle c) (c ∷ rest) rest) ≡ true) [
      | true ↦ λ its any.
          ap (λ b. list_any (is_context_of id) (cond b (c ∷ rest) rest)) (sym (named history id c found.0 its) ∙ verticle) ∙ ap (λ b. b || list_any (is_context_of id) rest) its
      | false ↦ λ other any.
          (elim (is_of_verticle c) as (λ b. list_any (is_context_of id) (cond b (c ∷ rest) rest) ≡ true) [
            | true ↦ ap (λ b. b || list_any (is_context_of id) rest) other ∙ any_kept history id verticle cs found.1 any
            | false ↦ any_kept history id verticle cs found.1 any
          ])
    ] refl any

none_kept : (history : List Traced) (id : ContextId) → is_verticle (context_at history id) ≡ false → (cs : List Context) → Each (λ c. context_at history c.id ≡ Some c) cs → Each (λ c. is_context_of id c ≡ false) (filter is_of_verticle cs)
none_kept history id outside cs found =
    Each-filter (λ (c : Context). context_at history c.id ≡ Some c) (λ c. is_context_of id c ≡ false) is_of_verticle cs
    (λ c its is.
    elim (is_context_of id c) as (λ b. is_context_of id c ≡ b → b ≡ false) [
      | true ↦ λ same. (let e : false ≡ true = sym outside ∙ named history id c is same ∙ its in sym e)
      | false ↦ λ other. refl
    ] refl) found

-- an outside context is not kept
outside_away : (history : List Traced) (id : ContextId) → is_verticle (context_at history id) ≡ false → IsAway id (instances history)
outside_away history id outside = away_map history id (verticles history) (any_none (is_context_of id) (verticles history) (none_kept history id outside (open_contexts history) (open_found history)))

-- ## What a Take hands out

not_free : (history : List Traced) (new : Traced) (context : ContextId) (lane : Lane) (task : Task) → new.entry.call ≡ calls.Take lane → new.entry.reply ≡ replies.Task task → MayFollow history new →
    handler_context (mode_of history task) (context_of history task) ≡ Some context → runs history context ≡ false
not_free history new context lane task is_call is_reply may is =
    not_running context history new may (record { lane = lane; task = task; called = is_call; replied = is_reply; its = ap (is_of_context context) is ∙ same_context-self context })

-- a handler's context is the one that its task is of
of_handler : (mode : Mode) (o : Option ContextId) (context id : ContextId) → o ≡ Some context → handler_context mode o ≡ Some id → context ≡ id
of_handler modes.Handler o context id owned is = (let e : Some context ≡ Some id = sym owned ∙ is in cc)
of_handler modes.Ordered o context id owned is = absurd cc
of_handler modes.Free o context id owned is = absurd cc

module _ (history : List Traced) (legal : IsLegal history) (new : Traced) (lane : Lane) (task : Task) (may : MayFollow history new) (is_call : new.entry.call ≡ calls.Take lane) (is_reply : new.entry.reply ≡ replies.Task task) where
  handed_state : (o : Option ContextId) → handler_in history (replies.Task task) ≡ o → state_if o (instances history) ≡ verticle_state history o
  handed_state None is = refl
  handed_state (Some id) is =
      let answered : replies.Task task ≡ answer history new.entry.pass (calls.Take lane) = sym is_reply ∙ may.answered ∙ ap (answer history new.entry.pass) is_call in
      let taken = taken_open history new.entry.pass lane task legal answered in
      let same = of_handler (mode_of history task) (context_of history task) taken.context id taken.owned is in
      let here : is_open history id ≡ true = ap (is_open history) (sym same) ∙ taken.here in
      elim (is_verticle (context_at history id)) as (λ b. is_verticle (context_at history id) ≡ b → state_in id (instances history) ≡ cond b (state_at history id) None) [
        | true ↦ λ verticle.
            state_map history id (verticles history) (any_kept history id verticle (open_contexts history) (open_found history) here)
            ∙ ap (λ b. cond b None (state_at history id)) (not_free history new id lane task is_call is_reply may is)
        | false ↦ λ outside. (outside_away history id outside).state
      ] refl

  -- the verticle that is kept of the context whose handler is handed out has the state that the history says
  pub hands_out : state_if (handler_in history (replies.Task task)) (instances history) ≡ gives history (calls.Take lane) (replies.Task task)
  hands_out = handed_state (handler_in history (replies.Task task)) refl

-- ## Each verticle has a state

stated_after : (history : List Traced) (new : Traced) (id : ContextId) (b : Bool) → ((state : List ℤ) → ended_by (state_kind id) history new state ≡ b) →
    state_at (history ++ new ∷ []) id ≡ find (λ state. true) (cond b [] (lasting (state_kind id) history) ++ made_by (state_kind id) history new)
stated_after history new id true ends =
    ap (find (λ state. true)) (lasting-append (state_kind id) history new)
    ∙ ap (λ ss. find (λ state. true) (ss ++ made_by (state_kind id) history new)) (none_left (λ state. not (ended_by (state_kind id) history new state)) (λ state. ap not (ends state)) (lasting (state_kind id) history))
  where
    none_left : {A : Type 0} (p : A → Bool) → ((x : A) → p x ≡ false) → (xs : List A) → filter p xs ≡ []
    none_left p fails [] = refl
    none_left p fails (x ∷ xs) = ap (λ b. cond b (x ∷ filter p xs) (filter p xs)) (fails x) ∙ none_left p fails xs
stated_after history new id false ends =
    ap (find (λ state. true)) (lasting-append (state_kind id) history new)
    ∙ ap (λ ss. find (λ state. true) (ss ++ made_by (state_kind id) history new)) (filter_all (λ state. not (ended_by (state_kind id) history new state)) (λ state. ap not (ends state)) (lasting (state_kind id) history))

-- the states of a Finish of the verticle
one_of : (states : List (List ℤ)) (n : ℕ) → length states ≡ n → n ≡ 1 → is_some (find (λ state. true) states) ≡ true
one_of [] n is one = absurd (let e : 0 ≡ 1 = is ∙ one in cc)
one_of (state ∷ states) n is one = refl

abbrev HasState : List Traced → ContextId → Type 0
HasState history id = is_some (state_at history id) ≡ true

-- a Finish of a handler of the verticle brings one
abbrev states_if : Option DeploymentId → ℕ
states_if o = cond (is_some o) 1 0

due_one : (history : List Traced) (o : Option ContextId) (id : ContextId) → is_of_context id o ≡ true → is_verticle (context_at history id) ≡ true → states_if (deployment_of_held history o) ≡ 1
due_one history None id its verticle = absurd cc
due_one history (Some other) id its verticle =
    let e : is_verticle (context_at history other) ≡ true = ap (λ i. is_verticle (context_at history i)) (sym (same_context-true id other its)) ∙ verticle in
    ap (λ b. states_if (cond b (Some (deployment_of other)) None)) e

state_on : (history : List Traced) (new : Traced) (id : ContextId) (call : Call) → new.entry.call ≡ call → MayFollow history new → is_verticle (context_at history id) ≡ true → HasState history id → HasState (history ++ new ∷ []) id
state_on history new id (calls.Finish end) is_call may verticle before =
    let pass = new.entry.pass in
    let ok = is_accepted new.entry.reply in
    let its = is_of_context id (held_context history pass) in
    let old = lasting (state_kind id) history in
    let made : made_by (state_kind id) history new ≡ cond ok (cond its new.states []) [] = ap (λ call. cond ok (state_made id history new call) []) is_call in
    let due : length new.states ≡ states_if (deployment_of_held history (held_context history pass)) = may.stated ∙ ap (states_due history pass) is_call in
    ap is_some (stated_after history new id (ok && its) (λ state. ap (λ call. ok && states_ended id history pass call) is_call))
    ∙ ap (λ ss. is_some (find (λ state. true) (cond (ok && its) [] old ++ ss))) made
    ∙ elim ok as (λ b. is_some (find (λ state. true) (cond (b && its) [] old ++ cond b (cond its new.states []) [])) ≡ true) [
      | true ↦ elim its as (λ b. its ≡ b → is_some (find (λ state. true) (cond b [] old ++ cond b new.states [])) ≡ true) [
        | true ↦ λ here. one_of new.states _ due (due_one history (held_context history pass) id here verticle)
        | false ↦ λ other. some_front (λ state. true) old [] before
      ] refl
      | false ↦ some_front (λ state. true) old [] before
    ]
state_on history new id call is_call may verticle before =
    let ok = is_accepted new.entry.reply in
    ap is_some (stated_after history new id false (λ state. ap (λ c. ok && states_ended id history new.entry.pass c) is_call ∙ and_false ok))
    ∙ some_front (λ state. true) (lasting (state_kind id) history) (made_by (state_kind id) history new) before

get_some : {A : Type 0} (xs : List A) (n : ℕ) → n < length xs → is_some (slice_get xs n) ≡ true
get_some [] n inside = absurd (omega arith)
get_some (x ∷ xs) zero inside = refl
get_some (x ∷ xs) (suc n) inside = get_some xs n (omega arith)

listed : (o : Option (List ℤ)) → is_some o ≡ true → is_some (find (λ state. true) (option_to_list o)) ≡ true
listed None some = some
listed (Some state) some = refl

abbrev HasStateFor : List Traced → Context → Type 0
HasStateFor history c = IsLegal history → is_of_verticle c ≡ true → HasState history c.id

new_states : (history : List Traced) (new : Traced) (worker : Bool) (pool : Option (List ℕ)) (tell : Option ContextId) (count number more : ℕ) → new.entry.call ≡ calls.Deploy worker pool tell count → is_accepted new.entry.reply ≡ true →
    (IsLegal (history ++ new ∷ []) → length new.states ≡ number + more) → Each (HasStateFor (history ++ new ∷ [])) (contexts.instances history worker pool number more)
new_states history new worker pool tell count number zero is_call ok many = tt
new_states history new worker pool tell count number (suc more) is_call ok many = (
  λ legal verticle.
      (let id = (instance history worker pool number).id in
      let old = filter (λ state. not (ended_by (state_kind id) history new state)) (lasting (state_kind id) history) in
      let all = many legal in
      let some : is_some (slice_get new.states number) ≡ true = get_some new.states number (omega arith) in
      let made : made_by (state_kind id) history new ≡ option_to_list (slice_get new.states number) =
      ap (λ b. cond b (state_made id history new new.entry.call) []) ok ∙ ap (state_made id history new) is_call ∙ ap (λ b. cond b (option_to_list (slice_get new.states number)) []) (eq-eqb (length history) (length history) refl) in
      ap (λ ss. is_some (find (λ state. true) ss)) (lasting-append (state_kind id) history new)
      ∙ ap (λ ss. is_some (find (λ state. true) (old ++ ss))) made
      ∙ some_behind (λ state. true) old (option_to_list (slice_get new.states number)) (listed (slice_get new.states number) some)),
  new_states history new worker pool tell count (number + 1) more is_call ok (λ legal. let all = many legal in omega arith),
)

made_states : (history : List Traced) (new : Traced) (call : Call) → new.entry.call ≡ call → is_accepted new.entry.reply ≡ true → Each (HasStateFor (history ++ new ∷ [])) (context_made history new.entry.pass call)
made_states history new calls.NewContext is_call ok = (λ legal verticle. absurd cc, tt)
made_states history new (calls.Deploy worker pool tell count) is_call ok =
    new_states history new worker pool tell count 0 count is_call ok (λ legal. let may = legal history new [] refl in let all : length new.states ≡ count = may.stated ∙ ap (states_due history new.entry.pass) is_call in omega arith)
made_states history new _ is_call ok = tt

states_there : (history : List Traced) → Each (λ c. (context_at history c.id ≡ Some c) × HasStateFor history c) (open_contexts history)
states_there =
    lasting_each open_context_kind (λ history c. (context_at history c.id ≡ Some c) × HasStateFor history c)
    (λ history new c stays before. (
      keeps_context_at history new c.id c before.0,
      λ legal verticle.
          (let found : is_verticle (context_at history c.id) ≡ true = ap is_verticle before.0 ∙ verticle in
          state_on history new c.id new.entry.call refl (legal history new [] refl) found (before.1 (legal_front history (new ∷ []) legal) verticle)),
    ))
    (λ history new.
    let after = history ++ new ∷ [] in
    Each-both (λ (c : Context). context_at after c.id ≡ Some c) (HasStateFor after) (λ c. (context_at after c.id ≡ Some c) × HasStateFor after c) (made_by open_context_kind history new) (λ c found state. (found, state)) (made_found history new)
    (accepted (HasStateFor after) (is_accepted new.entry.reply) _ (λ ok. made_states history new new.entry.call refl ok)))

-- an open context of a verticle has a state
pub has_state : (history : List Traced) → IsLegal history → (id : ContextId) → is_open history id ≡ true → is_verticle (context_at history id) ≡ true → is_some (state_at history id) ≡ true
has_state history legal id here verticle =
    let one = some_passes (is_context_of id) (λ c. (context_at history c.id ≡ Some c) × HasStateFor history c) (open_contexts history) here (states_there history) in
    let c : Context = one.0 in
    let same : id ≡ c.id = same_context-true id c.id one.1 in
    ap (λ i. is_some (state_at history i)) same ∙ one.2.1 legal (sym (ap is_verticle one.2.0) ∙ ap (λ i. is_verticle (context_at history i)) (sym same) ∙ verticle)

-- ## What comes back

-- where the task that ends handed no verticle out, no state is kept anew
pub nothing_back : (history : List Traced) (pass : PassNo) (end : End) (state : Option (List ℤ)) → gave history pass ≡ false →
    put_if (held_context history pass) state (without_any (closing_by history pass (calls.Finish end)) (instances history)) ≡ without_any (closing_by history pass (calls.Finish end)) (instances history)
nothing_back history pass end state lacks = none_back (held_context history pass) lacks
  where
    none_back : (o : Option ContextId) → is_some (deployment_of_held history o) ≡ false →
        put_if o state (without_any (closing_by history pass (calls.Finish end)) (instances history)) ≡ without_any (closing_by history pass (calls.Finish end)) (instances history)
    none_back None lacks = refl
    none_back (Some id) lacks =
        let closing = closing_by history pass (calls.Finish end) in
        let stays = λ (c : Context). not (is_of_context c.id closing) in
        let left = filter stays (verticles history) in
        let IsOther : Context → Type 0 = λ c. is_context_of id c ≡ false in
        let outside : is_verticle (context_at history id) ≡ false = not_some (is_verticle (context_at history id)) (deployment_of id) lacks in
        let away = away_map history id left (any_none (is_context_of id) left (Each-filter IsOther IsOther stays (verticles history) (λ c passes other. other) (none_kept history id outside (open_contexts history) (open_found history)))) in
        let same = without_map history closing (verticles history) (verticles_apart history) in
        ap (put_at id state) (sym same) ∙ away.put state ∙ same
      where
        not_some : (b : Bool) (d : DeploymentId) → is_some (cond b (Some d) None) ≡ false → b ≡ false
        not_some true d lacks = lacks
        not_some false d lacks = refl

-- where it did, its verticle is kept again as long as its context is open
module _ (history : List Traced) (legal : IsLegal history) (pass : PassNo) (end : End) (states : List (List ℤ)) (mark : Mark) (id : ContextId) (is : held_context history pass ≡ Some id) (verticle : is_verticle (context_at history id) ≡ true) where
  abbrev ended : List Traced
  ended = finished history legal pass end states mark

  still_verticle : (o : Option Context) → context_at history id ≡ o → is_verticle o ≡ true → is_verticle (context_at ended id) ≡ true
  still_verticle None found its = absurd cc
  still_verticle (Some c) found its = ap is_verticle (keeps_context_at history (finishing history legal pass end states mark) id c found) ∙ its

  pub comes_back : state_in id (instances ended) ≡ cond (is_open ended id) (find (λ state. true) states) None
  comes_back =
      let c : Context = record { id = id; maker = None; lane = lanes.Pool; jobs = lanes.Pool } in
      elim (is_open ended id) as (λ b. is_open ended id ≡ b → state_in id (instances ended) ≡ cond b (find (λ state. true) states) None) [
        | true ↦ λ here.
            state_map ended id (verticles ended) (any_kept ended id (still_verticle (context_at history id) refl verticle) (open_contexts ended) (open_found ended) here)
            ∙ ap (λ (kept : Kept). kept.state) (finish_its history legal pass end states mark id c is (same_context-self id))
        | false ↦ λ gone.
            (let IsOther : Context → Type 0 = λ other. is_context_of id other ≡ false in
            (away_map ended id (verticles ended)
            (any_none (is_context_of id) (verticles ended) (Each-filter IsOther IsOther is_of_verticle (open_contexts ended) (λ other passes differs. differs) (any_each (is_context_of id) (open_contexts ended) gone)))).state)
      ] refl

-- ## What a pass holds that took a verticle

module _ (history : List Traced) (legal : IsLegal history) (new : Traced) (lane : Lane) (task : Task) (may : MayFollow history new) (is_call : new.entry.call ≡ calls.Take lane) (is_reply : new.entry.reply ≡ replies.Task task) where
  holds_as : (o : Option ContextId) → handler_in history (replies.Task task) ≡ o → is_some (verticle_state history o) ≡ is_some (deployment_of_held (history ++ new ∷ []) o)
  holds_as None is = refl
  holds_as (Some id) is =
      let answered : replies.Task task ≡ answer history new.entry.pass (calls.Take lane) = sym is_reply ∙ may.answered ∙ ap (answer history new.entry.pass) is_call in
      let taken = taken_open history new.entry.pass lane task legal answered in
      let same = of_handler (mode_of history task) (context_of history task) taken.context id taken.owned is in
      let here : is_open history id ≡ true = ap (is_open history) (sym same) ∙ taken.here in
      let there = open_is_there history id here in
      let still : context_at (history ++ new ∷ []) id ≡ context_at history id = keeps_context_at history new id there.0 there.1 ∙ sym there.1 in
      elim (is_verticle (context_at history id)) as (λ b. is_verticle (context_at history id) ≡ b → is_some (cond b (state_at history id) None) ≡ is_some (cond b (Some (deployment_of id)) None)) [
        | true ↦ λ verticle. has_state history legal id here verticle
        | false ↦ λ outside. refl
      ] refl
      ∙ ap (λ o. is_some (cond (is_verticle o) (Some (deployment_of id)) None)) (sym still)

  -- a pass that took a task was handed a verticle out exactly where the task is of one
  pub gave_taken : is_some (gives history (calls.Take lane) (replies.Task task)) ≡ gave (history ++ new ∷ []) new.entry.pass
  gave_taken =
      holds_as (handler_in history (replies.Task task)) refl ∙ ap (λ o. is_some (deployment_of_held (history ++ new ∷ []) o)) (sym (holds_taken history new lane task is_call is_reply may))
