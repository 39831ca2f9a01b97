-- A deployment that was asked to end and has no children any more: it gets none, in any legal history.
use Rattle.std.proofs.Common.{◌≡◌, ℕ, ◌<◌, List, [], ◌∷◌, ◌++◌, length, refl, ap, sym, ◌∙◌, subst, append_assoc, arith, inl, inr, ◌⊎◌}
use Rattle.std.specs.Prelude.{Bool, true, false, not, ◌||◌, ◌==◌, cond, filter, find, Option, None, Some}
use Rattle.std.specs.List.{list_any}
use Rattle.std.specs.Option.{option_or, option_map}
use Rattle.std.proofs.lemmas.Bool.{or_left, or_right, eqb-true}
use Rattle.std.proofs.lemmas.List.{append-nil}
use Rattle.std.proofs.lemmas.List.Folds.{list_any-append}
use Rattle.vx_data.specs.declared.ids.ContextId.{ContextId}
use Rattle.vx_data.specs.declared.ids.DeploymentId.{DeploymentId}
use Rattle.vx_data.specs.declared.ids.PassNo.{PassNo}
use Rattle.vx_data.specs.Ids.{same_deployment}
use Rattle.vx_message.specs.declared.Context.{Context}
use Rattle.vx_call.specs.declared.call.Call.{Call}
use Rattle.vx_call.specs.declared.call.Call.TheVariants as calls
use Rattle.vx_call.specs.declared.reply.Reply.TheVariants as replies
use Rattle.vx_call.specs.declared.history.Traced.{Traced}
use Rattle.vx_call.specs.History.{is_accepted, made_by, ended_by}
use Rattle.vx_call.specs.Names.{next_deployment}
use Rattle.vx_call.specs.Deployments.{Deployment, deployment_made, deployment_kind, deployments, is_among}
use Rattle.vx_call.specs.Closings.{open_context_kind, open_contexts}
use Rattle.vx_call.specs.Askings.{Asking, asking_kind, askings, is_asking_of}
use Rattle.vx_call.specs.There.{is_instance_of, has_open, is_child_of, stays, there_of, there}
use Rattle.vx_call.specs.Refusals.{spent, shut, no_context, no_pool, not_your_context, if_named, closed_if_named, bad_count, stopping_since, stopping_if, holder_stopping}
use Rattle.vx_call.specs.Rows.{deploy_refusal, deploy_row}
use Rattle.vx_call.specs.Machine.{MayFollow, IsLegal, answer}
use Rattle.vx_call.proofs.Lasting.{lasting-append, lasting_more, and_false}
use Rattle.vx_call.proofs.Each.{Each, Each-append, weaken, accepted, by_entries}
use Rattle.vx_call.proofs.Apart.{lasting_earlier}
use Rattle.vx_call.proofs.Below.{is_asked, not_refused, under, second}
use Rattle.vx_call.proofs.Contexts.{context_key, new_contexts_apart}
use Rattle.vx_call.proofs.Found.{earlier_name}
use Rattle.vx_call.proofs.Gone.{deployment_key}
use Rattle.vx_call.proofs.Items.{Among, each_among, all_among}
use Rattle.vx_call.proofs.Legal.{legal_front}
use Rattle.vx_call.proofs.Once.{any_each}

-- ## What was asked stays asked

askings-append : (history : List Traced) (new : Traced) → askings (history ++ new ∷ []) ≡ askings history ++ made_by asking_kind history new
askings-append history new = lasting_more asking_kind history new (λ a. and_false (is_accepted new.entry.reply))

pub asked_on : (history : List Traced) (new : Traced) (id : DeploymentId) → is_asked history id ≡ true → is_asked (history ++ new ∷ []) id ≡ true
asked_on history new id asked =
    ap (list_any (is_asking_of id)) (askings-append history new)
    ∙ list_any-append (is_asking_of id) (askings history) (made_by asking_kind history new)
    ∙ or_left (is_asked history id) (list_any (is_asking_of id) (made_by asking_kind history new)) asked

-- ## Nothing is deployed below it

-- a Deploy is not accepted where the deployment of the caller was asked to end
not_stopping : (history : List Traced) (pass : PassNo) (worker : Bool) (pool : Option (List ℕ)) (tell : Option ContextId) (count : ℕ) → is_accepted (answer history pass (calls.Deploy worker pool tell count)) ≡ true →
    holder_stopping history pass ≡ None
not_stopping history pass worker pool tell count ok =
    let above = option_or (spent history) (shut history (calls.Deploy worker pool tell count)) in
    let row = deploy_row history pass pool tell count in
    let row_ok : is_accepted row ≡ true = under above row (not_refused above row ok) ok in
    let none : deploy_refusal history pass pool tell count ≡ None = not_refused (deploy_refusal history pass pool tell count) (replies.Deployment (next_deployment history)) row_ok in
    second (bad_count 64 count) _
    (second (closed_if_named history pass tell) _
    (second (if_named (not_your_context history pass) tell) _ (second (no_pool history pool) _ (second (if_named (no_context history) tell) _ none))))

never_asked : (id : DeploymentId) (all : List Asking) → stopping_since (option_map (λ (asking : Asking). asking.at) (find (is_asking_of id) all)) ≡ None → list_any (is_asking_of id) all ≡ false
never_asked id [] none = refl
never_asked id (asking ∷ others) none =
    elim (is_asking_of id asking) as (λ b. stopping_since (option_map (λ (a : Asking). a.at) (cond b (Some asking) (find (is_asking_of id) others))) ≡ None → (b || list_any (is_asking_of id) others) ≡ false) [
      | true ↦ λ some. absurd cc
      | false ↦ λ later. never_asked id others later
    ] none

-- the parent of a deployment that an entry makes was not asked to end
abbrev HasFreeParent : List Traced → Deployment → Type 0
HasFreeParent history d = (parent : DeploymentId) → d.parent ≡ Some parent → is_asked history parent ≡ false

made_free : (history : List Traced) (pass : PassNo) (call : Call) → is_accepted (answer history pass call) ≡ true → Each (HasFreeParent history) (deployment_made history pass call)
made_free history pass (calls.Deploy worker pool tell count) ok =
    (λ parent is_parent. never_asked parent (askings history) (ap (stopping_if history) (sym is_parent) ∙ not_stopping history pass worker pool tell count ok), tt)
made_free history pass _ ok = tt

pub new_free : (history : List Traced) (new : Traced) → MayFollow history new → Each (HasFreeParent history) (made_by deployment_kind history new)
new_free history new may =
    accepted (HasFreeParent history) (is_accepted new.entry.reply) (deployment_made history new.entry.pass new.entry.call) (λ ok. made_free history new.entry.pass new.entry.call (ap is_accepted (sym may.answered) ∙ ok))

-- ## Deployments that are gone stay gone

-- those that are there behind an entry were there before, or were made by it
abbrev WasThere : List Deployment → List Deployment → Deployment → Type 0
WasThere before made d = Among d before ⊎ Among d made

pub each_there : (P : Deployment → Type 0) (asked : List Asking) (contexts : List Context) (all : List Deployment) → Each P all → Each P (there_of asked contexts all)
each_there P asked contexts [] each = tt
each_there P asked contexts (d ∷ later) each =
    let rest = there_of asked contexts later in
    elim (stays asked contexts d rest) as (λ b. Each P (cond b (d ∷ rest) rest)) [ true ↦ (each.0, each_there P asked contexts later each.1) | false ↦ each_there P asked contexts later each.1 ]

-- two states, and the deployments that the later one has more
record Later : Type 0 where
  pub asked : List Asking
  pub contexts : List Context
  pub asked_after : List Asking
  pub contexts_after : List Context
  pub made : List Deployment

-- of a deployment of the earlier state: what was asked stays asked, its contexts are not opened again, and it gets a child only where it was not asked
record Ages (now : Later) (d : Deployment) : Type 0 where
  pub asks : list_any (is_asking_of d.id) now.asked ≡ true → list_any (is_asking_of d.id) now.asked_after ≡ true
  pub opens : has_open now.contexts_after d.id ≡ true → has_open now.contexts d.id ≡ true
  pub frees : Each (λ x. is_child_of d.id x ≡ true → list_any (is_asking_of d.id) now.asked ≡ false) now.made

-- one of some that pass the test
record Passing (test : Deployment → Bool) (all : List Deployment) : Type 0 where
  pub one : Deployment
  pub among : Among one all
  pub passes : test one ≡ true

passing_one : (test : Deployment → Bool) (all : List Deployment) → list_any test all ≡ true → Passing test all
passing_one test [] some = absurd cc
passing_one test (d ∷ others) some =
    elim (test d) as (λ b. test d ≡ b → (b || list_any test others) ≡ true → Passing test (d ∷ others)) [
      | true ↦ λ passes here. record { one = d; among = inl refl; passes = passes }
      | false ↦ λ fails later. (let rest = passing_one test others later in record { one = rest.one; among = inr rest.among; passes = rest.passes })
    ] refl some

any_among : (test : Deployment → Bool) (d : Deployment) (all : List Deployment) → Among d all → test d ≡ true → list_any test all ≡ true
any_among test d [] among passes = absurd among
any_among test d (x ∷ others) among passes =
    elim among as (λ _. (test x || list_any test others) ≡ true) [
      | inl e ↦ or_left (test x) (list_any test others) (ap test (sym e) ∙ passes)
      | inr later ↦ or_right (test x) (list_any test others) (any_among test d others later passes)
    ]

three_cases : (a b c : Bool) (P : Type 0) → (not a || (b || c)) ≡ true → (a ≡ false → P) → (b ≡ true → P) → (c ≡ true → P) → P
three_cases false b c P some first second third = first refl
three_cases true true c P some first second third = second refl
three_cases true false true P some first second third = third refl
three_cases true false false P some first second third = absurd cc

first_of_three : (a b c : Bool) → a ≡ false → (not a || (b || c)) ≡ true
first_of_three true b c off = absurd cc
first_of_three false b c off = refl

second_of_three : (a b c : Bool) → b ≡ true → (not a || (b || c)) ≡ true
second_of_three a b c on = or_right (not a) (b || c) (or_left b c on)

third_of_three : (a b c : Bool) → c ≡ true → (not a || (b || c)) ≡ true
third_of_three a b c on = or_right (not a) (b || c) (or_right b c on)

not_asked : (a b : Bool) → (a ≡ true → b ≡ true) → b ≡ false → a ≡ false
not_asked true b on none = (let e = on refl in cc)
not_asked false b on none = refl

-- what stays in the later state stayed in the earlier
stayed : (now : Later) (d : Deployment) (there_before there_after : List Deployment) → Ages now d → Each (WasThere there_before now.made) there_after →
    stays now.asked_after now.contexts_after d there_after ≡ true → stays now.asked now.contexts d there_before ≡ true
stayed now d there_before there_after ages were stays_now =
    let was_asked = list_any (is_asking_of d.id) now.asked in
    let was_open = has_open now.contexts d.id in
    let had_child = list_any (is_child_of d.id) there_before in
    let Was : Type 0 = (not was_asked || (was_open || had_child)) ≡ true in
    three_cases (list_any (is_asking_of d.id) now.asked_after) (has_open now.contexts_after d.id) (list_any (is_child_of d.id) there_after) Was stays_now
    (λ off. first_of_three was_asked was_open had_child (not_asked was_asked (list_any (is_asking_of d.id) now.asked_after) ages.asks off))
    (λ opened. second_of_three was_asked was_open had_child (ages.opens opened))
    (λ child.
    (let it = passing_one (is_child_of d.id) there_after child in
    elim (each_among (WasThere there_before now.made) it.one there_after it.among were) as (λ _. Was) [
      | inl old ↦ third_of_three was_asked was_open had_child (any_among (is_child_of d.id) it.one there_before old it.passes)
      | inr new ↦ first_of_three was_asked was_open had_child (each_among (λ x. is_child_of d.id x ≡ true → was_asked ≡ false) it.one now.made new ages.frees it.passes)
    ]))

was_there : (now : Later) (all : List Deployment) → Each (Ages now) all →
    Each (WasThere (there_of now.asked now.contexts all) now.made) (there_of now.asked_after now.contexts_after (all ++ now.made))
was_there now [] ages = weaken (λ d. Among d now.made) (WasThere [] now.made) (there_of now.asked_after now.contexts_after now.made) (λ d among. inr among) (each_there (λ d. Among d now.made) now.asked_after now.contexts_after now.made (all_among now.made))
was_there now (d ∷ later) ages =
    let rest = there_of now.asked now.contexts later in
    let rest_after = there_of now.asked_after now.contexts_after (later ++ now.made) in
    let were : Each (WasThere rest now.made) rest_after = was_there now later ages.1 in
    let there_before = cond (stays now.asked now.contexts d rest) (d ∷ rest) rest in
    let Was : Deployment → Type 0 = WasThere there_before now.made in
    let Rest : List Deployment → Type 0 = λ all. Each (WasThere all now.made) rest_after in
    let others : Each Was rest_after =
    (elim (stays now.asked now.contexts d rest) as (λ b. Rest (cond b (d ∷ rest) rest)) [
      | true ↦ weaken (WasThere rest now.made) (WasThere (d ∷ rest) now.made) rest_after (λ x was. elim was as (λ _. WasThere (d ∷ rest) now.made x) [ inl old ↦ inl (inr old) | inr new ↦ inr new ]) were
      | false ↦ were
    ]) in
    elim (stays now.asked_after now.contexts_after d rest_after) as (λ b. stays now.asked_after now.contexts_after d rest_after ≡ b → Each Was (cond b (d ∷ rest_after) rest_after)) [
      | true ↦ λ stays_now.
          (let here : Among d there_before = subst (λ b. Among d (cond b (d ∷ rest) rest)) (sym (stayed now d rest rest_after ages.0 were stays_now)) (inl refl) in
          (inl here, others))
      | false ↦ λ goes. others
    ] refl

-- ## Behind an entry

abbrev states : List Traced → Traced → Later
states history new =
    record { asked = askings history; contexts = open_contexts history; asked_after = askings (history ++ new ∷ []); contexts_after = open_contexts (history ++ new ∷ []); made = made_by deployment_kind history new }

same_deployment-true : (a b : DeploymentId) → same_deployment a b ≡ true → a ≡ b
same_deployment-true a b same = let named : ℕ → DeploymentId = λ n. record { 0 = record { 0 = n } } in ap named (eqb-true a.0.0 b.0.0 same)

-- the contexts that an entry makes are of its own deployment
opened_before : (history : List Traced) (new : Traced) (d : Deployment) → deployment_key d < length history → has_open (open_contexts (history ++ new ∷ [])) d.id ≡ true → has_open (open_contexts history) d.id ≡ true
opened_before history new d before some =
    let test = λ (c : Context). is_instance_of d.id c.id in
    let kept = filter (λ (c : Context). not (ended_by open_context_kind history new c)) (open_contexts history) in
    let made = made_by open_context_kind history new in
    let others : list_any test made ≡ false = none_of test made
    (weaken (λ c. context_key c ≡ length history) (λ c. test c ≡ false) made (λ c keyed. differs d.id.0.0 c.id.entry.0 (length history) before keyed) (new_contexts_apart history new).keyed) in
    from_some test (λ c. not (ended_by open_context_kind history new c)) (open_contexts history)
    (or_first (list_any test kept) (list_any test made) others (sym (ap (list_any test) (lasting-append open_context_kind history new) ∙ list_any-append test kept made) ∙ some))
  where
    none_of : (test : Context → Bool) (all : List Context) → Each (λ c. test c ≡ false) all → list_any test all ≡ false
    none_of test [] none = refl
    none_of test (c ∷ others) none = ap (λ b. b || list_any test others) none.0 ∙ none_of test others none.1

    differs : (a b n : ℕ) → a < n → b ≡ n → (a == b) ≡ false
    differs a b n lt e = earlier_name a b (omega arith)

    or_mono : (a b c : Bool) → (b ≡ true → c ≡ true) → (a || b) ≡ true → (a || c) ≡ true
    or_mono true b c on some = refl
    or_mono false b c on some = on some

    from_some : (test p : Context → Bool) (all : List Context) → list_any test (filter p all) ≡ true → list_any test all ≡ true
    from_some test p [] some = some
    from_some test p (c ∷ others) some =
        elim (p c) as (λ b. list_any test (cond b (c ∷ filter p others) (filter p others)) ≡ true → (test c || list_any test others) ≡ true) [
          | true ↦ λ here. or_mono (test c) (list_any test (filter p others)) (list_any test others) (from_some test p others) here
          | false ↦ λ later. or_right (test c) (list_any test others) (from_some test p others later)
        ] some

    or_first : (a b : Bool) → b ≡ false → (a || b) ≡ true → a ≡ true
    or_first true b none some = refl
    or_first false b none some = absurd cc

is_parent_of : (id : DeploymentId) (d : Deployment) → is_child_of id d ≡ true → d.parent ≡ Some id
is_parent_of id d child = parent_is id d.parent child
  where
    or_nothing : (a : Bool) → (a || false) ≡ true → a ≡ true
    or_nothing true some = refl
    or_nothing false some = absurd cc

    parent_is : (id : DeploymentId) (o : Option DeploymentId) → is_among (id ∷ []) o ≡ true → o ≡ Some id
    parent_is id None child = absurd cc
    parent_is id (Some parent) child = ap (λ p. Some p) (same_deployment-true parent id (or_nothing (same_deployment parent id) child))

deployments-append : (history : List Traced) (new : Traced) → deployments (history ++ new ∷ []) ≡ deployments history ++ made_by deployment_kind history new
deployments-append history new = lasting_more deployment_kind history new (λ d. and_false (is_accepted new.entry.reply))

made_keyed : (history : List Traced) (pass : PassNo) (call : Call) → Each (λ d. deployment_key d ≡ length history) (deployment_made history pass call)
made_keyed history pass (calls.Deploy worker pool tell count) = (refl, tt)
made_keyed history pass _ = tt

pub deployments_earlier : (history : List Traced) → Each (λ d. deployment_key d < length history) (deployments history)
deployments_earlier = lasting_earlier deployment_kind deployment_key (λ history new. accepted (λ d. deployment_key d ≡ length history) (is_accepted new.entry.reply) _ (λ ok. made_keyed history new.entry.pass new.entry.call))

all_age : (history : List Traced) (new : Traced) → MayFollow history new → Each (Ages (states history new)) (deployments history)
all_age history new may =
    weaken (λ d. deployment_key d < length history) (Ages (states history new)) (deployments history)
    (λ d before. record {
      asks = λ asked. asked_on history new d.id asked;
      opens = λ some. opened_before history new d before some;
      frees = weaken (HasFreeParent history) (λ x. is_child_of d.id x ≡ true → is_asked history d.id ≡ false) (made_by deployment_kind history new) (λ x free child. free d.id (is_parent_of d.id x child)) (new_free history new may);
    }) (deployments_earlier history)

pub there_before : (history : List Traced) (new : Traced) → MayFollow history new → Each (WasThere (there history) (made_by deployment_kind history new)) (there (history ++ new ∷ []))
there_before history new may =
    let now = states history new in
    let P : List Deployment → Type 0 = λ all. Each (WasThere (there history) now.made) (there_of now.asked_after now.contexts_after all) in
    subst P (sym (deployments-append history new)) (was_there now (deployments history) (all_age history new may))

-- ## Childless

-- a deployment was asked to end, and no child of it is there
pub record IsChildless (id : DeploymentId) (history : List Traced) : Type 0 where
  pub asked : is_asked history id ≡ true
  pub none : list_any (is_child_of id) (there history) ≡ false

pub childless_on : (id : DeploymentId) (history : List Traced) (new : Traced) → MayFollow history new → IsChildless id history → IsChildless id (history ++ new ∷ [])
childless_on id history new may childless =
    let made = made_by deployment_kind history new in
    let No : Deployment → Type 0 = λ d. is_child_of id d ≡ false in
    let old : Each No (there history) = any_each (is_child_of id) (there history) childless.none in
    record {
      asked = asked_on history new id childless.asked;
      none = none_child (there (history ++ new ∷ []))
          (weaken (WasThere (there history) made) No (there (history ++ new ∷ []))
          (λ d was. elim was as (λ _. No d) [
            | inl among ↦ each_among No d (there history) among old
            | inr among ↦ free_child d (each_among (HasFreeParent history) d made among (new_free history new may))
          ]) (there_before history new may));
    }
  where
    none_child : (all : List Deployment) → Each (λ d. is_child_of id d ≡ false) all → list_any (is_child_of id) all ≡ false
    none_child [] none = refl
    none_child (d ∷ others) none = ap (λ b. b || list_any (is_child_of id) others) none.0 ∙ none_child others none.1

    free_child : (d : Deployment) → HasFreeParent history d → is_child_of id d ≡ false
    free_child d free =
        elim (is_child_of id d) as (λ b. is_child_of id d ≡ b → b ≡ false) [
          | true ↦ λ child. (let no = free id (is_parent_of id d child) in let yes = childless.asked in cc)
          | false ↦ λ other. refl
        ] refl

-- from then on no child is added
abbrev OldChild : DeploymentId → List Traced → Deployment → Type 0
OldChild id front d = d.parent ≡ Some id → Among d (deployments front)

pub no_child_added : (id : DeploymentId) (front after : List Traced) → IsLegal (front ++ after) → is_asked front id ≡ true → Each (OldChild id front) (deployments (front ++ after))
no_child_added id front after legal asked = (stage after legal).1
  where
    P : List Traced → Type 0
    P h = (is_asked h id ≡ true) × Each (OldChild id front) (deployments h)

    first : Each (OldChild id front) (deployments front)
    first = weaken (λ d. Among d (deployments front)) (OldChild id front) (deployments front) (λ d among is_parent. among) (all_among (deployments front))

    step : (history : List Traced) (new : Traced) → MayFollow history new → P history → P (history ++ new ∷ [])
    step history new may before =
        let Q : List Deployment → Type 0 = Each (OldChild id front) in
        let made = made_by deployment_kind history new in (
          asked_on history new id before.0,
          subst Q (sym (deployments-append history new))
              (Each-append (OldChild id front) (deployments history) made before.1
              (weaken (HasFreeParent history) (OldChild id front) made (λ d free is_parent. (let no = free id is_parent in let yes = before.0 in absurd cc)) (new_free history new may))),
        )

    stage : (later : List Traced) → IsLegal (front ++ later) → P (front ++ later)
    stage =
        by_entries (λ later. IsLegal (front ++ later) → P (front ++ later)) (λ l. subst P (sym (append-nil front)) (asked, first))
        (λ later new before l.
        let parts = append_assoc front later (new ∷ []) in
        let whole : IsLegal ((front ++ later) ++ new ∷ []) = subst IsLegal (sym parts) l in
        subst P parts (step (front ++ later) new (whole (front ++ later) new [] refl) (before (legal_front (front ++ later) (new ∷ []) whole))))
