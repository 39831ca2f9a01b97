-- What holds of the things of every history that tell of the lives of verticles.
use Rattle.std.proofs.Common.{◌≡◌, ℕ, zero, suc, ◌+◌, ◌<◌, List, [], ◌∷◌, ◌++◌, length, refl, ap, sym, ◌∙◌, subst, arith}
use Rattle.std.specs.Prelude.{Bool, true, false, cond, not, ◌||◌, filter, is_none, Option, None, Some}
use Rattle.std.specs.List.{list_any}
use Rattle.std.proofs.lemmas.Bool.{eq-eqb, eqb-true, or_right}
use Rattle.std.proofs.lemmas.List.Folds.{list_any-append}
use Rattle.vx_data.specs.declared.ids.ContextId.{ContextId}
use Rattle.vx_data.specs.declared.ids.DeploymentId.{DeploymentId}
use Rattle.vx_data.specs.declared.ids.PassNo.{PassNo}
use Rattle.vx_data.specs.Ids.{same_context, same_deployment}
use Rattle.vx_message.specs.declared.Context.{Context}
use Rattle.vx_call.specs.declared.call.Call.{Call}
use Rattle.vx_call.specs.declared.call.Call.TheVariants as calls
use Rattle.vx_call.specs.declared.history.Traced.{Traced}
use Rattle.vx_call.specs.History.{Kind, is_accepted, made_by, ended_by, lasting}
use Rattle.vx_call.specs.Names.{next_deployment}
use Rattle.vx_call.specs.Contexts.{instances, context_made, context_kind, contexts, context_at, is_context_of, is_verticle}
use Rattle.vx_call.specs.Deployments.{Deployment, deployment_of, deployment_of_held, held_deployment, deployment_made, deployed_ids, deployment_kind, deployments}
use Rattle.vx_call.specs.Held.{held_context}
use Rattle.vx_call.specs.Starts.{deployed_contexts, unstarted_kind, unstarted}
use Rattle.vx_call.specs.Closings.{open_context_kind, open_contexts}
use Rattle.vx_call.specs.There.{is_deployment, is_instance_of}
use Rattle.vx_call.specs.Coming.{awaited}
use Rattle.vx_call.proofs.Lasting.{lasting-append, lasting_more, lasting_none, and_false}
use Rattle.vx_call.proofs.Each.{Each, Each-append, Each-filter, Each-find, Each-map, weaken, accepted, by_entries, lasting_each}
use Rattle.vx_call.proofs.Apart.{Apart, IsMadeApart, made_if, lasting_apart, lasting_earlier, Apart-map}
use Rattle.vx_call.proofs.Contexts.{context_key, instances_keyed, instances_apart, new_contexts_apart, same_by_id, same_context-true}
use Rattle.vx_call.proofs.Found.{earlier_name, later_name, find_passes}
use Rattle.vx_call.proofs.Gone.{deployment_key}
use Rattle.vx_life_rows.proofs.Bridge.{NoOutside}

-- ## Deployments

made_now : (history : List Traced) (pass : PassNo) (call : Call) → Each (λ d. deployment_key d ≡ length history) (deployment_made history pass call)
made_now history pass (calls.Deploy worker pool tell count) = (refl, tt)
made_now history pass _ = tt

pub new_deployments : (history : List Traced) (new : Traced) → Each (λ d. deployment_key d ≡ length history) (made_by deployment_kind history new)
new_deployments history new = accepted (λ d. deployment_key d ≡ length history) (is_accepted new.entry.reply) _ (λ ok. made_now history new.entry.pass new.entry.call)

pub deployments_earlier : (history : List Traced) → Each (λ d. deployment_key d < length history) (deployments history)
deployments_earlier = lasting_earlier deployment_kind deployment_key new_deployments

pub deployments-append : (history : List Traced) (new : Traced) → deployments (history ++ new ∷ []) ≡ deployments history ++ made_by deployment_kind history new
deployments-append history new = lasting_more deployment_kind history new (λ d. and_false (is_accepted new.entry.reply))

-- whether there ever was such a deployment
abbrev pub was_made : List Traced → DeploymentId → Bool
was_made history id = list_any (is_deployment id) (deployments history)

or_first : (a b : Bool) → a ≡ true → (a || b) ≡ true
or_first true b h = refl
or_first false b h = absurd cc

pub stays_made : (history : List Traced) (new : Traced) (id : DeploymentId) → was_made history id ≡ true → was_made (history ++ new ∷ []) id ≡ true
stays_made history new id made =
    ap (list_any (is_deployment id)) (deployments-append history new) ∙ list_any-append (is_deployment id) (deployments history) (made_by deployment_kind history new)
    ∙ or_first (was_made history id) (list_any (is_deployment id) (made_by deployment_kind history new)) made

pub same_self : (id : DeploymentId) → same_deployment id id ≡ true
same_self id = eq-eqb id.0.0 id.0.0 refl

pub made_here : (history : List Traced) (new : Traced) (id : DeploymentId) → list_any (is_deployment id) (made_by deployment_kind history new) ≡ true → was_made (history ++ new ∷ []) id ≡ true
made_here history new id made =
    ap (list_any (is_deployment id)) (deployments-append history new) ∙ list_any-append (is_deployment id) (deployments history) (made_by deployment_kind history new)
    ∙ or_right (was_made history id) (list_any (is_deployment id) (made_by deployment_kind history new)) made

-- what is awaited of deployments is of deployments that were made
deployed_made : (history : List Traced) (pass : PassNo) (call : Call) → Each (λ id. list_any (is_deployment id) (deployment_made history pass call) ≡ true) (deployed_ids history call)
deployed_made history pass (calls.Deploy worker pool tell count) = (ap (λ b. b || false) (same_self (next_deployment history)), tt)
deployed_made history pass _ = tt

made_if_accepted : (id : DeploymentId) (b : Bool) (ds : List Deployment) → b ≡ true → list_any (is_deployment id) ds ≡ true → list_any (is_deployment id) (cond b ds []) ≡ true
made_if_accepted id true ds ok made = made
made_if_accepted id false ds ok made = absurd cc

pub awaited_made : (came : List Traced → DeploymentId → Bool) (history : List Traced) → Each (λ id. was_made history id ≡ true) (lasting (awaited deployed_ids came) history)
awaited_made came =
    lasting_each (awaited deployed_ids came) (λ history id. was_made history id ≡ true) (λ history new id stays made. stays_made history new id made)
    (λ history new. accepted (λ id. was_made (history ++ new ∷ []) id ≡ true) (is_accepted new.entry.reply) _
    (λ ok. weaken (λ id. list_any (is_deployment id) (deployment_made history new.entry.pass new.entry.call) ≡ true) (λ id. was_made (history ++ new ∷ []) id ≡ true) _
    (λ id made. made_here history new id (made_if_accepted id (is_accepted new.entry.reply) _ ok made)) (deployed_made history new.entry.pass new.entry.call)))

abbrev pub id_key : DeploymentId → ℕ
id_key id = id.0.0

deployed_now : (history : List Traced) (call : Call) → IsMadeApart same_deployment id_key (length history) (deployed_ids history call)
deployed_now history (calls.Deploy worker pool tell count) = record { keyed = (refl, tt); apart = (tt, tt) }
deployed_now history _ = record { keyed = tt; apart = tt }

-- no deployment is awaited twice
pub awaited_apart : (came : List Traced → DeploymentId → Bool) (history : List Traced) → Apart same_deployment (lasting (awaited deployed_ids came) history)
awaited_apart came =
    lasting_apart (awaited deployed_ids came) same_deployment id_key (λ a b same. eqb-true a.0.0 b.0.0 same)
    (λ history new. made_if same_deployment id_key (length history) (is_accepted new.entry.reply) _ (deployed_now history new.entry.call))

-- ## Contexts of verticles

abbrev pub name_key : ContextId → ℕ
name_key context = context.entry.0

pub contexts_now : (history : List Traced) (call : Call) → Each (λ c. name_key c ≡ length history) (deployed_contexts history call)
contexts_now history (calls.Deploy worker pool tell count) = Each-map (λ c. name_key c ≡ length history) (λ (c : Context). c.id) (instances history worker pool 0 count) (instances_keyed history worker pool 0 count)
contexts_now history _ = tt

new_contexts : (history : List Traced) (b : Bool) (call : Call) → Each (λ c. name_key c ≡ length history) (cond b (deployed_contexts history call) [])
new_contexts history b call = accepted (λ c. name_key c ≡ length history) b _ (λ ok. contexts_now history call)

pub awaited_earlier : (came : List Traced → ContextId → Bool) (history : List Traced) → Each (λ c. name_key c < length history) (lasting (awaited deployed_contexts came) history)
awaited_earlier came = lasting_earlier (awaited deployed_contexts came) name_key (λ history new. new_contexts history (is_accepted new.entry.reply) new.entry.call)

pub unstarted_earlier : (history : List Traced) → Each (λ c. name_key c < length history) (unstarted history)
unstarted_earlier = lasting_earlier unstarted_kind name_key (λ history new. new_contexts history (is_accepted new.entry.reply) new.entry.call)

names_now : (history : List Traced) (call : Call) → IsMadeApart same_context name_key (length history) (deployed_contexts history call)
names_now history (calls.Deploy worker pool tell count) = record {
  keyed = contexts_now history (calls.Deploy worker pool tell count);
  apart = Apart-map same_by_id same_context (λ (c : Context). c.id) (λ x y differs. differs) (instances history worker pool 0 count) (instances_apart history worker pool 0 count);
}
names_now history _ = record { keyed = tt; apart = tt }

-- no context is awaited twice
pub contexts_apart : (came : List Traced → ContextId → Bool) (history : List Traced) → Apart same_context (lasting (awaited deployed_contexts came) history)
contexts_apart came =
    lasting_apart (awaited deployed_contexts came) same_context name_key (λ a b same. ap name_key (same_context-true a b same))
    (λ history new. made_if same_context name_key (length history) (is_accepted new.entry.reply) _ (names_now history new.entry.call))

-- the deployment of a verticle's context was made
of_made : (history : List Traced) (pass : PassNo) (worker : Bool) (pool : Option (List ℕ)) (tell : Option ContextId) (count : ℕ) (cs : List ContextId) → Each (λ c. name_key c ≡ length history) cs →
    Each (λ c. list_any (is_deployment (deployment_of c)) (deployment_made history pass (calls.Deploy worker pool tell count)) ≡ true) cs
of_made history pass worker pool tell count [] now = tt
of_made history pass worker pool tell count (c ∷ cs) now = (ap (λ b. b || false) (eq-eqb c.entry.0 (length history) now.0), of_made history pass worker pool tell count cs now.1)

deploys : (history : List Traced) (pass : PassNo) (call : Call) → Each (λ c. list_any (is_deployment (deployment_of c)) (deployment_made history pass call) ≡ true) (deployed_contexts history call)
deploys history pass (calls.Deploy worker pool tell count) = of_made history pass worker pool tell count _ (contexts_now history (calls.Deploy worker pool tell count))
deploys history pass _ = tt

-- what a Deploy makes of its contexts is of deployments that were made
of_deployed : (kind : Kind ContextId) → ((history : List Traced) (new : Traced) → kind.made history new ≡ deployed_contexts history new.entry.call) → (history : List Traced) → Each (λ c. was_made history (deployment_of c) ≡ true) (lasting kind history)
of_deployed kind made =
    lasting_each kind (λ history c. was_made history (deployment_of c) ≡ true) (λ history new c stays made. stays_made history new (deployment_of c) made)
    (λ history new. accepted (λ c. was_made (history ++ new ∷ []) (deployment_of c) ≡ true) (is_accepted new.entry.reply) _
    (λ ok. let P : List ContextId → Type 0 = Each (λ c. was_made (history ++ new ∷ []) (deployment_of c) ≡ true) in
    subst P (sym (made history new))
    (weaken (λ c. list_any (is_deployment (deployment_of c)) (deployment_made history new.entry.pass new.entry.call) ≡ true) (λ c. was_made (history ++ new ∷ []) (deployment_of c) ≡ true) _
    (λ c made. made_here history new (deployment_of c) (made_if_accepted (deployment_of c) (is_accepted new.entry.reply) _ ok made)) (deploys history new.entry.pass new.entry.call))))

pub unstarted_made : (history : List Traced) → Each (λ c. was_made history (deployment_of c) ≡ true) (unstarted history)
unstarted_made = of_deployed unstarted_kind (λ history new. refl)

pub awaited_of_made : (came : List Traced → ContextId → Bool) (history : List Traced) → Each (λ c. was_made history (deployment_of c) ≡ true) (lasting (awaited deployed_contexts came) history)
awaited_of_made came = of_deployed (awaited deployed_contexts came) (λ history new. refl)

-- ... of the held one too
abbrev IsOfMade : List Traced → Context → Type 0
IsOfMade history c = is_none c.maker ≡ true → was_made history (deployment_of c.id) ≡ true

verticle_made : (history : List Traced) (pass : PassNo) (call : Call) → Each (λ (c : Context). is_none c.maker ≡ true → list_any (is_deployment (deployment_of c.id)) (deployment_made history pass call) ≡ true) (context_made history pass call)
verticle_made history pass calls.NewContext = (λ own. absurd cc, tt)
verticle_made history pass (calls.Deploy worker pool tell count) =
    weaken (λ (c : Context). context_key c ≡ length history) (λ (c : Context). is_none c.maker ≡ true → list_any (is_deployment (deployment_of c.id)) (deployment_made history pass (calls.Deploy worker pool tell count)) ≡ true) _
    (λ c now own. ap (λ b. b || false) (eq-eqb c.id.entry.0 (length history) now)) (instances_keyed history worker pool 0 count)
verticle_made history pass _ = tt

of_context_made : (kind : Kind Context) → ((history : List Traced) (new : Traced) → kind.made history new ≡ context_made history new.entry.pass new.entry.call) → (history : List Traced) → Each (IsOfMade history) (lasting kind history)
of_context_made kind is =
    lasting_each kind IsOfMade (λ history new c stays made own. stays_made history new (deployment_of c.id) (made own))
    (λ history new. accepted (IsOfMade (history ++ new ∷ [])) (is_accepted new.entry.reply) _
    (λ ok. let P : List Context → Type 0 = Each (IsOfMade (history ++ new ∷ [])) in
    subst P (sym (is history new))
    (weaken (λ (c : Context). is_none c.maker ≡ true → list_any (is_deployment (deployment_of c.id)) (deployment_made history new.entry.pass new.entry.call) ≡ true) (IsOfMade (history ++ new ∷ [])) _
    (λ c made own. made_here history new (deployment_of c.id) (made_if_accepted (deployment_of c.id) (is_accepted new.entry.reply) _ ok (made own))) (verticle_made history new.entry.pass new.entry.call))))

verticles_made : (history : List Traced) → Each (IsOfMade history) (contexts history)
verticles_made = of_context_made context_kind (λ history new. refl)

pub open_made : (history : List Traced) → Each (IsOfMade history) (open_contexts history)
open_made = of_context_made open_context_kind (λ history new. refl)

verticle_named : (history : List Traced) (id : ContextId) (o : Option Context) → context_at history id ≡ o → is_verticle o ≡ true → was_made history (deployment_of id) ≡ true
verticle_named history id None found own = absurd cc
verticle_named history id (Some c) found own =
    ap (λ i. was_made history (deployment_of i)) (same_context-true id c.id (find_passes (is_context_of id) (contexts history) c found)) ∙ Each-find (IsOfMade history) (is_context_of id) (contexts history) c (verticles_made history) found own

held_made_of : (history : List Traced) (o : Option ContextId) (id : DeploymentId) → deployment_of_held history o ≡ Some id → was_made history id ≡ true
held_made_of history None id held = absurd cc
held_made_of history (Some c) id held =
    elim (is_verticle (context_at history c)) as (λ b. is_verticle (context_at history c) ≡ b → cond b (Some (deployment_of c)) None ≡ Some id → was_made history id ≡ true) [
      | true ↦ λ own is. (let e : deployment_of c ≡ id = cc in subst (λ d. was_made history d ≡ true) e (verticle_named history c (context_at history c) refl own))
      | false ↦ λ other is. absurd cc
    ] refl held

pub held_deployment_made : (history : List Traced) (pass : PassNo) (id : DeploymentId) → held_deployment history pass ≡ Some id → was_made history id ≡ true
held_deployment_made history pass id held = held_made_of history (held_context history pass) id held

-- ## Outside contexts

open_earlier : (history : List Traced) → Each (λ c. context_key c < length history) (open_contexts history)
open_earlier = lasting_earlier open_context_kind context_key (λ history new. (new_contexts_apart history new).keyed)

not_of : (id : DeploymentId) (c : Context) (n : ℕ) → id.0.0 < n → context_key c ≡ n → is_instance_of id c.id ≡ false
not_of id c n less now = earlier_name id.0.0 c.id.entry.0 (let e : c.id.entry.0 ≡ n = now in omega arith)

is_later : (id : DeploymentId) (c : Context) (n : ℕ) → id.0.0 ≡ n → context_key c < n → is_instance_of id c.id ≡ false
is_later id c n now less = later_name id.0.0 c.id.entry.0 (let e : c.id.entry.0 < n = less in omega arith)

of_verticles : (history : List Traced) (pass : PassNo) (worker : Bool) (pool : Option (List ℕ)) (first more : ℕ) → NoOutside (instances history worker pool first more) (record { id = next_deployment history; parent = held_deployment history pass })
of_verticles history pass worker pool first zero = tt
of_verticles history pass worker pool first (suc more) = (λ outside. absurd cc, of_verticles history pass worker pool (first + 1) more)

made_outside : (history : List Traced) (pass : PassNo) (call : Call) → Each (NoOutside (context_made history pass call)) (deployment_made history pass call)
made_outside history pass (calls.Deploy worker pool tell count) = (of_verticles history pass worker pool 0 count, tt)
made_outside history pass _ = tt

if_made : (b : Bool) (cs : List Context) (ds : List Deployment) → Each (NoOutside cs) ds → Each (NoOutside (cond b cs [])) (cond b ds [])
if_made true cs ds each = each
if_made false cs ds each = tt

both_old : (history : List Traced) (left more : List Context) → Each (λ c. context_key c ≡ length history) more → (ds : List Deployment) → Each (λ d. deployment_key d < length history) ds → Each (NoOutside left) ds → Each (NoOutside (left ++ more)) ds
both_old history left more keyed [] earlier none = tt
both_old history left more keyed (d ∷ ds) earlier none = (
  Each-append (λ (c : Context). is_none c.maker ≡ false → is_instance_of d.id c.id ≡ false) left more none.0
      (weaken (λ c. context_key c ≡ length history) (λ (c : Context). is_none c.maker ≡ false → is_instance_of d.id c.id ≡ false) more (λ c now outside. not_of d.id c (length history) earlier.0 now) keyed),
  both_old history left more keyed ds earlier.1 none.1,
)

both_new : (history : List Traced) (left more : List Context) → Each (λ c. context_key c < length history) left → (ds : List Deployment) → Each (λ d. deployment_key d ≡ length history) ds → Each (NoOutside more) ds → Each (NoOutside (left ++ more)) ds
both_new history left more before [] now none = tt
both_new history left more before (d ∷ ds) now none = (
  Each-append (λ (c : Context). is_none c.maker ≡ false → is_instance_of d.id c.id ≡ false) left more
      (weaken (λ c. context_key c < length history) (λ (c : Context). is_none c.maker ≡ false → is_instance_of d.id c.id ≡ false) left (λ c less outside. is_later d.id c (length history) now.0 less) before) none.0,
  both_new history left more before ds now.1 none.1,
)

-- no outside context is named like those of a deployment
pub no_outside : (history : List Traced) → Each (NoOutside (open_contexts history)) (deployments history)
no_outside =
    by_entries (λ history. Each (NoOutside (open_contexts history)) (deployments history))
    (let P : List Deployment → Type 0 = Each (NoOutside (open_contexts [])) in subst P (sym (lasting_none deployment_kind)) tt)
    (λ history new before.
    let old : List Context = open_contexts history in
    let left : List Context = filter (λ c. not (ended_by open_context_kind history new c)) old in
    let more : List Context = made_by open_context_kind history new in
    let Differs : Deployment → Context → Type 0 = λ d c. is_none c.maker ≡ false → is_instance_of d.id c.id ≡ false in
    let keyed : Each (λ c. context_key c ≡ length history) more = (new_contexts_apart history new).keyed in
    let Q : List Context → Type 0 = λ cs. Each (NoOutside cs) (deployments history ++ made_by deployment_kind history new) in
    let P : List Deployment → Type 0 = Each (NoOutside (open_contexts (history ++ new ∷ []))) in
    subst P (sym (deployments-append history new))
    (subst Q (sym (lasting-append open_context_kind history new))
    (Each-append (NoOutside (left ++ more)) (deployments history) (made_by deployment_kind history new)
    (both_old history left more keyed (deployments history) (deployments_earlier history)
    (weaken (NoOutside old) (NoOutside left) (deployments history) (λ d none. Each-filter (Differs d) (Differs d) _ old (λ c stays differs. differs) none) before))
    (both_new history left more
    (Each-filter (λ c. context_key c < length history) (λ c. context_key c < length history) _ old (λ c stays less. less) (open_earlier history)) (made_by deployment_kind history new) (new_deployments history new)
    (if_made (is_accepted new.entry.reply) _ _ (made_outside history new.entry.pass new.entry.call))))))
