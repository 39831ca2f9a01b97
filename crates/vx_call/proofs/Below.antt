-- Of a deployment that was asked to end, each child was asked too.
use Rattle.vx_call.proofs.Legal.{legal_front}
use Rattle.std.proofs.lemmas.Bool.{or_right}
use Rattle.std.proofs.Common.{◌≡◌, ℕ, ◌<◌, List, [], ◌∷◌, ◌++◌, refl, ap, sym, ◌∙◌, subst, arith}
use Rattle.std.specs.Prelude.{Bool, true, false, cond, ◌||◌, fold, map, find, Option, None, Some}
use Rattle.std.specs.List.{list_any}
use Rattle.std.specs.Option.{option_or, option_map}
use Rattle.std.proofs.lemmas.Bool.{eq-eqb}
use Rattle.std.proofs.lemmas.Grind.{fold-append}
use Rattle.std.proofs.lemmas.List.Folds.{list_any-append}
use Rattle.vx_data.specs.declared.ids.PassNo.{PassNo}
use Rattle.vx_data.specs.declared.ids.ContextId.{ContextId}
use Rattle.vx_data.specs.declared.ids.DeploymentId.{DeploymentId}
use Rattle.vx_data.specs.Ids.{same_deployment}
use Rattle.vx_call.specs.declared.call.Call.{Call}
use Rattle.vx_call.specs.declared.call.Call.TheVariants as calls
use Rattle.vx_call.specs.declared.reply.Refusal.{Refusal}
use Rattle.vx_call.specs.declared.reply.Reply.{Reply}
use Rattle.vx_call.specs.declared.history.Traced.{Traced}
use Rattle.vx_call.specs.History.{is_accepted, made_by}
use Rattle.vx_call.specs.Names.{next_entry}
use Rattle.vx_call.specs.Deployments.{Deployment, deployment_made, deployment_kind, deployments, is_among, with_child, below}
use Rattle.vx_call.specs.Askings.{Asking, asked_by, askings_below, asking_kind, askings, is_asking_of}
use Rattle.vx_call.specs.Refusals as refusals_of
use Rattle.vx_call.specs.Refusals.{unless_refused, spent, shut, if_named, no_context, no_pool, not_your_context, closed_if_named, bad_count, stopping_if, holder_stopping}
use Rattle.vx_call.specs.Rows.{deploy_refusal, deploy_row}
use Rattle.vx_call.specs.Machine.{answer, IsLegal}
use Rattle.vx_call.proofs.Lasting.{lasting_more, lasting_none, and_false}
use Rattle.vx_call.proofs.Each.{Each, Each-append, weaken, accepted, by_entries}
use Rattle.vx_call.proofs.Found.{earlier_name}
use Rattle.vx_call.proofs.Rising.{IsRising, each_split}
use Rattle.vx_call.proofs.Gone.{deployment_key, HasEarlierParent, parents_earlier, deployments_rising}

-- whether the deployment is one of these
abbrev pub is_one_of : List DeploymentId → DeploymentId → Bool
is_one_of ids id = list_any (same_deployment id) ids

or_last : (a b : Bool) → b ≡ false → (a || b) ≡ true → a ≡ true
or_last true b none h = refl
or_last false b none h = absurd cc

-- ## Below

stays_with : (id : DeploymentId) (found : List DeploymentId) (d : Deployment) → is_one_of found id ≡ true → is_one_of (with_child found d) id ≡ true
stays_with id found d one =
    elim (is_among found d.parent) as (λ b. is_one_of (cond b (found ++ d.id ∷ []) found) id ≡ true) [
      | true ↦ list_any-append (same_deployment id) found (d.id ∷ []) ∙ ap (λ b. b || list_any (same_deployment id) (d.id ∷ [])) one
      | false ↦ one
    ]

stays_below : (id : DeploymentId) (found : List DeploymentId) (all : List Deployment) → is_one_of found id ≡ true → is_one_of (fold with_child found all) id ≡ true
stays_below id found [] one = one
stays_below id found (d ∷ others) one = stays_below id (with_child found d) others (stays_with id found d one)

was_with : (id : DeploymentId) (found : List DeploymentId) (d : Deployment) → id.0.0 < deployment_key d → is_one_of (with_child found d) id ≡ true → is_one_of found id ≡ true
was_with id found d before =
    elim (is_among found d.parent) as (λ b. is_one_of (cond b (found ++ d.id ∷ []) found) id ≡ true → is_one_of found id ≡ true) [
      | true ↦ λ one.
          or_last (is_one_of found id) (list_any (same_deployment id) (d.id ∷ [])) (ap (λ b. b || false) (earlier_name id.0.0 d.id.0.0 before))
          (sym (list_any-append (same_deployment id) found (d.id ∷ [])) ∙ one)
      | false ↦ λ one. one
    ]

-- later deployments add none that was made before
was_below : (id : DeploymentId) (found : List DeploymentId) (all : List Deployment) → Each (λ d. id.0.0 < deployment_key d) all → is_one_of (fold with_child found all) id ≡ true → is_one_of found id ≡ true
was_below id found [] before one = one
was_below id found (d ∷ others) before one = was_with id found d before.0 (was_below id (with_child found d) others before.1 one)

adds : (found : List DeploymentId) (d : Deployment) → is_among found d.parent ≡ true → is_one_of (with_child found d) d.id ≡ true
adds found d among =
    ap (λ b. is_one_of (cond b (found ++ d.id ∷ []) found) d.id) among ∙ list_any-append (same_deployment d.id) found (d.id ∷ [])
    ∙ ap (λ b. is_one_of found d.id || (b || false)) (eq-eqb d.id.0.0 d.id.0.0 refl) ∙ or_right (is_one_of found d.id) true refl

behind : (front : List Deployment) (d : Deployment) (later : List Deployment) → IsRising deployment_key (front ++ d ∷ later) → Each (λ y. deployment_key d < deployment_key y) later
behind [] d later rising = rising.0
behind (x ∷ front) d later rising = behind front d later rising.1

child_below : (front : List Deployment) (d : Deployment) (later : List Deployment) (top parent : DeploymentId) → IsRising deployment_key (front ++ d ∷ later) → parent.0.0 < deployment_key d → d.parent ≡ Some parent →
    is_one_of (below (front ++ d ∷ later) top) parent ≡ true → is_one_of (below (front ++ d ∷ later) top) d.id ≡ true
child_below front d later top parent rising earlier is_parent one =
    let found = fold with_child (top ∷ []) front in
    let split : below (front ++ d ∷ later) top ≡ fold with_child found (d ∷ later) = fold-append with_child (top ∷ []) front (d ∷ later) in
    let rest : Each (λ y. parent.0.0 < deployment_key y) (d ∷ later) =
    (earlier, weaken (λ y. deployment_key d < deployment_key y) (λ y. parent.0.0 < deployment_key y) later (λ y less. omega arith) (behind front d later rising)) in
    let here : is_one_of found parent ≡ true = was_below parent found (d ∷ later) rest (ap (λ ids. is_one_of ids parent) (sym split) ∙ one) in
    ap (λ ids. is_one_of ids d.id) split ∙ stays_below d.id (with_child found d) later (adds found d (ap (is_among found) is_parent ∙ here))

-- the children of what is below a deployment are below it
abbrev IsClosed : List Deployment → DeploymentId → Deployment → Type 0
IsClosed all top d = (parent : DeploymentId) → d.parent ≡ Some parent → is_one_of (below all top) parent ≡ true → is_one_of (below all top) d.id ≡ true

-- each of two lists of facts, where it stands
both_split : (all : List Deployment) → IsRising deployment_key all → Each HasEarlierParent all → (top : DeploymentId) → Each (λ d. HasEarlierParent d → IsClosed all top d) all
both_split all rising earlier top =
    let Rising : List Deployment → Type 0 = IsRising deployment_key in
    each_split (λ d. HasEarlierParent d → IsClosed all top d) all
    (λ front d later split has parent is_parent one.
    let whole : is_one_of (below (front ++ d ∷ later) top) parent ≡ true = ap (λ ds. is_one_of (below ds top) parent) (sym split) ∙ one in
    ap (λ ds. is_one_of (below ds top) d.id) split ∙ child_below front d later top parent (subst Rising split rising) (has parent is_parent) is_parent whole)

apply_each : (P Q : Deployment → Type 0) (all : List Deployment) → Each (λ d. P d → Q d) all → Each P all → Each Q all
apply_each P Q [] f each = tt
apply_each P Q (d ∷ others) f each = (f.0 each.0, apply_each P Q others f.1 each.1)

pub below_closed : (history : List Traced) (top : DeploymentId) → Each (λ d. (parent : DeploymentId) → d.parent ≡ Some parent → is_one_of (below (deployments history) top) parent ≡ true →
    is_one_of (below (deployments history) top) d.id ≡ true) (deployments history)
below_closed history top =
    apply_each HasEarlierParent (IsClosed (deployments history) top) (deployments history) (both_split (deployments history) (deployments_rising history) (parents_earlier history) top) (parents_earlier history)

-- ## Asked

abbrev pub is_asked : List Traced → DeploymentId → Bool
is_asked history id = list_any (is_asking_of id) (askings history)

askings-append : (history : List Traced) (new : Traced) → askings (history ++ new ∷ []) ≡ askings history ++ made_by asking_kind history new
askings-append history new = lasting_more asking_kind history new (λ a. and_false (is_accepted new.entry.reply))

any_asking : (id : DeploymentId) (f : DeploymentId → Asking) → ((other : DeploymentId) → is_asking_of id (f other) ≡ same_deployment id other) → (ids : List DeploymentId) → list_any (is_asking_of id) (map f ids) ≡ is_one_of ids id
any_asking id f same [] = refl
any_asking id f same (other ∷ others) = ap (λ b. b || list_any (is_asking_of id) (map f others)) (same other) ∙ ap (λ b. same_deployment id other || b) (any_asking id f same others)

-- whether an entry asks it, as it asks the deployments below one
asked_below : (history : List Traced) (id top : DeploymentId) → list_any (is_asking_of id) (askings_below history (Some top)) ≡ is_one_of (below (deployments history) top) id
asked_below history id top = any_asking id (λ other. record { deployment = other; at = next_entry history }) (λ other. refl) (below (deployments history) top)

abbrev asked_next : List Traced → Traced → DeploymentId → Bool
asked_next history new id = list_any (is_asking_of id) (made_by asking_kind history new)

asked-append : (history : List Traced) (new : Traced) (id : DeploymentId) → is_asked (history ++ new ∷ []) id ≡ (is_asked history id || asked_next history new id)
asked-append history new id = ap (list_any (is_asking_of id)) (askings-append history new) ∙ list_any-append (is_asking_of id) (askings history) (made_by asking_kind history new)

abbrev ChildAsked : List Traced → Deployment → Type 0
ChildAsked history d = (parent : DeploymentId) → d.parent ≡ Some parent → is_asked history parent ≡ true → is_asked history d.id ≡ true

-- an entry that asks a deployment asks its children
next_asked : (history : List Traced) (d : Deployment) (parent : DeploymentId) (o : Option DeploymentId) →
    ((top : DeploymentId) → is_one_of (below (deployments history) top) parent ≡ true → is_one_of (below (deployments history) top) d.id ≡ true) →
    list_any (is_asking_of parent) (askings_below history o) ≡ true → list_any (is_asking_of d.id) (askings_below history o) ≡ true
next_asked history d parent None closed h = absurd cc
next_asked history d parent (Some top) closed h = asked_below history d.id top ∙ closed top (sym (asked_below history parent top) ∙ h)

if_asked : (id other : DeploymentId) (b : Bool) (made : List Asking) → (list_any (is_asking_of id) made ≡ true → list_any (is_asking_of other) made ≡ true) → list_any (is_asking_of id) (cond b made []) ≡ true →
    list_any (is_asking_of other) (cond b made []) ≡ true
if_asked id other true made on h = on h
if_asked id other false made on h = absurd cc

or_cases : (a b c d : Bool) → (a ≡ true → c ≡ true) → (b ≡ true → d ≡ true) → (a || b) ≡ true → (c || d) ≡ true
or_cases true b c d first second h = ap (λ e. e || d) (first refl)
or_cases false b c d first second h = ap (λ e. c || e) (second h) ∙ or_right c true refl

old_asked : (history : List Traced) (new : Traced) (d : Deployment) → ((top parent : DeploymentId) → d.parent ≡ Some parent → is_one_of (below (deployments history) top) parent ≡ true → is_one_of (below (deployments history) top) d.id ≡ true) →
    ChildAsked history d → ChildAsked (history ++ new ∷ []) d
old_asked history new d closed asked parent is_parent h =
    asked-append history new d.id
    ∙ or_cases (is_asked history parent) (asked_next history new parent) (is_asked history d.id) (asked_next history new d.id) (asked parent is_parent)
    (if_asked parent d.id (is_accepted new.entry.reply) (askings_below history (asked_by history new.entry.pass new.entry.call))
    (next_asked history d parent (asked_by history new.entry.pass new.entry.call) (λ top. closed top parent is_parent)))
    (sym (asked-append history new parent) ∙ h)

-- ## A Deploy below one that was asked is refused

pub not_refused : (o : Option Refusal) (reply : Reply) → is_accepted (unless_refused o reply) ≡ true → o ≡ None
not_refused None reply ok = refl
not_refused (Some refusal) reply ok = absurd cc

pub under : (o : Option Refusal) (reply : Reply) → o ≡ None → is_accepted (unless_refused o reply) ≡ true → is_accepted reply ≡ true
under None reply none ok = ok
under (Some refusal) reply none ok = absurd cc

pub second : (a b : Option Refusal) → option_or a b ≡ None → b ≡ None
second None b none = none
second (Some refusal) b none = absurd cc

not_stopping : (history : List Traced) (pass : PassNo) (worker : Bool) (pool : Option (List ℕ)) (tell : Option ContextId) (count : ℕ) → is_accepted (answer history pass (calls.Deploy worker pool tell count)) ≡ true →
    holder_stopping history pass ≡ None
not_stopping history pass worker pool tell count ok =
    let call = calls.Deploy worker pool tell count in
    let above = option_or (spent history) (shut history call) in
    let row = deploy_row history pass pool tell count in
    let row_ok : is_accepted row ≡ true = under above row (not_refused above row ok) ok in
    let none : deploy_refusal history pass pool tell count ≡ None = not_refused (deploy_refusal history pass pool tell count) _ row_ok in
    second (bad_count 64 count) _
    (second (closed_if_named history pass tell) _
    (second (if_named (not_your_context history pass) tell) _ (second (no_pool history pool) _ (second (if_named (no_context history) tell) _ none))))

find_asked : (id : DeploymentId) (all : List Asking) → find (is_asking_of id) all ≡ None → list_any (is_asking_of id) all ≡ false
find_asked id [] none = refl
find_asked id (asking ∷ others) none =
    elim (is_asking_of id asking) as (λ b. cond b (Some asking) (find (is_asking_of id) others) ≡ None → (b || list_any (is_asking_of id) others) ≡ false) [
      | true ↦ λ h. absurd cc
      | false ↦ λ h. find_asked id others h
    ] none

abbrev asked_refusal : Option Asking → Option Refusal
asked_refusal o = refusals_of.stopping_since (option_map (λ (asking : Asking). asking.at) o)

never_asked : (history : List Traced) (parent : DeploymentId) → stopping_if history (Some parent) ≡ None → is_asked history parent ≡ false
never_asked history parent none =
    elim (find (is_asking_of parent) (askings history)) as (λ o. find (is_asking_of parent) (askings history) ≡ o → asked_refusal o ≡ None → is_asked history parent ≡ false) [
      | None ↦ λ nobody h. find_asked parent (askings history) nobody
      | Some asking ↦ λ some h. absurd cc
    ] refl none

new_asked : (history : List Traced) (new : Traced) (pass : PassNo) (call : Call) → is_accepted new.entry.reply ≡ true → new.entry.call ≡ call → new.entry.pass ≡ pass → new.entry.reply ≡ answer history pass call →
    Each (ChildAsked (history ++ new ∷ [])) (deployment_made history pass call)
new_asked history new pass (calls.Deploy worker pool tell count) ok is_call is_pass answered =
    let call = calls.Deploy worker pool tell count in
    let none : holder_stopping history pass ≡ None = not_stopping history pass worker pool tell count (ap is_accepted (sym answered) ∙ ok) in
    let nothing : (id : DeploymentId) → asked_next history new id ≡ false = λ id.
    ap (λ b. list_any (is_asking_of id) (cond b (askings_below history (asked_by history new.entry.pass new.entry.call)) [])) ok
    ∙ ap (λ c. list_any (is_asking_of id) (askings_below history (asked_by history new.entry.pass c))) is_call in (
      λ parent is_parent h.
          let before : is_asked history parent ≡ false = never_asked history parent (ap (stopping_if history) (sym is_parent) ∙ none) in
          let after : is_asked (history ++ new ∷ []) parent ≡ false = asked-append history new parent ∙ ap (λ b. b || asked_next history new parent) before ∙ nothing parent in
          absurd cc,
      tt,
    )
new_asked history new pass _ ok is_call is_pass answered = tt

-- ## All legal histories

all_tops : (all : List Deployment) (P : DeploymentId → Deployment → Type 0) → ((top : DeploymentId) → Each (P top) all) → Each (λ d. (top : DeploymentId) → P top d) all
all_tops [] P each = tt
all_tops (d ∷ others) P each = (λ top. (each top).0, all_tops others P (λ top. (each top).1))

all_closed : (history : List Traced) →
    Each (λ d. (top parent : DeploymentId) → d.parent ≡ Some parent → is_one_of (below (deployments history) top) parent ≡ true → is_one_of (below (deployments history) top) d.id ≡ true) (deployments history)
all_closed history = all_tops (deployments history) (λ top d. IsClosed (deployments history) top d) (λ top. below_closed history top)

-- of a deployment that was asked to end, each child was asked too
pub children_asked : (history : List Traced) → IsLegal history → Each (λ d. (parent : DeploymentId) → d.parent ≡ Some parent → is_asked history parent ≡ true → is_asked history d.id ≡ true) (deployments history)
children_asked =
    by_entries (λ history. IsLegal history → Each (ChildAsked history) (deployments history))
    (λ legal. let P : List Deployment → Type 0 = Each (ChildAsked []) in subst P (sym (lasting_none deployment_kind)) tt)
    (λ history new before legal.
    let may = legal history new [] refl in
    let after = history ++ new ∷ [] in
    let P : List Deployment → Type 0 = Each (ChildAsked after) in
    let Closed : Deployment → Type 0 = λ d. (top parent : DeploymentId) → d.parent ≡ Some parent → is_one_of (below (deployments history) top) parent ≡ true → is_one_of (below (deployments history) top) d.id ≡ true in
    let made : Each (ChildAsked after) (made_by deployment_kind history new) =
    accepted (ChildAsked after) (is_accepted new.entry.reply) (deployment_made history new.entry.pass new.entry.call) (λ ok. new_asked history new new.entry.pass new.entry.call ok refl refl may.answered) in
    subst P (sym (lasting_more deployment_kind history new (λ d. and_false (is_accepted new.entry.reply))))
    (Each-append (ChildAsked after) (deployments history) (made_by deployment_kind history new)
    (apply_each (ChildAsked history) (ChildAsked after) (deployments history)
    (weaken Closed (λ d. ChildAsked history d → ChildAsked after d) (deployments history) (λ d closed asked. old_asked history new d closed asked) (all_closed history))
    (before (legal_front history (new ∷ []) legal)))
    made))
