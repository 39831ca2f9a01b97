-- What is made ready as deployments are brought on is what the machine says.
use Rattle.std.proofs.Common.{◌≡◌, ℕ, ◌+◌, List, [], ◌∷◌, ◌++◌, length, refl, ap, sym, ◌∙◌, subst, arith}
use Rattle.std.proofs.lemmas.List.{map-append, length-map}
use Rattle.std.proofs.lemmas.List.Elements.{filter-append}
use Rattle.std.specs.Prelude.{Bool, true, false, cond, map, filter, find, is_some, Option, None, Some}
use Rattle.std.specs.List.{flat_map}
use Rattle.std.specs.Option.{option_to_list}
use Rattle.vx_data.specs.declared.ids.ContextId.{ContextId}
use Rattle.vx_data.specs.declared.ids.DeploymentId.{DeploymentId}
use Rattle.vx_data.specs.declared.ids.EntryNo.{EntryNo}
use Rattle.vx_message.specs.declared.Context.{Context}
use Rattle.vx_message.specs.declared.DoneResult.{DoneResult}
use Rattle.vx_message.specs.declared.Item.{Item}
use Rattle.vx_message.specs.declared.ItemKind.{ItemKind}
use Rattle.vx_message.specs.declared.ItemKind.TheVariants as kinds
use Rattle.vx_message.specs.declared.Mode.{Mode}
use Rattle.vx_message.specs.declared.Mode.TheVariants as modes
use Rattle.vx_call.specs.declared.reply.Task.{Task}
use Rattle.vx_call.specs.declared.reply.Task.TheVariants as tasks
use Rattle.vx_call.specs.declared.history.Traced.{Traced}
use Rattle.vx_call.specs.History.{lasting}
use Rattle.vx_call.specs.Names.{next_entry}
use Rattle.vx_call.specs.Contexts.{is_context_of, context_at}
use Rattle.vx_call.specs.Given.{mode_of}
use Rattle.vx_call.specs.Kinds.{kind_of}
use Rattle.vx_call.specs.Tells.{deploy_tell_kind, undeploy_tell_kind, told_in}
use Rattle.vx_call.specs.Deployments.{deployed_ids}
use Rattle.vx_call.specs.Closings.{open_contexts}
use Rattle.vx_call.specs.Closings as closings
use Rattle.vx_call.specs.There as there
use Rattle.vx_call.specs.Ends as ends
use Rattle.vx_call.specs.Coming.{moves_on, coming}
use Rattle.vx_call.specs.Lives.{Ready, deploy_told, deploy_end, undeploy_end, open_ones, ends_and_stops}
use Rattle.vx_call.specs.Items.{placed}
use Rattle.vx_call.proofs.Each.{Each, Each-filter, Each-both, passing}
use Rattle.vx_call.proofs.FirstOutcomes.{placed-append}
use Rattle.vx_tree.specs.Nodes.{may_stop}
use Rattle.vx_life.specs.Stores.{LifeStore, is_deployed, is_gone}
use Rattle.vx_life.specs.Stores as lives
use Rattle.vx_life.specs.Stands.{IsBehind}
use Rattle.vx_life_rows.specs.Said.{IsTold}
use Rattle.vx_life_rows.proofs.RowComing.{deployed_come, gone_come, stops_come, deploying_told, ending_told}
use Rattle.vx_context.specs.Stores.{ContextStore, lane_in, item_of}
use Rattle.vx_core_life.specs.declared.moving.Telling.{Telling}
use Rattle.vx_core_life.specs.Knowing.{Knows}
use Rattle.vx_core_life.specs.Moving.{deploy_telling, undeploy_telling, stop_telling, tellings, item_for, telling_item, telling_items}

-- ## One task

-- what the machine makes ready for it: nothing where nobody is told, else a handler's task of that kind
abbrev pub Tells : List Traced → Option ContextId → ItemKind → List Ready → Type 0
Tells after None kind ready = ready ≡ []
Tells after (Some context) kind ready = (task : Task) × (ready ≡ record { context = context; task = task } ∷ []) × (kind_of task ≡ kind) × (mode_of after task ≡ modes.Handler)

abbrev pub AllTell : List Traced → List Telling → List Ready → Type 0
AllTell after [] ready = ready ≡ []
AllTell after (telling ∷ others) ready = (one : List Ready) × (more : List Ready) × (ready ≡ one ++ more) × Tells after telling.to telling.kind one × AllTell after others more

-- the task of an open context, as the contexts keep it
item_is : (store : ContextStore) (at : EntryNo) (history after : List Traced) (place : ℕ) (context : ContextId) (kind : ItemKind) (task : Task) → Knows store at history after → kind_of task ≡ kind → mode_of after task ≡ modes.Handler →
    (let i : Item = record { entry = at; place = place; context = context; lane = lane_in (find (is_context_of context) store.made) modes.Handler; mode = modes.Handler; kind = kind } in i)
    ≡ item_of after (record { entry = next_entry history; place = place; context = context; task = task })
item_is store at history after place context kind task knows of_kind handler =
    let entry : ℕ → EntryNo = λ n. record { 0 = n } in
    let item : ℕ → Option Context → Mode → ItemKind → Item = λ n o mode k. record { entry = entry n; place = place; context = context; lane = lane_in o mode; mode = mode; kind = k } in
    ap (λ n. item n (find (is_context_of context) store.made) modes.Handler kind) knows.entry
    ∙ ap (λ cs. item (length history) (find (is_context_of context) cs) modes.Handler kind) knows.made
    ∙ ap (λ m. item (length history) (context_at after context) m kind) (sym handler)
    ∙ ap (item (length history) (context_at after context) (mode_of after task)) (sym of_kind)

one_open : (b : Bool) (store : ContextStore) (at : EntryNo) (history after : List Traced) (place : ℕ) (context : ContextId) (kind : ItemKind) (task : Task) → Knows store at history after → kind_of task ≡ kind → mode_of after task ≡ modes.Handler →
    item_for store at place (record { to = Some context; kind = kind }) (cond b (Some context) None) ≡ map (item_of after) (placed history place (cond b (record { context = context; task = task } ∷ []) []))
one_open true store at history after place context kind task knows of_kind handler = ap (λ item. item ∷ []) (item_is store at history after place context kind task knows of_kind handler)
one_open false store at history after place context kind task knows of_kind handler = refl

one_told : (store : ContextStore) (at : EntryNo) (history after : List Traced) (place : ℕ) (to : Option ContextId) (kind : ItemKind) (ready : List Ready) → Knows store at history after → Tells after to kind ready →
    telling_item store at place (record { to = to; kind = kind }) ≡ map (item_of after) (placed history place (open_ones (open_contexts after) ready))
one_told store at history after place None kind ready knows tells = ap (λ rs. map (item_of after) (placed history place (open_ones (open_contexts after) rs))) (sym tells)
one_told store at history after place (Some context) kind ready knows tells =
    let one : Ready = record { context = context; task = tells.0 } in
    ap (λ b. item_for store at place (record { to = Some context; kind = kind }) (cond b (Some context) None)) (knows.opened context)
    ∙ one_open (closings.is_open_in (open_contexts after) context) store at history after place context kind tells.0 knows tells.2 tells.3
    ∙ ap (λ rs. map (item_of after) (placed history place (open_ones (open_contexts after) rs))) (sym tells.1)

-- ## All of them

placed_len : (history : List Traced) (place : ℕ) (ready : List Ready) → length (placed history place ready) ≡ length ready
placed_len history place [] = refl
placed_len history place (one ∷ others) = let a = placed_len history (place + 1) others in omega (arith, a)

all_told : (store : ContextStore) (at : EntryNo) (history after : List Traced) (place : ℕ) (all : List Telling) (ready : List Ready) → Knows store at history after → AllTell after all ready →
    telling_items store at place all ≡ map (item_of after) (placed history place (open_ones (open_contexts after) ready))
all_told store at history after place [] ready knows none = ap (λ rs. map (item_of after) (placed history place (open_ones (open_contexts after) rs))) (sym none)
all_told store at history after place (telling ∷ others) ready knows tell =
    let one : List Ready = tell.0 in
    let more : List Ready = tell.1 in
    let opened : List Ready → List Ready = open_ones (open_contexts after) in
    let items : ℕ → List Ready → List Item = λ n rs. map (item_of after) (placed history n rs) in
    let here : telling_item store at place telling ≡ items place (opened one) = one_told store at history after place telling.to telling.kind one knows tell.3 in
    let next : ℕ = place + length (telling_item store at place telling) in
    let counted = ap (λ (xs : List Item). length xs) here in
    let mapped = length-map (placed history place (opened one)) (item_of after) in
    let len = placed_len history place (opened one) in
    ap (λ xs. xs ++ telling_items store at next others) here
    ∙ ap (λ xs. items place (opened one) ++ xs) (all_told store at history after next others more knows tell.4)
    ∙ sym (map-append (item_of after) (placed history place (opened one)) (placed history next (opened more)))
    ∙ ap (map (item_of after)) (sym (placed-append history place next (opened one) (opened more) (omega (arith, counted, mapped, len))))
    ∙ ap (items place) (sym (filter-append (λ (r : Ready). closings.is_open_in (open_contexts after) r.context) one more))
    ∙ ap (λ rs. items place (opened rs)) (sym tell.2)

tell-append : (after : List Traced) (first more : List Telling) (one others : List Ready) → AllTell after first one → AllTell after more others → AllTell after (first ++ more) (one ++ others)
tell-append after [] more one others none tell = let P : List Ready → Type 0 = λ rs. AllTell after more (rs ++ others) in subst P (sym none) tell
tell-append after (telling ∷ rest) more one others first tell =
    (first.0, first.1 ++ others, ap (λ rs. rs ++ others) first.2 ∙ append_all first.0 first.1 others, first.3, tell-append after rest more first.1 others first.4 tell)
  where
    append_all : (xs ys zs : List Ready) → (xs ++ ys) ++ zs ≡ xs ++ (ys ++ zs)
    append_all [] ys zs = refl
    append_all (x ∷ xs) ys zs = ap (λ rest. x ∷ rest) (append_all xs ys zs)

-- ## Each kind of them

deploy_tells : (after : List Traced) (id : DeploymentId) (to : Option ContextId) (result : Option DoneResult) → is_some result ≡ true → Tells after to (kinds.DeployEnd id) (deploy_told id to result)
deploy_tells after id None result some = refl
deploy_tells after id (Some context) None some = absurd cc
deploy_tells after id (Some context) (Some result) some = (tasks.DeployEnd id result, refl, refl, refl)

undeploy_tells : (after : List Traced) (id : DeploymentId) (to : Option ContextId) → Tells after to (kinds.UndeployEnd id) (map (λ context. record { context = context; task = tasks.UndeployEnd id }) (option_to_list to))
undeploy_tells after id None = refl
undeploy_tells after id (Some context) = (tasks.UndeployEnd id, refl, refl, refl)

-- who is told of a deployment, and that its deploying has ended
record HasEnded (life : LifeStore) (after : List Traced) (id : DeploymentId) : Type 0 where
  pub told : IsTold life after id
  pub ended : is_some (lives.deploy_result life id) ≡ true

all_deployed : (life : LifeStore) (after : List Traced) (ids : List DeploymentId) → Each (HasEnded life after) ids → AllTell after (map (deploy_telling life) ids) (flat_map (deploy_end after) ids)
all_deployed life after [] each = refl
all_deployed life after (id ∷ ids) each =
    let told = each.0.told in
    let P : Option ContextId → Type 0 = λ o. Tells after o (kinds.DeployEnd id) (deploy_end after id) in (
      deploy_end after id,
      flat_map (deploy_end after) ids,
      refl,
      subst P (sym told.deploy_told) (deploy_tells after id (told_in (lasting deploy_tell_kind after) id) (ends.deploy_result after id) (ap is_some (sym told.deploy_result) ∙ each.0.ended)),
      all_deployed life after ids each.1,
    )

all_gone : (life : LifeStore) (after : List Traced) (ids : List DeploymentId) → Each (IsTold life after) ids → AllTell after (map (undeploy_telling life) ids) (flat_map (undeploy_end after) ids)
all_gone life after [] each = refl
all_gone life after (id ∷ ids) each =
    let P : Option ContextId → Type 0 = λ o. Tells after o (kinds.UndeployEnd id) (undeploy_end after id) in (
      undeploy_end after id,
      flat_map (undeploy_end after) ids,
      refl,
      subst P (sym each.0.undeploy_told) (undeploy_tells after id (told_in (lasting undeploy_tell_kind after) id)),
      all_gone life after ids each.1,
    )

all_stopping : (after : List Traced) (all : List ContextId) → AllTell after (map stop_telling all) (map (λ context. record { context = context; task = tasks.Stop context }) all)
all_stopping after [] = refl
all_stopping after (context ∷ others) =
    let one : Ready = record { context = context; task = tasks.Stop context } in
    (one ∷ [], map (λ c. record { context = c; task = tasks.Stop c }) others, refl, (tasks.Stop context, refl, refl, refl), all_stopping after others)

-- what comes is what the machine makes ready behind the outcomes
pub moved_on : (life : LifeStore) (store : ContextStore) (at : EntryNo) (history : List Traced) (new : Traced) (place : ℕ) → moves_on history new.entry.pass new.entry.call ≡ true → IsBehind life history (history ++ new ∷ []) →
    Knows store at history (history ++ new ∷ []) → telling_items store at place (tellings life) ≡ map (item_of (history ++ new ∷ [])) (placed history place (ends_and_stops history new))
moved_on life store at history new place moves behind knows =
    let after = history ++ new ∷ [] in
    let deployed : List DeploymentId = filter (is_deployed life) life.deploying in
    let gone : List DeploymentId = filter (is_gone life) life.ending in
    let stopping : List ContextId = filter (may_stop life.tree) life.tree.to_stop in
    let ended = Each-both (IsTold life after) (λ id. is_deployed life id ≡ true) (HasEnded life after) deployed (λ id told some. record { told = told; ended = some })
    (Each-filter (IsTold life after) (IsTold life after) (is_deployed life) life.deploying (λ id passes told. told) (deploying_told life history new behind)) (passing (is_deployed life) life.deploying) in
    let left = Each-filter (IsTold life after) (IsTold life after) (is_gone life) life.ending (λ id passes told. told) (ending_told life history new behind) in
    let stop : ContextId → Ready = λ context. record { context = context; task = tasks.Stop context } in
    let ready : List DeploymentId → List DeploymentId → List ContextId → List Ready = λ ids others all. flat_map (deploy_end after) ids ++ (flat_map (undeploy_end after) others ++ map stop all) in
    let all : AllTell after (tellings life) (ready deployed gone stopping) =
    tell-append after (map (deploy_telling life) deployed) (map (undeploy_telling life) gone ++ map stop_telling stopping) (flat_map (deploy_end after) deployed) (flat_map (undeploy_end after) gone ++ map stop stopping)
    (all_deployed life after deployed ended)
    (tell-append after (map (undeploy_telling life) gone) (map stop_telling stopping) (flat_map (undeploy_end after) gone) (map stop stopping) (all_gone life after gone left) (all_stopping after stopping)) in
    let items : List Ready → List Item = λ rs. map (item_of after) (placed history place (open_ones (open_contexts after) rs)) in
    all_told store at history after place (tellings life) (ready deployed gone stopping) knows all
    ∙ ap (λ ids. items (ready ids gone stopping)) (deployed_come history new moves life behind)
    ∙ ap (λ ids. items (ready (coming deployed_ids ends.is_deployed history new) ids stopping)) (gone_come history new moves life behind)
    ∙ ap (λ cs. items (ready (coming deployed_ids ends.is_deployed history new) (coming deployed_ids there.is_gone history new) cs)) (stops_come history new moves life behind)
