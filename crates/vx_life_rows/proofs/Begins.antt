-- The empty history, and how many instances there are.
use Rattle.std.proofs.Common.{◌≡◌, ℕ, ◌+◌, ◌*◌, ◌<◌, ◌≤◌, List, [], ◌∷◌, ◌++◌, length, refl, ap, sym, ◌∙◌, subst, arith}
use Rattle.std.specs.Prelude.{Bool, true, false, ◌||◌, ◌==◌, nat_lt, cond, fold, filter, find, map, Option, None, Some}
use Rattle.std.specs.List.{list_any}
use Rattle.std.specs.Option.{option_or}
use Rattle.std.proofs.lemmas.Bool.Decides.{nat_tests}
use Rattle.std.proofs.lemmas.Grind.{fold-append}
use Rattle.std.proofs.lemmas.List.{length_push}
use Rattle.vx_data.specs.declared.ids.ContextId.{ContextId}
use Rattle.vx_data.specs.declared.ids.PassNo.{PassNo}
use Rattle.vx_call.specs.declared.call.Call.{Call}
use Rattle.vx_call.specs.declared.call.Call.TheVariants as calls
use Rattle.vx_call.specs.declared.history.Traced.{Traced}
use Rattle.vx_call.specs.declared.reply.Refusal.TheVariants as refusals
use Rattle.vx_call.specs.declared.reply.Reply.TheVariants as replies
use Rattle.vx_call.specs.History.{is_accepted, made_by, lasting}
use Rattle.vx_call.specs.Names.{next_deployment}
use Rattle.vx_call.specs.Loops.{loops_kind, first_or, standard_made, standard_kind, standard_instances}
use Rattle.vx_call.specs.Contexts.{context_kind}
use Rattle.vx_call.specs.Deployments.{deployment_kind, deployed_ids}
use Rattle.vx_call.specs.Tells.{Tell, undeploy_tell_kind}
use Rattle.vx_call.specs.Starts.{deployed_contexts, unstarted_kind, unstopped_kind}
use Rattle.vx_call.specs.Stopping.{stop_kind}
use Rattle.vx_call.specs.Closings.{close_kind, open_context_kind, open_contexts, is_open}
use Rattle.vx_call.specs.Askings.{Asking, asking_kind, askings}
use Rattle.vx_call.specs.There.{is_deployment, there_of, there, is_gone}
use Rattle.vx_call.specs.Ends.{is_deployed, stops_now}
use Rattle.vx_call.specs.Coming.{awaited}
use Rattle.vx_call.specs.Refusals.{spent, shut, if_named, no_context, no_pool, not_your_context, closed_if_named, bad_count, refused_if, holder_stopping}
use Rattle.vx_call.specs.Rows.{deploy_refusal, deploy_row}
use Rattle.vx_call.specs.Machine.{answer, MayFollow, IsLegal}
use Rattle.vx_call.proofs.Lasting.{lasting_none, lasting_more, and_false}
use Rattle.vx_call.proofs.Below.{not_refused, under, second}
use Rattle.vx_call.proofs.Each.{Each, by_entries}
use Rattle.vx_call.proofs.Legal.{legal_front}
use Rattle.vx_life.specs.Stores.{no_lives}
use Rattle.vx_life.specs.Stands.{node_of, verticles_of, stop_of, record_of, LifeStands}
use Rattle.vx_life_rows.proofs.Bridge.{asked_in}

-- ## The empty history

none_there : there [] ≡ []
none_there =
    ap (there_of (askings []) (open_contexts [])) (lasting_none deployment_kind)

pub life_begins : LifeStands no_lives []
life_begins =
    let Asked : List Asking → Type 0 = Each (λ (a : Asking). a.deployment.0.0 < 0) in
    let Told : List Tell → Type 0 = Each (λ (t : Tell). t.deployment.0.0 < 0) in
    let Taken : List ContextId → Type 0 = Each (λ (c : ContextId). c.entry.0 < 0) in
    record {
      parts = record {
        loops = sym (ap (first_or 2) (lasting_none loops_kind));
        standard = sym (ap (fold (λ all count. all + count) 0) (lasting_none standard_kind));
        there = sym (ap (map node_of) none_there);
        asked = λ id. sym (ap (λ all. asked_in all id) (lasting_none asking_kind));
        known = λ id. sym (ap (list_any (is_deployment id)) (lasting_none deployment_kind));
        live = sym (ap verticles_of (lasting_none open_context_kind));
        starting = sym (lasting_none unstarted_kind);
        unstopped = sym (lasting_none unstopped_kind);
        stops = sym (ap (λ cs. map (stop_of []) (verticles_of cs)) (lasting_none context_kind));
        records = sym (ap (map (record_of [])) (lasting_none deployment_kind));
        closed = sym (ap (find (λ at. true)) (lasting_none close_kind));
        earlier = record {
          asked = subst Asked (sym (lasting_none asking_kind)) tt;
          told = subst Told (sym (lasting_none undeploy_tell_kind)) tt;
          taken = subst Taken (sym (lasting_none stop_kind)) tt;
        };
      };
      coming = record {
        deploying = sym (lasting_none (awaited deployed_ids is_deployed));
        ending = sym (lasting_none (awaited deployed_ids is_gone));
        to_stop = sym (ap (filter (is_open [])) (lasting_none (awaited deployed_contexts stops_now)));
      };
    }

-- ## What an accepted Deploy tells of the history

-- no cause to refuse it applies
deploy_free : (history : List Traced) (pass : PassNo) (worker : Bool) (pool : Option (List ℕ)) (tell : Option ContextId) (count : ℕ) → is_accepted (answer history pass (calls.Deploy worker pool tell count)) ≡ true →
    option_or (bad_count 64 count) (holder_stopping history pass) ≡ None
deploy_free history pass worker pool tell count ok =
    let above = option_or (spent history) (shut history (calls.Deploy worker pool tell count)) in
    let row = deploy_row history pass pool tell count in
    let row_ok : is_accepted row ≡ true = under above row (not_refused above row ok) ok in
    let none : deploy_refusal history pass pool tell count ≡ None = not_refused (deploy_refusal history pass pool tell count) (replies.Deployment (next_deployment history)) row_ok in
    second (closed_if_named history pass tell) _
    (second (if_named (not_your_context history pass) tell) _ (second (no_pool history pool) _ (second (if_named (no_context history) tell) _ none)))

-- the caller's deployment was not asked to end
pub unasked : (history : List Traced) (pass : PassNo) (worker : Bool) (pool : Option (List ℕ)) (tell : Option ContextId) (count : ℕ) → is_accepted (answer history pass (calls.Deploy worker pool tell count)) ≡ true → holder_stopping history pass ≡ None
unasked history pass worker pool tell count ok = second (bad_count 64 count) (holder_stopping history pass) (deploy_free history pass worker pool tell count ok)

first : {A : Type 0} (a b : Option A) → option_or a b ≡ None → a ≡ None
first None b none = refl
first (Some x) b none = absurd cc

not_many : (count : ℕ) → (a b : Bool) → a ≡ (count == 0) → b ≡ nat_lt 64 count → refused_if (a || b) refusals.BadCount ≡ None → count ≤ 64
not_many count true b is_a is_b none = absurd cc
not_many count false true is_a is_b none = absurd cc
not_many count false false is_a is_b none = grind (arith, nat_tests)

few : (count : ℕ) → bad_count 64 count ≡ None → count ≤ 64
few count none = not_many count (count == 0) (nat_lt 64 count) refl refl none

few_made : (history : List Traced) (pass : PassNo) (call : Call) → is_accepted (answer history pass call) ≡ true → (n : ℕ) → fold (λ all count. all + count) n (standard_made call) ≤ n + 64
few_made history pass (calls.Deploy false pool tell count) ok n =
    let less = few count (first (bad_count 64 count) (holder_stopping history pass) (deploy_free history pass false pool tell count ok)) in omega arith
few_made history pass _ ok n = omega arith

few_more : (history : List Traced) (new : Traced) → MayFollow history new → standard_instances (history ++ new ∷ []) ≤ standard_instances history + 64
few_more history new may =
    let n = standard_instances history in
    let more : standard_instances (history ++ new ∷ []) ≡ fold (λ all count. all + count) n (made_by standard_kind history new) =
    ap (fold (λ all count. all + count) 0) (lasting_more standard_kind history new (λ count. and_false (is_accepted new.entry.reply))) ∙ fold-append (λ all count. all + count) 0 (lasting standard_kind history) (made_by standard_kind history new) in
    elim (is_accepted new.entry.reply) as (λ b. is_accepted new.entry.reply ≡ b → standard_instances (history ++ new ∷ []) ≤ n + 64) [
      | true ↦ λ ok.
          (let now : standard_instances (history ++ new ∷ []) ≡ fold (λ all count. all + count) n (standard_made new.entry.call) = more ∙ ap (λ b. fold (λ all count. all + count) n (cond b (standard_made new.entry.call) [])) ok in
          let less = few_made history new.entry.pass new.entry.call (ap is_accepted (sym may.answered) ∙ ok) n in
          omega arith)
      | false ↦ λ refused.
          (let now : standard_instances (history ++ new ∷ []) ≡ n = more ∙ ap (λ b. fold (λ all count. all + count) n (cond b (standard_made new.entry.call) [])) refused in
          omega arith)
    ] refl

-- in a legal history each entry made at most 64
pub few_instances : (history : List Traced) → IsLegal history → standard_instances history ≤ 64 * length history
few_instances =
    by_entries (λ history. IsLegal history → standard_instances history ≤ 64 * length history)
    (λ legal. let none : standard_instances [] ≡ 0 = ap (fold (λ all count. all + count) 0) (lasting_none standard_kind) in omega arith)
    (λ history new before legal.
    let less = before (legal_front history (new ∷ []) legal) in
    let step = few_more history new (legal history new [] refl) in
    let longer = length_push history new in
    omega arith)
