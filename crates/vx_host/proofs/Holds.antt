-- What a pass holds is its own matter: what others do meanwhile leaves it.
use Rattle.std.proofs.Common.{◌≡◌, ℕ, ◌<◌, suc, List, [], ◌∷◌, ◌++◌, length, refl, sym, ap, ◌∙◌, subst, append_assoc, arith}
use Rattle.std.specs.Prelude.{Bool, true, false, not, cond, ◌&&◌, ◌==◌, filter, find, is_some, Contains, Option, None, Some}
use Rattle.std.specs.Option.{option_and_then, option_or}
use Rattle.std.proofs.lemmas.Bool.Decides.{nat_tests}
use Rattle.std.proofs.lemmas.List.{append-nil}
use Rattle.std.proofs.lemmas.List.Folds.{find-append}
use Rattle.vx_data.specs.declared.ids.ContextId.{ContextId}
use Rattle.vx_data.specs.declared.ids.PassNo.{PassNo}
use Rattle.vx_data.specs.Ids.{same_context}
use Rattle.vx_message.specs.declared.Context.{Context}
use Rattle.vx_message.specs.declared.Held.{Held}
use Rattle.vx_call.specs.declared.call.Call.{Call}
use Rattle.vx_call.specs.declared.call.Call.TheVariants as calls
use Rattle.vx_call.specs.declared.reply.Reply.{Reply}
use Rattle.vx_call.specs.declared.reply.Reply.TheVariants as replies
use Rattle.vx_call.specs.declared.history.Traced.{Traced}
use Rattle.vx_call.specs.History.{is_accepted, made_by, ended_by}
use Rattle.vx_call.specs.Contexts.{context_kind, contexts, context_at, is_context_of, is_verticle}
use Rattle.vx_call.specs.Deployments.{deployment_of, deployment_of_held}
use Rattle.vx_call.specs.Held.{held_made, held_kind, held, holding, is_finished, context_held, held_context}
use Rattle.vx_call.specs.Machine.{IsLegal}
use Rattle.vx_call.proofs.Lasting.{lasting-append, and_false}
use Rattle.vx_call.proofs.Each.{Each-find, weaken}
use Rattle.vx_call.proofs.Contexts.{same_entry, contexts-append, new_contexts_apart}
use Rattle.vx_call.proofs.Found.{find_none}
use Rattle.vx_call.proofs.Legal.{legal_front}
use Rattle.vx_laws.proofs.Overlap.{taken_by}
use Rattle.vx_laws.proofs.Running.{IsOfMade, held_of_made, handler_is}
use Rattle.vx_instances.specs.Instances.{gave}
use Rattle.vx_turn.specs.Entries.{Foreign}
use Rattle.vx_hub.specs.Passes.{pass_of}

is_other : (h : Held) (pass other : PassNo) → (other.0 ≡ pass.0 → ⊥) → (h.pass.0 == pass.0) ≡ true → (h.pass.0 == other.0) ≡ false
is_other h pass other apart own = grind (arith, nat_tests)

-- a Finish of another pass ends none that the pass holds
others_finish : (accepted : Bool) (other : PassNo) (call : Call) (h : Held) → (h.pass.0 == other.0) ≡ false → not (accepted && is_finished other call h) ≡ true
others_finish accepted other (calls.Finish end) h differs = ap (λ b. not (accepted && b)) differs ∙ ap not (and_false accepted)
others_finish accepted other _ h differs = ap not (and_false accepted)

module _ (pass : PassNo) where
  abbrev its : Held → Bool
  its h = h.pass.0 == pass.0

  find_left : (q : Held → Bool) → ((h : Held) → its h ≡ true → q h ≡ true) → (hs : List Held) → find its (filter q hs) ≡ find its hs
  find_left q stays [] = refl
  find_left q stays (h ∷ hs) =
      elim (its h) as (λ b. its h ≡ b → find its (cond (q h) (h ∷ filter q hs) (filter q hs)) ≡ cond b (Some h) (find its hs)) [
        | true ↦ λ own. ap (λ b. find its (cond b (h ∷ filter q hs) (filter q hs))) (stays h own) ∙ ap (λ b. cond b (Some h) (find its (filter q hs))) own
        | false ↦ λ other.
            (elim (q h) as (λ b. find its (cond b (h ∷ filter q hs) (filter q hs)) ≡ find its hs) [
              | true ↦ ap (λ b. cond b (Some h) (find its (filter q hs))) other ∙ find_left q stays hs
              | false ↦ find_left q stays hs
            ])
      ] refl

  none_taken : (history : List Traced) (other : PassNo) (call : Call) (reply : Reply) → (other.0 ≡ pass.0 → ⊥) → find its (held_made history other call reply) ≡ None
  none_taken history other (calls.Take lane) (replies.Task task) apart = (let e : (other.0 == pass.0) ≡ false = grind (arith, nat_tests) in ap (λ b. cond b (Some (taken_by history other lane task)) None) e)
  none_taken history other (calls.Take lane) _ apart = refl
  none_taken history other _ reply apart = refl

  if_found : (b : Bool) (hs : List Held) → find its hs ≡ None → find its (cond b hs []) ≡ None
  if_found true hs none = none
  if_found false hs none = refl

  -- what a pass holds is its own matter
  same_holding : (history : List Traced) (new : Traced) → (new.entry.pass.0 ≡ pass.0 → ⊥) → holding (history ++ new ∷ []) pass ≡ holding history pass
  same_holding history new apart =
      let other = new.entry.pass in
      let made = made_by held_kind history new in
      ap (find its) (lasting-append held_kind history new) ∙ find-append its _ made
      ∙ ap (λ o. option_or o (find its made)) (find_left (λ h. not (ended_by held_kind history new h)) (λ h own. others_finish (is_accepted new.entry.reply) other new.entry.call h (is_other h pass other apart own)) (held history))
      ∙ ap (option_or (holding history pass)) (if_found (is_accepted new.entry.reply) _ (none_taken history other new.entry.call new.entry.reply apart))
      ∙ or_none (holding history pass)
    where
      or_none : (o : Option Held) → option_or o None ≡ o
      or_none None = refl
      or_none (Some h) = refl

-- ## The context of a handler

no_key : (id : ContextId) (n : ℕ) (c : Context) → id.entry.0 < n → c.id.entry.0 ≡ n → is_context_of id c ≡ false
no_key id n c before keyed =
    elim (same_context id c.id) as (λ b. same_context id c.id ≡ b → b ≡ false) [ true ↦ λ same. absurd (let e = same_entry id c.id same in omega arith) | false ↦ λ differs. refl ] refl

-- a context that was made before is found as it was
same_context_at : (history : List Traced) (new : Traced) (id : ContextId) → id.entry.0 < length history → context_at (history ++ new ∷ []) id ≡ context_at history id
same_context_at history new id before =
    let made = made_by context_kind history new in
    let Keyed : Context → Type 0 = λ c. c.id.entry.0 ≡ length history in
    ap (find (is_context_of id)) (contexts-append history new) ∙ find-append (is_context_of id) (contexts history) made
    ∙ ap (option_or (context_at history id)) (find_none (is_context_of id) made (weaken Keyed (λ c. is_context_of id c ≡ false) made (λ c keyed. no_key id (length history) c before keyed) (new_contexts_apart history new).keyed))
    ∙ or_none (context_at history id)
  where
    or_none : (o : Option Context) → option_or o None ≡ o
    or_none None = refl
    or_none (Some c) = refl

same_deployment_of : (history : List Traced) (new : Traced) (o : Option ContextId) → ((id : ContextId) → o ≡ Some id → id.entry.0 < length history) →
    is_some (deployment_of_held (history ++ new ∷ []) o) ≡ is_some (deployment_of_held history o)
same_deployment_of history new None before = refl
same_deployment_of history new (Some id) before = ap (λ c. is_some (cond (is_verticle c) (Some (deployment_of id)) None)) (same_context_at history new id (before id refl))

held_before : (history : List Traced) (pass : PassNo) → IsLegal history → (o : Option Held) → holding history pass ≡ o → (id : ContextId) → option_and_then context_held o ≡ Some id → id.entry.0 < length history
held_before history pass legal None is id its = absurd cc
held_before history pass legal (Some h) is id its =
    let made : IsOfMade (length history) h = Each-find (IsOfMade (length history)) (λ (x : Held). x.pass.0 == pass.0) (held history) h (held_of_made history legal) is in
    made id (handler_is h.mode h.context id its)

-- ## Whether a verticle was handed out

gave_on : (history : List Traced) (new : Traced) (pass : PassNo) → IsLegal history → (new.entry.pass.0 ≡ pass.0 → ⊥) → gave (history ++ new ∷ []) pass ≡ gave history pass
gave_on history new pass legal apart =
    ap (λ o. is_some (deployment_of_held (history ++ new ∷ []) (option_and_then context_held o))) (same_holding pass history new apart)
    ∙ same_deployment_of history new (held_context history pass) (λ id its. held_before history pass legal (holding history pass) refl id its)

-- what others did meanwhile leaves it
pub gave_since : (pass : PassNo) (ns : List ℕ) → Contains ns pass.0 → (history more : List Traced) → IsLegal (history ++ more) → Foreign pass_of ns more → gave (history ++ more) pass ≡ gave history pass
gave_since pass ns own history [] legal foreign = ap (λ h. gave h pass) (append-nil history)
gave_since pass ns own history (new ∷ more) legal foreign =
    let next = history ++ new ∷ [] in
    let parts = append_assoc history (new ∷ []) more in
    let P : ℕ → Type 0 = λ n. Contains ns n in
    ap (λ h. gave h pass) (sym parts)
    ∙ gave_since pass ns own next more (subst IsLegal (sym parts) legal) (λ k d inside. foreign (suc k) d (omega arith))
    ∙ gave_on history new pass (legal_front history (new ∷ more) legal) (λ same. foreign 0 new (omega arith) (subst P (sym same) own))
