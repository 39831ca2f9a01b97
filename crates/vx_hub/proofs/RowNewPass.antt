-- NewPass.
use Rattle.std.proofs.Common.{◌≡◌, ℕ, ◌+◌, ◌-◌, ◌<◌, ◌≤◌, ◌^◌, min, List, [], ◌∷◌, ◌++◌, length, refl, ap, sym, ◌∙◌, arith}
use Rattle.std.specs.Prelude.{true, false, ◌&&◌, cond}
use Rattle.std.proofs.lemmas.List.{length_push}
use Rattle.vx_data.specs.declared.ids.PassNo.{PassNo}
use Rattle.vx_data.specs.declared.ids.EntryNo.{EntryNo}
use Rattle.vx_call.specs.declared.call.Call.{Call}
use Rattle.vx_call.specs.declared.call.Call.TheVariants as calls
use Rattle.vx_call.specs.declared.reply.Reply.TheVariants as replies
use Rattle.vx_call.specs.declared.history.Traced.{Traced}
use Rattle.vx_call.specs.History.{made_by, ended_by, is_accepted, plain_entry, no_mark, lasting}
use Rattle.vx_call.specs.Passes.{pass_kind, pass_made, passes}
use Rattle.vx_call.proofs.Lasting.{lasting_same, lasting_more, lasting-length}

pub never_gone : (history : List Traced) (new : Traced) (pass : EntryNo) → ended_by pass_kind history new pass ≡ false
never_gone history new pass = elim (is_accepted new.entry.reply) as (λ b. (b && false) ≡ false) [ true ↦ refl | false ↦ refl ]

one_made : (history : List Traced) (call : Call) → length (pass_made history call) ≤ 1
one_made history calls.NewPass = omega arith
one_made history _ = omega arith

at_most_one : (history : List Traced) (new : Traced) → length (made_by pass_kind history new) ≤ 1
at_most_one history new =
    let made = one_made history new.entry.call in
    elim (is_accepted new.entry.reply) as (λ b. length (cond b (pass_made history new.entry.call) []) ≤ 1) [ true ↦ made | false ↦ omega arith ]

pub passes_bound : (history : List Traced) → passes history ≤ length history + 1
passes_bound history = let few = lasting-length pass_kind at_most_one history in omega (arith, few)

-- one more pass
pub more_passes : (history : List Traced) (pass new : PassNo) (old_count new_count : ℕ) → old_count ≡ passes history → length history < 2 ^ 48 → new_count ≡ min (old_count + 1) (2 ^ 64 - 1) →
    new_count ≡ passes (history ++ plain_entry pass calls.NewPass (replies.Pass new) no_mark ∷ [])
more_passes history pass new old_count new_count is_old small is_new =
    let bound = passes_bound history in
    let exact : min (passes history + 1) (2 ^ 64 - 1) ≡ passes history + 1 = omega (arith, bound, small) in
    is_new ∙ ap (λ n. min (n + 1) (2 ^ 64 - 1)) is_old ∙ exact
    ∙ ap (λ n. n + 1) (sym (length_push (lasting pass_kind history) (record { 0 = length history })))
    ∙ sym (ap (λ ps. length ps + 1) (lasting_more pass_kind history (plain_entry pass calls.NewPass (replies.Pass new) no_mark) (never_gone history (plain_entry pass calls.NewPass (replies.Pass new) no_mark))))

-- an entry that makes no pass
pub passes_left : (history : List Traced) (new : Traced) → made_by pass_kind history new ≡ [] → passes (history ++ new ∷ []) ≡ passes history
passes_left history new none = ap (λ ps. length ps + 1) (lasting_same pass_kind history new none (never_gone history new))
