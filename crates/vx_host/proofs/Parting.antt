-- A split, as a hub has it.
use Rattle.std.proofs.Common.{◌≡◌, ℕ, ◌<◌, ◌≤◌, ◌^◌, true, cond, rules, tests, List, [], ◌∷◌, ◌++◌, length, sym, ap, ◌∙◌, subst, arith}
use Rattle.std.specs.Prelude.{Contains, Result, Ok, Err, IfOk, OnErr}
use Rattle.std.specs.Option.{option_or}
use Rattle.std.proofs.lemmas.List.{append-nil}
use Rattle.std.proofs.lemmas.List.Elements.{All-nil, All-contains}
use Rattle.vx_call.specs.declared.call.Call.TheVariants as calls
use Rattle.vx_call.specs.declared.reply.Refusal.TheVariants as refusals
use Rattle.vx_call.specs.declared.reply.Reply.TheVariants as replies
use Rattle.vx_call.specs.declared.reply.Reply.{Reply}
use Rattle.vx_call.specs.declared.history.Traced.{Traced}
use Rattle.vx_call.specs.History.{entry_of}
use Rattle.vx_call.specs.Effects.{marked}
use Rattle.vx_call.specs.Refusals.{is_spent, unless_refused, refused_if, shut}
use Rattle.vx_call.specs.Passes.{passes}
use Rattle.vx_call.specs.Machine.{row, answer, IsLegal}
use Rattle.vx_call.specs.Unchanged.{IsUnchanged}
use Rattle.vx_call.proofs.Refused.{refused_unchanged}
use Rattle.vx_turn.specs.declared.machine.Spent.{Spent}
use Rattle.vx_turn.specs.declared.pass.Pass.{Pass}
use Rattle.vx_turn.specs.Entries.{is_in, entries_of}
use Rattle.vx_turn.specs.Caller.{Caller, mine_of, own_of, newcomer}
use Rattle.vx_turn.specs.Passes.{caller, number}
use Rattle.vx_turn.proofs.Entries.{entries_more, is_in-itself}
use Rattle.vx_hub.specs.Passes.{pass_of, opens}
use Rattle.vx_hub.specs.Stores.{HubStore}
use Rattle.vx_hub.proofs.Calls.{is_unspent}
use Rattle.vx_host.specs.Turns.{pass_no, HasSplit}
use Rattle.vx_host.specs.Calls.{call_entry, Called}
use Rattle.vx_host.proofs.Calls.{the_hub, extended_by, entry_own, called_since, still_in}

module _ (turn after : Caller Traced) (is : is_in turn.numbers turn.number ≡ true) (left : after ≡ record turn { seen = after.seen }) (legal : IsLegal after.seen) where
  -- what the pass knows when it has split
  split_in : (reply : Reply) → reply ≡ answer turn.seen (pass_no turn) calls.NewPass → after.seen ≡ turn.seen ++ call_entry turn.seen (pass_no turn) calls.NewPass reply [] → Called turn calls.NewPass reply [] after
  split_in reply answered seen =
      let pass = pass_no turn in
      let entry = call_entry turn.seen pass calls.NewPass reply [] in
      let own = entry_own turn.seen pass calls.NewPass reply [] in
      record {
        number = ap (λ (c : Caller Traced). c.number) left;
        numbers = ap (λ (c : Caller Traced). c.numbers) left;
        history = turn.seen;
        found = ([], append-nil turn.seen, All-nil _);
        answered = answered;
        seen = seen;
        is_legal = legal;
        mine = ap (mine_of pass_of) left ∙ (ap (entries_of pass_of turn.numbers) seen ∙ entries_more pass_of turn.numbers turn.number turn.seen entry is own);
        own = ap (own_of pass_of) left ∙ (ap (entries_of pass_of (turn.number ∷ [])) seen ∙ entries_more pass_of (turn.number ∷ []) turn.number turn.seen entry (is_in-itself pass_of turn.number) own);
        refused = λ no. subst (IsUnchanged turn.seen) (extended_by turn.seen pass calls.NewPass reply [] ∙ sym seen) (refused_unchanged turn.seen pass calls.NewPass reply [] no);
      }

  split_opened : (number : ℕ) → length turn.seen < 2 ^ 48 → number ≡ passes turn.seen → after.seen ≡ turn.seen ++ opens turn.number (passes turn.seen) ∷ [] → Called turn calls.NewPass (replies.Pass (record { 0 = number })) [] after
  split_opened number room count seen =
      let reply = replies.Pass (record { 0 = number }) in
      let pass = pass_no turn in
      let entry = entry_of pass calls.NewPass reply [] (marked turn.seen pass calls.NewPass reply) in
      let unspent = sym (is_unspent turn.seen room) in
      split_in reply (ap (λ n. replies.Pass (record { 0 = n })) count ∙ ap (λ b. unless_refused (option_or (refused_if b refusals.Spent) (shut turn.seen calls.NewPass)) (row turn.seen pass calls.NewPass)) unspent)
      (seen ∙ (ap (λ n. turn.seen ++ opens turn.number n ∷ []) (sym count) ∙ ap (λ b. turn.seen ++ cond b [] (entry ∷ [])) unspent))

  has_spent : (history : List Traced) → 2 ^ 48 ≤ length history → is_spent history ≡ true
  has_spent history full = search (rules, tests)

  split_spent : 2 ^ 48 ≤ length turn.seen → after.seen ≡ turn.seen → Called turn calls.NewPass (replies.Refused refusals.Spent) [] after
  split_spent full seen =
      let spent = sym (has_spent turn.seen full) in
      let pass = pass_no turn in
      let reply = replies.Refused refusals.Spent in
      let entry = entry_of pass calls.NewPass reply [] (marked turn.seen pass calls.NewPass reply) in
      split_in reply (ap (λ b. unless_refused (option_or (refused_if b refusals.Spent) (shut turn.seen calls.NewPass)) (row turn.seen pass calls.NewPass)) spent)
      (seen ∙ (sym (append-nil turn.seen) ∙ ap (λ b. turn.seen ++ cond b [] (entry ∷ [])) spent))

-- what the pass knows of a split since it came
pub split_called : (before after : Caller Traced) (own : is_in before.numbers before.number ≡ true) (result : Result (Pass HubStore Traced the_hub) Spent) → HasSplit the_hub before result after →
    IfOk result (λ new. Called before calls.NewPass (replies.Pass (record { 0 = number new })) [] after)
split_called before after own (Err spent) split = tt
split_called before after own (Ok new) split =
    let turn = split.turn in
    let ok = split.opened in
    let reply = replies.Pass (record { 0 = number new }) in
    called_since before turn after calls.NewPass reply [] split.came split.entries
    (split_opened turn after (still_in before turn own split.came) split.same split.is_legal (number new) ok.0 (ap (λ (c : Caller Traced). c.number) ok.2) ok.1)

pub split_refused : (before after : Caller Traced) (own : is_in before.numbers before.number ≡ true) (result : Result (Pass HubStore Traced the_hub) Spent) → HasSplit the_hub before result after →
    OnErr result (Called before calls.NewPass (replies.Refused refusals.Spent) [] after)
split_refused before after own (Ok new) split = tt
split_refused before after own (Err spent) split =
    let turn = split.turn in
    called_since before turn after calls.NewPass (replies.Refused refusals.Spent) [] split.came split.entries (split_spent turn after (still_in before turn own split.came) split.same split.is_legal split.spent.0 split.spent.1)

-- ... and of the new pass
pub split_new : (before after : Caller Traced) (result : Result (Pass HubStore Traced the_hub) Spent) → HasSplit the_hub before result after →
    IfOk result (λ new. (caller new ≡ newcomer (number new) after.seen) × (Contains after.numbers (number new) → ⊥))
split_new before after (Err spent) split = tt
split_new before after (Ok new) split =
    let ok = split.opened in
    let no : number new ≡ passes split.turn.seen = ap (λ (c : Caller Traced). c.number) ok.2 in
    let P : ℕ → Type 0 = λ n. n < number new in (
      ok.2 ∙ ap (λ n. newcomer n after.seen) (sym no),
      λ inside.
          let below : number new < number new = All-contains P split.turn.numbers (number new) ok.3 (subst (λ ns. Contains ns (number new)) (ap (λ (c : Caller Traced). c.numbers) split.same) inside) in
          omega (arith, below),
    )
