-- A pass that splits in its turn.
use Rattle.std.proofs.Common.{◌≡◌, ◌<◌, ◌≤◌, ◌^◌, Bool, true, false, cond, List, [], ◌∷◌, ◌++◌, length, All, refl, sym, ap, ◌∙◌, subst}
use Rattle.std.specs.Prelude.{Result, Ok, Err, IfOk, IfErr, is_ok}
use Rattle.std.proofs.lemmas.List.{append-nil}
use Rattle.vx_turn.specs.declared.machine.Machine.{Ghosts}
use Rattle.vx_turn.specs.declared.machine.Spent.{Spent}
use Rattle.vx_turn.specs.declared.pass.Pass.{Pass}
use Rattle.vx_turn.specs.Caller.{Caller, Came, SameEntries, newcomer}
use Rattle.vx_turn.specs.Passes.{caller}
use Rattle.vx_host.specs.Turns.{HasSplit}

none_more : {E : Type 0} (b : Bool) → cond {A = List E} b [] [] ≡ []
none_more true = refl
none_more false = refl

-- what holds of a history behind which nothing was added holds of the history
pub nothing_more : {E : Type 0} (P : List E → Type 0) (history : List E) (b : Bool) → P (history ++ cond b [] []) → P history
nothing_more P history b held = subst P (ap (λ es. history ++ es) (none_more b) ∙ append-nil history) held

module _ {M E : Type 0} (machine : Ghosts M E) (before turn split after : Caller E) where
  pub has_split : (result : Result (Pass M E machine) Spent) → Came machine.legal machine.pass_of machine.passes before turn → SameEntries machine.pass_of before turn → split ≡ record turn { seen = split.seen } → machine.legal (split.seen ++ cond (is_ok result) [] []) → after ≡ split
      → IfOk result (λ new. (length (turn.seen ++ []) < 2 ^ 48) × (split.seen ≡ (turn.seen ++ []) ++ machine.opens turn.number (machine.passes (turn.seen ++ [])) ∷ []) × (caller new ≡ newcomer (machine.passes (turn.seen ++ [])) split.seen))
      → IfOk result (λ new. All (λ n. n < (caller new).number) turn.numbers) → IfErr result (λ _. (2 ^ 48 ≤ length (turn.seen ++ [])) × (split.seen ≡ turn.seen)) → HasSplit machine before result after
  has_split result came entries same legal left opened apart spent = record {
    turn = turn;
    came = came;
    entries = entries;
    same = left ∙ (same ∙ ap (λ h. record turn { seen = h }) seen);
    is_legal = subst machine.legal seen (nothing_more machine.legal split.seen (is_ok result) legal);
    opened = both result opened apart;
    spent = last result spent;
  } where
    seen : split.seen ≡ after.seen
    seen = sym (ap (λ (c : Caller E). c.seen) left)

    now : turn.seen ++ [] ≡ turn.seen
    now = append-nil turn.seen

    both : (r : Result (Pass M E machine) Spent) → IfOk r (λ new. (length (turn.seen ++ []) < 2 ^ 48) × (split.seen ≡ (turn.seen ++ []) ++ machine.opens turn.number (machine.passes (turn.seen ++ [])) ∷ []) × (caller new ≡ newcomer (machine.passes (turn.seen ++ [])) split.seen))
        → IfOk r (λ new. All (λ n. n < (caller new).number) turn.numbers)
        → IfOk r (λ new. (length turn.seen < 2 ^ 48) × (after.seen ≡ turn.seen ++ machine.opens turn.number (machine.passes turn.seen) ∷ []) × (caller new ≡ newcomer (machine.passes turn.seen) after.seen) × All (λ n. n < (caller new).number) turn.numbers)
    both (Ok new) ok all =
        let P : List E → Type 0 = λ h. length h < 2 ^ 48 in (
          subst P now ok.0,
          sym seen ∙ (ok.1 ∙ ap (λ h. h ++ machine.opens turn.number (machine.passes h) ∷ []) now),
          ok.2 ∙ (ap (λ h. newcomer (machine.passes h) split.seen) now ∙ ap (λ h. newcomer (machine.passes turn.seen) h) seen),
          all,
        )
    both (Err why) ok all = tt

    last : (r : Result (Pass M E machine) Spent) → IfErr r (λ _. (2 ^ 48 ≤ length (turn.seen ++ [])) × (split.seen ≡ turn.seen)) → IfErr r (λ _. (2 ^ 48 ≤ length turn.seen) × (after.seen ≡ turn.seen))
    last (Ok new) err = tt
    last (Err why) err = let P : List E → Type 0 = λ h. 2 ^ 48 ≤ length h in (subst P now err.0, sym seen ∙ err.1)
