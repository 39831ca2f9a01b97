-- A pass in its turn is the one that came to it.
use Rattle.std.proofs.Common.{◌≡◌, ℕ, ap, sym, ◌∙◌, subst}
use Rattle.vx_data.specs.declared.ids.PassNo.{PassNo}
use Rattle.vx_turn.specs.Caller.{Caller}
use Rattle.vx_host.specs.Turns.{pass_no, CallOf, MayCall, Calls}

same_pass : (pass : PassNo) (before turn : ℕ) → pass.0 ≡ before → turn ≡ before → ◌≡◌ {A = PassNo} (record { 0 = turn }) pass
same_pass pass before turn entered came = ap {B = PassNo} (λ n. record { 0 = n }) (came ∙ sym entered)

module _ {F M A B E : Type 0} (of : CallOf F M A B) (call : F) (argument : A) (before turn : Caller E) (pass : PassNo) (entered : pass.0 ≡ before.number) (came : turn.number ≡ before.number) where
  -- a call that its number may make on what it found, it may make on what it was lent
  pub may_call : (found lent : M) → lent ≡ found → MayCall of call found (pass_no turn) argument → MayCall of call lent pass argument
  may_call found lent same may = subst (λ p. MayCall of call lent p argument) (same_pass pass before.number turn.number entered came) (λ machine is. may machine (is ∙ same))

  -- what it called, its number called
  pub has_called : (found lent left : M) (result : B) → lent ≡ found → Calls of call lent pass argument result left → Calls of call found (pass_no turn) argument result left
  has_called found lent left result same called =
      subst (λ p. Calls of call found p argument result left) (sym (same_pass pass before.number turn.number entered came)) (subst (λ m. Calls of call m pass argument result left) same called)

-- what was called on what was lent, was called on what was found
pub found_called : {F M A B : Type 0} (of : CallOf F M A B) (call : F) (pass : PassNo) (argument : A) (found lent left : M) (result : B) → lent ≡ found → Calls of call lent pass argument result left → Calls of call found pass argument result left
found_called of call pass argument found lent left result same called = subst (λ m. Calls of call m pass argument result left) same called
