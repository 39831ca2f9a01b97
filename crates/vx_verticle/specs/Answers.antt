-- Verticles that react as a function says.
use Rattle.std.specs.Prelude.{◌≡◌, ◌⊎◌, ℤ, List}
use mathlib.Core.List.{IsPrefix}
use Rattle.vx_call.specs.declared.call.End.{End}
use Rattle.vx_call.specs.declared.call.End.TheVariants as ends
use Rattle.vx_verticle.specs.declared.acts.Act.{Act}

-- what a verticle answers to an event: the state that it leaves, its acts in order, and how the task ends
pub record Answer (R : Type 0) : Type 0 where
  pub later : List ℤ
  pub acts : List (Act R)
  pub end : End

-- What was done is the answer that is due. Only where memory ran out may it differ: then the acts are the first of those that are due, and the state is the one before or the one that is due.
abbrev pub AsDue : {R : Type 0} → Answer R → List ℤ → List ℤ → List (Act R) → End → Type 0
AsDue due before later acts ends.NoMemory = ((later ≡ before) ⊎ (later ≡ due.later)) × IsPrefix acts due.acts
AsDue due before later acts end = (later ≡ due.later) × (acts ≡ due.acts) × (end ≡ due.end)
