-- What the host's handlers that are called once may answer. (This project's own.)
use Rattle.std.specs.Prelude.{◌≡◌, ℤ, List, [], ◌∷◌, ◌++◌, None, codes}
use Rattle.vx_data.specs.Tree.{int}
use Rattle.vx_call.specs.declared.call.End.{End}
use Rattle.vx_call.specs.declared.call.End.TheVariants as ends
use Rattle.vx_verticle.specs.declared.once.OnceInput.{OnceInput}
use Rattle.vx_verticle.specs.declared.plain.PlainAct.{PlainAct}
use Rattle.vx_verticle.specs.declared.plain.PlainAct.TheVariants as plain
use Rattle.vx_verticle.specs.Begun.{OrBegun}
use Rattle.vx_verticle.specs.Begun as begun

-- publishes a number at the address `once`
abbrev pub publishes : ℤ → PlainAct
publishes number = plain.Publish (codes "once") (int number) (record { headers = []; codec = None })

-- One number is the value that the handler ends with, and it does nothing; of two it publishes the second.
abbrev pub IsWhole : List ℤ → List PlainAct → End → Type 0
IsWhole (value ∷ []) acts end = (acts ≡ []) × (end ≡ ends.Value value)
IsWhole (value ∷ (number ∷ [])) acts end = (acts ≡ publishes number ∷ []) × (end ≡ ends.Value value)
IsWhole _ acts end = ⊥

-- Where memory ran out, the answer is the beginning of a whole one.
abbrev pub Allows : List ℤ → OnceInput → List PlainAct → End → Type 0
Allows argument input acts end = OrBegun (IsWhole argument) acts end

pub may_run_out : (argument : List ℤ) (input : OnceInput) (acts more : List PlainAct) (end : End) → (end ≡ ends.NoMemory → ⊥) → Allows argument input (acts ++ more) end → Allows argument input acts ends.NoMemory
may_run_out argument input acts more end sure allowed = begun.may_run_out (IsWhole argument) acts more end sure allowed

pub ran_out : (argument : List ℤ) (input : OnceInput) (acts : List PlainAct) → Allows argument input acts ends.NoMemory → (more : List PlainAct) × (end : End) × (end ≡ ends.NoMemory → ⊥) × Allows argument input (acts ++ more) end
ran_out argument input acts allowed = begun.ran_out (IsWhole argument) acts allowed
