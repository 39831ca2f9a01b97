-- A handler that does nothing, where none is called once.
use Rattle.std.specs.Prelude.{◌≡◌, ◌++◌, ℤ, List, []}
use Rattle.vx_call.specs.declared.call.End.{End}
use Rattle.vx_call.specs.declared.call.End.TheVariants as ends
use Rattle.vx_verticle.specs.declared.once.OnceInput.{OnceInput}
use Rattle.vx_verticle.specs.declared.plain.PlainAct.{PlainAct}
use Rattle.vx_verticle.specs.Begun.{OrBegun}
use Rattle.vx_verticle.specs.Begun as begun

abbrev pub IsNothing : List PlainAct → End → Type 0
IsNothing acts end = (acts ≡ []) × (end ≡ ends.Done)

abbrev pub AllowsNothing : List ℤ → OnceInput → List PlainAct → End → Type 0
AllowsNothing argument input acts end = OrBegun IsNothing acts end

pub may_run_out : (argument : List ℤ) (input : OnceInput) (acts more : List PlainAct) (end : End) → (end ≡ ends.NoMemory → ⊥) → AllowsNothing argument input (acts ++ more) end → AllowsNothing argument input acts ends.NoMemory
may_run_out argument input acts more end sure allowed = begun.may_run_out IsNothing acts more end sure allowed

pub ran_out : (argument : List ℤ) (input : OnceInput) (acts : List PlainAct) → AllowsNothing argument input acts ends.NoMemory → (more : List PlainAct) × (end : End) × (end ≡ ends.NoMemory → ⊥) × AllowsNothing argument input (acts ++ more) end
ran_out argument input acts allowed = begun.ran_out IsNothing acts allowed
