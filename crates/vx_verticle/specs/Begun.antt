-- Answers of handlers that are called once, whole and begun. (That a handler may run out of memory behind any of its acts is
-- this project's own.)
use Rattle.std.specs.Prelude.{◌≡◌, ◌++◌, List, refl}
use Rattle.vx_call.specs.declared.call.End.{End}
use Rattle.vx_call.specs.declared.call.End.TheVariants as ends
use Rattle.vx_verticle.specs.declared.plain.PlainAct.{PlainAct}

-- a whole answer, or the beginning of one, where memory ran out
abbrev pub OrBegun : (List PlainAct → End → Type 0) → List PlainAct → End → Type 0
OrBegun Whole acts ends.NoMemory = (more : List PlainAct) × (end : End) × (end ≡ ends.NoMemory → ⊥) × Whole (acts ++ more) end
OrBegun Whole acts end = Whole acts end

pub may_run_out : (Whole : List PlainAct → End → Type 0) (acts more : List PlainAct) (end : End) → (end ≡ ends.NoMemory → ⊥) → OrBegun Whole (acts ++ more) end → OrBegun Whole acts ends.NoMemory
may_run_out Whole acts more ends.Done sure whole = (more, ends.Done, sure, whole)
may_run_out Whole acts more ends.Later sure whole = (more, ends.Later, sure, whole)
may_run_out Whole acts more (ends.Value value) sure whole = (more, ends.Value value, sure, whole)
may_run_out Whole acts more (ends.Fail code) sure whole = (more, ends.Fail code, sure, whole)
may_run_out Whole acts more ends.NoMemory sure begun = absurd (sure refl)

-- an end that is sure allows what is whole
or_whole : (Whole : List PlainAct → End → Type 0) (acts : List PlainAct) (end : End) → (end ≡ ends.NoMemory → ⊥) → Whole acts end → OrBegun Whole acts end
or_whole Whole acts ends.Done sure whole = whole
or_whole Whole acts ends.Later sure whole = whole
or_whole Whole acts (ends.Value value) sure whole = whole
or_whole Whole acts (ends.Fail code) sure whole = whole
or_whole Whole acts ends.NoMemory sure whole = absurd (sure refl)

pub ran_out : (Whole : List PlainAct → End → Type 0) (acts : List PlainAct) → OrBegun Whole acts ends.NoMemory → (more : List PlainAct) × (end : End) × (end ≡ ends.NoMemory → ⊥) × OrBegun Whole (acts ++ more) end
ran_out Whole acts begun = (begun.0, begun.1, begun.2, or_whole Whole (acts ++ begun.0) begun.1 begun.2 begun.3)
