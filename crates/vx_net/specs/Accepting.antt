-- What a net gives.
use Rattle.std.specs.Prelude.{◌≡◌, ℕ, Bool, ◌||◌, if◌then◌else◌, List, [], ◌∷◌, length, ◌==◌, Option, Some, IfSome}
use Rattle.vx_io.specs.Memory.{Plan, fails_next, after_call, after_fault}

-- Where the inputs are told, the first of them is taken: the source has just that left, and the sink holds nothing.
abbrev pub Accepts : Option (List (List ℕ)) → Option (List (List ℕ)) → Option (List ℕ) → Option (List ℕ) → Type 0
Accepts told later left held =
    IfSome told (λ inputs. (input : List ℕ) × (others : List (List ℕ)) × (inputs ≡ input ∷ others) × (later ≡ Some others) × (left ≡ Some input) × (held ≡ Some []))

-- The inputs that are left, and which calls fail.
pub record Queue : Type 0 where
  pub inputs : List (List ℕ)
  pub plan : Plan

-- whether the next call fails, if it is to accept: it is told to, or there is no input
abbrev pub accept_fails : Queue → Bool
accept_fails queue = fails_next queue.plan || (length queue.inputs == 0)

-- the plan after a call to accept, which counts a fault where it fails
abbrev pub after_accept : Queue → Plan
after_accept queue = if fails_next queue.plan then after_call queue.plan else (if length queue.inputs == 0 then after_fault (after_call queue.plan) else after_call queue.plan)
