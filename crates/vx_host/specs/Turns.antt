-- What a pass does in its turn: it finds the machine, makes a call on it, and leaves.
use Rattle.std.specs.Prelude.{◌≡◌, ◌<◌, ◌≤◌, ◌^◌, List, [], ◌∷◌, ◌++◌, length, All, Result, IfOk, IfErr}
use Rattle.std.specs.List.{enumerate_from}
use Rattle.std.specs.Borrow.{MutBor}
use Rattle.std.specs.Fn.{Once}
use Rattle.vx_data.specs.declared.ids.PassNo.{PassNo}
use Rattle.vx_turn.specs.declared.machine.Machine.{Ghosts}
use Rattle.vx_turn.specs.declared.machine.Spent.{Spent}
use Rattle.vx_turn.specs.declared.pass.Pass.{Pass}
use Rattle.vx_turn.specs.Caller.{Caller, Came, SameEntries, newcomer, mine_of, own_of}
use Rattle.vx_turn.specs.Passes.{caller}

-- the pass's own number, as calls have it
abbrev pub pass_no : {E : Type 0} → Caller E → PassNo
pass_no pass = record { 0 = pass.number }

-- what is called, on a machine by a pass
abbrev pub CallOf : Type 0 → Type 0 → Type 0 → Type 0 → Type 1
CallOf F M A B = Once F (MutBor M × (PassNo × (A × Unit {0}))) (B × (MutBor M × Unit {0}))

module _ {F M A B : Type 0} (of : CallOf F M A B) where
  -- the call may be made on this machine
  abbrev pub MayCall : F → M → PassNo → A → Type 0
  MayCall call found pass argument = (machine : MutBor M) → machine.now ≡ found → of.pre call (machine, (pass, (argument, tt)))

  -- made on this machine the call may answer this, and leave the machine so
  pub record Calls (call : F) (found : M) (pass : PassNo) (argument : A) (result : B) (left : M) : Type 0 where
    pub before : MutBor M
    pub is_found : before.now ≡ found
    pub after : MutBor M
    pub made : of.post call (before, (pass, (argument, tt))) (result, (after, tt))
    pub is_left : after.now ≡ left

module _ {M E : Type 0} (machine : Ghosts M E) where
  -- the pass came to its turn, in which it found the machine so
  pub record HasTurn (before turn : Caller E) (found : M) : Type 0 where
    pub came : Came machine.legal machine.pass_of machine.passes before turn
    pub entries : SameEntries machine.pass_of before turn
    pub stands : machine.stands_for found turn.seen

  -- the machine that is left stands for a legal history, which has these entries more; they are the pass's own
  pub record Adds (turn : Caller E) (left : M) (added : List E) : Type 0 where
    pub stands : machine.stands_for left (turn.seen ++ added)
    pub is_legal : machine.legal (turn.seen ++ added)
    pub own : All (λ e. machine.pass_of e ≡ turn.number) added

  -- the pass left its turn, in which it added these entries
  pub record HasLeft (turn after : Caller E) (added : List E) : Type 0 where
    pub seen : after ≡ record turn { seen = turn.seen ++ added }
    pub mine : mine_of machine.pass_of after ≡ mine_of machine.pass_of turn ++ enumerate_from (length turn.seen) added
    pub own : own_of machine.pass_of after ≡ own_of machine.pass_of turn ++ enumerate_from (length turn.seen) added

  module _ {F A B : Type 0} (of : CallOf F M A B) (call : F) (argument : A) (before : Caller E) where
    -- the call may be made in whatever turn the pass comes to
    abbrev pub MayBeMade : Type 0
    MayBeMade = (turn : Caller E) (found : M) → HasTurn before turn found → MayCall of call found (pass_no turn) argument

    -- made there it leaves the machine as Q says
    abbrev pub AlwaysLeaves : (Caller E → B → M → Type 0) → Type 0
    AlwaysLeaves Q = (turn : Caller E) (found left : M) (result : B) → HasTurn before turn found → Calls of call found (pass_no turn) argument result left → Q turn result left

    -- it was made in a turn, from which the pass knows what P says
    pub record WasMade (result : B) (P : Caller E → Type 0) : Type 0 where
      pub turn : Caller E
      pub found : M
      pub left : M
      pub has : HasTurn before turn found
      pub made : Calls of call found (pass_no turn) argument result left
      pub then : P turn

  -- the pass split in its turn, and the new one has seen what it has; or the history is spent, and nothing was added
  pub record HasSplit (before : Caller E) (result : Result (Pass M E machine) Spent) (after : Caller E) : Type 0 where
    pub turn : Caller E
    pub came : Came machine.legal machine.pass_of machine.passes before turn
    pub entries : SameEntries machine.pass_of before turn
    pub same : after ≡ record turn { seen = after.seen }
    pub is_legal : machine.legal after.seen
    pub opened : IfOk result (λ new. (length turn.seen < 2 ^ 48) × (after.seen ≡ turn.seen ++ machine.opens turn.number (machine.passes turn.seen) ∷ []) × (caller new ≡ newcomer (machine.passes turn.seen) after.seen) × All (λ n. n < (caller new).number) turn.numbers)
    pub spent : IfErr result (λ _. (2 ^ 48 ≤ length turn.seen) × (after.seen ≡ turn.seen))
