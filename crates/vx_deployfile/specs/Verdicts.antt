-- What reading a part of a file gives: its value, or the first place that is out of form, and how.
use Rattle.std.specs.Prelude.{◌≡◌, Result, Ok, Err}
use Rattle.vx_deployfile.specs.declared.fault.FileRefused.{FileRefused}
use Rattle.vx_deployfile.specs.declared.fault.FileRefused.TheVariants.{BadFile, NoMemory}

abbrev pub Verdict : Type 0 → Type 0
Verdict A = Result A FileRefused

-- what is read next, where this was read
infixl 10 ◌>>=◌
abbrev pub ◌>>=◌ : {A B : Type 0} → Verdict A → (A → Verdict B) → Verdict B
(Ok x) >>= f = f x
(Err fault) >>= f = Err fault

-- what reading gives where a function failed; nothing is said where memory ran out
abbrev pub Fails : {Y : Type 0} → FileRefused → Verdict Y → Type 0
Fails (BadFile place why) verdict = verdict ≡ Err (BadFile place why)
Fails NoMemory verdict = Unit {0}

-- what a function returned, seen by `view`, is what reading gives
abbrev pub Gives : {X Y : Type 0} → (X → Y) → Result X FileRefused → Verdict Y → Type 0
Gives view (Ok x) verdict = verdict ≡ Ok (view x)
Gives view (Err fault) verdict = Fails fault verdict
