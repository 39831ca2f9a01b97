-- How many passes there are after one more call.
use Rattle.std.specs.Prelude.{ℤ}
use Rattle.std.proofs.Common.{◌≡◌, ℕ, ◌+◌, ◌^◌, ◌<◌, List, [], ◌∷◌, ◌++◌, length, length-append, refl, ap, arith, tests, Bool, true, false, cond, ◌&&◌}
use Rattle.vx_data.specs.declared.ids.PassNo.{PassNo}
use Rattle.vx_data.specs.declared.ids.EntryNo.{EntryNo}
use Rattle.vx_call.specs.declared.call.Call.{Call}
use Rattle.vx_call.specs.declared.call.Call.TheVariants as calls
use Rattle.vx_call.specs.declared.history.Traced.{Traced}
use Rattle.vx_call.specs.History.{is_accepted, made_by, lasting}
use Rattle.vx_call.specs.Refusals.{is_spent}
use Rattle.vx_call.specs.Passes.{pass_kind, pass_made, passes}
use Rattle.vx_call.specs.Machine.{answer}
use Rattle.vx_call.proofs.Lasting.{lasting_more, lasting_none}
use Rattle.vx_script.specs.Lines.{passes_with}
use Rattle.vx_script.proofs.HeldOn.{entry}

-- the entry of a call that comes with these states, with the machine's reply
abbrev pub next : List Traced → PassNo → Call → List (List ℤ) → Traced
next h pass call states = entry h pass call (answer h pass call) states

-- below its limit a history goes on
pub not_spent : (h : List Traced) → length h < 2 ^ 48 → is_spent h ≡ false
not_spent h few = grind (arith, tests)

none_made : (b : Bool) (none : List EntryNo) → none ≡ [] → length (cond b none []) ≡ 0
none_made true none e = ap length e
none_made false none e = refl

-- how many passes a call makes
made_by_call : (h : List Traced) (pass : PassNo) (call : Call) (states : List (List ℤ)) (n : ℕ) → is_spent h ≡ false → length (made_by pass_kind h (next h pass call states)) + n ≡ passes_with n call
made_by_call h pass calls.NewPass states n e = rw e (omega arith)
made_by_call h pass call states n e = let k = none_made (is_accepted (answer h pass call)) (pass_made h call) refl in omega (arith, k)

pub passes_more : (h : List Traced) (pass : PassNo) (call : Call) (states : List (List ℤ)) → length h < 2 ^ 48 → passes (h ++ next h pass call states ∷ []) ≡ passes_with (passes h) call
passes_more h pass call states few =
    let new = next h pass call states in
    let more = lasting_more pass_kind h new (λ x. never (is_accepted new.entry.reply)) in
    let made = made_by_call h pass call states (passes h) (not_spent h few) in
    omega (arith, ap length more, length-append (lasting pass_kind h) (made_by pass_kind h new), made)
  where
    never : (b : Bool) → (b && false) ≡ false
    never true = refl
    never false = refl

pub passes_none : passes [] ≡ 1
passes_none = omega (arith, ap length (lasting_none pass_kind))
