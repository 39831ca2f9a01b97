-- Where every line is good and no read or write fails, only memory is left to fail.
use Rattle.std.proofs.Common.{◌≡◌, ℕ, ◌≤◌, List, ◌++◌, length, length-append, Option, Some, None, Result, Ok, Err, refl, ◌∙◌, ap, arith}
use Rattle.std.specs.Io.KnownBytes.{Consumes, IsAtEnd}
use Rattle.std.proofs.lemmas.List.{append-nil}
use Rattle.vx_line.specs.declared.command.Command.{Command}
use Rattle.vx_script.specs.declared.status.Status.{Status}
use Rattle.vx_script.specs.declared.status.Status.TheVariants.{Done, Usage, BadLine, ReadFault, WriteFault, TooLong, NoMemory}
use Rattle.vx_script.specs.declared.limit.TheConstants.{LIMIT}
use Rattle.vx_script.specs.Lines.{Bad, commands_of}
use Rattle.vx_script.specs.Outcome.{IsOutcome, IsSettled}

all_of : (bytes read : List ℕ) (left : Option (List ℕ)) → Consumes (Some bytes) left read → IsAtEnd left → bytes ≡ read
all_of bytes read None c e = absurd c
all_of bytes read (Some rest) c e = c ∙ ap (λ t. read ++ t) e ∙ append-nil read

no_more : (bytes read : List ℕ) (left : Option (List ℕ)) → Consumes (Some bytes) left read → length read ≤ length bytes
no_more bytes read None c = absurd c
no_more bytes read (Some rest) c = omega (arith, ap length c, length-append read rest)

good_and_bad : (commands : List Command) (bad : Bad) (r : Result (List Command) Bad) → r ≡ Ok commands → r ≡ Err bad → ⊥
good_and_bad commands bad r good wrong = cc

pub settled : (status : Status) (bytes : List ℕ) (commands : List Command) (left held held' : Option (List ℕ)) → IsOutcome (Some bytes) left held held' status →
    length bytes ≤ LIMIT → commands_of bytes ≡ Ok commands → (status ≡ Usage → ⊥) → (status ≡ ReadFault → ⊥) → (status ≡ WriteFault → ⊥) → IsSettled status
settled Done bytes commands left held held' o few ok u rf wf = tt
settled NoMemory bytes commands left held held' o few ok u rf wf = tt
settled Usage bytes commands left held held' o few ok u rf wf = u refl
settled ReadFault bytes commands left held held' o few ok u rf wf = rf refl
settled WriteFault bytes commands left held held' o few ok u rf wf = wf refl
settled (BadLine line why) bytes commands left held held' o few ok u rf wf =
    let e : bytes ≡ o.0 = all_of bytes o.0 left o.1.read o.1.whole in
    good_and_bad commands (line, why) (commands_of bytes) ok (ap commands_of e ∙ o.2)
settled (TooLong count) bytes commands left held held' o few ok u rf wf =
    let m = no_more bytes o.0.0 left o.0.1 in
    omega (arith, m, o.0.2, o.0.3)
