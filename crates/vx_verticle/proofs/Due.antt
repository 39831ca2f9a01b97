-- What is as due.
use Rattle.std.specs.Prelude.{◌≡◌, ℤ, List, [], ◌++◌}
use Rattle.std.proofs.Common.{ap, ◌∙◌, inr, append-nil}
use Rattle.vx_call.specs.declared.call.End.{End}
use Rattle.vx_call.specs.declared.call.End.TheVariants as ends
use Rattle.vx_verticle.specs.declared.acts.Act.{Act}
use Rattle.vx_verticle.specs.Answers.{Answer, AsDue}

-- the answer itself is as due
pub all_due : {R : Type 0} (due : Answer R) (before later : List ℤ) (acts : List (Act R)) (end : End) → record { later = later; acts = acts; end = end } ≡ due → AsDue due before later acts end
all_due due before later acts ends.Done is = (ap (λ a. a.later) is, ap (λ a. a.acts) is, ap (λ a. a.end) is)
all_due due before later acts ends.Later is = (ap (λ a. a.later) is, ap (λ a. a.acts) is, ap (λ a. a.end) is)
all_due due before later acts (ends.Value value) is = (ap (λ a. a.later) is, ap (λ a. a.acts) is, ap (λ a. a.end) is)
all_due due before later acts (ends.Fail code) is = (ap (λ a. a.later) is, ap (λ a. a.acts) is, ap (λ a. a.end) is)
all_due due before later acts ends.NoMemory is = (inr (ap (λ a. a.later) is), ([], append-nil acts ∙ ap (λ a. a.acts) is))

-- so are no acts, where memory ran out
pub none_due : {R : Type 0} (due : Answer R) (before later : List ℤ) (acts : List (Act R)) → later ≡ due.later → acts ≡ [] → AsDue due before later acts ends.NoMemory
none_due due before later acts is none = (inr is, (due.acts, ap (λ xs. xs ++ due.acts) none))
