-- Each instruction of a line whose command is on is one that the hub makes so far.
use Rattle.std.proofs.Common.{◌≡◌, ℕ, List, [], ◌∷◌, Bool, true, false, not, ◌&&◌, refl, ◌∙◌, ap, Some, inl, inr, ◌⊎◌}
use Rattle.std.specs.List.{AllByRecursion}
use Rattle.vx_call.specs.Built.{is_stored}
use Rattle.vx_call.specs.Plain.{is_plain}
use Rattle.vx_call.specs.declared.call.Call.{Call}
use Rattle.vx_line.specs.declared.command.Command.{Command}
use Rattle.vx_line.specs.declared.instruction.Instruction.{Instruction}
use Rattle.vx_line.specs.declared.instruction.Instruction.TheVariants as does
use Rattle.vx_line.specs.declared.scope.Scope.TheVariants as scopes
use Rattle.vx_words.specs.Grammar.{Follow, Values}
use Rattle.vx_line.specs.Grammar.{Chosen, Form, forms, deploy_form, is_kind}
use Rattle.vx_line.specs.Tables.{is_off, is_later}
use Rattle.vx_line.specs.Lines.{IsOfOne, IsLine}
use Rattle.vx_line.specs.Made.{first_call, is_made}

-- Whatever its options choose and its words say, the form makes such an instruction, or its command is off.
abbrev IsReady : Form → Type 0
IsReady form =
    (is_off form.word ≡ true) ⊎ ((chosen : Chosen form.options) (values : Values form.tokens form.ending) (rest : List ℕ) → Follow form.tokens form.ending values rest → is_made (form.make chosen values) ≡ true)

-- a line that deploys names a kind that is there
deploy_ready : IsReady deploy_form
deploy_ready = inr (λ chosen values rest follow. ap is_kind follow.5.1.0 ∙ follow.5.0)

all_ready : AllByRecursion IsReady forms
all_ready = (inr (λ chosen values rest follow. refl), (inr (λ chosen values rest follow. refl), (inl refl, (deploy_ready, (inr (λ chosen values rest follow. refl), (inr (λ chosen values rest follow. refl), (inr (λ chosen values rest follow. refl), (inr (λ chosen values rest follow. refl), (inr (λ chosen values rest follow. refl), (inr (λ chosen values rest follow. refl), (inr (λ chosen values rest follow. refl), (inr (λ chosen values rest follow. refl), (inr (λ chosen values rest follow. refl), (inr (λ chosen values rest follow. refl), (inr (λ chosen values rest follow. refl), (inr (λ chosen values rest follow. refl), (inr (λ chosen values rest follow. refl), (inr (λ chosen values rest follow. refl), (inr (λ chosen values rest follow. refl), (inr (λ chosen values rest follow. refl), (inr (λ chosen values rest follow. refl), (inr (λ chosen values rest follow. refl), (inr (λ chosen values rest follow. refl), (inr (λ chosen values rest follow. refl), (inr (λ chosen values rest follow. refl), (inr (λ chosen values rest follow. refl), (inr (λ chosen values rest follow. refl), (inr (λ chosen values rest follow. refl), tt))))))))))))))))))))))))))))

off_is_off : (later off : Bool) → off ≡ true → not later && not off ≡ true → ⊥
off_is_off true off e h = cc
off_is_off false off e h = cc

by_form : (fs : List Form) (passes : ℕ) (command : Command) (line : List ℕ) → AllByRecursion IsReady fs → IsOfOne fs scopes.Made passes command line → is_made command.instruction ≡ true
by_form [] passes command line all one = absurd one
by_form (form ∷ more) passes command line all (inl has) =
    elim all.0 [
      | inl is ↦ absurd (off_is_off (is_later form.word has.tail) (is_off form.word) is has.on)
      | inr makes ↦ ap is_made has.makes ∙ makes has.chosen has.values has.rest has.follow
    ]
by_form (form ∷ more) passes command line all (inr one) = by_form more passes command line all.1 one

-- what a line says by the grammar is such an instruction
pub line_made : (passes : ℕ) (line : List ℕ) (command : Command) → IsLine scopes.Made passes (Some command) line → is_made command.instruction ≡ true
line_made passes line command says = by_form forms passes command line all_ready says.1

both : (a b : Bool) → a && b ≡ true → (a ≡ true) × (b ≡ true)
both true b h = (refl, h)
both false b h = cc

-- a call that a line makes is one that the hub makes so far
pub made_stored : (call : Call) → is_made (does.Call call) ≡ true → is_stored call ≡ true
made_stored call made = (both (is_stored call) (is_plain call) made).0

-- ... and hands nothing out of it, and nothing to it
pub made_plain : (call : Call) → is_made (does.Call call) ≡ true → is_plain call ≡ true
made_plain call made = (both (is_stored call) (is_plain call) made).1

-- the call that an instruction begins with is one that the hub makes so far
pub made_built : (done : Instruction) → is_made done ≡ true → is_stored (first_call done) ≡ true
made_built (does.Call call) made = made_stored call made
made_built (does.Deploy options spec instances) made = refl
made_built (does.Take lane) made = refl
made_built (does.Finish end) made = refl
made_built (does.Work lane) made = cc
