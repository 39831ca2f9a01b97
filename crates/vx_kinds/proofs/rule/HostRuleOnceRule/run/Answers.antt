use Rattle.std.proofs.Common.{◌≡◌, ◌++◌, ◌∙◌, ap, sym, subst, ◌∷◌, ℤ, List, [], refl}
use Rattle.std.specs.Option.{option_to_list}
use Rattle.vx_call.specs.declared.call.End.TheVariants as ends
use Rattle.vx_verticle.specs.declared.once.OnceInput.{OnceInput}
use Rattle.vx_verticle.specs.declared.plain.PlainAct.{PlainAct}
use Rattle.vx_kinds.specs.Rules.{Allows, IsWhole, publishes}
use Rattle.vx_kinds.proofs.rule.HostRuleOnceRule.run.Goals as goal

-- no act is the beginning of the one that is due
nothing_yet : (value number : ℤ) (argument : List ℤ) (input : OnceInput) (acts : List PlainAct) → value ∷ (number ∷ []) ≡ argument → acts ≡ [] → Allows argument input acts ends.NoMemory
nothing_yet value number argument input acts is none =
    (publishes number ∷ [], ends.Value value, λ e. cc, subst (λ given. IsWhole given (acts ++ publishes number ∷ []) (ends.Value value)) is (ap (λ xs. xs ++ publishes number ∷ []) none, refl))

pub returns : goal.returns
returns c =
    nothing_yet c.self.inside.value c.in-Some.number c.args.self c.args._input c.push.new.self
    (sym (ap (λ number. c.self.inside.value ∷ option_to_list number) c.in-Some.is) ∙ c.self.view_is)
    (c.in-Err.ensures.unchanged ∙ c.new-acts.ensures)
