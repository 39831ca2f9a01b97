use Rattle.std.proofs.Common.{◌≡◌, List, sym, subst}
use Rattle.std.specs.Prelude.{IfOk}
use Rattle.std.proofs.Math.Logic.{∥∥₁_map}
use Rattle.std.proofs.lemmas.Result.{IfOk-weaker}
use Rattle.vx_call.specs.declared.call.Call.{Call}
use Rattle.vx_call.specs.declared.call.Call.TheVariants as calls
use Rattle.vx_call.specs.declared.reply.Reply.{Reply}
use Rattle.vx_call.specs.declared.history.Traced.{Traced}
use Rattle.vx_call.specs.History.{plain_entry, no_mark}
use Rattle.vx_call.specs.Machine.{IsLegal}
use Rattle.vx_context.specs.Stands.{IsNext}
use Rattle.vx_core_life.specs.Stands.{AllStand, LivesFollow}
use Rattle.vx_core_life.proofs.dispatch.step.Goals as goal

pub undeploy-requires-clause-one : goal.undeploy-requires-clause-one
undeploy-requires-clause-one c = ∥∥₁_map c.requires.one (λ p. (p.0, (p.1.1.1.stores.contexts, p.1.1.1.lives)))

pub returns-in-SetLoops-clause-ok : goal.returns-in-SetLoops-clause-ok
returns-in-SetLoops-clause-ok c = λ history stands legal is_next.
    let P : Call → Type 0 = λ call. LivesFollow c.set_loops.new.life c.args.contexts.now c.args.timers.now c.args.bus.now history (plain_entry c.args.pass call c.set_loops.result no_mark) in
    subst P (sym c.in-SetLoops.is) (c.set_loops.ensures.follows history c.args.timers.now c.args.bus.now stands)

pub returns-in-AddPool-clause-ok : goal.returns-in-AddPool-clause-ok
returns-in-AddPool-clause-ok c =
    let P : Call → Type 0 = λ call. IfOk c.add_pool.result (λ (reply : Reply). (history : List Traced) → AllStand c.args.life.now c.args.contexts.now c.args.timers.now c.args.bus.now history → IsLegal history → IsNext c.args.at history →
    LivesFollow c.args.life.now c.add_pool.new.contexts c.args.timers.now c.args.bus.now history (plain_entry c.args.pass call reply no_mark)) in
    subst P (sym c.in-AddPool.is) (IfOk-weaker c.add_pool.result _ _ (λ reply row history stands legal is_next. row history c.args.timers.now c.args.bus.now stands is_next) c.add_pool.ensures.ok)

pub returns-in-Undeploy-clause-ok : goal.returns-in-Undeploy-clause-ok
returns-in-Undeploy-clause-ok c = λ history stands legal is_next.
    let P : Call → Type 0 = λ call. LivesFollow c.undeploy.new.life c.undeploy.new.contexts c.args.timers.now c.args.bus.now history (plain_entry c.args.pass call c.undeploy.result no_mark) in
    subst P (sym c.in-Undeploy.is) (c.undeploy.ensures.follows history c.args.timers.now c.args.bus.now stands legal is_next)
