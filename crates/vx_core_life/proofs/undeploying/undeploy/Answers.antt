use Rattle.std.proofs.Common.{refl, ap, sym, ◌∙◌, true}
use Rattle.std.proofs.Math.Bool.{Bool-set}
use Rattle.std.proofs.Math.Logic.{∥∥₁_elim}
use Rattle.vx_tree.specs.Nodes.{is_known}
use Rattle.vx_call.specs.declared.call.Call.TheVariants as calls
use Rattle.vx_call.specs.declared.reply.Reply.TheVariants as replies
use Rattle.vx_call.specs.Refusals.{unless_refused, no_deployment}
use Rattle.vx_bus_refusals.proofs.Chains.{none_of_first}
use Rattle.vx_life_rows.proofs.RowEnds.{known_there}
use Rattle.vx_core_life.proofs.Refused.{lives_refused}
use Rattle.vx_core_life.proofs.RowUndeploy.{undeploys}
use Rattle.vx_core_life.proofs.undeploying.undeploy.Goals as goal

pub ask-requires : goal.ask-requires
ask-requires c =
    ∥∥₁_elim c.requires.one (Bool-set (is_known c.args.deployment c.args.life.now.tree.asked) true) (λ p.
    known_there p.0 c.args.life.now c.args.deployment p.1.1.parts
    (none_of_first (no_deployment p.0 c.args.deployment) _ (sym (c.undeploy_refusal.ensures p.0 p.1.0 p.1.1) ∙ c.in_default.is)))

pub returns-in-Some-clause-follows : goal.returns-in-Some-clause-follows
returns-in-Some-clause-follows c = λ history timers bus stands legal is_next.
    lives_refused c.args.life.now c.args.contexts.now timers bus history c.args.pass (calls.Undeploy c.args.deployment c.args.tell) c.in-Some.refusal refl stands
    (ap (λ refusal. unless_refused refusal replies.Done) (c.in-Some.ensures history stands.stores.contexts stands.lives))

pub returns-clause-follows : goal.returns-clause-follows
returns-clause-follows c = λ history timers bus stands legal is_next.
    let free = sym (c.undeploy_refusal.ensures history stands.stores.contexts stands.lives) ∙ c.in_default.is in
    undeploys c.args.life.now c.ask.new.self c.move_on.new.life c.args.contexts.now c.move_on.new.contexts timers bus history c.args.at c.args.pass c.args.deployment c.args.tell stands legal is_next free c.ask.ensures
    c.move_on.ensures.said c.move_on.ensures.told
