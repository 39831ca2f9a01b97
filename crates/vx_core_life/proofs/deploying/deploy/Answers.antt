use Rattle.std.proofs.Common.{ℕ, List, length, true, refl, ap, sym, ◌∙◌, subst, arith}
use Rattle.std.proofs.Math.Bool.{Bool-set}
use Rattle.std.proofs.Math.Logic.{∥∥₁_elim}
use Rattle.vx_message.specs.declared.Context.{Context}
use Rattle.vx_tree.specs.Nodes.{may_be_below}
use Rattle.vx_call.specs.declared.call.Call.TheVariants as calls
use Rattle.vx_call.specs.declared.reply.Reply.TheVariants as replies
use Rattle.vx_call.specs.Names.{next_deployment}
use Rattle.vx_call.specs.Refusals.{unless_refused}
use Rattle.vx_life.specs.Steps.{Deploys}
use Rattle.vx_life_rows.proofs.RowDeploy.{above}
use Rattle.vx_context.specs.Stores.{ContextStore}
use Rattle.vx_core_life.specs.Starting.{Adds, Starts}
use Rattle.vx_core_life.proofs.BeforeDeploy.{room_for, all_earlier}
use Rattle.vx_core_life.proofs.NewContexts.{new_counted}
use Rattle.vx_core_life.proofs.Refused.{refused_with}
use Rattle.vx_core_life.proofs.RowDeploy.{unstopped, deploys, promised_more}
use Rattle.vx_core_life.proofs.RowLoops.{counted}
use Rattle.vx_core_life.proofs.deploying.deploy.Goals as goal

pub returns-in-Some-clause-ok : goal.returns-in-Some-clause-ok
returns-in-Some-clause-ok c = λ history states stands legal is_next.
    refused_with history c.args.pass (calls.Deploy c.args.worker c.args.pool.now c.args.tell c.args.count) c.in-Some.refusal states c.args.life.now c.args.contexts.now c.args.timers.now c.args.bus.now refl stands
    (ap (λ refusal. unless_refused refusal (replies.Deployment (next_deployment history))) (c.in-Some.ensures.refusal history stands.stores.contexts stands.lives))

pub contexts_for-requires : goal.contexts_for-requires
contexts_for-requires c =
    room_for c.args.at c.args.life.now c.args.contexts.now c.args.timers.now c.args.bus.now c.args.count c.requires.one c.requires.small (counted 64 c.args.count (c.deploy_refusal.ensures.free c.in_default.is)).greatest

pub add_all-requires-clause-later : goal.add_all-requires-clause-later
add_all-requires-clause-later c = all_earlier c.args.at c.args.life.now c.args.contexts.now c.args.timers.now c.args.bus.now c.requires.one

pub add_all-requires-clause-above : goal.add_all-requires-clause-above
add_all-requires-clause-above c =
    let tree = c.args.life.now.tree in
    ∥∥₁_elim c.requires.one (Bool-set (may_be_below c.held_deployment-parent.result tree.there tree.asked) true) (λ p.
    let history = p.0 in
    let stands = p.1.1.1 in
    let now = c.make_room.ensures.keeps history c.args.timers.now stands.stores in
    let free = sym (c.deploy_refusal.ensures.refusal history stands.stores.contexts stands.lives) ∙ c.in_default.is in
    ap (λ parent. may_be_below parent tree.there tree.asked) (c.held_deployment-parent.ensures history now.contexts)
    ∙ above history c.args.life.now stands.lives.parts c.args.pass (unstopped history c.args.pass c.args.pool.now c.args.tell c.args.count free))

pub add_all-requires-clause-few : goal.add_all-requires-clause-few
add_all-requires-clause-few c =
    let long = new_counted c.args.life.now c.args.worker c.pool_lane-lane.result (record { 0 = c.args.at }) c.args.count c.deref.result.now (c.deref.ensures.value ∙ c.in_ok-made.ensures) in
    let few = (counted 64 c.args.count (c.deploy_refusal.ensures.free c.in_default.is)).greatest in
    omega (arith, long, few)

pub add_all-requires-clause-room : goal.add_all-requires-clause-room
add_all-requires-clause-room c =
    let long = new_counted c.args.life.now c.args.worker c.pool_lane-lane.result (record { 0 = c.args.at }) c.args.count c.deref.result.now (c.deref.ensures.value ∙ c.in_ok-made.ensures) in
    let room = room_for c.args.at c.args.life.now c.args.contexts.now c.args.timers.now c.args.bus.now c.args.count c.requires.one c.requires.small (counted 64 c.args.count (c.deploy_refusal.ensures.free c.in_default.is)).greatest in
    omega (arith, long, room)

pub start_all-requires : goal.start_all-requires
start_all-requires c =
    let long = new_counted c.args.life.now c.args.worker c.pool_lane-lane.result (record { 0 = c.args.at }) c.args.count c.deref-2.result.now (c.deref-2.ensures.value ∙ c.in_ok-made.ensures) in
    let same = ap (λ (s : ContextStore). s.room) c.in_ok-add_all.ensures.added.rest in
    let room = c.in_ok-make_room.ensures.room.items in
    omega (arith, long, same, room)

pub returns-clause-ok : goal.returns-clause-ok
returns-clause-ok c = λ history states stands legal is_next.
    let life = c.args.life.now in
    let made = c.in_ok-made.made.items in
    let now = c.make_room.ensures.keeps history c.args.timers.now stands.stores in
    let free = sym (c.deploy_refusal.ensures.refusal history stands.stores.contexts stands.lives) ∙ c.in_default.is in
    let long = new_counted life c.args.worker c.pool_lane-lane.result (record { 0 = c.args.at }) c.args.count c.deref.result.now (c.deref.ensures.value ∙ c.in_ok-made.ensures) in
    let Lives : ℕ → Type 0 = λ n. Deploys (record { 0 = c.args.at }) c.held_deployment-parent.result c.args.worker c.args.tell n life c.add_all.new.life in
    let Added : List Context → Type 0 = λ cs. Adds cs c.make_room.new.contexts c.add_all.new.contexts in
    let Started : List Context → Type 0 = λ cs. Starts c.args.at cs c.add_all.new.contexts c.start_all.new.contexts in
    deploys history c.args.pass c.args.worker c.args.pool.now c.args.tell c.args.count states c.args.at life c.add_all.new.life c.make_room.new.contexts c.add_all.new.contexts c.start_all.new.contexts c.args.timers.now c.make_room.new.bus
    c.pool_lane-lane.result c.held_deployment-parent.result made (record { stores = now; lives = stands.lives }) legal is_next free (c.pool_lane-lane.ensures history now.contexts) (c.held_deployment-parent.ensures history now.contexts) c.in_ok-made.ensures
    (subst Lives long c.in_ok-add_all.ensures.lives) (subst Added c.deref.ensures.value c.in_ok-add_all.ensures.added) (subst Started c.deref-2.ensures.value c.start_all.ensures.starts)

pub returns-clause-places : goal.returns-clause-places
returns-clause-places c =
    let long = new_counted c.args.life.now c.args.worker c.pool_lane-lane.result (record { 0 = c.args.at }) c.args.count c.deref-2.result.now (c.deref-2.ensures.value ∙ c.in_ok-made.ensures) in
    let same = ap (λ (s : ContextStore). s.room) c.in_ok-add_all.ensures.added.rest in
    let room = c.in_ok-make_room.ensures.room.items in
    let left = c.start_all.ensures.room in
    record { items = omega (arith, long, same, room, left); tasks = c.make_room.ensures.places.tasks }

pub returns-clause-owed : goal.returns-clause-owed
returns-clause-owed c =
    let made = c.deref.ensures.value in
    let again = c.deref-2.ensures.value in
    let long = ap length (made ∙ sym again) in
    let more = promised_more (record { 0 = c.args.at }) c.held_deployment-parent.result c.args.worker c.args.tell (length c.deref.result.now) c.args.life.now c.add_all.new.life c.in_ok-add_all.ensures.lives in
    let owed = c.start_all.ensures.owed in
    let same = ap (λ (s : ContextStore). s.owed) c.in_ok-add_all.ensures.added.rest in
    let before = ap (λ (s : ContextStore). s.owed) c.make_room.ensures.same_contexts in
    let enough = c.requires.owed in
    omega (arith, long, more, owed, same, before, enough)
