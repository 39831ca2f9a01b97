use Rattle.std.proofs.Common.{◌≡◌, ◌<◌, ◌^◌, List, ◌++◌, map, length, refl, ap, sym, ◌∙◌, subst}
use Rattle.std.specs.Prelude.{ℤ, true}
use Rattle.std.proofs.lemmas.List.{length-map}
use Rattle.std.proofs.lemmas.Result.{IfOk-weaker, IfErr-weaker}
use Rattle.vx_call.specs.declared.call.Call.{Call}
use Rattle.vx_call.specs.declared.call.Call.TheVariants as calls
use Rattle.vx_call.specs.declared.reply.Reply.{Reply}
use Rattle.vx_call.specs.declared.reply.Reply.TheVariants as replies
use Rattle.vx_instances.specs.Kept.{kept_from}
use Rattle.vx_hub.specs.Handing.{settles}
use Rattle.vx_hub.specs.Stores.{HubStore}
use Rattle.vx_hub.specs.Stands.{Meets}
use Rattle.vx_hub.proofs.Counting.{deploy_counted}
use Rattle.vx_hub.proofs.Calls.{Goes, goes_closed, is_at, meets, of_history_more, of_history_still}
use Rattle.vx_hub.proofs.Deploying.{settled, deploys, same_why}
use Rattle.vx_hub.proofs.Handing.{deploy_keeps, refused_keeps}
use Rattle.vx_hub.proofs.hub.Hub.deploy.Given as given
use Rattle.vx_hub.proofs.hub.Hub.deploy.Goals as goal

-- ## The hub is closed

pub invariant_of-self : goal.invariant_of-self
invariant_of-self g c =
    let old : HubStore = record { counts = c.self.inside.counts; passes = c.self.inside.passes; now = c.self.inside.now; life = c.self.inside.life; contexts = c.self.inside.contexts; timers = c.self.inside.timers; bus = c.self.inside.bus; instances = c.self.inside.instances.kept } in
    let new : HubStore = record { counts = c.add.new.self; passes = c.self.inside.passes; now = c.self.inside.now; life = c.self.inside.life; contexts = c.self.inside.contexts; timers = c.self.inside.timers; bus = c.self.inside.bus; instances = c.self.inside.instances.kept } in
    let states = map g.V.Verticle.state c.args.verticles.items in
    let call = calls.Deploy c.args.options.worker c.args.options.pool c.args.options.tell (length c.args.verticles.items) in
    let small : c.self.inside.counts.entries < 2 ^ 48 = rw (← c.entries-at.ensures) c.if-at-ge-LIMIT.false in
    let all : Goes old new c.args.pass call (replies.Refused c.in-Some.refusal) states =
    goes_closed old c.add.new.self c.args.pass call c.in-Some.refusal states refl small c.add.ensures
    (λ history stands. (sym (c.closed.ensures history stands.parts.all.lives) ∙ c.in-Some.is, length-map c.args.verticles.items g.V.Verticle.state)) in
    let Q : HubStore → Type 0 = λ hub. c.args.pass.0 < hub.passes in (
      of_history_more old new c.args.pass call (replies.Refused c.in-Some.refusal) states (subst Q (sym c.self.view_is) c.requires.known) all c.self.invariant.0,
      c.self.invariant.1,
      c.self.invariant.2,
    )

pub returns-in-Some-clause-refused : goal.returns-in-Some-clause-refused
returns-in-Some-clause-refused g c =
    let old : HubStore = record { counts = c.self.inside.counts; passes = c.self.inside.passes; now = c.self.inside.now; life = c.self.inside.life; contexts = c.self.inside.contexts; timers = c.self.inside.timers; bus = c.self.inside.bus; instances = c.self.inside.instances.kept } in
    let new : HubStore = record { counts = c.add.new.self; passes = c.self.inside.passes; now = c.self.inside.now; life = c.self.inside.life; contexts = c.self.inside.contexts; timers = c.self.inside.timers; bus = c.self.inside.bus; instances = c.self.inside.instances.kept } in
    let states = map g.V.Verticle.state c.args.verticles.items in
    let call = calls.Deploy c.args.options.worker c.args.options.pool c.args.options.tell (length c.args.verticles.items) in
    let small : c.self.inside.counts.entries < 2 ^ 48 = rw (← c.entries-at.ensures) c.if-at-ge-LIMIT.false in
    let all : Goes old new c.args.pass call (replies.Refused c.in-Some.refusal) states =
    goes_closed old c.add.new.self c.args.pass call c.in-Some.refusal states refl small c.add.ensures
    (λ history stands. (sym (c.closed.ensures history stands.parts.all.lives) ∙ c.in-Some.is, length-map c.args.verticles.items g.V.Verticle.state)) in
    let P : HubStore → Type 0 = λ o. Meets o new c.args.pass call (replies.Refused c.in-Some.refusal) states in
    let met = subst P c.self.view_is (meets old new c.args.pass call (replies.Refused c.in-Some.refusal) states refl small all (refused_keeps old new c.args.pass call c.in-Some.refusal states refl)) in
    λ why is.
    let R : Reply → Type 0 = λ reply. Meets c.args.self.now new c.args.pass call reply states in
    subst R (ap replies.Refused (same_why c.in-Some.refusal why (sym (ap (λ refused. refused.why) c.not_deployed-in-Some.ensures) ∙ is))) met

-- ## There is no room for the verticles

pub invariant_of-self-in-Err : goal.invariant_of-self-in-Err
invariant_of-self-in-Err g c = (
  of_history_still (record { counts = c.self.inside.counts; passes = c.self.inside.passes; now = c.self.inside.now; life = c.self.inside.life; contexts = c.self.inside.contexts; timers = c.self.inside.timers; bus = c.self.inside.bus; instances = c.self.inside.instances.kept })
      (record { counts = c.self.inside.counts; passes = c.self.inside.passes; now = c.self.inside.now; life = c.self.inside.life; contexts = c.self.inside.contexts; timers = c.self.inside.timers; bus = c.self.inside.bus; instances = c.reserve.new.self.kept }) refl (λ history stands. stands) c.self.invariant.0,
  c.self.invariant.1,
  c.self.invariant.2,
)

-- ## The row

pub deploy-row-requires-clause-one : goal.deploy-row-requires-clause-one
deploy-row-requires-clause-one g c = is_at (record { counts = c.self.inside.counts; passes = c.self.inside.passes; now = c.self.inside.now; life = c.self.inside.life; contexts = c.self.inside.contexts; timers = c.self.inside.timers; bus = c.self.inside.bus; instances = c.self.inside.instances.kept }) (record { 0 = c.entries-at.result }) c.entries-at.ensures c.self.invariant.0

pub settle_in-settled-requires-clause-few : goal.settle_in-settled-requires-clause-few
settle_in-settled-requires-clause-few g c κs within =
    let one = is_at (record { counts = c.self.inside.counts; passes = c.self.inside.passes; now = c.self.inside.now; life = c.self.inside.life; contexts = c.self.inside.contexts; timers = c.self.inside.timers; bus = c.self.inside.bus; instances = c.self.inside.instances.kept }) (record { 0 = c.entries-at.result }) c.entries-at.ensures c.self.invariant.0 in
    settled (record { 0 = c.entries-at.result }) c.self.inside.life c.deploy-row.new.life c.self.inside.contexts c.deploy-row.new.contexts c.self.inside.timers c.self.inside.bus c.deploy-row.new.bus
    c.args.pass c.args.options.worker c.args.options.pool c.args.options.tell c.len-2.result (length c.args.verticles.items) c.in-Ok.reply (c.len-2.ensures ∙ c.args.verticles.ok.0) one c.in-Ok.ensures.ok

-- ## It was made or refused

abbrev old : (g : given.Over) → goal.After-drop-options-in-Ok g → HubStore
old g c = record { counts = c.self.inside.counts; passes = c.self.inside.passes; now = c.self.inside.now; life = c.self.inside.life; contexts = c.self.inside.contexts; timers = c.self.inside.timers; bus = c.self.inside.bus; instances = c.self.inside.instances.kept }

abbrev new : (g : given.Over) → goal.After-drop-options-in-Ok g → HubStore
new g c = record { counts = c.add-in-Ok.new.self; passes = c.self.inside.passes; now = c.self.inside.now; life = c.deploy-row.new.life; contexts = c.deploy-row.new.contexts; timers = c.self.inside.timers; bus = c.deploy-row.new.bus; instances = c.settle_in-settled.new.instances.kept }

abbrev call : (g : given.Over) → goal.After-drop-options-in-Ok g → Call
call g c = calls.Deploy c.args.options.worker c.args.options.pool c.args.options.tell (length c.args.verticles.items)

abbrev brought : (g : given.Over) → goal.After-drop-options-in-Ok g → List (List ℤ)
brought g c = map g.V.Verticle.state c.args.verticles.items

small : (g : given.Over) (c : goal.After-drop-options-in-Ok g) → c.self.inside.counts.entries < 2 ^ 48
small g c = rw (← c.entries-at.ensures) c.if-at-ge-LIMIT.false

few : (g : given.Over) (c : goal.After-drop-options-in-Ok g) → settles c.in-Ok.reply (length c.args.verticles.items) ≡ true
few g c =
    settled (record { 0 = c.entries-at.result }) c.self.inside.life c.deploy-row.new.life c.self.inside.contexts c.deploy-row.new.contexts c.self.inside.timers c.self.inside.bus c.deploy-row.new.bus
    c.args.pass c.args.options.worker c.args.options.pool c.args.options.tell c.len-2.result (length c.args.verticles.items) c.in-Ok.reply (c.len-2.ensures ∙ c.args.verticles.ok.0) (is_at (old g c) (record { 0 = c.entries-at.result }) c.entries-at.ensures c.self.invariant.0) c.in-Ok.ensures.ok

all : (g : given.Over) (c : goal.After-drop-options-in-Ok g) → Goes (old g c) (new g c) c.args.pass (call g c) c.in-Ok.reply (brought g c)
all g c =
    let count = length c.args.verticles.items in
    deploys (old g c) (new g c) c.args.pass c.args.options.worker c.args.options.pool c.args.options.tell c.len-2.result count c.in-Ok.reply (brought g c) (c.len-2.ensures ∙ c.args.verticles.ok.0) (small g c)
    (c.add-in-Ok.ensures ∙ deploy_counted c.self.inside.counts c.args.options.worker c.args.options.pool c.args.options.tell count c.in-Ok.reply (few g c)) refl refl
    (length-map c.args.verticles.items g.V.Verticle.state)
    (λ history stands. sym c.in_default.is ∙ c.closed.ensures history stands)
    (λ history states stands legal is_next. c.in-Ok.ensures.ok history states stands legal (c.entries-at.ensures ∙ is_next))

pub invariant_of-self-in-Ok : goal.invariant_of-self-in-Ok
invariant_of-self-in-Ok g c =
    let Q : HubStore → Type 0 = λ hub. c.args.pass.0 < hub.passes in (
      of_history_more (old g c) (new g c) c.args.pass (call g c) c.in-Ok.reply (brought g c) (subst Q (sym c.self.view_is) c.requires.known) (all g c) c.self.invariant.0,
      c.in-Ok.ensures.places,
      c.in-Ok.ensures.owed,
    )

pub returns-in-Ok-clause-done : goal.returns-in-Ok-clause-done
returns-in-Ok-clause-done g c =
    IfOk-weaker c.settle_in-settled.result _ _
    (λ id done.
    let reply = replies.Deployment id in
    let states = brought g c in
    let G : Reply → Type 0 = λ r. Goes (old g c) (new g c) c.args.pass (call g c) r states in
    let P : HubStore → Type 0 = λ o. Meets o (new g c) c.args.pass (call g c) reply states in
    subst P c.self.view_is (meets (old g c) (new g c) c.args.pass (call g c) reply states refl (small g c) (subst G done.0 (all g c))
    (deploy_keeps (old g c) (new g c) (record { 0 = c.entries-at.result }) c.args.pass c.args.options.worker c.args.options.pool c.args.options.tell id states (length c.args.verticles.items) (length-map c.args.verticles.items g.V.Verticle.state) c.entries-at.ensures
    (done.1 ∙ ap (λ kept. kept ++ kept_from (record { 0 = c.entries-at.result }) 0 states) c.reserve.ensures.same))))
    c.settle_in-settled.ensures.done

pub returns-in-Ok-clause-refused : goal.returns-in-Ok-clause-refused
returns-in-Ok-clause-refused g c =
    IfErr-weaker c.settle_in-settled.result _ _
    (λ refused because why is.
    let reply = replies.Refused why in
    let states = brought g c in
    let said = because why is in
    let G : Reply → Type 0 = λ r. Goes (old g c) (new g c) c.args.pass (call g c) r states in
    let P : HubStore → Type 0 = λ o. Meets o (new g c) c.args.pass (call g c) reply states in
    subst P c.self.view_is (meets (old g c) (new g c) c.args.pass (call g c) reply states refl (small g c) (subst G said.0 (all g c))
    (refused_keeps (old g c) (new g c) c.args.pass (call g c) why states (said.1 ∙ c.reserve.ensures.same))))
    c.settle_in-settled.ensures.refused

-- ## The row finds no memory

pub invariant_of-self-in-Err-row : goal.invariant_of-self-in-Err-row
invariant_of-self-in-Err-row g c = (
  of_history_still (record { counts = c.self.inside.counts; passes = c.self.inside.passes; now = c.self.inside.now; life = c.self.inside.life; contexts = c.self.inside.contexts; timers = c.self.inside.timers; bus = c.self.inside.bus; instances = c.self.inside.instances.kept })
      (record { counts = c.self.inside.counts; passes = c.self.inside.passes; now = c.self.inside.now; life = c.deploy-row.new.life; contexts = c.deploy-row.new.contexts; timers = c.self.inside.timers; bus = c.deploy-row.new.bus; instances = c.reserve.new.self.kept }) refl
      (λ history stands. record { passes = stands.passes; now = stands.now; named = stands.named; all = c.in-Err-row.ensures.err history stands.all }) c.self.invariant.0,
  c.in-Err-row.ensures.places,
  c.in-Err-row.ensures.owed,
)
