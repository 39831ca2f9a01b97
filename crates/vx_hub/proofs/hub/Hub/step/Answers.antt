use Rattle.std.proofs.Common.{◌≡◌, ◌<◌, ◌^◌, [], refl, ap, sym, ◌∙◌, subst}
use Rattle.std.specs.Prelude.{◌&&◌, cond}
use Rattle.vx_call.specs.History.{is_accepted}
use Rattle.vx_call.specs.declared.reply.Reply.TheVariants as replies
use Rattle.vx_instances.proofs.Rows.{closes_all}
use Rattle.vx_hub.specs.Counts.{one_more, with_entry}
use Rattle.vx_hub.specs.Handing.{ending_in, held_context_in, left_open}
use Rattle.vx_hub.specs.Stores.{HubStore}
use Rattle.vx_hub.specs.Stands.{Meets}
use Rattle.vx_hub.proofs.Handing.{step_keeps, refused_keeps}
use Rattle.vx_hub.proofs.Calls.{Goes, goes, goes_closed, meets, of_history_more, of_history_still, is_at, plain_fits, plain_due}
use Rattle.vx_hub.proofs.hub.Hub.step.Given as given
use Rattle.vx_hub.proofs.hub.Hub.step.Goals as goal

pub plain_row-requires : goal.plain_row-requires
plain_row-requires g c = record {
  small = c.if-at-ge-LIMIT.false;
  plain = c.requires.plain;
  stored = c.requires.stored;
  one = is_at (record { counts = c.self.inside.counts; passes = c.self.inside.passes; now = c.self.inside.now; life = c.self.inside.life; contexts = c.self.inside.contexts; timers = c.self.inside.timers; bus = c.self.inside.bus; instances = c.self.inside.instances.kept }) (record { 0 = c.entries-at.result }) c.entries-at.ensures c.self.invariant.0;
  places = c.self.invariant.1;
  owed = c.self.invariant.2;
}

-- ## The hub is closed

abbrev closed_old : (g : given.Over) → goal.After-add g → HubStore
closed_old g c = record { counts = c.self.inside.counts; passes = c.self.inside.passes; now = c.self.inside.now; life = c.self.inside.life; contexts = c.self.inside.contexts; timers = c.self.inside.timers; bus = c.self.inside.bus; instances = c.self.inside.instances.kept }

abbrev closed_new : (g : given.Over) → goal.After-add g → HubStore
closed_new g c = record { counts = c.add.new.self; passes = c.self.inside.passes; now = c.self.inside.now; life = c.self.inside.life; contexts = c.self.inside.contexts; timers = c.self.inside.timers; bus = c.self.inside.bus; instances = c.self.inside.instances.kept }

closed_small : (g : given.Over) (c : goal.After-add g) → c.self.inside.counts.entries < 2 ^ 48
closed_small g c = rw (← c.entries-at.ensures) c.if-at-ge-LIMIT.false

closed_known : (g : given.Over) (c : goal.After-add g) → c.args.pass.0 < c.self.inside.passes
closed_known g c = let P : HubStore → Type 0 = λ hub. c.args.pass.0 < hub.passes in subst P (sym c.self.view_is) c.requires.known

closed_all : (g : given.Over) (c : goal.After-add g) → Goes (closed_old g c) (closed_new g c) c.args.pass c.args.call (replies.Refused c.in-Some.refusal) []
closed_all g c = goes_closed (closed_old g c) c.add.new.self c.args.pass c.args.call c.in-Some.refusal [] c.requires.stored (closed_small g c) c.add.ensures
    (λ history stands. (sym (c.shut.ensures history stands.parts.all.lives) ∙ c.in-Some.is, sym (plain_due history c.args.pass c.args.call c.requires.plain)))

pub invariant_of-self : goal.invariant_of-self
invariant_of-self g c = (
  of_history_more (closed_old g c) (closed_new g c) c.args.pass c.args.call (replies.Refused c.in-Some.refusal) [] (closed_known g c) (closed_all g c) c.self.invariant.0,
  c.self.invariant.1,
  c.self.invariant.2,
)

pub returns-in-Some-clause-answered_as_the_machine : goal.returns-in-Some-clause-answered_as_the_machine
returns-in-Some-clause-answered_as_the_machine g c =
    let reply = replies.Refused c.in-Some.refusal in
    let P : HubStore → Type 0 = λ o. Meets o (closed_new g c) c.args.pass c.args.call reply [] in
    subst P c.self.view_is (meets (closed_old g c) (closed_new g c) c.args.pass c.args.call reply [] c.requires.stored (closed_small g c) (closed_all g c)
    (refused_keeps (closed_old g c) (closed_new g c) c.args.pass c.args.call c.in-Some.refusal [] refl))

-- ## Without memory

pub invariant_of-self-in_err-reply : goal.invariant_of-self-in_err-reply
invariant_of-self-in_err-reply g c = (
  of_history_still (record { counts = c.self.inside.counts; passes = c.self.inside.passes; now = c.self.inside.now; life = c.self.inside.life; contexts = c.self.inside.contexts; timers = c.self.inside.timers; bus = c.self.inside.bus; instances = c.self.inside.instances.kept })
      (record { counts = c.self.inside.counts; passes = c.plain_row.new.passes; now = c.plain_row.new.now; life = c.plain_row.new.life; contexts = c.plain_row.new.contexts; timers = c.plain_row.new.timers; bus = c.plain_row.new.bus; instances = c.self.inside.instances.kept }) refl c.in_err-reply.ensures.err c.self.invariant.0,
  c.in_err-reply.ensures.places,
  c.in_err-reply.ensures.owed,
)

-- ## The call is made

abbrev old : (g : given.Over) → goal.After-leave_out_closed g → HubStore
old g c = record { counts = c.self.inside.counts; passes = c.self.inside.passes; now = c.self.inside.now; life = c.self.inside.life; contexts = c.self.inside.contexts; timers = c.self.inside.timers; bus = c.self.inside.bus; instances = c.self.inside.instances.kept }

abbrev new : (g : given.Over) → goal.After-leave_out_closed g → HubStore
new g c = record { counts = c.add-2.new.self; passes = c.plain_row.new.passes; now = c.plain_row.new.now; life = c.plain_row.new.life; contexts = c.plain_row.new.contexts; timers = c.plain_row.new.timers; bus = c.plain_row.new.bus; instances = c.leave_out_closed.new.instances.kept }

more : (g : given.Over) (c : goal.After-leave_out_closed g) → c.add-2.new.self ≡ with_entry c.self.inside.counts c.args.call c.in_ok-reply.reply
more g c =
    let made = c.has_done.ensures ∙ ap (λ makes. is_accepted c.in_ok-reply.reply && makes) c.makes_message-makes.ensures in
    c.add-2.ensures ∙ (ap (λ b. one_more c.self.inside.counts b c.delivers.result) made ∙ ap (one_more c.self.inside.counts _) c.delivers.ensures)

small : (g : given.Over) (c : goal.After-leave_out_closed g) → c.self.inside.counts.entries < 2 ^ 48
small g c = rw (← c.entries-at.ensures) c.if-at-ge-LIMIT.false

known : (g : given.Over) (c : goal.After-leave_out_closed g) → c.args.pass.0 < c.self.inside.passes
known g c = let P : HubStore → Type 0 = λ hub. c.args.pass.0 < hub.passes in subst P (sym c.self.view_is) c.requires.known

all : (g : given.Over) (c : goal.After-leave_out_closed g) → Goes (old g c) (new g c) c.args.pass c.args.call c.in_ok-reply.reply []
all g c = goes (old g c) (new g c) c.args.pass c.args.call c.in_ok-reply.reply [] c.requires.stored (small g c) (more g c)
    (plain_fits (old g c) c.args.pass c.args.call c.requires.plain (λ history stands. sym c.in_default.is ∙ c.shut.ensures history stands))
    (λ history stands legal is_next. c.in_ok-reply.ensures.ok history stands legal (c.entries-at.ensures ∙ is_next))

pub invariant_of-self-2 : goal.invariant_of-self-2
invariant_of-self-2 g c = (
  of_history_more (old g c) (new g c) c.args.pass c.args.call c.in_ok-reply.reply [] (known g c) (all g c) c.self.invariant.0,
  c.in_ok-reply.ensures.places,
  c.in_ok-reply.ensures.owed,
)

-- the verticles that are left out
left_out : (g : given.Over) (c : goal.After-leave_out_closed g) →
    c.leave_out_closed.new.instances.kept ≡ cond (is_accepted c.in_ok-reply.reply && closes_all c.args.call) [] (left_open c.plain_row.new.contexts (ending_in c.args.call (held_context_in c.self.inside.contexts.held c.args.pass)) c.self.inside.instances.kept)
left_out g c =
    let kept = c.self.inside.instances.kept in
    let context = c.ends_life-context.result in
    c.leave_out_closed.ensures
    ∙ ap (λ b. cond b [] (left_open c.plain_row.new.contexts context kept)) (c.has_done-2.ensures ∙ ap (λ b. is_accepted c.in_ok-reply.reply && b) c.closes_hub-closes.ensures)
    ∙ ap (λ o. cond (is_accepted c.in_ok-reply.reply && closes_all c.args.call) [] (left_open c.plain_row.new.contexts o kept)) c.ends_life-context.ensures

pub returns-clause-answered_as_the_machine : goal.returns-clause-answered_as_the_machine
returns-clause-answered_as_the_machine g c =
    let P : HubStore → Type 0 = λ o. Meets o (new g c) c.args.pass c.args.call c.in_ok-reply.reply [] in
    subst P c.self.view_is (meets (old g c) (new g c) c.args.pass c.args.call c.in_ok-reply.reply [] c.requires.stored (small g c) (all g c)
    (step_keeps (old g c) (new g c) c.args.pass c.args.call c.in_ok-reply.reply c.requires.plain (left_out g c)))
