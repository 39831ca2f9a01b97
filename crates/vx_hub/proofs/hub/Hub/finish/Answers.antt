use Rattle.std.proofs.Common.{◌≡◌, ◌<◌, ◌^◌, List, refl, ap, sym, ◌∙◌, subst}
use Rattle.std.specs.Prelude.{ℤ, Option, is_some}
use Rattle.std.specs.Option.{option_map, option_to_list}
use Rattle.vx_call.specs.declared.call.Call.TheVariants as calls
use Rattle.vx_call.specs.declared.reply.Reply.{Reply}
use Rattle.vx_call.specs.declared.reply.Reply.TheVariants as replies
use Rattle.vx_core_life.specs.Stands.{finished}
use Rattle.vx_instances.specs.Kept.{Kept}
use Rattle.vx_hub.specs.Handing.{gave_in, held_context_in, kept_back, left_open}
use Rattle.vx_hub.specs.Stores.{HubStore}
use Rattle.vx_hub.specs.Stands.{Meets}
use Rattle.vx_hub.proofs.Counting.{finish_counted}
use Rattle.vx_hub.proofs.Calls.{Goes, is_at, meets, of_history_more}
use Rattle.vx_hub.proofs.Ends.{ends}
use Rattle.vx_hub.proofs.Handing.{finish_keeps, refused_keeps, some_mapped}
use Rattle.vx_hub.proofs.hub.Hub.finish.Given as given
use Rattle.vx_hub.proofs.hub.Hub.finish.Goals as goal

pub finish-ended-requires : goal.finish-ended-requires
finish-ended-requires g c = record {
  one = is_at (record { counts = c.self.inside.counts; passes = c.self.inside.passes; now = c.self.inside.now; life = c.self.inside.life; contexts = c.self.inside.contexts; timers = c.self.inside.timers; bus = c.self.inside.bus; instances = c.self.inside.instances.kept }) (record { 0 = c.entries-at.result }) c.entries-at.ensures c.self.invariant.0;
  places = c.self.invariant.1;
  owed = c.self.invariant.2;
}

abbrev old : (g : given.Over) → goal.After-keep_again g → HubStore
old g c = record { counts = c.self.inside.counts; passes = c.self.inside.passes; now = c.self.inside.now; life = c.self.inside.life; contexts = c.self.inside.contexts; timers = c.self.inside.timers; bus = c.self.inside.bus; instances = c.self.inside.instances.kept }

abbrev new : (g : given.Over) → goal.After-keep_again g → List Kept → HubStore
new g c kept = record { counts = c.add.new.self; passes = c.self.inside.passes; now = c.self.inside.now; life = c.finish-ended.new.life; contexts = c.finish-ended.new.contexts; timers = c.finish-ended.new.timers; bus = c.finish-ended.new.bus; instances = kept }

abbrev state : (g : given.Over) → goal.After-keep_again g → Option (List ℤ)
state g c = option_map g.V.Verticle.state c.args.back.verticle

small : (g : given.Over) (c : goal.After-keep_again g) → c.self.inside.counts.entries < 2 ^ 48
small g c = rw (← c.entries-at.ensures) c.if-at-ge-LIMIT.false

there : (g : given.Over) (c : goal.After-keep_again g) → is_some (state g c) ≡ gave_in c.self.inside.contexts c.args.pass
there g c = some_mapped g.V.Verticle.state c.args.back.verticle ∙ c.requires.there ∙ ap (λ (hub : HubStore). gave_in hub.contexts c.args.pass) (sym c.self.view_is)

known : (g : given.Over) (c : goal.After-keep_again g) → c.args.pass.0 < c.self.inside.passes
known g c = let P : HubStore → Type 0 = λ hub. c.args.pass.0 < hub.passes in subst P (sym c.self.view_is) c.requires.known

all : (g : given.Over) (c : goal.After-keep_again g) (kept : List Kept) → Goes (old g c) (new g c kept) c.args.pass (calls.Finish c.args.back.end) (finished c.finish-ended.result) (option_to_list (state g c))
all g c kept = ends (old g c) (new g c kept) c.args.pass c.args.back.end c.finish-ended.result (state g c) (small g c) (c.add.ensures ∙ finish_counted c.self.inside.counts c.args.back.end c.finish-ended.result) refl refl (there g c)
    (λ history states stands legal is_next. c.finish-ended.ensures.follows history states stands legal (c.entries-at.ensures ∙ is_next))

pub invariant_of-self : goal.invariant_of-self
invariant_of-self g c = (
  of_history_more (old g c) (new g c c.keep_again.new.instances.kept) c.args.pass (calls.Finish c.args.back.end) (finished c.finish-ended.result) (option_to_list (state g c)) (known g c) (all g c c.keep_again.new.instances.kept) c.self.invariant.0,
  c.finish-ended.ensures.places,
  c.finish-ended.ensures.owed,
)

pub invariant_of-self-in-Err : goal.invariant_of-self-in-Err
invariant_of-self-in-Err g c =
    let old : HubStore = record { counts = c.self.inside.counts; passes = c.self.inside.passes; now = c.self.inside.now; life = c.self.inside.life; contexts = c.self.inside.contexts; timers = c.self.inside.timers; bus = c.self.inside.bus; instances = c.self.inside.instances.kept } in
    let new : HubStore = record { counts = c.add.new.self; passes = c.self.inside.passes; now = c.self.inside.now; life = c.finish-ended.new.life; contexts = c.finish-ended.new.contexts; timers = c.finish-ended.new.timers; bus = c.finish-ended.new.bus; instances = c.self.inside.instances.kept } in
    let state = option_map g.V.Verticle.state c.args.back.verticle in
    let states = option_to_list state in
    let call = calls.Finish c.args.back.end in
    let small : c.self.inside.counts.entries < 2 ^ 48 = rw (← c.entries-at.ensures) c.if-at-ge-LIMIT.false in
    let there : is_some state ≡ gave_in old.contexts c.args.pass = some_mapped g.V.Verticle.state c.args.back.verticle ∙ c.requires.there ∙ ap (λ (hub : HubStore). gave_in hub.contexts c.args.pass) (sym c.self.view_is) in
    let all : Goes old new c.args.pass call (finished c.finish-ended.result) states =
    ends old new c.args.pass c.args.back.end c.finish-ended.result state small (c.add.ensures ∙ finish_counted c.self.inside.counts c.args.back.end c.finish-ended.result) refl refl there
    (λ history states stands legal is_next. c.finish-ended.ensures.follows history states stands legal (c.entries-at.ensures ∙ is_next)) in
    let Q : HubStore → Type 0 = λ hub. c.args.pass.0 < hub.passes in (
      of_history_more old new c.args.pass call (finished c.finish-ended.result) states (subst Q (sym c.self.view_is) c.requires.known) all c.self.invariant.0,
      c.finish-ended.ensures.places,
      c.finish-ended.ensures.owed,
    )

pub returns-in-Ok-clause-done : goal.returns-in-Ok-clause-done
returns-in-Ok-clause-done g c =
    let kept = c.keep_again.new.instances.kept in
    let call = calls.Finish c.args.back.end in
    let states = option_to_list (state g c) in
    let is : finished c.finish-ended.result ≡ replies.Done = ap finished c.in-Ok.is in
    let G : Reply → Type 0 = λ r. Goes (old g c) (new g c kept) c.args.pass call r states in
    let P : HubStore → Type 0 = λ o. Meets o (new g c kept) c.args.pass call replies.Done states in
    subst P c.self.view_is (meets (old g c) (new g c kept) c.args.pass call replies.Done states refl (small g c) (subst G is (all g c kept))
    (finish_keeps (old g c) (new g c kept) c.args.pass c.args.back.end (state g c) (there g c)
    (c.keep_again.ensures ∙ ap (λ o. kept_back o (state g c) c.leave_out_closed.new.instances.kept) c.held_context-context.ensures
    ∙ ap (λ k. kept_back (held_context_in c.self.inside.contexts.held c.args.pass) (state g c) k) (c.leave_out_closed.ensures ∙ ap (λ o. left_open c.finish-ended.new.contexts o c.self.inside.instances.kept) c.held_context-context.ensures))))

pub returns-in-Err-clause-refused : goal.returns-in-Err-clause-refused
returns-in-Err-clause-refused g c =
    let old : HubStore = record { counts = c.self.inside.counts; passes = c.self.inside.passes; now = c.self.inside.now; life = c.self.inside.life; contexts = c.self.inside.contexts; timers = c.self.inside.timers; bus = c.self.inside.bus; instances = c.self.inside.instances.kept } in
    let new : HubStore = record { counts = c.add.new.self; passes = c.self.inside.passes; now = c.self.inside.now; life = c.finish-ended.new.life; contexts = c.finish-ended.new.contexts; timers = c.finish-ended.new.timers; bus = c.finish-ended.new.bus; instances = c.self.inside.instances.kept } in
    let state = option_map g.V.Verticle.state c.args.back.verticle in
    let states = option_to_list state in
    let call = calls.Finish c.args.back.end in
    let small : c.self.inside.counts.entries < 2 ^ 48 = rw (← c.entries-at.ensures) c.if-at-ge-LIMIT.false in
    let there : is_some state ≡ gave_in old.contexts c.args.pass = some_mapped g.V.Verticle.state c.args.back.verticle ∙ c.requires.there ∙ ap (λ (hub : HubStore). gave_in hub.contexts c.args.pass) (sym c.self.view_is) in
    let all : Goes old new c.args.pass call (finished c.finish-ended.result) states =
    ends old new c.args.pass c.args.back.end c.finish-ended.result state small (c.add.ensures ∙ finish_counted c.self.inside.counts c.args.back.end c.finish-ended.result) refl refl there
    (λ history states stands legal is_next. c.finish-ended.ensures.follows history states stands legal (c.entries-at.ensures ∙ is_next)) in
    let is : finished c.finish-ended.result ≡ replies.Refused c.in-Err.why = ap finished c.in-Err.is in
    let G : Reply → Type 0 = λ r. Goes old new c.args.pass call r states in
    let P : HubStore → Type 0 = λ o. Meets o new c.args.pass call (replies.Refused c.in-Err.why) states in
    subst P c.self.view_is (meets old new c.args.pass call (replies.Refused c.in-Err.why) states refl small (subst G is all) (refused_keeps old new c.args.pass call c.in-Err.why states refl))
