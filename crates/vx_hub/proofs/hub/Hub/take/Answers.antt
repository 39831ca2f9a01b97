use Rattle.std.proofs.Common.{◌≡◌, ◌<◌, ◌^◌, List, [], refl, ap, sym, ◌∙◌, subst}
use Rattle.std.specs.Prelude.{ℤ, false, Option, None}
use Rattle.std.specs.Option.{option_map}
use Rattle.vx_call.specs.declared.call.Call.TheVariants as calls
use Rattle.vx_call.specs.declared.history.Traced.{Traced}
use Rattle.vx_call.specs.History.{plain_entry, no_mark}
use Rattle.vx_call.specs.Passes.{passes}
use Rattle.vx_instances.specs.Instances.{gives, handler_in}
use Rattle.vx_instances.specs.Kept.{put_if, state_if}
use Rattle.vx_hub.specs.Counts.{one_more, with_entry}
use Rattle.vx_hub.specs.Stores.{HubStore}
use Rattle.vx_hub.specs.Stands.{Meets, StandsFor}
use Rattle.vx_hub.proofs.Counting.{take_counted}
use Rattle.vx_hub.proofs.Calls.{Goes, goes, is_at, keeping_time, meets, of_history_more}
use Rattle.vx_hub.proofs.Handing.{handed_as, take_keeps, take_gives}
use Rattle.vx_hub.proofs.hub.Hub.take.Given as given
use Rattle.vx_hub.proofs.hub.Hub.take.Goals as goal

pub take-reply-requires : goal.take-reply-requires
take-reply-requires g c = record {
  one = is_at (record { counts = c.self.inside.counts; passes = c.self.inside.passes; now = c.self.inside.now; life = c.self.inside.life; contexts = c.self.inside.contexts; timers = c.self.inside.timers; bus = c.self.inside.bus; instances = c.self.inside.instances.kept }) (record { 0 = c.entries-at.result }) c.entries-at.ensures c.self.invariant.0;
  places = c.self.invariant.1;
}

abbrev old : (g : given.Over) → goal.After-hand_over-verticle g → HubStore
old g c = record { counts = c.self.inside.counts; passes = c.self.inside.passes; now = c.self.inside.now; life = c.self.inside.life; contexts = c.self.inside.contexts; timers = c.self.inside.timers; bus = c.self.inside.bus; instances = c.self.inside.instances.kept }

abbrev new : (g : given.Over) → goal.After-hand_over-verticle g → HubStore
new g c = record { counts = c.add.new.self; passes = c.self.inside.passes; now = c.self.inside.now; life = c.take-reply.new.life; contexts = c.take-reply.new.contexts; timers = c.self.inside.timers; bus = c.take-reply.new.bus; instances = c.hand_over-verticle.new.instances.kept }

more : (g : given.Over) (c : goal.After-hand_over-verticle g) → c.add.new.self ≡ with_entry c.self.inside.counts (calls.Take c.args.lane) c.take-reply.result
more g c = c.add.ensures ∙ ap (one_more c.self.inside.counts false) c.delivers.ensures ∙ take_counted c.self.inside.counts c.args.lane c.take-reply.result

small : (g : given.Over) (c : goal.After-hand_over-verticle g) → c.self.inside.counts.entries < 2 ^ 48
small g c = rw (← c.entries-at.ensures) c.if-at-ge-LIMIT.false

all : (g : given.Over) (c : goal.After-hand_over-verticle g) → Goes (old g c) (new g c) c.args.pass (calls.Take c.args.lane) c.take-reply.result []
all g c = goes (old g c) (new g c) c.args.pass (calls.Take c.args.lane) c.take-reply.result [] refl (small g c) (more g c) (λ history stands. (refl, refl))
    (λ history stands legal is_next.
    keeping_time c.self.inside.passes c.self.inside.now c.take-reply.new.life c.take-reply.new.contexts c.self.inside.timers c.take-reply.new.bus history (plain_entry c.args.pass (calls.Take c.args.lane) c.take-reply.result no_mark) refl refl
    stands.passes stands.now stands.named (c.take-reply.ensures.follows history stands.all stands.named legal (c.entries-at.ensures ∙ is_next)))

known : (g : given.Over) (c : goal.After-hand_over-verticle g) → c.args.pass.0 < c.self.inside.passes
known g c = let P : HubStore → Type 0 = λ hub. c.args.pass.0 < hub.passes in subst P (sym c.self.view_is) c.requires.known

pub invariant_of-self : goal.invariant_of-self
invariant_of-self g c = (
  of_history_more (old g c) (new g c) c.args.pass (calls.Take c.args.lane) c.take-reply.result [] (known g c) (all g c) c.self.invariant.0,
  c.take-reply.ensures.places,
  rw (c.take-reply.ensures.promised, c.take-reply.ensures.owed) c.self.invariant.2,
)

pub returns-clause-answered_as_the_machine : goal.returns-clause-answered_as_the_machine
returns-clause-answered_as_the_machine g c =
    let P : HubStore → Type 0 = λ o. Meets o (new g c) c.args.pass (calls.Take c.args.lane) c.take-reply.result [] in
    subst P c.self.view_is (meets (old g c) (new g c) c.args.pass (calls.Take c.args.lane) c.take-reply.result [] refl (small g c) (all g c)
    (take_keeps (old g c) (new g c) c.args.pass c.args.lane c.take-reply.result
    (c.hand_over-verticle.ensures.out ∙ ap (λ o. put_if o None c.self.inside.instances.kept) c.handed-context.ensures)))

pub returns-clause-on_context : goal.returns-clause-on_context
returns-clause-on_context g c =
    let P : HubStore → Type 0 = λ o. (history : List Traced) → StandsFor o history → c.args.pass.0 < passes history → c.handed-context.result ≡ handler_in history c.take-reply.result in
    subst P c.self.view_is
    (λ history stands there. c.handed-context.ensures ∙ handed_as (old g c) (new g c) history c.args.pass c.args.lane c.take-reply.result (all g c history stands.parts stands.legal there))

pub returns-clause-gives : goal.returns-clause-gives
returns-clause-gives g c =
    let state : Option (List ℤ) = option_map g.V.Verticle.state c.hand_over-verticle.result in
    let P : HubStore → Type 0 = λ o. (history : List Traced) → StandsFor o history → c.args.pass.0 < passes history → state ≡ gives history (calls.Take c.args.lane) c.take-reply.result in
    subst P c.self.view_is
    (λ history stands there.
    take_gives (old g c) (new g c) history c.args.pass c.args.lane c.take-reply.result state stands (all g c history stands.parts stands.legal there)
    (c.hand_over-verticle.ensures.given ∙ ap (λ o. state_if o c.self.inside.instances.kept) c.handed-context.ensures))
