use Rattle.std.proofs.Common.{ℕ, ◌<◌, ◌^◌, [], refl, ap, sym, ◌∙◌, subst}
use Rattle.vx_call.specs.declared.call.Call.TheVariants as calls
use Rattle.vx_call.specs.declared.reply.Reply.TheVariants as replies
use Rattle.vx_call.specs.History.{plain_entry, no_mark}
use Rattle.vx_call.proofs.Legal.{legal_more}
use Rattle.vx_instances.proofs.Rows.{quiet_row}
use Rattle.vx_hub.specs.Counts.{with_entry}
use Rattle.vx_hub.specs.Stores.{HubStore}
use Rattle.vx_hub.specs.Stands.{AllStand}
use Rattle.vx_hub.proofs.Counting.{counted_more}
use Rattle.vx_hub.proofs.Calls.{Goes, goes, makes_pass, of_history_more, short_of}
use Rattle.vx_hub.proofs.machine.HubMachine.new_pass.Given as given
use Rattle.vx_hub.proofs.machine.HubMachine.new_pass.Goals as goal

abbrev old : (g : given.Over) → goal.After-add g → HubStore
old g c = record { counts = c.self.inside.counts; passes = c.self.inside.passes; now = c.self.inside.now; life = c.self.inside.life; contexts = c.self.inside.contexts; timers = c.self.inside.timers; bus = c.self.inside.bus; instances = c.self.inside.instances.kept }

abbrev new : (g : given.Over) → goal.After-add g → HubStore
new g c = record { counts = c.add.new.self; passes = c.new_pass-number.new.passes; now = c.self.inside.now; life = c.self.inside.life; contexts = c.self.inside.contexts; timers = c.self.inside.timers; bus = c.self.inside.bus; instances = c.self.inside.instances.kept }

small : (g : given.Over) (c : goal.After-add g) → c.self.inside.counts.entries < 2 ^ 48
small g c = rw (← c.entries.ensures) c.if-entries-ge-LIMIT.false

all : (g : given.Over) (c : goal.After-add g) → Goes (old g c) (new g c) c.args.pass calls.NewPass (replies.Pass c.new_pass-number.result) []
all g c = goes (old g c) (new g c) c.args.pass calls.NewPass (replies.Pass c.new_pass-number.result) [] refl (small g c) c.add.ensures (λ history stands. (refl, refl))
    (λ history stands legal is_next.
    let P : ℕ → Type 0 = λ n. n < 2 ^ 48 in
    makes_pass c.self.inside.passes c.new_pass-number.new.passes c.self.inside.now c.self.inside.life c.self.inside.contexts c.self.inside.timers c.self.inside.bus history c.args.pass (replies.Pass c.new_pass-number.result)
    stands (subst P is_next (small g c)) (ap (λ n. replies.Pass (record { 0 = n })) c.new_pass-number.ensures.made) c.new_pass-number.ensures.more)

there : (g : given.Over) (c : goal.After-add g) → c.args.pass.0 < c.self.inside.passes
there g c =
    let P : HubStore → Type 0 = λ hub. c.args.pass.0 < hub.passes in
    let Q : ℕ → Type 0 = λ n. c.args.pass.0 < n in
    subst P (sym c.self.view_is) (subst Q (sym c.requires.1.parts.parts.passes) c.requires.3)

pub invariant_of-self : goal.invariant_of-self
invariant_of-self g c = (of_history_more (old g c) (new g c) c.args.pass calls.NewPass (replies.Pass c.new_pass-number.result) [] (there g c) (all g c) c.self.invariant.0, c.self.invariant.1, c.self.invariant.2)

pub returns : goal.returns
returns g c = λ history stands.
    let Q : HubStore → Type 0 = λ hub. AllStand hub history in
    let here : AllStand (old g c) history = subst Q (sym c.self.view_is) stands in
    let parts = here.parts.parts in
    let short = short_of (old g c) history here.parts (small g c) in
    let reply = replies.Pass c.new_pass-number.result in
    let R : ℕ → Type 0 = λ n. c.args.pass.0 < n in
    let known = subst R (sym c.requires.1.parts.parts.passes ∙ stands.parts.parts.passes) c.requires.3 in
    let entry = plain_entry c.args.pass calls.NewPass reply no_mark in
    let follows = makes_pass c.self.inside.passes c.new_pass-number.new.passes c.self.inside.now c.self.inside.life c.self.inside.contexts c.self.inside.timers c.self.inside.bus history c.args.pass reply
    parts short (ap (λ n. replies.Pass (record { 0 = n })) c.new_pass-number.ensures.made) c.new_pass-number.ensures.more in (
      short,
      c.new_pass-number.ensures.made ∙ parts.passes,
      record {
        parts = record { counts = c.add.ensures ∙ ap (λ counts. with_entry counts calls.NewPass reply) here.parts.counts ∙ sym (counted_more history c.args.pass calls.NewPass reply []); parts = follows.parts };
        instances = here.instances ∙ sym (quiet_row history entry refl refl refl);
      },
      λ legal. legal_more history entry legal (all g c history here.parts legal known).may,
    )
