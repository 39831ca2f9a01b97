use Rattle.std.proofs.Common.{refl, sym, subst, ◌+◌, arith, option_map}
use Rattle.vx_tally.specs.Kept.{Kept}
use Rattle.vx_tally.specs.Tallies.{StandsFor}
use Rattle.vx_tally.proofs.Adds.{opens_on, passes_few}
use Rattle.vx_tally.proofs.tally.TallyMachine.new_pass.Goals as goal

pub overflow_add-self-2 : goal.overflow_add-self-2
overflow_add-self-2 g c =
    let fields = c.self.inside in
    let here = subst (λ (t : Kept). StandsFor t c.requires.0) (sym c.self.view_is) c.requires.1 in
    let few = passes_few _ c.requires.0 here in
    let most = c.if-self-ge-LIMIT.false in
    omega arith

pub returns : goal.returns
returns g c = λ h stands.
    let before : Kept = record { sum = c.self.inside.sum; entries = c.self.inside.entries; passes = c.self.inside.passes; last = option_map g.L.Label.name c.self.inside.last } in
    let here = subst (λ (t : Kept). StandsFor t h) (sym c.self.view_is) stands in
    let both = opens_on h before (record before { entries = before.entries + 1; passes = before.passes + 1 }) c.args.pass.0 refl here in
    let n = here.entries in
    let most = c.if-self-ge-LIMIT.false in
    (omega arith, here.passes, both.0, both.1)
