use Rattle.std.proofs.Common.{ℕ, ◌<◌, ◌^◌, List, subst, sym, arith}
use Rattle.std.proofs.lemmas.Result.{err_from_is_err_and}
use Rattle.std.specs.Vec.Iter.{into_iter_items}
use Rattle.vx_line.specs.declared.command.Command.{Command}
use Rattle.vx_script.specs.Held.{Plays}
use Rattle.vx_script.specs.Lines.{AreMade}
use Rattle.vx_script.proofs.HeldOn.{at_first, held_there}
use Rattle.vx_script.proofs.Histories.{Goes, begins_all, cut_off, one_more}
use Rattle.vx_script.proofs.playing.make_all.Goals as goal

pub make_one-requires : goal.make_one-requires
make_one-requires g c =
    let goes = subst
    (λ (v : List Command). Goes (Plays c.loop-command.hub c.loop-command.held.verticles) (g.K.Sink.held c.args.sink.now) (g.K.Sink.held c.loop-command.sink) c.loop-command.at v c.args.commands.items)
    c.in-Some.ensures.steps.0 c.loop-command.invariant.goes in
    let P : ℕ → Type 0 = λ n. c.in-Some.command.pass.0 < n in
    record {
      known = subst P (sym goes.stands.stands.parts.parts.passes) goes.there.0;
      there = held_there c.loop-command.hub c.loop-command.held.verticles goes.history c.in-Some.command.pass goes.stands;
      made = (subst AreMade c.in-Some.ensures.steps.0 c.loop-command.invariant.built).0;
    }

pub returns-in_err-make_one-clause-err : goal.returns-in_err-make_one-clause-err
returns-in_err-make_one-clause-err g c =
    let p = err_from_is_err_and c.from_residual.result c.from_residual.ensures.1 in
    let goes = subst
    (λ (v : List Command). Goes (Plays c.loop-command.hub c.loop-command.held.verticles) (g.K.Sink.held c.args.sink.now) (g.K.Sink.held c.loop-command.sink) c.loop-command.at v c.args.commands.items)
    c.in-Some.ensures.steps.0 c.loop-command.invariant.goes in
    let few : c.loop-command.at < 2 ^ 48 = omega (arith, c.loop-command.invariant.few) in
    rw p.1 (cut_off _ _ _ _ c.loop-command.at c.in-Some.command (into_iter_items c.next.new.self) c.args.commands.items goes few (c.in_err-make_one.ensures.err goes.history goes.stands goes.there.0))

pub loop-command-preserved : goal.loop-command-preserved
loop-command-preserved g c =
    let goes = subst
    (λ (v : List Command). Goes (Plays c.loop-command.hub c.loop-command.held.verticles) (g.K.Sink.held c.args.sink.now) (g.K.Sink.held c.loop-command.sink) c.loop-command.at v c.args.commands.items)
    c.in-Some.ensures.steps.0 c.loop-command.invariant.goes in
    let few : c.loop-command.at < 2 ^ 48 = omega (arith, c.loop-command.invariant.few) in
    record {
      goes = one_more _ _ _ _ _ c.loop-command.at c.in-Some.command (into_iter_items c.next.new.self) c.args.commands.items goes few (c.in_ok-make_one.ensures.goes goes.history goes.stands goes.there.0)
          (c.in_ok-make_one.ensures.written goes.history goes.stands goes.there.0);
      built = (subst AreMade c.in-Some.ensures.steps.0 c.loop-command.invariant.built).1;
      few = omega (arith, c.in-Some.ensures.steps.1, c.loop-command.invariant.few);
      later = omega arith;
    }

pub loop-command-init : goal.loop-command-init
loop-command-init g c =
    let all = c.into_iter-command-iterator.ensures.into_iter_gives in
    record {
      goes = begins_all (Plays c.args.hub.now c.new-held.result.verticles) (g.K.Sink.held c.args.sink.now) _ c.args.commands.items (record { stands = c.requires.new; held = rw c.new-held.ensures at_first }) all.0 c.requires.there;
      built = subst AreMade (sym all.0) c.requires.built;
      few = omega (arith, all.1, c.requires.few);
      later = omega arith;
    }
