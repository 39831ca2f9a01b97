use Rattle.std.proofs.Common.{ap, sym, ◌∙◌, subst}
use Rattle.vx_core_life.specs.declared.over.Over.{Over}
use Rattle.vx_core_life.specs.Ending.{IsOver, start_in, stop_in}
use Rattle.vx_core_life.proofs.RowEnds.{neither_ends}
use Rattle.vx_core_life.proofs.ends.end_over.Goals as goal

pub returns-in-Nothing-clause-ends : goal.returns-in-Nothing-clause-ends
returns-in-Nothing-clause-ends c = λ history new stands legal is_next may is_over.
    let P : Over → Type 0 = λ over. IsOver history new.entry.pass new.entry.call over in
    neither_ends c.args.life.now c.args.contexts.now c.args.timers.now c.args.bus.now history new stands may (subst P c.in-Nothing.is is_over)

pub returns-in-Start-clause-ends : goal.returns-in-Start-clause-ends
returns-in-Start-clause-ends c = λ history new stands legal is_next may is_over.
    c.end_start.ensures.ends history new stands legal is_next may (sym is_over.start ∙ ap start_in c.in-Start.is)

pub returns-in-Stop-clause-ends : goal.returns-in-Stop-clause-ends
returns-in-Stop-clause-ends c = λ history new stands legal is_next may is_over.
    c.end_stop.ensures.ends history new stands legal is_next may (sym is_over.stop ∙ ap stop_in c.in-Stop.is)
