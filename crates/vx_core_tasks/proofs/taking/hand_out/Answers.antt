use Rattle.std.proofs.Common.{sym}
use Rattle.vx_core_tasks.proofs.RowTake.{task_there, task_kept, takes_from_bus, takes_told}
use Rattle.vx_core_tasks.proofs.taking.hand_out.Goals as goal

pub take-requires : goal.take-requires
take-requires c = record {
  kept = task_kept c.args.life.now c.args.contexts.now c.args.timers.now c.args.bus.now c.args.at c.args.index c.take-item.result c.requires.one c.requires.inside c.take-item.ensures.item (sym c.in-None.ensures);
  there = task_there c.args.life.now c.args.contexts.now c.args.timers.now c.args.bus.now c.args.at c.args.index c.take-item.result c.requires.one c.requires.inside c.take-item.ensures.item (sym c.in-None.ensures);
}

pub returns-in-Some-clause-follows : goal.returns-in-Some-clause-follows
returns-in-Some-clause-follows c = λ history lane stands named legal is_next opened free place.
    takes_told c.args.life.now c.note_stop.new.life c.args.contexts.now c.take-item.new.self c.args.timers.now c.args.bus.now history c.args.at c.args.pass lane c.args.index c.take-item.result c.in-Some.task
    stands named legal is_next opened free place c.take-item.ensures.item (sym c.in-Some.ensures) c.note_stop.ensures.noted c.take-item.ensures.taken

pub returns-in-None-clause-follows : goal.returns-in-None-clause-follows
returns-in-None-clause-follows c = λ history lane stands named legal is_next opened free place.
    takes_from_bus c.args.life.now c.note_stop.new.life c.args.contexts.now c.take-item.new.self c.args.timers.now c.args.bus.now c.take.new.self history c.args.at c.args.pass lane c.args.index c.take-item.result c.take.result
    stands named legal is_next opened free place c.take-item.ensures.item (sym c.in-None.ensures) c.note_stop.ensures.noted c.take-item.ensures.taken c.take.ensures.task c.take.ensures.taken c.take.ensures.given
