use Rattle.std.proofs.Common.{◌≡◌, ap, sym, ◌∙◌, true, false, Some}
use Rattle.std.specs.Prelude.{is_some}
use Rattle.vx_bus_store.specs.Stores.{is_of_kind}
use Rattle.vx_bus_store.proofs.Positions.{find_from_position, find_from_no_position, remove_from_position}
use Rattle.vx_bus_store.proofs.bus.take_task.Goals as goal

pub unreachable-requires : goal.unreachable-requires
unreachable-requires c =
    let gone = find_from_no_position (is_of_kind c.args.kind) c.args.tasks.now.items (sym c.place_of.ensures ∙ c.in-None.is) in
    let e : true ≡ false = sym c.requires.there ∙ ap is_some gone in cc

pub returns-clause-task : goal.returns-clause-task
returns-clause-task c =
    find_from_position (is_of_kind c.args.kind) c.args.tasks.now.items c.in-Some.place c.remove.result (sym c.place_of.ensures ∙ c.in-Some.is)
    ∙ ap Some (sym c.remove.ensures.value)

pub returns-clause-taken : goal.returns-clause-taken
returns-clause-taken c =
    c.remove.ensures.items ∙ remove_from_position (is_of_kind c.args.kind) c.args.tasks.now.items c.in-Some.place c.remove.result (sym c.place_of.ensures ∙ c.in-Some.is)
