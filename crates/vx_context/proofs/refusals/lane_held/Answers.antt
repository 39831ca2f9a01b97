use Rattle.std.proofs.Common.{ap, sym, ◌∙◌}
use Rattle.std.specs.Prelude.{find}
use Rattle.vx_call.specs.Held.{held}
use Rattle.vx_call.specs.Refusals as machine
use Rattle.vx_context.specs.Stores.{is_held_on}
use Rattle.vx_context.proofs.refusals.lane_held.Goals as goal

pub returns-in-Loop : goal.returns-in-Loop
returns-in-Loop c = λ history stands.
    c.held_by.ensures
    ∙ ap machine.lane_held_by (c.held_on.ensures ∙ ap (find (is_held_on c.args.lane)) stands.held ∙ ap (λ lane. find (is_held_on lane) (held history)) c.in-Loop.is)
    ∙ ap (machine.lane_held history) (sym c.in-Loop.is)
