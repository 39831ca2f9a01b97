use Rattle.vx_json_parts.proofs.PartSteps.{rest_is_shorter}
use Rattle.vx_json_parts.proofs.part.part_at.Goals as goal

pub slice_bounds-text-count : goal.slice_bounds-text-count
slice_bounds-text-count c = rest_is_shorter c.args.room c.skip-start.result.now c.in_ok-body.body c.in_ok-body.rest.now c.in_ok-body.ensures
