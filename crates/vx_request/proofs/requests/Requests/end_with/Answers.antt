use Rattle.std.proofs.Common.{arith}
use Rattle.vx_request.specs.Leaving.{ends_with}
use Rattle.vx_request.proofs.Rows.{all_counted}
use Rattle.vx_request.proofs.requests.Requests.end_with.Goals as goal

pub end_each-requires : goal.end_each-requires
end_each-requires c =
    rw c.deref.ensures.value (omega (arith, c.self.invariant, all_counted (ends_with c.args.leaver c.args.given.now.given) c.self.inside.rows.items))

pub invariant_of-self : goal.invariant_of-self
invariant_of-self c =
    rw c.leave_out_ended.ensures (omega (arith, c.self.invariant, rw c.deref.ensures.value at c.end_each.ensures.room, all_counted (ends_with c.args.leaver c.args.given.now.given) c.self.inside.rows.items))
