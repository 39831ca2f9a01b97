use Rattle.std.proofs.Common.{◌∙◌, ℕ, List, ap, map, take_all}
use Rattle.vx_data.specs.Tree.{Tree}
use Rattle.vx_data.specs.Bodies.{members}
use Rattle.vx_frame_write.proofs.Naming.{under, members_valued}
use Rattle.vx_frame_write.proofs.headers.with_values.Goals as goal

pub returns : goal.returns
returns c =
    let all = take_all c.loop-name.name-index c.args.names.now c.loop-name-test.false in
    ap members (c.loop-name.invariant ∙ ap (map (λ (p : List ℕ × Tree). (p.0, under c.args.pairs.now p.0))) all) ∙ members_valued c.args.pairs.now c.args.names.now
