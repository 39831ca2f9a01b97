use Rattle.std.proofs.Common.{◌∙◌, ap, [], ◌∷◌, ◌++◌, map, Some, option_map, codes}
use Rattle.vx_data.specs.Tree.{int, text}
use Rattle.vx_deployfile.specs.Texts.{Fields, unless, unless_same, unless_empty, if_true, planned_fields}
use Rattle.vx_deployfile.proofs.Making.{put_after, object_made}
use Rattle.vx_deployfile.proofs.write.plan_body.Goals as goal

-- one field after another
pub returns : goal.returns
returns c =
    let plan = c.args.plan.now in
    let p1 = put_after c.new-pairs.result.items c.put.new.pairs.items [] (codes "address") (Some c.in_ok-text_of.field-0) (Some (text plan.spec.address)) c.new-pairs.ensures.items c.in_ok-put.ensures (ap Some c.in_ok-text_of.ensures) in
    let f1 : Fields = [] ++ (codes "address", Some (text plan.spec.address)) ∷ [] in
    let p2 = put_after c.put.new.pairs.items c.put-2.new.pairs.items f1 (codes "config") c.in_ok-unless_empty.field-0 (unless_empty (map int plan.spec.config)) p1 c.in_ok-put-2.ensures (c.in_ok-unless_empty.ensures ∙ ap unless_empty (c.in_ok-numbers.ensures ∙ ap (map int) c.list.ensures)) in
    let f2 : Fields = f1 ++ (codes "config", unless_empty (map int plan.spec.config)) ∷ [] in
    let p3 = put_after c.put-2.new.pairs.items c.put-3.new.pairs.items f2 (codes "instances") c.unless.result (unless 1 plan.instances) p2 c.in_ok-put-3.ensures c.unless.ensures in
    let f3 : Fields = f2 ++ (codes "instances", unless 1 plan.instances) ∷ [] in
    let p4 = put_after c.put-3.new.pairs.items c.put-4.new.pairs.items f3 (codes "kind") (Some c.in_ok-text_of-2.field-0) (Some (text plan.spec.kind)) p3 c.in_ok-put-4.ensures (ap Some c.in_ok-text_of-2.ensures) in
    let f4 : Fields = f3 ++ (codes "kind", Some (text plan.spec.kind)) ∷ [] in
    let p5 = put_after c.put-4.new.pairs.items c.put-5.new.pairs.items f4 (codes "pool") c.in_ok-pool_name.field-0 (option_map text plan.pool) p4 c.in_ok-put-5.ensures c.in_ok-pool_name.ensures in
    let f5 : Fields = f4 ++ (codes "pool", option_map text plan.pool) ∷ [] in
    let p6 = put_after c.put-5.new.pairs.items c.put-6.new.pairs.items f5 (codes "to") c.in_ok-unless_same.field-0 (unless_same plan.spec.address plan.spec.to) p5 c.in_ok-put-6.ensures c.in_ok-unless_same.ensures in
    let f6 : Fields = f5 ++ (codes "to", unless_same plan.spec.address plan.spec.to) ∷ [] in
    let p7 = put_after c.put-6.new.pairs.items c.put-7.new.pairs.items f6 (codes "worker") c.if_true.result (if_true plan.worker) p6 c.in_ok-put-7.ensures c.if_true.ensures in
    object_made c.object_of.result c.put-7.new.pairs.items (planned_fields plan) p7 c.object_of.ensures
