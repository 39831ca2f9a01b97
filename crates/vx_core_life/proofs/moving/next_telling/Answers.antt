use Rattle.std.proofs.Common.{sym, ◌∙◌, ap}
use Rattle.std.specs.Prelude.{find}
use Rattle.vx_tree.specs.Nodes.{may_stop}
use Rattle.vx_life.specs.Stores.{LifeStore, is_gone}
use Rattle.vx_core_life.proofs.Tellings.{said_deployed, fewer_deployed, said_gone, fewer_gone, said_stop, fewer_stops, says_none}
use Rattle.vx_core_life.proofs.moving.next_telling.Goals as goal

pub returns-in-Some-clause-some : goal.returns-in-Some-clause-some
returns-in-Some-clause-some c = said_deployed c.args.life.now c.next_deployed.new.self c.in-Some.id c.deploy_told.result c.in-Some.ensures.first c.in-Some.ensures.said c.deploy_told.ensures

pub returns-in-Some-clause-fewer : goal.returns-in-Some-clause-fewer
returns-in-Some-clause-fewer c = fewer_deployed c.args.life.now c.next_deployed.new.self c.in-Some.id c.in-Some.ensures.first c.in-Some.ensures.said

pub returns-in-Some-next_gone-clause-some : goal.returns-in-Some-next_gone-clause-some
returns-in-Some-next_gone-clause-some c =
    said_gone c.args.life.now c.next_deployed.new.self c.next_gone.new.self c.in-Some-next_gone.id c.undeploy_told.result c.in_default.ensures.said c.in_default.ensures.first c.in-Some-next_gone.ensures.first c.in-Some-next_gone.ensures.said c.undeploy_told.ensures

pub returns-in-Some-next_gone-clause-fewer : goal.returns-in-Some-next_gone-clause-fewer
returns-in-Some-next_gone-clause-fewer c = fewer_gone c.args.life.now c.next_deployed.new.self c.next_gone.new.self c.in-Some-next_gone.id c.in_default.ensures.said c.in-Some-next_gone.ensures.first c.in-Some-next_gone.ensures.said

pub returns-in-Some-next_stop-clause-some : goal.returns-in-Some-next_stop-clause-some
returns-in-Some-next_stop-clause-some c =
    said_stop c.args.life.now c.next_gone.new.self c.next_stop.new.self c.in-Some-next_stop.context (c.in_default-next_gone.ensures.said ∙ c.in_default.ensures.said) c.in_default.ensures.first
    (c.in_default-next_gone.ensures.first ∙ ap (λ (l : LifeStore). find (is_gone l) l.ending) c.in_default.ensures.said)
    c.in-Some-next_stop.ensures.first c.in-Some-next_stop.ensures.told

pub returns-in-Some-next_stop-clause-fewer : goal.returns-in-Some-next_stop-clause-fewer
returns-in-Some-next_stop-clause-fewer c =
    fewer_stops c.args.life.now c.next_gone.new.self c.next_stop.new.self c.in-Some-next_stop.context (c.in_default-next_gone.ensures.said ∙ c.in_default.ensures.said) c.in-Some-next_stop.ensures.first c.in-Some-next_stop.ensures.told

pub returns-in-None-clause-none : goal.returns-in-None-clause-none
returns-in-None-clause-none c =
    let now = c.in_default-next_gone.ensures.said ∙ c.in_default.ensures.said in
    says_none c.args.life.now (sym c.in_default.ensures.first) (sym (c.in_default-next_gone.ensures.first ∙ ap (λ (l : LifeStore). find (is_gone l) l.ending) c.in_default.ensures.said))
    (sym (c.in-None.ensures.first ∙ ap (λ (l : LifeStore). find (may_stop l.tree) l.tree.to_stop) now))
