-- A hub may go from thread to thread.
use denote.Param.Send.{IsSend, plain_send, sendable, view_send}
use denote.RattleType.{RattleType}
use denote.Param.SendFields.{declared_send}
use Rattle.std.proofs.Crossing as std
use Rattle.vx_data.proofs.body.Body.TheLaws.TheKnot as body
use Rattle.vx_data.proofs.ids.MessageId.TheSendSync.{the_send as message_id}
use Rattle.vx_data.proofs.text.Text.TheSendSync.{the_send as text}
use Rattle.vx_data.proofs.moment.Moment.TheSendSync.{the_send as moment}
use Rattle.vx_rules.proofs.codecs.Codecs.TheSendSync.{the_send as codecs}
use Rattle.vx_rules.proofs.rules.Rules.TheSendSync.{the_send as rules}
use Rattle.vx_bus_store.proofs.bus.Handler.TheSendSync.{the_send as handler}
use Rattle.vx_request.proofs.given.GivenOut.TheSendSync.{the_send as given_out}
use Rattle.vx_request.proofs.requests.Requests.TheSendSync.{the_send as requests}
use Rattle.vx_ring.proofs.rings.Rings.TheSendSync.{the_send as rings}
use Rattle.vx_life.proofs.life.Life.TheSendSync.{the_send as life}
use Rattle.vx_context.proofs.contexts.Contexts.TheSendSync.{the_send as contexts}
use Rattle.vx_timer.proofs.timers.Timers.TheSendSync.{the_send as timers}
use Rattle.vx_bus_store.specs.contracts.bus.Bus as bus
use Rattle.vx_verticle.specs.declared.verticle.Verticle as Verticle
use Rattle.vx_verticle.specs.declared.once.OnceRule as OnceRule
use Rattle.vx_instances.proofs.instances.Instances.TheSendSync.{the_send as instances}
use Rattle.vx_hub.specs.contracts.hub.Hub as hub
use Rattle.vx_hub.specs.contracts.hub.Hub.TheInside as inside
use Rattle.vx_hub.proofs.counts.Counts.TheSendSync.{the_send as counts}

pub bus_send : IsSend bus.the_row
bus_send = search (sendable, std.crosses, body.crosses, message_id, text, handler, given_out, requests, rings, codecs, rules) depth 30

-- a hub of verticles that may
pub hub_send : (V R : RattleType) (verticle : Verticle.Ghosts V.Denot R.Denot) (rule : OnceRule.Ghosts R.Denot) → IsSend V → IsSend (hub.the_row V R verticle rule)
hub_send V R verticle rule sends =
    view_send (inside.the_row V R verticle rule) _ _ _ _
    (declared_send (inside.the_type V R verticle rule)
    (counts, (plain_send _ _ _ _ _, (moment, (life, (contexts, (timers, (bus_send, (instances V R verticle rule sends, tt)))))))))
