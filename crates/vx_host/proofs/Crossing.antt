-- Threads may share a host, and a pass may go from thread to thread, where its verticles may.
use denote.Param.Send.{IsSend, IsSync}
use mir.Syntax.{Sym}
use denote.RattleType.{RattleType}
use denote.Struct.Field.{row_field}
use denote.Struct.Tuple.{type_at, TupleAt}
use denote.Param.SendFields.{declared_send, declared_sync, as_row_send}
use Rattle.std.proofs.Common.{[], ◌∷◌}
use Rattle.vx_call.specs.contracts.history.Traced as traced
use Rattle.vx_turn.specs.contracts.shared.Shared as turns
use Rattle.vx_turn.specs.contracts.pass.Pass as passes
use Rattle.vx_turn.proofs.pass.Pass.TheSendSync as pass
use Rattle.vx_turn.proofs.shared.Shared.TheSendSync as shared
use Rattle.vx_verticle.specs.declared.verticle.Verticle as Verticle
use Rattle.vx_verticle.specs.declared.once.OnceRule as OnceRule
use Rattle.vx_hub.specs.contracts.hub.Hub as hub
use Rattle.vx_hub.specs.contracts.machine.HubMachine.TheImpl as machine
use Rattle.vx_hub.proofs.Crossing.{hub_send}
use Rattle.vx_host.specs.contracts.host.Host as host

module _ (V R : RattleType) (verticle : Verticle.Ghosts V.Denot R.Denot) (rule : OnceRule.Ghosts R.Denot) (sends : IsSend V) where
  -- the pass of a host of such verticles
  abbrev pub the_pass : RattleType
  the_pass = passes.the_row (hub.the_row V R verticle rule) traced.the_row (machine.ghosts V R verticle machine.no_dict rule machine.no_dict machine.no_dict machine.no_dict)

  shared_sync : IsSync (turns.the_row (hub.the_row V R verticle rule) traced.the_row (machine.ghosts V R verticle machine.no_dict rule machine.no_dict machine.no_dict machine.no_dict))
  shared_sync = shared.the_sync (hub.the_row V R verticle rule) traced.the_row (machine.ghosts V R verticle machine.no_dict rule machine.no_dict machine.no_dict machine.no_dict) (hub_send V R verticle rule sends)

  pub host_sync : IsSync (host.the_row V R verticle rule)
  host_sync = declared_sync (host.the_type V R verticle rule) (shared_sync, tt)

  pub pass_send : IsSend the_pass
  pass_send = pass.the_send (hub.the_row V R verticle rule) traced.the_row (machine.ghosts V R verticle machine.no_dict rule machine.no_dict machine.no_dict machine.no_dict) (hub_send V R verticle rule sends)

-- what a closure holds
pub three_send : (name : Sym) (A B C : RattleType) → IsSend A → IsSend B → IsSend C → IsSend (TupleAt name (A ∷ B ∷ C ∷ []))
three_send name A B C a b c = declared_send (type_at name (A ∷ B ∷ C ∷ [])) (as_row_send (row_field A) a, (as_row_send (row_field B) b, (as_row_send (row_field C) c, tt)))
