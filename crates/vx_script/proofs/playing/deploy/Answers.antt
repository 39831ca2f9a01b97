use Rattle.std.proofs.Common.{length, subst, sym, map}
use Rattle.vx_call.specs.declared.call.Call.{Call}
use Rattle.vx_call.specs.declared.reply.Reply.TheVariants as replies
use Rattle.vx_hub.specs.Stands.{Answered}
use Rattle.vx_kinds.specs.Hosts.{state_in}
use Rattle.vx_script.proofs.Deploying.{so_many}
use Rattle.vx_script.proofs.playing.deploy.Goals as goal

pub returns-in-Refused-clause-reply : goal.returns-in-Refused-clause-reply
returns-in-Refused-clause-reply c = λ history stands known.
    subst (λ (call : Call). Answered c.deploy.new.self history c.args.pass call (replies.Refused c.in-Refused.why) (map state_in c.args.verticles.items))
    (sym (so_many c.args.call (length c.args.verticles.items) _ _ _ _ c.in-Deploy.is c.requires.deploys)) (c.in-Err.ensures.refused c.in-Refused.why c.in-Refused.is history stands known)
