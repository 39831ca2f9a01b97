use Rattle.std.proofs.Common.{ℕ, List, ap, ◌∙◌, subst}
use Rattle.std.specs.Prelude.{ℤ, cond, nat_eq, Option, None}
use Rattle.std.specs.Option.{option_map, option_to_list}
use Rattle.vx_call.specs.declared.call.Call.TheVariants as calls
use Rattle.vx_call.specs.declared.reply.Reply.TheVariants as replies
use Rattle.vx_call.specs.Machine.{IsLegal, extended_with}
use Rattle.vx_hub.specs.declared.verticles.Back.{Back}
use Rattle.vx_kinds.specs.declared.host.HostVerticle.{HostVerticle}
use Rattle.vx_kinds.specs.Hosts.{state_in}
use Rattle.vx_script.specs.Held.{verticle_of}
use Rattle.vx_script.proofs.HeldOn.{back_again, finish_on}
use Rattle.vx_script.proofs.playing.finish.Goals as goal

pub returns-in-Ok-clause-held : goal.returns-in-Ok-clause-held
returns-in-Ok-clause-held c = λ history stands known are.
    (let pass = c.args.pass in
    let meets = c.in-Ok.ensures.done history stands known in
    let kept = ap (option_map state_in) (c.give_back-verticle.ensures.verticle ∙ ap (verticle_of pass) c.reserve.ensures.same) in
    finish_on c.args.held.now.verticles c.give_back-verticle.new.self.verticles history pass c.args.end replies.Done are meets.answered
    (subst (λ (state : Option (List ℤ)). IsLegal (extended_with history pass (calls.Finish c.args.end) replies.Done (option_to_list state))) kept meets.stands.legal)
    (λ other. c.give_back-verticle.ensures.others other ∙ ap (λ (vs : List (ℕ × HostVerticle)). cond (nat_eq other.0 pass.0) None (verticle_of other vs)) c.reserve.ensures.same))

pub returns-in-Err-clause-held : goal.returns-in-Err-clause-held
returns-in-Err-clause-held c = λ history stands known are.
    (let pass = c.args.pass in
    let meets = c.in-Err.ensures.refused history stands known in
    let kept = ap (option_map state_in) (c.give_back-verticle.ensures.verticle ∙ ap (verticle_of pass) c.reserve.ensures.same) in
    finish_on c.args.held.now.verticles c.keep.new.self.verticles history pass c.args.end (replies.Refused c.in-Err.refused.why) are meets.answered
    (subst (λ (state : Option (List ℤ)). IsLegal (extended_with history pass (calls.Finish c.args.end) (replies.Refused c.in-Err.refused.why) (option_to_list state))) kept meets.stands.legal)
    (λ other.
    back_again c.reserve.new.self.verticles c.give_back-verticle.new.self.verticles c.keep.new.self.verticles pass c.in-Err.refused.back.verticle
    (ap (λ (back : Back HostVerticle). back.verticle) c.in-Err.ensures.comes_back ∙ c.give_back-verticle.ensures.verticle) c.give_back-verticle.ensures.others c.keep.ensures other
    ∙ ap (λ (vs : List (ℕ × HostVerticle)). verticle_of other vs) c.reserve.ensures.same))
