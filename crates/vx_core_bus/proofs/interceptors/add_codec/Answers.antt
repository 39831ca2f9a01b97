use Rattle.std.proofs.Common.{refl, ap, sym, ◌∙◌}
use Rattle.vx_call.specs.declared.call.Call.TheVariants as calls
use Rattle.vx_call.specs.declared.reply.Reply.TheVariants as replies
use Rattle.vx_call.specs.Names.{next_codec}
use Rattle.vx_call.specs.Refusals.{unless_refused}
use Rattle.vx_bus_store.proofs.Frames.{follows_refused}
use Rattle.vx_core_bus.proofs.RowInterceptors.{adds_codec}
use Rattle.vx_core_bus.proofs.interceptors.add_codec.Goals as goal

pub returns-in-Some-clause-ok : goal.returns-in-Some-clause-ok
returns-in-Some-clause-ok c = λ history stands is_next.
    follows_refused c.args.contexts.now c.args.timers.now c.args.bus.now history c.args.pass (calls.AddCodec c.args.name c.args.form) c.in-Some.refusal refl stands
    (ap (λ refusal. unless_refused refusal (replies.Codec (next_codec history))) (c.in-Some.ensures.refusal history stands.contexts stands.bus))

pub add_codec-requires : goal.add_codec-requires
add_codec-requires c = c.add_codec_refusal.ensures.free c.in_default.is

pub returns-in-Ok-clause-ok : goal.returns-in-Ok-clause-ok
returns-in-Ok-clause-ok c = λ history stands is_next.
    adds_codec c.args.contexts.now c.args.timers.now c.args.bus.now c.add_codec.new.self history c.args.at c.args.pass c.args.name c.args.form stands is_next
    (sym (c.add_codec_refusal.ensures.refusal history stands.contexts stands.bus) ∙ c.in_default.is) c.in-Ok.ensures.added
