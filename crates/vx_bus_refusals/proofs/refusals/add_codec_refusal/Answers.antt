use Rattle.std.proofs.Common.{ap, sym, ◌∙◌, ◌+◌, length}
use Rattle.vx_call.specs.Refusals.{over}
use Rattle.vx_bus_refusals.proofs.Chains.{first, more, last, none_of_first, none_of_second}
use Rattle.vx_bus_refusals.proofs.refusals.add_codec_refusal.Goals as goal

pub returns-clause-refusal : goal.returns-clause-refusal
returns-clause-refusal c = λ history contexts bus.
    last (more (more (more (more (first (c.holder_closed.ensures history contexts)) c.or.ensures c.bad_address.ensures) c.or-2.ensures (c.over.ensures ∙ ap (over 64) c.key_count.ensures)) c.or-3.ensures c.long_key.ensures) c.or-4.ensures (c.codec_taken.ensures.taken history bus))
    c.or-5.ensures (c.over-2.ensures ∙ ap (λ n. over 256 (n + 1)) (c.codec_count.ensures ∙ ap length bus.codecs))

pub returns-clause-free : goal.returns-clause-free
returns-clause-free c = λ none.
    c.codec_taken.ensures.free (none_of_second _ _ (sym c.or-4.ensures ∙ none_of_first _ _ (sym c.or-5.ensures ∙ none)))
