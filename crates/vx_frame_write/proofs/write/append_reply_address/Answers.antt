use Rattle.std.proofs.Common.{◌≡◌, ◌++◌, List, ℕ, ◌∙◌, ap, arith}
use Rattle.std.specs.Prelude.{codes}
use Rattle.std.proofs.lemmas.Result.{on_ok_weaker}
use Rattle.vx_frame_write.proofs.Closing.{reply_written}
use Rattle.vx_frame_write.proofs.write.append_reply_address.Goals as goal

pub returns : goal.returns
returns c =
    let text = c.as_bytes.ensures.value ∙ c.format.ensures.text in
    on_ok_weaker c.append-3.result (λ written. written
    ∙ ap (λ (xs : List ℕ). xs ++ codes "\"") (c.in_ok-append-2.ensures ∙ (λ i. c.in_ok-append.ensures i ++ text i))
    ∙ reply_written c.args.number c.args.into.now.items (omega (arith, c.ranges.number))) c.append-3.ensures
