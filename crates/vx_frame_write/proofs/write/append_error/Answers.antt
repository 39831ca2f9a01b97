use Rattle.std.proofs.Common.{◌≡◌, ◌++◌, List, ℕ, ◌∙◌, ap}
use Rattle.std.specs.Prelude.{codes}
use Rattle.std.proofs.lemmas.Result.{on_ok_weaker}
use Rattle.vx_data.specs.BodyText.{quoted}
use Rattle.vx_frame_write.proofs.Closing.{error_written}
use Rattle.vx_frame_write.proofs.write.append_error.Goals as goal

pub returns : goal.returns
returns c =
    on_ok_weaker c.append-2.result (λ written. written
    ∙ ap (λ (xs : List ℕ). xs ++ codes ",\"type\":\"err\"}") (c.in_ok-write_text.ensures.written ∙ ap (λ (xs : List ℕ). xs ++ quoted c.args.text.now) c.in_ok-append.ensures)
    ∙ error_written c.args.text.now c.args.into.now.items) c.append-2.ensures
