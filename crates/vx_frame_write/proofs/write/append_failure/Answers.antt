use Rattle.std.proofs.Common.{◌≡◌, ◌++◌, List, ℕ, ◌∙◌, ap, rules}
use Rattle.std.specs.Prelude.{codes}
use Rattle.std.specs.Fmt.{signed_decimal}
use Rattle.std.specs.Int.{w32}
use Rattle.std.proofs.lemmas.Int.{to_z-of_z}
use Rattle.std.proofs.lemmas.Result.{on_ok_weaker}
use Rattle.vx_data.specs.BodyText.{quoted}
use Rattle.vx_frame_write.specs.Outgoing.{kind_text}
use Rattle.vx_frame_write.proofs.Closing.{failure_written}
use Rattle.vx_frame_write.proofs.write.append_failure.Goals as goal

pub returns : goal.returns
returns c =
    let failure = c.args.failure.now in
    let old = c.args.into.now.items in
    let code : c.as_bytes.result.now ≡ signed_decimal failure.code = c.as_bytes.ensures.value ∙ c.format.ensures.text ∙ ap signed_decimal (to_z-of_z w32 failure.code (search rules)) in
    let address : c.write_text.new.into.items ≡ (old ++ codes "{\"address\":") ++ quoted c.args.address.now = c.in_ok-write_text.ensures.written ∙ ap (λ (xs : List ℕ). xs ++ quoted c.args.address.now) c.in_ok-append.ensures in
    let before_code : c.append-2.new.into.items ≡ ((old ++ codes "{\"address\":") ++ quoted c.args.address.now) ++ codes ",\"failureCode\":" = c.in_ok-append-2.ensures ∙ ap (λ (xs : List ℕ). xs ++ codes ",\"failureCode\":") address in
    let with_code : c.append-3.new.into.items ≡ (((old ++ codes "{\"address\":") ++ quoted c.args.address.now) ++ codes ",\"failureCode\":") ++ signed_decimal failure.code = c.in_ok-append-3.ensures ∙ (λ i. before_code i ++ code i) in
    let before_kind : c.append-4.new.into.items ≡ ((((old ++ codes "{\"address\":") ++ quoted c.args.address.now) ++ codes ",\"failureCode\":") ++ signed_decimal failure.code) ++ codes ",\"failureType\":" = c.in_ok-append-4.ensures ∙ ap (λ (xs : List ℕ). xs ++ codes ",\"failureType\":") with_code in
    let with_kind : c.append-5.new.into.items ≡ (((((old ++ codes "{\"address\":") ++ quoted c.args.address.now) ++ codes ",\"failureCode\":") ++ signed_decimal failure.code) ++ codes ",\"failureType\":") ++ quoted (kind_text failure.kind) = c.in_ok-append-5.ensures ∙ (λ i. before_kind i ++ c.kind_text.ensures i) in
    let before_text : c.append-6.new.into.items ≡ ((((((old ++ codes "{\"address\":") ++ quoted c.args.address.now) ++ codes ",\"failureCode\":") ++ signed_decimal failure.code) ++ codes ",\"failureType\":") ++ quoted (kind_text failure.kind)) ++ codes ",\"message\":" = c.in_ok-append-6.ensures ∙ ap (λ (xs : List ℕ). xs ++ codes ",\"message\":") with_kind in
    let with_text : c.write_text-2.new.into.items ≡ (((((((old ++ codes "{\"address\":") ++ quoted c.args.address.now) ++ codes ",\"failureCode\":") ++ signed_decimal failure.code) ++ codes ",\"failureType\":") ++ quoted (kind_text failure.kind)) ++ codes ",\"message\":") ++ quoted failure.text = c.in_ok-write_text-2.ensures.written ∙ ap (λ (xs : List ℕ). xs ++ quoted failure.text) before_text in
    on_ok_weaker c.append-7.result (λ written. written
    ∙ ap (λ (xs : List ℕ). xs ++ codes ",\"type\":\"err\"}") with_text
    ∙ failure_written c.args.address.now failure old) c.append-7.ensures
