use Rattle.std.proofs.Common.{◌≡◌, ◌∙◌, sym, ap, List, ℕ, true, false, codes}
use Rattle.std.specs.Str.{bytes_eq}
use Rattle.std.proofs.lemmas.Result.{err_from_is_err_and}
use Rattle.vx_words.specs.Grammar.{AHeader}
use Rattle.vx_words.specs.Reading.{header_in}
use Rattle.vx_line.specs.Reading.{header_onto}
use Rattle.vx_words.proofs.Sequences.{onto, fails_with}
use Rattle.vx_line.proofs.Choices.{fitting, header_none, header_next, header_last}
use Rattle.vx_line.proofs.Runs.{each_at, each_next, each_other, each_none}
use Rattle.vx_line.proofs.options.headers.Goals as goal

pub returns-in_err-add_header : goal.returns-in_err-add_header
returns-in_err-add_header c =
    let p = err_from_is_err_and c.from_residual.result c.from_residual.ensures.1 in
    let w : List ℕ × List ℕ = (c.in-Some.option.now, c.in-Some.behind.now) in
    let named : bytes_eq c.split_name.result.0.now (codes "+h:") ≡ true = ap (bytes_eq c.split_name.result.0.now) (sym c.as_slice.ensures) ∙ sym c.if-eq.ensures in
    let read = each_next AHeader (codes "+h:") c.loop-option.rest.now w c.split_name.result.0.now c.split_name.result.1.now (sym c.in-Some.ensures.option) c.split_name.ensures.name c.split_name.ensures.text named in
    rw (p.1, p.2) (fails_with c.in_err-add_header.field-0.0 (header_onto c.loop-option.headers c.split_name.result.1.now) (fitting (each_at AHeader (codes "+h:") c.args.tail.now)) c.in_err-add_header.ensures
    (λ none. header_none c.loop-option.headers (header_in c.split_name.result.1.now) (each_at AHeader (codes "+h:") c.in-Some.behind.now) (each_at AHeader (codes "+h:") c.args.tail.now) (sym (ap (onto c.loop-option.headers) read) ∙ c.loop-option.invariant.all) none))

pub loop-option-preserved-in_ok-add_header : goal.loop-option-preserved-in_ok-add_header
loop-option-preserved-in_ok-add_header c =
    let w : List ℕ × List ℕ = (c.in-Some.option.now, c.in-Some.behind.now) in
    let named : bytes_eq c.split_name.result.0.now (codes "+h:") ≡ true = ap (bytes_eq c.split_name.result.0.now) (sym c.as_slice.ensures) ∙ sym c.if-eq.ensures in
    let read = each_next AHeader (codes "+h:") c.loop-option.rest.now w c.split_name.result.0.now c.split_name.result.1.now (sym c.in-Some.ensures.option) c.split_name.ensures.name c.split_name.ensures.text named in
    let next =
    header_next c.loop-option.headers c.add_header.new.headers (header_in c.split_name.result.1.now) (each_at AHeader (codes "+h:") c.in-Some.behind.now) (each_at AHeader (codes "+h:") c.args.tail.now) (sym (ap (onto c.loop-option.headers) read) ∙ c.loop-option.invariant.all) c.in_ok-add_header.ensures in
    record { all = next.0; fit = next.1 }

pub loop-option-preserved : goal.loop-option-preserved
loop-option-preserved c =
    let other : bytes_eq c.split_name.result.0.now (codes "+h:") ≡ false = ap (bytes_eq c.split_name.result.0.now) (sym c.as_slice.ensures) ∙ sym c.if-eq.ensures in
    let read = each_other AHeader (codes "+h:") c.loop-option.rest.now (c.in-Some.option.now, c.in-Some.behind.now) c.split_name.result.0.now (sym c.in-Some.ensures.option) c.split_name.ensures.name other in
    record { all = ap (onto c.loop-option.headers) (sym read) ∙ c.loop-option.invariant.all; fit = c.loop-option.invariant.fit }

pub returns : goal.returns
returns c = header_last c.loop-option.headers (each_at AHeader (codes "+h:") c.loop-option.rest.now) (each_at AHeader (codes "+h:") c.args.tail.now) c.loop-option.invariant.all (each_none AHeader (codes "+h:") c.loop-option.rest.now (sym c.in_default.ensures.option)) c.loop-option.invariant.fit
