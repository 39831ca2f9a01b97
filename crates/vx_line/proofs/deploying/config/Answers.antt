use Rattle.std.proofs.Common.{◌≡◌, ◌∙◌, sym, ap, List, ℕ, true, false, codes, Some}
use Rattle.std.specs.Str.{bytes_eq}
use Rattle.std.proofs.lemmas.Result.{err_from_is_err_and}
use Rattle.vx_words.specs.Grammar.{ASigned}
use Rattle.vx_words.specs.Reading.{signed_in}
use Rattle.vx_line.specs.Grammar.{config_option}
use Rattle.vx_line.specs.Reading.{options_of, choice_in, number_onto}
use Rattle.vx_words.proofs.Sequences.{onto, onto_last, fails_with}
use Rattle.vx_line.proofs.Choices.{value_none, value_next, each_fits}
use Rattle.vx_line.proofs.Runs.{each_at, each_next, each_other, each_none}
use Rattle.vx_line.proofs.deploying.config.Goals as goal

pub returns-in_err-add_number : goal.returns-in_err-add_number
returns-in_err-add_number c =
    let p = err_from_is_err_and c.from_residual.result c.from_residual.ensures.1 in
    let w : List ℕ × List ℕ = (c.in-Some.option.now, c.in-Some.behind.now) in
    let named : bytes_eq c.split_name.result.0.now (codes "+config:") ≡ true = ap (bytes_eq c.split_name.result.0.now) (sym c.as_slice.ensures) ∙ sym c.if-eq.ensures in
    let read = each_next (ASigned 63) (codes "+config:") c.loop-option.rest.now w c.split_name.result.0.now c.split_name.result.1.now (sym c.in-Some.ensures.option) c.split_name.ensures.name c.split_name.ensures.text named in
    let all = each_at (ASigned 63) (codes "+config:") c.args.tail.now in
    rw (p.1, p.2) (fails_with c.in_err-add_number.field-0.0 (number_onto c.loop-option.numbers.items c.split_name.result.1.now) (choice_in config_option (options_of c.args.tail.now).words) c.in_err-add_number.ensures
    (λ none. each_fits all ∙ value_none c.loop-option.numbers.items (signed_in 63 c.split_name.result.1.now) (each_at (ASigned 63) (codes "+config:") c.in-Some.behind.now) all (sym (ap (onto c.loop-option.numbers.items) read) ∙ c.loop-option.invariant) none))

pub loop-option-preserved-in_ok-add_number : goal.loop-option-preserved-in_ok-add_number
loop-option-preserved-in_ok-add_number c =
    let w : List ℕ × List ℕ = (c.in-Some.option.now, c.in-Some.behind.now) in
    let named : bytes_eq c.split_name.result.0.now (codes "+config:") ≡ true = ap (bytes_eq c.split_name.result.0.now) (sym c.as_slice.ensures) ∙ sym c.if-eq.ensures in
    let read = each_next (ASigned 63) (codes "+config:") c.loop-option.rest.now w c.split_name.result.0.now c.split_name.result.1.now (sym c.in-Some.ensures.option) c.split_name.ensures.name c.split_name.ensures.text named in
    let all = each_at (ASigned 63) (codes "+config:") c.args.tail.now in
    value_next c.loop-option.numbers.items c.add_number.new.numbers.items (signed_in 63 c.split_name.result.1.now) (each_at (ASigned 63) (codes "+config:") c.in-Some.behind.now) all (sym (ap (onto c.loop-option.numbers.items) read) ∙ c.loop-option.invariant) c.in_ok-add_number.ensures

pub loop-option-preserved : goal.loop-option-preserved
loop-option-preserved c =
    let other : bytes_eq c.split_name.result.0.now (codes "+config:") ≡ false = ap (bytes_eq c.split_name.result.0.now) (sym c.as_slice.ensures) ∙ sym c.if-eq.ensures in
    let read = each_other (ASigned 63) (codes "+config:") c.loop-option.rest.now (c.in-Some.option.now, c.in-Some.behind.now) c.split_name.result.0.now (sym c.in-Some.ensures.option) c.split_name.ensures.name other in
    ap (onto c.loop-option.numbers.items) (sym read) ∙ c.loop-option.invariant

pub returns : goal.returns
returns c =
    let all = each_at (ASigned 63) (codes "+config:") c.args.tail.now in
    let some = onto_last c.loop-option.numbers.items (each_at (ASigned 63) (codes "+config:") c.loop-option.rest.now) all c.loop-option.invariant (each_none (ASigned 63) (codes "+config:") c.loop-option.rest.now (sym c.in_default.ensures.option)) in
    each_fits all ∙ some ∙ ap Some (sym (c.in_ok-new.ensures ∙ c.as_slice-2.ensures.value))
