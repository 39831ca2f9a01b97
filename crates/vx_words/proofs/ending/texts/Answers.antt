use Rattle.std.proofs.Common.{◌∙◌, Some, sym, ap}
use Rattle.std.proofs.lemmas.Result.{err_from_is_err_and}
use Rattle.vx_words.specs.Reading.{text_in, end_at, words_at}
use Rattle.vx_words.proofs.Sequences.{onto, fails_with, onto_next, onto_none, onto_last}
use Rattle.vx_words.proofs.Endings.{words_bad, words_next, words_unended, words_ended}
use Rattle.vx_words.proofs.Words.{word_shorter}
use Rattle.vx_words.proofs.ending.texts.Goals as goal

pub returns-in_err-text : goal.returns-in_err-text
returns-in_err-text c =
    let p = err_from_is_err_and c.from_residual.result c.from_residual.ensures.1 in
    rw (p.1, p.2) (fails_with c.in_err-text.field-0.0 (text_in c.in-Some.word.now) (words_at c.args.tail.now) c.in_err-text.ensures
    (λ none. onto_none c.loop-word.texts.items (words_at c.loop-word.rest.now) (words_at c.args.tail.now) c.loop-word.invariant (words_bad c.loop-word.rest.now (c.in-Some.word.now, c.in-Some.behind.now) (sym c.in-Some.ensures) none)))

pub loop-word-smaller : goal.loop-word-smaller
loop-word-smaller c = word_shorter c.loop-word.rest.now (c.in-Some.word.now, c.in-Some.behind.now) (sym c.in-Some.ensures)

pub loop-word-preserved : goal.loop-word-preserved
loop-word-preserved c =
    ap (λ texts. onto texts (words_at c.in-Some.behind.now)) c.in_ok-push.ensures.items
    ∙ onto_next c.loop-word.texts.items c.in_ok-text.field-0 (words_at c.loop-word.rest.now) (words_at c.in-Some.behind.now) (words_at c.args.tail.now) c.loop-word.invariant
    (words_next c.loop-word.rest.now (c.in-Some.word.now, c.in-Some.behind.now) c.in_ok-text.field-0 (sym c.in-Some.ensures) c.in_ok-text.ensures)

pub returns-in_err-end : goal.returns-in_err-end
returns-in_err-end c =
    let p = err_from_is_err_and c.from_residual-in_err-end.result c.from_residual-in_err-end.ensures.1 in
    rw (p.1, p.2) (fails_with c.in_err-end.field-0.0 (end_at c.loop-word.rest.now) (words_at c.args.tail.now) c.in_err-end.ensures
    (λ none. onto_none c.loop-word.texts.items (words_at c.loop-word.rest.now) (words_at c.args.tail.now) c.loop-word.invariant (words_unended c.loop-word.rest.now (sym c.in_default.ensures) none)))

pub returns : goal.returns
returns c =
    onto_last c.loop-word.texts.items (words_at c.loop-word.rest.now) (words_at c.args.tail.now) c.loop-word.invariant (words_ended c.loop-word.rest.now (sym c.in_default.ensures) c.in_ok-end.ensures)
    ∙ ap Some (sym c.new.ensures)
