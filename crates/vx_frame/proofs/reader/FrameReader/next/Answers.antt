use Rattle.std.proofs.Common.{◌≡◌, ◌+◌, ◌≤◌, false, true, sym, ◌∙◌, ap, length, drop}
use Rattle.vx_frame.proofs.Given.{alone_ended, alone_part, alone_refused, alone_whole, given_part, given_refused, given_whole, short_is_part, whole_within, open_reader, ended_reader}
use Rattle.vx_frame.proofs.reader.FrameReader.next.Goals as goal

pub returns-then-self-clause-alone : goal.returns-then-self-clause-alone
returns-then-self-clause-alone c = λ fed given fs rest h reading.
    let is = ap (λ p. p.1) (sym c.self.view_is) ∙ c.if-self.true in
    alone_ended fed c.args.self.now.0 rest given fs (ended_reader fed given c.args.self.now h is) reading

pub pass-requires : goal.pass-requires
pass-requires c =
    let whole = c.in-Whole.ensures in
    let held = c.held-held.ensures ∙ ap (λ p. p.0) (sym c.self.view_is) in
    whole_within (drop c.self.inside.front c.self.inside.bytes.items) c.in-Whole.json.now whole.0 (sym held ∙ whole.2)

pub returns-in-Part-clause-given : goal.returns-in-Part-clause-given
returns-in-Part-clause-given c = λ fed given h.
    let is = ap (λ p. p.1) (sym c.self.view_is) ∙ c.if-self.false in
    let open_h = open_reader fed c.held-held.result.now given c.args.self.now h is c.held-held.ensures in
    (h, open_h.0, given_part fed c.held-held.result.now given open_h (short_is_part c.held-held.result.now c.in-Part.ensures))

pub returns-in-Part-clause-alone : goal.returns-in-Part-clause-alone
returns-in-Part-clause-alone c = λ fed given fs rest h reading.
    let is = ap (λ p. p.1) (sym c.self.view_is) ∙ c.if-self.false in
    alone_part fed c.held-held.result.now rest given fs (open_reader fed c.held-held.result.now given c.args.self.now h is c.held-held.ensures) reading (short_is_part c.held-held.result.now c.in-Part.ensures)

pub returns-in-Refused-clause-given : goal.returns-in-Refused-clause-given
returns-in-Refused-clause-given c = λ fed given h.
    let is = ap (λ p. p.1) (sym c.self.view_is) ∙ c.if-self.false in
    let there = c.in-Refused.ensures in
    given_refused fed c.held-held.result.now there.0 given c.in-Refused.len _ (open_reader fed c.held-held.result.now given c.args.self.now h is c.held-held.ensures) there.3 there.1 there.2

pub returns-in-Refused-clause-alone : goal.returns-in-Refused-clause-alone
returns-in-Refused-clause-alone c = λ fed given fs rest h reading.
    let is = ap (λ p. p.1) (sym c.self.view_is) ∙ c.if-self.false in
    let there = c.in-Refused.ensures in
    alone_refused fed c.held-held.result.now rest there.0 given fs c.in-Refused.len (open_reader fed c.held-held.result.now given c.args.self.now h is c.held-held.ensures) reading there.3 there.1 there.2

pub returns-in_ok-frame-in-Whole-clause-given : goal.returns-in_ok-frame-in-Whole-clause-given
returns-in_ok-frame-in-Whole-clause-given c = λ fed given h.
    let is = ap (λ p. p.1) (sym c.self.view_is) ∙ c.if-self.false in
    let there = c.in-Whole.ensures in
    let held = sym (c.held-held.ensures ∙ ap (λ p. p.0) (sym c.self.view_is)) in
    given_whole fed c.held-held.result.now c.in-Whole.json.now there.0 given c.in_ok-frame-in-Whole.frame c.pass.new.self (open_reader fed c.held-held.result.now given c.args.self.now h is c.held-held.ensures) there.2 there.1 c.in_ok-frame-in-Whole.ensures.found
    (c.pass.ensures ∙ (λ i. (drop (4 + length c.in-Whole.json.now) (held i), c.closes-self-inside.ensures i)))

pub returns-in_ok-frame-in-Whole-clause-alone : goal.returns-in_ok-frame-in-Whole-clause-alone
returns-in_ok-frame-in-Whole-clause-alone c = λ fed given fs rest h reading.
    let is = ap (λ p. p.1) (sym c.self.view_is) ∙ c.if-self.false in
    let there = c.in-Whole.ensures in
    alone_whole fed c.held-held.result.now rest c.in-Whole.json.now there.0 given fs c.in_ok-frame-in-Whole.frame (open_reader fed c.held-held.result.now given c.args.self.now h is c.held-held.ensures) reading there.2 there.1 c.in_ok-frame-in-Whole.ensures.found c.in_ok-frame-in-Whole.ensures.only
