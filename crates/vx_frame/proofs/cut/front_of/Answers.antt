use Rattle.std.proofs.Common.{◌≡◌, ◌≤◌, ◌++◌, refl, sym, ◌∙◌, ap, take, drop, length, arith}
use Rattle.std.proofs.lemmas.List.{take-append-drop, length-take}
use Rattle.vx_frame.proofs.Cutting.{short_prefix, short_json, whole_json, parted}
use Rattle.vx_frame.proofs.cut.front_of.Goals as goal

pub returns-then-held-lt-PREFIX_LEN : goal.returns-then-held-lt-PREFIX_LEN
returns-then-held-lt-PREFIX_LEN c = short_prefix c.args.held.now c.if-held-lt-PREFIX_LEN.true

pub returns-then-rest-len : goal.returns-then-rest-len
returns-then-rest-len c =
    let is = parted c.args.held.now c.split_at.result.0.now c.split_at.result.1.now c.length_of-len.result c.split_at.ensures.front c.split_at.ensures.back c.length_of-len.ensures in
    short_json c.args.held.now c.split_at.result.1.now c.length_of-len.result is c.if-len-gt-MAX_LEN.false (omega arith)

pub returns : goal.returns
returns c =
    let rest = c.split_at.result.1.now in
    let n = c.length_of-len.result in
    let is = parted c.args.held.now c.split_at.result.0.now rest n c.split_at.ensures.front c.split_at.ensures.back c.length_of-len.ensures in
    (drop n rest, omega (arith, length-take n rest), whole_json c.args.held.now rest (take n rest) n is refl (omega arith))
