use Rattle.std.proofs.Common.{sym, ◌∙◌, arith}
use Rattle.vx_request.specs.Stores.{is_request}
use Rattle.vx_request.proofs.Rows.{none_found, one_found, all_stay, some_pass, all_counted}
use Rattle.vx_request.proofs.requests.end_open.Goals as goal

pub returns-in_err-asker-clause-left : goal.returns-in_err-asker-clause-left
returns-in_err-asker-clause-left c = all_stay (is_request c.args.id) _ (none_found _ (sym c.asker_of.ensures ∙ c.in_err-asker.was))

pub returns-clause-room : goal.returns-clause-room
returns-clause-room c =
    let test = is_request c.args.id in
    let rows = c.args.waiting.now.items in
    let found = one_found _ _ (sym c.asker_of.ensures ∙ c.in_ok-asker.was) in
    let passes = some_pass test rows found.0 found.1 in
    rw c.leave_out.ensures.left (omega (arith, passes, all_counted test rows))

pub returns-clause-places : goal.returns-clause-places
returns-clause-places c =
    let test = is_request c.args.id in
    let rows = c.args.waiting.now.items in
    let found = one_found _ _ (sym c.asker_of.ensures ∙ c.in_ok-asker.was) in
    let passes = some_pass test rows found.0 found.1 in
    rw c.leave_out.ensures.left (omega (arith, passes, all_counted test rows, c.keep_first.ensures.room))
