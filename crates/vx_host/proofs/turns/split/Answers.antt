use Rattle.std.specs.Prelude.{is_ok}
use Rattle.std.proofs.lemmas.Result.{IfOk-weaker}
use Rattle.vx_turn.specs.Passes.{caller, caller_in, machine_in, seen_in}
use Rattle.vx_host.proofs.Splitting.{nothing_more, has_split}
use Rattle.vx_host.proofs.turns.split.Goals as goal

pub put_back-requires-clause-stands : goal.put_back-requires-clause-stands
put_back-requires-clause-stands g c = let split = c.split-new.new.self in nothing_more (g.M.Machine.stands_for (machine_in split)) (seen_in split) (is_ok c.split-new.result) c.split-new.ensures.stands

pub put_back-requires-clause-legal : goal.put_back-requires-clause-legal
put_back-requires-clause-legal g c = let split = c.split-new.new.self in nothing_more g.M.Machine.legal (seen_in split) (is_ok c.split-new.result) c.split-new.ensures.legal

pub returns-clause-split : goal.returns-clause-split
returns-clause-split g c =
    let turn = caller_in c.enter-turn.result in
    let split = c.split-new.ensures in
    has_split g.M.Machine (caller c.args.pass) turn (caller_in c.split-new.new.self) (caller c.put_back.result) c.split-new.result c.enter-turn.ensures.came c.enter-turn.ensures.entries split.same split.legal c.put_back.ensures.same
    (IfOk-weaker c.split-new.result _ _ (λ new ok. (ok.0, ok.1, ok.3)) split.ok) split.other split.spent
