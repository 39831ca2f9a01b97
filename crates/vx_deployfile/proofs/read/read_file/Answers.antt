use Rattle.std.proofs.Common.{sym, arith}
use mathlib.Core.Path.{subst}
use Rattle.vx_json_parts.specs.Parts.{AreFields}
use Rattle.vx_deployfile.proofs.Limits.{within_limits}
use Rattle.vx_deployfile.proofs.Reading.{unread_found, unread_only, object_found, object_only}
use Rattle.vx_deployfile.proofs.read.read_file.Goals as goal

pub returns-in-Ok-clause-found : goal.returns-in-Ok-clause-found
returns-in-Ok-clause-found c =
    let there = c.in-Ok.ensures.found in
    object_found c.args.bytes.now c.outlined_file.result there.0 (omega arith) there.1 (c.outlined_file.ensures there.0 (subst (AreFields there.0) (sym c.deref.ensures.value) there.2))

pub returns-in-Ok-clause-limits : goal.returns-in-Ok-clause-limits
returns-in-Ok-clause-limits c = within_limits c.args.bytes.now c.outlined_file.result (returns-in-Ok-clause-found c)

pub returns-in-Ok-clause-only : goal.returns-in-Ok-clause-only
returns-in-Ok-clause-only c =
    let there = c.in-Ok.ensures.found in
    object_only c.args.bytes.now c.outlined_file.result there.0 (omega arith) there.1 (λ others json. c.outlined_file.ensures others (subst (AreFields others) (sym c.deref.ensures.value) (c.in-Ok.ensures.only others json)))

pub returns-in-Err-clause-found : goal.returns-in-Err-clause-found
returns-in-Err-clause-found c = rw c.unread.ensures (unread_found c.args.bytes.now c.in-Err.fault (omega arith) c.in-Err.ensures.only)

pub returns-in-Err-clause-only : goal.returns-in-Err-clause-only
returns-in-Err-clause-only c = rw c.unread.ensures (unread_only c.args.bytes.now c.in-Err.fault (omega arith) c.in-Err.ensures.only)
