-- The calls that instructions begin with, and the instructions that the hub makes so far. (This project's own.)
use Rattle.std.specs.Prelude.{Bool, true, false, ◌&&◌}
use Rattle.vx_call.specs.Built.{is_stored}
use Rattle.vx_call.specs.Plain.{is_plain}
use Rattle.vx_call.specs.declared.call.Call.{Call}
use Rattle.vx_call.specs.declared.call.Call.TheVariants as calls
use Rattle.vx_line.specs.declared.instruction.Instruction.{Instruction}
use Rattle.vx_line.specs.declared.instruction.Instruction.TheVariants as does
use Rattle.vx_line.specs.Grammar.{is_kind}

-- the call that an instruction begins with
abbrev pub first_call : Instruction → Call
first_call (does.Call call) = call
first_call (does.Deploy options spec instances) = calls.Deploy options.worker options.pool options.tell instances
first_call (does.Take lane) = calls.Take lane
first_call (does.Finish end) = calls.Finish end
first_call (does.Work lane) = calls.Take lane

-- Those that are made so far: one plain call that the hub makes; a deployment of a kind that is there; a Take, and a Finish.
-- Not yet those that work.
abbrev pub is_made : Instruction → Bool
is_made (does.Call call) = is_stored call && is_plain call
is_made (does.Deploy options spec instances) = is_kind spec.kind
is_made (does.Work lane) = false
is_made _ = true
