-- What the host's kinds do, each as a function of its settings and of the task. (This project's own.)
use Rattle.std.specs.Prelude.{ℕ, false, if◌then◌else◌, ℤ, pos, negsuc, ◌+ℤ◌, nat_le, List, [], ◌∷◌, None, slice_get, unwrap_or, codes}
use Rattle.std.specs.Int.{w64, saturate_signed, int_min, int_max}
use Rattle.vx_data.specs.Tree.{Tree, int}
use Rattle.vx_data.specs.declared.ids.MessageId.{MessageId}
use Rattle.vx_message.specs.declared.Options.{Options}
use Rattle.vx_message.specs.declared.kind.KindSpec.{KindSpec}
use Rattle.vx_message.specs.declared.Outcome.{Outcome}
use Rattle.vx_message.specs.declared.Outcome.TheVariants as outcomes
use Rattle.vx_message.specs.declared.DoneResult.{DoneResult}
use Rattle.vx_message.specs.declared.DoneResult.TheVariants as results
use Rattle.vx_call.specs.declared.call.End.{End}
use Rattle.vx_call.specs.declared.call.End.TheVariants as ends
use Rattle.vx_call.specs.declared.reply.Task.{Task}
use Rattle.vx_call.specs.declared.reply.Task.TheVariants as tasks
use Rattle.vx_verticle.specs.declared.acts.Act.{Act}
use Rattle.vx_verticle.specs.declared.acts.Act.TheVariants as acting
use Rattle.vx_verticle.specs.declared.plain.PlainAct.TheVariants as plain
use Rattle.vx_kinds.specs.declared.rule.HostRule.{HostRule}
use Rattle.vx_kinds.specs.declared.settings.Settings.{Settings}
use Rattle.vx_kinds.specs.States.{natural}

-- what is due: the acts in order, and how the task ends
pub record Due : Type 0 where
  pub acts : List (Act HostRule)
  pub end : End

abbrev pub nothing : Due
nothing = record { acts = []; end = ends.Done }

abbrev pub does : Act HostRule → Due
does act = record { acts = act ∷ []; end = ends.Done }

-- one act, and the start goes on
abbrev pub begins : Act HostRule → Due
begins act = record { acts = act ∷ []; end = ends.Later }

-- the number in a place of the settings, or another where none is there
abbrev pub number_or : ℤ → Settings → ℕ → ℤ
number_or otherwise settings place = unwrap_or (slice_get settings.config place) otherwise

-- A number up to a limit. Any other counts as 0, with which the machine refuses the act.
abbrev pub up_to : ℕ → ℤ → ℕ
up_to limit number = if nat_le (natural number) limit then natural number else 0

-- no headers and no codec
abbrev pub no_options : Options
no_options = record { headers = []; codec = None }

-- a consumer at the verticle's address, for which at most 1,000 messages are held
abbrev pub registers : Settings → Act HostRule
registers settings = acting.Plain (plain.Register settings.address 1000)

abbrev pub replies : MessageId → Tree → Act HostRule
replies message body = acting.Plain (plain.Reply message body no_options)

abbrev pub ends_start : DoneResult → Act HostRule
ends_start result = acting.Plain (plain.StartDone result)

-- replies to a request with its body
abbrev pub echo : Settings → Task → Due
echo settings (tasks.Start context) = does (registers settings)
echo settings (tasks.Deliver consumer message) = if message.request then does (replies message.id message.body) else nothing
echo settings _ = nothing

-- counts the messages, up to 2^63 - 1
abbrev pub count_after : Task → ℤ → ℤ
count_after (tasks.Deliver consumer message) count = saturate_signed w64 (count +ℤ pos 1)
count_after _ count = count

-- and replies to a request with the count
abbrev pub counter : Settings → ℤ → Task → Due
counter settings count (tasks.Start context) = does (registers settings)
counter settings count (tasks.Deliver consumer message) = if message.request then does (replies message.id (int count)) else nothing
counter settings count _ = nothing

-- sends the body of each message on
abbrev pub relay : Settings → Task → Due
relay settings (tasks.Start context) = does (registers settings)
relay settings (tasks.Deliver consumer message) = does (acting.Plain (plain.Send settings.to message.body no_options))
relay settings _ = nothing

-- how a start ends that waits for this outcome
abbrev pub result_of : Outcome → DoneResult
result_of (outcomes.Ok headers body again) = results.Ok
result_of (outcomes.Failed failure) = results.Fail failure.code

-- the request that a caller begins with: its first number goes to its address, and the second is the timeout in ms
abbrev pub asks : Settings → Act HostRule
asks settings =
    acting.Plain (plain.Request settings.address (int (number_or (pos 1) settings 0)) no_options (up_to 1000000000000 (number_or (pos 30000) settings 1)))

-- asks as it starts, and has started as the outcome comes
abbrev pub caller : Settings → Task → Due
caller settings (tasks.Start context) = begins (asks settings)
caller settings (tasks.Outcome request outcome) = does (ends_start (result_of outcome))
caller settings _ = nothing

-- the echoes that a parent begins with: as many as its first number says, at its address
abbrev pub deploys : Settings → Act HostRule
deploys settings =
    let spec : KindSpec = record { kind = codes "echo"; address = settings.address; to = settings.address; config = [] } in
    acting.Deploy spec (up_to 64 (number_or (pos 1) settings 0)) false

-- deploys as it starts, and has started as these have
abbrev pub parent : Settings → Task → Due
parent settings (tasks.Start context) = begins (deploys settings)
parent settings (tasks.DeployEnd deployment result) = does (ends_start result)
parent settings _ = nothing

-- takes what comes, and does nothing
abbrev pub silent : Settings → Task → Due
silent settings (tasks.Start context) = does (registers settings)
silent settings _ = nothing

-- the nearest number of 32 bits
abbrev pub nearest_code : ℤ → ℤ
nearest_code number = int_max (negsuc 2147483647) (int_min number (pos 2147483647))

-- fails as it starts, with its first number
abbrev pub failer : Settings → Task → Due
failer settings (tasks.Start context) = record { acts = []; end = ends.Fail (nearest_code (number_or (pos 1) settings 0)) }
failer settings _ = nothing
