-- What the shop does.
use Rattle.std.specs.Prelude.{◌≡◌, ◌==◌, ◌-◌, ℕ, ℤ, pos, if◌then◌else◌, List, [], ◌∷◌, map, Option, None, Some, codes}
use Rattle.std.specs.Option.{option_to_list}
use Rattle.vx_data.specs.Tree.{int}
use Rattle.vx_data.specs.declared.ids.MessageId.{MessageId}
use Rattle.vx_call.specs.declared.call.End.{End}
use Rattle.vx_call.specs.declared.call.End.TheVariants.{Done}
use Rattle.vx_call.specs.declared.reply.Task.{Task}
use Rattle.vx_call.specs.declared.reply.Task.TheVariants as tasks
use Rattle.vx_verticle.specs.declared.acts.Act.{Act}
use Rattle.vx_verticle.specs.declared.acts.Act.TheVariants.{Plain}
use Rattle.vx_verticle.specs.declared.no_once.NoOnce.{NoOnce}
use Rattle.vx_verticle.specs.declared.plain.PlainAct.{PlainAct}
use Rattle.vx_verticle.specs.declared.plain.PlainAct.TheVariants as acts
use Rattle.vx_verticle.specs.declared.verticle.ActResult.{ActResult}
use Rattle.vx_verticle.specs.declared.verticle.Event.{Event}
use Rattle.vx_verticle.specs.Answers.{Answer, AsDue}

-- its state, in numbers: how many pieces are left
abbrev pub kept : ℕ → List ℤ
kept left = pos left ∷ []

-- how many pieces are left behind a task, and what is to be done for it
pub record Due : Type 0 where
  pub left : ℕ
  pub act : Option PlainAct

-- a request buys a piece, where one is left
abbrev pub sells : ℕ → MessageId → Due
sells left message =
    if left == 0 then record { left = left; act = Some (acts.Fail message (pos 1) (codes "sold out")) }
    else record { left = left - 1; act = Some (acts.Reply message (int (pos (left - 1))) (record { headers = []; codec = None })) }

-- the shop registers as it starts, and sells
abbrev pub due : ℕ → Task → Due
due left (tasks.Start context) = record { left = left; act = Some (acts.Register (codes "shop") 1000) }
due left (tasks.Deliver consumer message) = if message.request then sells left message.id else record { left = left; act = None }
due left _ = record { left = left; act = None }

-- the same as an answer to an event
abbrev pub answer : Due → Answer NoOnce
answer due = record { later = kept due.left; acts = map Plain (option_to_list due.act); end = Done }

-- The shop answers as is due by what it has left. Where memory runs out, it may have done less.
abbrev pub Reacts : List ℤ → Event → List ℤ → List (Act NoOnce) → End → Type 0
Reacts state event later acts end = (left : ℕ) × (state ≡ kept left) × AsDue (answer (due left event.task)) state later acts end

-- what became of an act changes nothing
abbrev pub Told : List ℤ → ℕ → ActResult → List ℤ → Type 0
Told state act_no result later = later ≡ state
