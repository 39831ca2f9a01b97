-- The host's verticles: what they keep, and what is due, as functions of their states. (This project's own.)
use Rattle.std.specs.Prelude.{◌≡◌, ℕ, ℤ, pos, if◌then◌else◌, List, [], ◌∷◌, Option, None, Some, is_some, codes, IsTrue}
use Rattle.std.specs.Option.{option_map}
use Rattle.std.specs.Ordering.{int_eq}
use Rattle.std.specs.Str.{bytes_eq}
use Rattle.vx_message.specs.declared.kind.KindSpec.{KindSpec}
use Rattle.vx_call.specs.declared.call.End.{End}
use Rattle.vx_call.specs.declared.reply.Task.{Task}
use Rattle.vx_verticle.specs.declared.acts.Act.{Act}
use Rattle.vx_verticle.specs.declared.verticle.Event.{Event}
use Rattle.vx_verticle.specs.declared.verticle.ActResult.{ActResult}
use Rattle.vx_verticle.specs.Answers.{Answer, AsDue}
use Rattle.vx_kinds.specs.declared.rule.HostRule.{HostRule}
use Rattle.vx_kinds.specs.declared.settings.Settings.{Settings}
use Rattle.vx_kinds.specs.declared.host.HostVerticle.{HostVerticle}
use Rattle.vx_kinds.specs.declared.host.HostVerticle.TheVariants as hosts
use Rattle.vx_kinds.specs.States.{state_of, kind_of, settings_of, own_of}
use Rattle.vx_kinds.specs.Kinds as kinds
use Rattle.vx_kinds.specs.Kinds.{Due}

-- The table of kinds: the place of the one of this name. (The other places are of kinds to come.)
abbrev pub place_of : List ℕ → Option ℤ
place_of name =
    if bytes_eq name (codes "echo") then Some (pos 0)
    else if bytes_eq name (codes "counter") then Some (pos 1)
    else if bytes_eq name (codes "relay") then Some (pos 2)
    else if bytes_eq name (codes "caller") then Some (pos 4)
    else if bytes_eq name (codes "parent") then Some (pos 5)
    else if bytes_eq name (codes "silent") then Some (pos 7)
    else if bytes_eq name (codes "failer") then Some (pos 9)
    else None

-- the count that a counter keeps
abbrev pub count_in : List ℤ → ℤ
count_in [] = pos 0
count_in (count ∷ own) = count

-- what a kind keeps at first
abbrev pub own_first : ℤ → List ℤ
own_first kind = if int_eq kind (pos 1) then pos 0 ∷ [] else []

-- what it keeps behind a task
abbrev pub own_after : ℤ → List ℤ → Task → List ℤ
own_after kind own task = if int_eq kind (pos 1) then kinds.count_after task (count_in own) ∷ [] else own

-- what is due of a kind, by what it keeps behind the task
abbrev pub due_by : ℤ → Settings → List ℤ → Task → Due
due_by kind settings own task =
    if int_eq kind (pos 0) then kinds.echo settings task
    else if int_eq kind (pos 1) then kinds.counter settings (count_in own) task
    else if int_eq kind (pos 2) then kinds.relay settings task
    else if int_eq kind (pos 4) then kinds.caller settings task
    else if int_eq kind (pos 5) then kinds.parent settings task
    else if int_eq kind (pos 7) then kinds.silent settings task
    else if int_eq kind (pos 9) then kinds.failer settings task
    else kinds.nothing

-- the answer that is due from a verticle of this kind
abbrev pub due_from : ℤ → Settings → List ℤ → Task → Answer HostRule
due_from kind settings own task =
    let kept = own_after kind own task in
    let due = due_by kind settings kept task in
    record { later = state_of kind settings kept; acts = due.acts; end = due.end }

-- the answer that is due, by the state alone
abbrev pub due : List ℤ → Event → Answer HostRule
due state event = due_from (kind_of state) (settings_of state) (own_of state) event.task

abbrev pub Reacts : List ℤ → Event → List ℤ → List (Act HostRule) → End → Type 0
Reacts state event later acts end = AsDue (due state event) state later acts end

-- what became of an act changes nothing
abbrev pub Told : List ℤ → ℕ → ActResult → List ℤ → Type 0
Told state act_no answer later = later ≡ state

-- what a verticle is, in numbers
abbrev pub kind_in : HostVerticle → ℤ
kind_in (hosts.Echo echo) = pos 0
kind_in (hosts.Counter counter) = pos 1
kind_in (hosts.Relay relay) = pos 2
kind_in (hosts.Caller caller) = pos 4
kind_in (hosts.Parent parent) = pos 5
kind_in (hosts.Silent silent) = pos 7
kind_in (hosts.Failer failer) = pos 9

abbrev pub settings_in : HostVerticle → Settings
settings_in (hosts.Echo echo) = echo.settings
settings_in (hosts.Counter counter) = counter.settings
settings_in (hosts.Relay relay) = relay.settings
settings_in (hosts.Caller caller) = caller.settings
settings_in (hosts.Parent parent) = parent.settings
settings_in (hosts.Silent silent) = silent.settings
settings_in (hosts.Failer failer) = failer.settings

abbrev pub own_in : HostVerticle → List ℤ
own_in (hosts.Counter counter) = counter.count ∷ []
own_in _ = []

abbrev pub state_in : HostVerticle → List ℤ
state_in verticle = state_of (kind_in verticle) (settings_in verticle) (own_in verticle)

-- the settings that a spec gives
abbrev pub settings_from : KindSpec → Settings
settings_from spec = record { address = spec.address; to = spec.to; config = spec.config }

-- the first state of a verticle of this spec, where there is a kind of its name
abbrev pub first_state : KindSpec → Option (List ℤ)
first_state spec = option_map (λ kind. state_of kind (settings_from spec) (own_first kind)) (place_of spec.kind)

-- whether there is a kind of this name
abbrev pub Knows : List ℕ → Type 0
Knows name = IsTrue (is_some (place_of name))

abbrev pub Makes : KindSpec → List ℤ → Type 0
Makes spec state = first_state spec ≡ Some state
