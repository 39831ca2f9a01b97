-- An echo starts: a deployment, and the stretch of entries in which its start is played.
use Rattle.std.specs.Prelude.{ℤ, pos, false, List, [], ◌∷◌, None, codes}
use Rattle.vx_data.specs.declared.ids.PassNo.{PassNo}
use Rattle.vx_data.specs.declared.ids.ContextId.{ContextId}
use Rattle.vx_message.specs.declared.Lane.{Lane}
use Rattle.vx_message.specs.declared.Lane.TheVariants.{Loop}
use Rattle.vx_call.specs.declared.call.Call.TheVariants as calls
use Rattle.vx_call.specs.declared.call.End.TheVariants.{Done}
use Rattle.vx_call.specs.declared.reply.Reply.TheVariants as replies
use Rattle.vx_call.specs.declared.reply.Task.TheVariants as tasks
use Rattle.vx_call.specs.declared.history.Traced.{Traced}
use Rattle.vx_call.specs.History.{plain_entry, no_mark}
use Rattle.vx_kinds.specs.declared.settings.Settings.{Settings}
use Rattle.vx_kinds.specs.States.{state_of}
use Rattle.vx_verticle.specs.Played.{Placed}

abbrev pub pass : PassNo
pass = record { 0 = 0 }

abbrev pub context : ContextId
context = record { entry = record { 0 = 0 }; instance = 0 }

abbrev pub own_loop : Lane
own_loop = Loop 0

abbrev pub settings : Settings
settings = record { address = codes "a"; to = codes "a"; config = [] }

-- an echo's state
abbrev pub state : List ℤ
state = state_of (pos 0) settings []

abbrev pub deployed : Traced
deployed = record { entry = record { pass = pass; call = calls.Deploy false None None 1; reply = replies.Deployment (record { 0 = record { 0 = 0 } }) }; states = state ∷ []; mark = no_mark }

abbrev pub taken : Traced
taken = plain_entry pass (calls.Take own_loop) (replies.Task (tasks.Start context)) no_mark

abbrev pub registered : Traced
registered = plain_entry pass (calls.Register context (codes "a") 1000) (replies.Consumer (record { 0 = record { 0 = 2 } })) no_mark

abbrev pub finished : Traced
finished = record { entry = record { pass = pass; call = calls.Finish Done; reply = replies.Done }; states = state ∷ []; mark = no_mark }

abbrev pub history : List Traced
history = deployed ∷ taken ∷ registered ∷ finished ∷ []

-- the entries of the start, with their indices
abbrev pub stretch : List Placed
stretch = (1, taken) ∷ (2, registered) ∷ (3, finished) ∷ []
