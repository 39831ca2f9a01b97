-- Which calls have a body so far: those of the event bus and of verticles. Each other one is defined.
-- (This project's own.)
use Rattle.std.specs.Prelude.{◌≡◌, Bool, true, false, not, ◌&&◌, List, [], ◌∷◌, Some}
use Rattle.vx_call.specs.declared.call.Call.{Call}
use Rattle.vx_call.specs.declared.call.Call.TheVariants as calls
use Rattle.vx_call.specs.declared.history.Traced.{Traced}
use Rattle.vx_call.specs.History.{no_mark}

-- calls that hand something to a context for later: a handler that is called once, a timer, code, or how a promise ends
abbrev pub hands_over : Call → Bool
hands_over (calls.Request context address body options timeout (Some argument)) = true
hands_over (calls.SetTimer context delay periodic) = true
hands_over (calls.CancelTimer id) = true
hands_over (calls.RunOn context once) = true
hands_over (calls.Blocking context ordered once) = true
hands_over calls.NewPromise = true
hands_over (calls.Complete promise value) = true
hands_over (calls.FailPromise promise code) = true
hands_over (calls.Compose way parts) = true
hands_over (calls.Await context promise) = true
hands_over _ = false

-- calls of servers and connections
abbrev pub is_of_connections : Call → Bool
is_of_connections (calls.Listen context host port) = true
is_of_connections (calls.Accepted server) = true
is_of_connections (calls.OpenConn permits) = true
is_of_connections (calls.FrameIn conn frame) = true
is_of_connections (calls.TakeOut conn) = true
is_of_connections (calls.CloseConn conn) = true
is_of_connections _ = false

-- calls that the hub makes so far, and whose effects its stores keep: those of the event bus and of verticles
abbrev pub is_stored : Call → Bool
is_stored call = not (hands_over call) && not (is_of_connections call)

-- an entry of such a call, which has nothing to do with connections
pub record IsStored (new : Traced) : Type 0 where
  pub call : is_stored new.entry.call ≡ true
  pub mark : new.mark ≡ no_mark

-- each entry of the history is one of them
abbrev pub AreStored : List Traced → Type 0
AreStored [] = Unit {0}
AreStored (new ∷ others) = IsStored new × AreStored others
