-- Worked examples: promises, composites and shared servers, and the machine's replies.
use Rattle.std.specs.Prelude.{pos, codes, List, [], ◌∷◌}
use Rattle.std.specs.List.{repeat}
use Rattle.vx_data.specs.declared.ids.PromiseId.{PromiseId}
use Rattle.vx_message.specs.declared.Compose.TheVariants as ways
use Rattle.vx_message.specs.declared.DoneResult.TheVariants as starts
use Rattle.vx_message.specs.declared.Owner.TheVariants as owners
use Rattle.vx_call.specs.declared.call.Call.{Call}
use Rattle.vx_call.specs.declared.call.Call.TheVariants as calls
use Rattle.vx_call.specs.declared.call.End.TheVariants as ends
use Rattle.vx_call.specs.declared.reply.Task.TheVariants as tasks
use Rattle.vx_call.specs.declared.reply.Refusal.TheVariants as refusals
use Rattle.vx_call.specs.declared.reply.Reply.{Reply}
use Rattle.vx_call.specs.declared.reply.Reply.TheVariants as replies
use Rattle.vx_call.specs.Runs.{By}
use Rattle.vx_call_examples.specs.Forms.{entry, context, instance, deployment, pass, promise, server, by, finish, refused, deploy, take_loop, take_own, task, done, promised, serving, accepted_by, awaiting, promise_end, value, failure, complete, break, await, listen, accepted}

-- ## A composite of two

abbrev pub both : List Call
both =
    calls.NewPromise
    ∷ calls.NewPromise
    ∷ calls.Compose ways.All (promise 0 ∷ promise 1 ∷ [])
    ∷ calls.NewContext
    ∷ calls.Await (context 3) (promise 2)
    ∷ complete 0 5
    ∷ complete 0 6
    ∷ complete 1 6
    ∷ take_own 3
    ∷ []

abbrev pub both_replies : List Reply
both_replies =
    promised 0
    ∷ promised 1
    ∷ promised 2
    ∷ replies.Context (context 3)
    ∷ awaiting 4
    ∷ done
    ∷ refused (refusals.Settled (entry 5))
    ∷ done
    ∷ promise_end 4 2 (value 2)
    ∷ []

-- ## Two servers at one host and port

abbrev pub shared_server : List Call
shared_server = calls.NewContext ∷ listen 80 ∷ listen 80 ∷ accepted 1 ∷ accepted 1 ∷ accepted 2 ∷ take_own 0 ∷ []

abbrev pub shared_server_replies : List Reply
shared_server_replies =
    replies.Context (context 0)
    ∷ serving 1
    ∷ serving 2
    ∷ accepted_by 1
    ∷ accepted_by 2
    ∷ accepted_by 1
    ∷ task (tasks.Connected (server 1) (entry 3))
    ∷ []

-- ## All, any and join, with failures

-- promises 1, 2 and 3; the composites 4 to 8; promise 3 fails first, then 1, and 2 succeeds last
abbrev pub three_parts : List PromiseId
three_parts = promise 1 ∷ promise 2 ∷ promise 3 ∷ []

abbrev pub with_failures : List Call
with_failures =
    calls.NewContext
    ∷ calls.NewPromise
    ∷ calls.NewPromise
    ∷ calls.NewPromise
    ∷ calls.Compose ways.All three_parts
    ∷ calls.Compose ways.Any three_parts
    ∷ calls.Compose ways.Join three_parts
    ∷ calls.Compose ways.Any (promise 3 ∷ promise 1 ∷ [])
    ∷ await 6
    ∷ await 7
    ∷ await 5
    ∷ await 4
    ∷ break 3 30
    ∷ break 1 10
    ∷ complete 2 20
    ∷ take_own 0
    ∷ finish
    ∷ take_own 0
    ∷ finish
    ∷ take_own 0
    ∷ finish
    ∷ take_own 0
    ∷ finish
    ∷ take_own 0
    ∷ []

abbrev pub with_failures_replies : List Reply
with_failures_replies =
    replies.Context (context 0)
    ∷ promised 1
    ∷ promised 2
    ∷ promised 3
    ∷ promised 4
    ∷ promised 5
    ∷ promised 6
    ∷ promised 7
    ∷ awaiting 8
    ∷ awaiting 9
    ∷ awaiting 10
    ∷ awaiting 11
    ∷ done
    ∷ done
    ∷ done
    ∷ promise_end 11 4 (failure 30)
    ∷ done
    ∷ promise_end 9 7 (failure 10)
    ∷ done
    ∷ promise_end 8 6 (failure 30)
    ∷ done
    ∷ promise_end 10 5 (value 1)
    ∷ done
    ∷ replies.Idle
    ∷ []

-- ## A part twice, composites of composites, and parts that are settled before

-- 1 is settled at 6, and with it 2, which has it twice, 3 of 2 and 4 of 3 and 1: their ends come by the Awaits' entries.
-- Composites of settled parts are settled at their own entries, and an Await of one is ready at once.
abbrev pub of_composites : List Call
of_composites =
    calls.NewContext
    ∷ calls.NewPromise
    ∷ calls.Compose ways.All (promise 1 ∷ promise 1 ∷ [])
    ∷ calls.Compose ways.Any (promise 2 ∷ [])
    ∷ calls.Compose ways.Join (promise 3 ∷ promise 1 ∷ promise 2 ∷ [])
    ∷ await 4
    ∷ await 2
    ∷ await 4
    ∷ await 3
    ∷ complete 1 9
    ∷ calls.Compose ways.Any (promise 4 ∷ promise 1 ∷ [])
    ∷ await 10
    ∷ complete 10 1
    ∷ complete 2 1
    ∷ take_own 0
    ∷ finish
    ∷ take_own 0
    ∷ finish
    ∷ take_own 0
    ∷ finish
    ∷ take_own 0
    ∷ finish
    ∷ take_own 0
    ∷ finish
    ∷ take_own 0
    ∷ []

abbrev pub of_composites_replies : List Reply
of_composites_replies =
    replies.Context (context 0)
    ∷ promised 1
    ∷ promised 2
    ∷ promised 3
    ∷ promised 4
    ∷ awaiting 5
    ∷ awaiting 6
    ∷ awaiting 7
    ∷ awaiting 8
    ∷ done
    ∷ promised 10
    ∷ awaiting 11
    ∷ refused refusals.NotPending
    ∷ refused refusals.NotPending
    ∷ promise_end 5 4 (value 3)
    ∷ done
    ∷ promise_end 6 2 (value 2)
    ∷ done
    ∷ promise_end 7 4 (value 3)
    ∷ done
    ∷ promise_end 8 3 (value 0)
    ∷ done
    ∷ promise_end 11 10 (value 0)
    ∷ done
    ∷ replies.Idle
    ∷ []

-- ## First and last by the settling entry, where parts were settled before

-- of the parts 3 fails first and 1 last; 6 takes the code of the first, 7 that of the last, 8 that of the part with the
-- least place among those that were settled by one entry
abbrev pub settled_before : List Call
settled_before =
    calls.NewContext
    ∷ calls.NewPromise
    ∷ calls.Compose ways.All (promise 1 ∷ [])
    ∷ calls.NewPromise
    ∷ break 3 30
    ∷ break 1 10
    ∷ calls.Compose ways.Join (promise 2 ∷ promise 1 ∷ promise 3 ∷ [])
    ∷ calls.Compose ways.Any (promise 1 ∷ promise 3 ∷ [])
    ∷ calls.Compose ways.All (promise 7 ∷ promise 2 ∷ promise 1 ∷ [])
    ∷ await 6
    ∷ await 7
    ∷ await 8
    ∷ await 3
    ∷ take_own 0
    ∷ finish
    ∷ take_own 0
    ∷ finish
    ∷ take_own 0
    ∷ finish
    ∷ take_own 0
    ∷ []

abbrev pub settled_before_replies : List Reply
settled_before_replies =
    replies.Context (context 0)
    ∷ promised 1
    ∷ promised 2
    ∷ promised 3
    ∷ done
    ∷ done
    ∷ promised 6
    ∷ promised 7
    ∷ promised 8
    ∷ awaiting 9
    ∷ awaiting 10
    ∷ awaiting 11
    ∷ awaiting 12
    ∷ promise_end 9 6 (failure 30)
    ∷ done
    ∷ promise_end 10 7 (failure 10)
    ∷ done
    ∷ promise_end 11 8 (failure 10)
    ∷ done
    ∷ promise_end 12 3 (failure 30)
    ∷ []

-- ## A verticle stops, with what it awaits and where it listens

-- The verticle of deployment 1 awaits promise 3 twice, once before and once behind its settling, and listens at "h". The
-- second Await's end, and the connection that waits, go with it; context 0 keeps its own. Where another listens later the
-- turns begin anew.
-- what waited for the verticle is gone
abbrev pub nothing_waits : Reply
nothing_waits = replies.Idle

abbrev pub closes_with_it : List By
closes_with_it =
    by 0 calls.NewContext
    ∷ by 0 (deploy (context 0) 1)
    ∷ by 0 calls.NewPass
    ∷ by 0 calls.NewPromise
    ∷ by 0 calls.NewPromise
    ∷ by 1 (take_loop 0)
    ∷ by 1 (calls.Listen (instance 1 0) (codes "h") 80)
    ∷ by 1 (calls.Await (instance 1 0) (promise 3))
    ∷ by 1 (calls.Await (instance 1 0) (promise 4))
    ∷ by 0 (await 3)
    ∷ by 0 (accepted 6)
    ∷ by 0 (accepted 6)
    ∷ by 0 (accepted 6)
    ∷ by 0 (complete 4 1)
    ∷ by 1 (calls.Finish (ends.Fail (pos 7)))
    ∷ by 0 (accepted 6)
    ∷ by 0 (complete 3 2)
    ∷ by 1 (take_loop 0)
    ∷ by 0 (listen 80)
    ∷ by 0 (listen 80)
    ∷ by 0 (listen 81)
    ∷ by 0 (accepted 19)
    ∷ by 0 (accepted 20)
    ∷ by 0 (accepted 19)
    ∷ by 0 (take_own 0)
    ∷ by 0 finish
    ∷ by 0 (take_own 0)
    ∷ by 0 finish
    ∷ by 0 (take_own 0)
    ∷ by 0 finish
    ∷ by 0 (take_own 0)
    ∷ by 0 finish
    ∷ by 0 (take_own 0)
    ∷ []

abbrev pub closes_with_it_replies : List Reply
closes_with_it_replies =
    replies.Context (context 0)
    ∷ replies.Deployment (deployment 1)
    ∷ replies.Pass (pass 1)
    ∷ promised 3
    ∷ promised 4
    ∷ task (tasks.Start (instance 1 0))
    ∷ serving 6
    ∷ awaiting 7
    ∷ awaiting 8
    ∷ awaiting 9
    ∷ accepted_by 6
    ∷ accepted_by 6
    ∷ accepted_by 6
    ∷ done
    ∷ done
    ∷ refused refusals.NoServer
    ∷ done
    ∷ nothing_waits
    ∷ serving 18
    ∷ serving 19
    ∷ serving 20
    ∷ accepted_by 18
    ∷ accepted_by 20
    ∷ accepted_by 19
    ∷ task (tasks.DeployEnd (deployment 1) (starts.Fail (pos 7)))
    ∷ done
    ∷ promise_end 9 3 (value 2)
    ∷ done
    ∷ task (tasks.Connected (server 18) (entry 21))
    ∷ done
    ∷ task (tasks.Connected (server 20) (entry 22))
    ∷ done
    ∷ task (tasks.Connected (server 19) (entry 23))
    ∷ []

-- ## What is refused

-- each refusal of these calls, in the order in which they are tested: two causes at once give the first
abbrev pub misfit_promises : List By
misfit_promises =
    by 0 calls.NewContext
    ∷ by 0 (complete 0 1)
    ∷ by 0 (break 9 1)
    ∷ by 0 (calls.Compose ways.All (promise 9 ∷ []))
    ∷ by 0 (calls.Compose ways.All [])
    ∷ by 0 calls.NewPromise
    ∷ by 0 (calls.Compose ways.All (repeat 65 (promise 5 ∷ [])))
    ∷ by 0 (calls.Compose ways.Join (repeat 64 (promise 5 ∷ [])))
    ∷ by 0 (calls.Compose ways.Any (promise 5 ∷ promise 8 ∷ []))
    ∷ by 0 (calls.Await (context 5) (promise 9))
    ∷ by 0 (await 9)
    ∷ by 0 (break 7 1)
    ∷ by 0 (break 5 1)
    ∷ by 0 (break 7 1)
    ∷ by 0 (complete 5 1)
    ∷ by 0 (calls.Listen (context 5) [] 0)
    ∷ by 0 (calls.Listen (context 0) [] 0)
    ∷ by 0 (listen 0)
    ∷ by 0 (accepted 0)
    ∷ by 0 (deploy (context 0) 1)
    ∷ by 0 calls.NewPass
    ∷ by 1 (calls.Listen (context 0) [] 0)
    ∷ by 1 (await 9)
    ∷ by 1 (await 5)
    ∷ by 1 (take_loop 0)
    ∷ by 0 (calls.Await (instance 19 0) (promise 5))
    ∷ by 0 (listen 80)
    ∷ by 1 (calls.StartDone (starts.Fail (pos 7)))
    ∷ by 1 calls.NewPromise
    ∷ by 1 (complete 5 1)
    ∷ by 1 (complete 9 1)
    ∷ by 1 (calls.Compose ways.All [])
    ∷ by 1 (calls.Compose ways.All (promise 9 ∷ []))
    ∷ by 1 (calls.Await (instance 19 0) (promise 5))
    ∷ by 1 (calls.Listen (instance 19 0) [] 0)
    ∷ by 1 (accepted 26)
    ∷ by 1 (accepted 25)
    ∷ by 1 finish
    ∷ by 0 (calls.Await (instance 19 0) (promise 5))
    ∷ by 1 (accepted 26)
    ∷ by 0 calls.Close
    ∷ by 0 calls.NewPromise
    ∷ []

abbrev pub misfit_promises_replies : List Reply
misfit_promises_replies =
    replies.Context (context 0)
    ∷ refused refusals.NoPromise
    ∷ refused refusals.NoPromise
    ∷ refused refusals.NoPromise
    ∷ refused refusals.BadCount
    ∷ promised 5
    ∷ refused refusals.BadCount
    ∷ promised 7
    ∷ refused refusals.NoPromise
    ∷ refused refusals.NoContext
    ∷ refused refusals.NoPromise
    ∷ refused refusals.NotPending
    ∷ done
    ∷ refused refusals.NotPending
    ∷ refused (refusals.Settled (entry 12))
    ∷ refused refusals.NoContext
    ∷ refused refusals.BadAddress
    ∷ refused refusals.BadCount
    ∷ refused refusals.NoServer
    ∷ replies.Deployment (deployment 19)
    ∷ replies.Pass (pass 1)
    ∷ refused (refusals.NotYours (owners.Pass (pass 0)))
    ∷ refused refusals.NoPromise
    ∷ refused (refusals.NotYours (owners.Pass (pass 0)))
    ∷ task (tasks.Start (instance 19 0))
    ∷ refused (refusals.NotYours (owners.Context (instance 19 0)))
    ∷ serving 26
    ∷ done
    ∷ refused (refusals.ContextClosed (entry 27))
    ∷ refused (refusals.ContextClosed (entry 27))
    ∷ refused refusals.NoPromise
    ∷ refused (refusals.ContextClosed (entry 27))
    ∷ refused refusals.NoPromise
    ∷ refused (refusals.ContextClosed (entry 27))
    ∷ refused (refusals.ContextClosed (entry 27))
    ∷ refused (refusals.ContextClosed (entry 27))
    ∷ refused refusals.NoServer
    ∷ done
    ∷ refused (refusals.NotYours (owners.Context (instance 19 0)))
    ∷ accepted_by 26
    ∷ done
    ∷ refused (refusals.HostClosed (entry 40))
    ∷ []
