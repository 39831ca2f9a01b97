-- Worked examples: verticles, lanes, timers and code that is handed over, and the machine's replies.
use Rattle.std.specs.Prelude.{ℕ, ℤ, pos, codes, Bool, true, false, List, [], ◌∷◌, None, Some}
use Rattle.vx_data.specs.Tree as tree
use Rattle.vx_message.specs.declared.Lane.TheVariants as lanes
use Rattle.vx_message.specs.declared.DoneResult.TheVariants as results
use Rattle.vx_message.specs.declared.Owner.TheVariants as owners
use Rattle.vx_message.specs.declared.JobResult.TheVariants as jobs
use Rattle.vx_call.specs.declared.call.Call.{Call}
use Rattle.vx_call.specs.declared.call.Call.TheVariants as calls
use Rattle.vx_call.specs.declared.call.End.TheVariants as ends
use Rattle.vx_call.specs.declared.reply.To.TheVariants as reached
use Rattle.vx_call.specs.declared.reply.Task.TheVariants as tasks
use Rattle.vx_call.specs.declared.reply.Refusal.TheVariants as refusals
use Rattle.vx_call.specs.declared.reply.Reply.{Reply}
use Rattle.vx_call.specs.declared.reply.Reply.TheVariants as replies
use Rattle.vx_call.specs.Runs.{By}
use Rattle.vx_call.specs.Settled.{no_handlers, timeout}
use Rattle.vx_call_examples.specs.Forms.{entry, context, consumer, instance, deployment, timer, queued, pool, pass, by, plain, send, finish, sent_to, delivered, ended, refused, deploy, take_loop, take_pool, take_own, task, done}

-- ## A parent starts as its child has, and stops after it

-- the parent's Stop does not wait beside that of its child
abbrev pub parent_waits : Reply
parent_waits = replies.Idle

abbrev pub parent_and_child : List Call
parent_and_child =
    calls.NewContext
    ∷ calls.Deploy false None None 1
    ∷ take_loop 0
    ∷ deploy (instance 1 0) 1
    ∷ calls.Finish ends.Later
    ∷ take_loop 1
    ∷ calls.Register (instance 3 0) (codes "p") 1000
    ∷ finish
    ∷ take_loop 0
    ∷ calls.StartDone results.Ok
    ∷ finish
    ∷ calls.Undeploy (deployment 1) (Some (context 0))
    ∷ take_loop 0
    ∷ take_loop 1
    ∷ finish
    ∷ send (codes "p") 1
    ∷ take_loop 0
    ∷ finish
    ∷ take_own 0
    ∷ finish
    ∷ calls.Close
    ∷ []

abbrev pub parent_and_child_replies : List Reply
parent_and_child_replies =
    replies.Context (context 0)
    ∷ replies.Deployment (deployment 1)
    ∷ task (tasks.Start (instance 1 0))
    ∷ replies.Deployment (deployment 3)
    ∷ done
    ∷ task (tasks.Start (instance 3 0))
    ∷ replies.Consumer (consumer 6)
    ∷ done
    ∷ task (tasks.DeployEnd (deployment 3) results.Ok)
    ∷ done
    ∷ done
    ∷ done
    ∷ parent_waits
    ∷ task (tasks.Stop (instance 3 0))
    ∷ done
    ∷ replies.Sent reached.None
    ∷ task (tasks.Stop (instance 1 0))
    ∷ done
    ∷ task (tasks.UndeployEnd (deployment 1))
    ∷ done
    ∷ done
    ∷ []

-- ## A failed start ends its deployment

abbrev pub failed_start : List Call
failed_start =
    calls.NewContext ∷ deploy (context 0) 2 ∷ take_loop 0 ∷ finish ∷ take_loop 1 ∷ calls.Finish (ends.Fail (pos 7)) ∷ take_loop 1 ∷ take_loop 0 ∷ finish ∷ take_own 0 ∷ []

abbrev pub failed_start_replies : List Reply
failed_start_replies =
    replies.Context (context 0)
    ∷ replies.Deployment (deployment 1)
    ∷ task (tasks.Start (instance 1 0))
    ∷ done
    ∷ task (tasks.Start (instance 1 1))
    ∷ done
    ∷ replies.Idle
    ∷ task (tasks.Stop (instance 1 0))
    ∷ done
    ∷ task (tasks.DeployEnd (deployment 1) (results.Fail (pos 7)))
    ∷ []

-- ## Blocking code goes in turn, or at once

abbrev pub block : Bool → Call
block ordered = calls.Blocking (context 0) ordered None

abbrev pub jobs_in_turn : List By
jobs_in_turn =
    by 0 calls.NewContext
    ∷ by 0 (block true)
    ∷ by 0 (block true)
    ∷ by 0 calls.NewPass
    ∷ by 0 take_pool
    ∷ by 1 take_pool
    ∷ by 0 (calls.Finish (ends.Value (pos 5)))
    ∷ by 1 take_pool
    ∷ by 1 finish
    ∷ by 0 (take_own 0)
    ∷ []

abbrev pub jobs_in_turn_replies : List Reply
jobs_in_turn_replies =
    replies.Context (context 0)
    ∷ replies.Queued (queued 1)
    ∷ replies.Queued (queued 2)
    ∷ replies.Pass (pass 1)
    ∷ task (tasks.Job (queued 1))
    ∷ replies.Idle
    ∷ done
    ∷ task (tasks.Job (queued 2))
    ∷ done
    ∷ task (tasks.JobDone (queued 1) (jobs.Value (pos 5)))
    ∷ []

abbrev pub free_jobs : List By
free_jobs = by 0 calls.NewContext ∷ by 0 (block false) ∷ by 0 (block false) ∷ by 0 calls.NewPass ∷ by 0 take_pool ∷ by 1 take_pool ∷ []

abbrev pub free_jobs_replies : List Reply
free_jobs_replies =
    replies.Context (context 0)
    ∷ replies.Queued (queued 1)
    ∷ replies.Queued (queued 2)
    ∷ replies.Pass (pass 1)
    ∷ task (tasks.Job (queued 1))
    ∷ task (tasks.Job (queued 2))
    ∷ []

-- ## Blocking code of a verticle is none of its handlers

-- a pass that holds it may use nothing of the verticle, and what it deploys is below nothing
abbrev pub no_handler : List Call
no_handler =
    calls.Deploy false None None 1
    ∷ take_loop 0
    ∷ calls.Blocking (instance 0 0) true None
    ∷ finish
    ∷ take_pool
    ∷ calls.StartDone results.Ok
    ∷ calls.StopDone
    ∷ calls.Register (instance 0 0) (codes "a") 1000
    ∷ calls.Deploy false None None 1
    ∷ finish
    ∷ calls.Undeploy (deployment 0) None
    ∷ take_loop 0
    ∷ finish
    ∷ take_loop 0
    ∷ finish
    ∷ calls.Undeploy (deployment 0) None
    ∷ calls.Close
    ∷ []

abbrev pub no_handler_replies : List Reply
no_handler_replies =
    replies.Deployment (deployment 0)
    ∷ task (tasks.Start (instance 0 0))
    ∷ replies.Queued (queued 2)
    ∷ done
    ∷ task (tasks.Job (queued 2))
    ∷ refused refusals.NotHolding
    ∷ refused refusals.NotHolding
    ∷ refused (refusals.NotYours (owners.Context (instance 0 0)))
    ∷ replies.Deployment (deployment 8)
    ∷ done
    ∷ done
    ∷ task (tasks.JobDone (queued 2) (jobs.Value (pos 0)))
    ∷ done
    ∷ task (tasks.Stop (instance 0 0))
    ∷ done
    ∷ refused refusals.NoDeployment
    ∷ refused (refusals.StillDeployed (deployment 8))
    ∷ []

-- ## A worker verticle is run by one pass at a time

abbrev pub one_worker : List By
one_worker =
    by 0 (calls.Deploy true None None 1)
    ∷ by 0 calls.NewPass
    ∷ by 0 take_pool
    ∷ by 0 (calls.Register (instance 0 0) (codes "w") 1000)
    ∷ by 0 finish
    ∷ by 0 (send (codes "w") 1)
    ∷ by 0 (send (codes "w") 2)
    ∷ by 0 take_pool
    ∷ by 1 take_pool
    ∷ by 0 finish
    ∷ by 1 take_pool
    ∷ []

abbrev pub one_worker_replies : List Reply
one_worker_replies =
    replies.Deployment (deployment 0)
    ∷ replies.Pass (pass 1)
    ∷ task (tasks.Start (instance 0 0))
    ∷ replies.Consumer (consumer 3)
    ∷ done
    ∷ sent_to 3
    ∷ sent_to 3
    ∷ delivered 3 5 (codes "w") (tree.int (pos 1))
    ∷ replies.Idle
    ∷ done
    ∷ delivered 3 6 (codes "w") (tree.int (pos 2))
    ∷ []

-- ## A periodic timer

abbrev pub periodic_timer : List Call
periodic_timer = calls.NewContext ∷ calls.SetTimer (context 0) 10 true ∷ calls.Advance 35 ∷ take_own 0 ∷ finish ∷ calls.Advance 39 ∷ calls.Advance 40 ∷ []

abbrev pub periodic_timer_replies : List Reply
periodic_timer_replies =
    replies.Context (context 0) ∷ replies.Timer (timer 1) ∷ replies.Fired 1 ∷ task (tasks.Fire (timer 1)) ∷ done ∷ replies.Fired 0 ∷ replies.Fired 1 ∷ []

-- ## While a fire of a periodic timer waits, no other comes

-- nothing fires with an Advance that finds a fire waiting
abbrev pub no_second_fire : Reply
no_second_fire = replies.Fired 0

abbrev pub waiting_fire : List Call
waiting_fire =
    calls.NewContext
    ∷ calls.SetTimer (context 0) 10 true
    ∷ calls.Advance 10
    ∷ calls.Advance 20
    ∷ take_own 0
    ∷ finish
    ∷ take_own 0
    ∷ calls.Advance 30
    ∷ take_own 0
    ∷ []

abbrev pub waiting_fire_replies : List Reply
waiting_fire_replies =
    replies.Context (context 0)
    ∷ replies.Timer (timer 1)
    ∷ replies.Fired 1
    ∷ no_second_fire
    ∷ task (tasks.Fire (timer 1))
    ∷ done
    ∷ replies.Idle
    ∷ replies.Fired 1
    ∷ task (tasks.Fire (timer 1))
    ∷ []

-- ## A closed hub, and a loop that is not there

abbrev pub closed_hub : List Call
closed_hub = calls.Close ∷ calls.NewContext ∷ take_pool ∷ calls.Close ∷ []

abbrev pub closed_hub_replies : List Reply
closed_hub_replies = done ∷ refused (refusals.HostClosed (entry 0)) ∷ replies.Stopped ∷ refused (refusals.HostClosed (entry 0)) ∷ []

abbrev pub no_loop : List Call
no_loop = take_loop 16 ∷ []

abbrev pub no_loop_replies : List Reply
no_loop_replies = refused refusals.NoLane ∷ []

-- ## A named pool runs as many tasks as it has workers

abbrev pub take_named : ℕ → Call
take_named n = calls.Take (lanes.Named (pool n))

abbrev pub named_pool : List By
named_pool =
    by 0 (calls.AddPool (codes "p") 1)
    ∷ by 0 (calls.Deploy true (Some (codes "p")) None 2)
    ∷ by 0 calls.NewPass
    ∷ by 0 (take_named 0)
    ∷ by 1 (take_named 0)
    ∷ by 0 finish
    ∷ by 1 (take_named 0)
    ∷ by 0 (calls.AddPool (codes "p") 2)
    ∷ by 0 (calls.Deploy true (Some (codes "q")) None 1)
    ∷ by 0 (take_named 9)
    ∷ []

abbrev pub named_pool_replies : List Reply
named_pool_replies =
    replies.Pool (pool 0)
    ∷ replies.Deployment (deployment 1)
    ∷ replies.Pass (pass 1)
    ∷ task (tasks.Start (instance 1 0))
    ∷ replies.Idle
    ∷ done
    ∷ task (tasks.Start (instance 1 1))
    ∷ refused (refusals.PoolTaken (entry 0))
    ∷ refused refusals.NoPool
    ∷ refused refusals.NoLane
    ∷ []

-- ## Code that is handed over

abbrev pub run : List ℤ → Call
run argument = calls.RunOn (context 0) (Some argument)

abbrev pub handed_over : List Call
handed_over =
    calls.NewContext
    ∷ run (pos 0 ∷ [])
    ∷ take_own 0
    ∷ calls.Finish (ends.Value (pos 0))
    ∷ run (pos 1 ∷ pos 1 ∷ [])
    ∷ take_own 0
    ∷ calls.Publish (codes "once") (tree.int (pos 1)) plain
    ∷ calls.Finish (ends.Value (pos 1))
    ∷ []

abbrev pub handed_over_replies : List Reply
handed_over_replies =
    replies.Context (context 0)
    ∷ replies.Queued (queued 1)
    ∷ task (tasks.Run (queued 1))
    ∷ done
    ∷ replies.Queued (queued 4)
    ∷ task (tasks.Run (queued 4))
    ∷ replies.Published []
    ∷ done
    ∷ []

-- ## A start that fails ends what was deployed below it, and settles the requests that nobody can answer any more

abbrev pub failing_parent : List By
failing_parent =
    by 0 calls.NewContext
    ∷ by 0 calls.NewPass
    ∷ by 0 (deploy (context 0) 1)
    ∷ by 1 (take_loop 0)
    ∷ by 1 (calls.Register (instance 2 0) (codes "a") 1000)
    ∷ by 1 (deploy (instance 2 0) 1)
    ∷ by 0 (calls.Request (context 0) (codes "a") (tree.int (pos 1)) plain 30000 None)
    ∷ by 0 (take_loop 1)
    ∷ by 0 finish
    ∷ by 1 (calls.StartDone (results.Fail (pos 3)))
    ∷ by 1 (send (codes "a") 1)
    ∷ by 1 finish
    ∷ by 0 (take_own 0)
    ∷ by 0 finish
    ∷ by 0 (take_loop 0)
    ∷ by 0 (take_loop 1)
    ∷ by 0 calls.StopDone
    ∷ by 0 finish
    ∷ by 0 (take_own 0)
    ∷ by 0 (calls.Undeploy (deployment 2) None)
    ∷ []

abbrev pub failing_parent_replies : List Reply
failing_parent_replies =
    replies.Context (context 0)
    ∷ replies.Pass (pass 1)
    ∷ replies.Deployment (deployment 2)
    ∷ task (tasks.Start (instance 2 0))
    ∷ replies.Consumer (consumer 4)
    ∷ replies.Deployment (deployment 5)
    ∷ replies.Asked (reached.Consumer (consumer 4))
    ∷ task (tasks.Start (instance 5 0))
    ∷ done
    ∷ done
    ∷ refused (refusals.ContextClosed (entry 9))
    ∷ done
    ∷ ended 6 no_handlers
    ∷ done
    ∷ replies.Idle
    ∷ task (tasks.Stop (instance 5 0))
    ∷ done
    ∷ done
    ∷ task (tasks.DeployEnd (deployment 2) (results.Fail (pos 3)))
    ∷ refused refusals.NoDeployment
    ∷ []

-- ## What verticles are refused

-- nothing runs; the context of a verticle is its own; below one that was asked to end nothing is deployed
abbrev pub misfit_verticles : List By
misfit_verticles =
    by 0 calls.NewContext
    ∷ by 0 (calls.StartDone results.Ok)
    ∷ by 0 (calls.Deploy false None (Some (context 9)) 1)
    ∷ by 0 (calls.Deploy false None None 0)
    ∷ by 0 (calls.Deploy false None None 65)
    ∷ by 0 (calls.SetLoops 17)
    ∷ by 0 (calls.AddPool (codes "p") 21)
    ∷ by 0 (calls.Undeploy (deployment 4) None)
    ∷ by 0 (deploy (context 0) 1)
    ∷ by 0 (calls.Register (instance 8 0) (codes "a") 1000)
    ∷ by 0 calls.Close
    ∷ by 0 (take_loop 0)
    ∷ by 0 calls.StopDone
    ∷ by 0 (calls.StartDone results.Ok)
    ∷ by 0 (calls.StartDone results.Ok)
    ∷ by 0 (calls.Undeploy (deployment 8) None)
    ∷ by 0 (calls.Undeploy (deployment 8) None)
    ∷ by 0 (deploy (instance 8 0) 1)
    ∷ by 0 calls.NewPass
    ∷ by 1 (take_loop 0)
    ∷ by 0 finish
    ∷ by 1 (take_own 0)
    ∷ by 1 (take_loop 0)
    ∷ by 1 calls.StopDone
    ∷ by 1 (calls.Undeploy (deployment 8) None)
    ∷ by 1 (calls.Register (context 0) (codes "a") 1000)
    ∷ by 1 finish
    ∷ by 0 (take_own 0)
    ∷ by 0 (calls.StartDone results.Ok)
    ∷ []

abbrev pub misfit_verticles_replies : List Reply
misfit_verticles_replies =
    replies.Context (context 0)
    ∷ refused refusals.NotHolding
    ∷ refused refusals.NoContext
    ∷ refused refusals.BadCount
    ∷ refused refusals.BadCount
    ∷ refused refusals.BadCount
    ∷ refused refusals.BadCount
    ∷ refused refusals.NoDeployment
    ∷ replies.Deployment (deployment 8)
    ∷ refused (refusals.NotYours (owners.Context (instance 8 0)))
    ∷ refused (refusals.StillDeployed (deployment 8))
    ∷ task (tasks.Start (instance 8 0))
    ∷ refused refusals.NotPending
    ∷ done
    ∷ refused refusals.NotPending
    ∷ done
    ∷ refused (refusals.Stopping (entry 15))
    ∷ refused (refusals.Stopping (entry 15))
    ∷ replies.Pass (pass 1)
    ∷ refused (refusals.LaneHeld (pass 0))
    ∷ done
    ∷ refused (refusals.NotYours (owners.Pass (pass 0)))
    ∷ task (tasks.Stop (instance 8 0))
    ∷ done
    ∷ refused refusals.NoDeployment
    ∷ refused (refusals.NotYours (owners.Pass (pass 0)))
    ∷ done
    ∷ task (tasks.DeployEnd (deployment 8) results.Ok)
    ∷ refused refusals.NoDeployment
    ∷ []

-- ## What timers are refused, and what comes with an Advance in which order

abbrev pub set : ℕ → Bool → Call
set delay periodic = calls.SetTimer (context 0) delay periodic

abbrev pub timers_and_requests : List Call
timers_and_requests =
    calls.NewContext
    ∷ set 0 false
    ∷ calls.Register (context 0) (codes "a") 1000
    ∷ calls.Pause (consumer 2)
    ∷ set 20 false
    ∷ calls.Request (context 0) (codes "a") (tree.int (pos 1)) plain 10 None
    ∷ set 10 true
    ∷ set 30 false
    ∷ calls.Advance 20
    ∷ calls.CancelTimer (timer 4)
    ∷ calls.CancelTimer (timer 4)
    ∷ take_own 0
    ∷ finish
    ∷ take_own 0
    ∷ finish
    ∷ take_own 0
    ∷ calls.Advance 30
    ∷ take_own 0
    ∷ finish
    ∷ take_own 0
    ∷ finish
    ∷ take_own 0
    ∷ calls.CancelTimer (timer 7)
    ∷ []

abbrev pub timers_and_requests_replies : List Reply
timers_and_requests_replies =
    replies.Context (context 0)
    ∷ refused refusals.BadDelay
    ∷ replies.Consumer (consumer 2)
    ∷ done
    ∷ replies.Timer (timer 4)
    ∷ replies.Asked (reached.Consumer (consumer 2))
    ∷ replies.Timer (timer 6)
    ∷ replies.Timer (timer 7)
    ∷ replies.Fired 3
    ∷ done
    ∷ refused refusals.NoTimer
    ∷ ended 5 timeout
    ∷ done
    ∷ task (tasks.Fire (timer 6))
    ∷ done
    ∷ replies.Idle
    ∷ replies.Fired 2
    ∷ task (tasks.Fire (timer 6))
    ∷ done
    ∷ task (tasks.Fire (timer 7))
    ∷ done
    ∷ replies.Idle
    ∷ refused refusals.NoTimer
    ∷ []
