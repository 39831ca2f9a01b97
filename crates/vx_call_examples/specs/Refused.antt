-- Worked examples of refusals: for each call all causes in the order in which they are tested, each with most of the
-- later ones beside it, and the machine's replies.
use Rattle.std.specs.Prelude.{ℕ, pos, codes, true, false, List, [], ◌∷◌, ◌++◌, None, Some, replicate, zero, suc}
use Rattle.vx_data.specs.declared.ids.RuleId.{RuleId}
use Rattle.vx_data.specs.Tree.{Tree}
use Rattle.vx_data.specs.Tree as tree
use Rattle.vx_message.specs.declared.Options.{Options}
use Rattle.vx_message.specs.declared.Lane.TheVariants as lanes
use Rattle.vx_message.specs.declared.DoneResult.TheVariants as results
use Rattle.vx_message.specs.declared.Owner.TheVariants as owners
use Rattle.vx_message.specs.declared.rules.CodecForm.TheVariants as forms
use Rattle.vx_message.specs.declared.rules.Condition.TheVariants as conditions
use Rattle.vx_message.specs.declared.rules.Side.TheVariants as sides
use Rattle.vx_message.specs.declared.rules.Verdict.TheVariants as verdicts
use Rattle.vx_message.specs.declared.frame.InFrame.TheVariants as frames
use Rattle.vx_call.specs.declared.call.Call.{Call}
use Rattle.vx_call.specs.declared.call.Call.TheVariants as calls
use Rattle.vx_call.specs.declared.reply.To.TheVariants as reached
use Rattle.vx_call.specs.declared.reply.Task.TheVariants as tasks
use Rattle.vx_call.specs.declared.reply.Refusal.TheVariants as refusals
use Rattle.vx_call.specs.declared.reply.Reply.{Reply}
use Rattle.vx_call.specs.declared.reply.Reply.TheVariants as replies
use Rattle.vx_call.specs.declared.history.Traced.{Traced}
use Rattle.vx_call.specs.History.{plain_entry, no_mark}
use Rattle.vx_call.specs.Runs.{By}
use Rattle.vx_call_examples.specs.Forms.{pass_0, entry, context, consumer, message, deployment, timer, pool, pass, conn, by, plain, register, send, finish, sent_to, handed, delivered, asked_of, refused, take_loop, take_own, task, done, number, opens, frame, out}

-- ## What is there before: pass 1 holds the start of a verticle that has failed, at entry 15

abbrev pub set_up : List By
set_up =
    by 0 calls.NewContext
    ∷ by 0 calls.NewPass
    ∷ by 1 calls.NewContext
    ∷ by 1 (calls.Register (context 2) (codes "b") 1000)
    ∷ by 1 (calls.SetTimer (context 2) 5 false)
    ∷ by 0 (calls.Request (context 0) (codes "b") (number 1) plain 30000 None)
    ∷ by 0 (send (codes "b") 1)
    ∷ by 1 (take_own 2)
    ∷ by 1 finish
    ∷ by 1 (take_own 2)
    ∷ by 1 finish
    ∷ by 0 (register (codes "a"))
    ∷ by 0 (calls.AddCodec (codes "w") forms.Copy)
    ∷ by 0 (calls.Deploy false None None 1)
    ∷ by 1 (take_loop 0)
    ∷ by 1 (calls.StartDone (results.Fail (pos 7)))
    ∷ []

abbrev pub set_up_replies : List Reply
set_up_replies =
    replies.Context (context 0)
    ∷ replies.Pass (pass 1)
    ∷ replies.Context (context 2)
    ∷ replies.Consumer (consumer 3)
    ∷ replies.Timer (timer 4)
    ∷ asked_of 3
    ∷ sent_to 3
    ∷ handed 3 5 (codes "b") (number 1) true
    ∷ done
    ∷ delivered 3 6 (codes "b") (number 1)
    ∷ done
    ∷ replies.Consumer (consumer 11)
    ∷ replies.Codec (record { 0 = entry 12 })
    ∷ replies.Deployment (deployment 13)
    ∷ task (tasks.Start (context 13))
    ∷ done
    ∷ []

-- ## Bodies and headers that are too large

-- arrays in arrays, one more than may be
abbrev pub nested : ℕ → Tree
nested zero = tree.int (pos 1)
nested (suc more) = tree.array (tree.element (nested more) tree.no_elements)

abbrev pub deep : Tree
deep = nested 101

abbrev pub long : List ℕ
long = replicate 1025 97

abbrev pub no_such : Options
no_such = record { headers = []; codec = Some (codes "x") }

abbrev pub many_headers : Options
many_headers = record { headers = replicate 1025 (long, []); codec = None }

abbrev pub long_header : Options
long_header = record { headers = (codes "h", replicate 65536 97) ∷ []; codec = None }

-- ## Register, Unregister, Pause, Resume and Fetch

-- of a context that is not there this is said, also where the context of the caller is closed
abbrev pub missing_first : Reply
missing_first = refused refusals.NoContext

abbrev pub consumers_refused : List By
consumers_refused =
    set_up ++ by 1 (calls.Register (context 99) [] 0)
    ∷ by 1 (calls.Register (context 0) [] 0)
    ∷ by 0 (calls.Register (context 13) [] 0)
    ∷ by 1 (calls.Register (context 13) [] 0)
    ∷ by 1 (calls.Register (context 2) [] 0)
    ∷ by 0 (calls.Register (context 0) [] 0)
    ∷ by 0 (calls.Register (context 0) long 0)
    ∷ by 0 (calls.Register (context 0) (codes "a") 0)
    ∷ by 0 (calls.Register (context 0) (codes "a") 100001)
    ∷ by 1 (calls.Unregister (consumer 12))
    ∷ by 1 (calls.Unregister (consumer 11))
    ∷ by 1 (calls.Unregister (consumer 3))
    ∷ by 1 (calls.Pause (consumer 12))
    ∷ by 1 (calls.Pause (consumer 11))
    ∷ by 1 (calls.Pause (consumer 3))
    ∷ by 1 (calls.Resume (consumer 12))
    ∷ by 1 (calls.Resume (consumer 11))
    ∷ by 1 (calls.Resume (consumer 3))
    ∷ by 1 (calls.Fetch (consumer 12) 0)
    ∷ by 1 (calls.Fetch (consumer 11) 0)
    ∷ by 1 (calls.Fetch (consumer 3) 0)
    ∷ by 0 (calls.Fetch (consumer 11) 0)
    ∷ []

abbrev pub consumers_refused_replies : List Reply
consumers_refused_replies =
    set_up_replies ++ missing_first
    ∷ refused (refusals.NotYours (owners.Pass (pass 0)))
    ∷ refused (refusals.NotYours (owners.Context (context 13)))
    ∷ refused (refusals.ContextClosed (entry 15))
    ∷ refused (refusals.ContextClosed (entry 15))
    ∷ refused refusals.BadAddress
    ∷ refused refusals.BadAddress
    ∷ refused refusals.BadCount
    ∷ refused refusals.BadCount
    ∷ refused refusals.NoConsumer
    ∷ refused (refusals.NotYours (owners.Pass (pass 0)))
    ∷ refused (refusals.ContextClosed (entry 15))
    ∷ refused refusals.NoConsumer
    ∷ refused (refusals.NotYours (owners.Pass (pass 0)))
    ∷ refused (refusals.ContextClosed (entry 15))
    ∷ refused refusals.NoConsumer
    ∷ refused (refusals.NotYours (owners.Pass (pass 0)))
    ∷ refused (refusals.ContextClosed (entry 15))
    ∷ refused refusals.NoConsumer
    ∷ refused (refusals.NotYours (owners.Pass (pass 0)))
    ∷ refused (refusals.ContextClosed (entry 15))
    ∷ refused refusals.BadCount
    ∷ []

-- ## Send and Publish

abbrev pub messages_refused : List By
messages_refused =
    set_up ++ by 1 (calls.Send [] deep no_such)
    ∷ by 1 (calls.Send [] deep many_headers)
    ∷ by 0 (calls.Send [] deep many_headers)
    ∷ by 0 (calls.Send (codes "a") deep many_headers)
    ∷ by 0 (calls.Send (codes "a") (number 1) many_headers)
    ∷ by 0 (calls.Send (codes "a") (number 1) long_header)
    ∷ by 1 (calls.Publish [] deep no_such)
    ∷ by 1 (calls.Publish [] deep many_headers)
    ∷ by 0 (calls.Publish [] deep many_headers)
    ∷ by 0 (calls.Publish (codes "a") deep many_headers)
    ∷ by 0 (calls.Publish (codes "a") (number 1) many_headers)
    ∷ by 0 (calls.Publish (codes "a") (number 1) long_header)
    ∷ []

abbrev pub messages_refused_replies : List Reply
messages_refused_replies =
    set_up_replies ++ refused refusals.NoCodec
    ∷ refused (refusals.ContextClosed (entry 15))
    ∷ refused refusals.BadAddress
    ∷ refused (refusals.TooLarge 100)
    ∷ refused (refusals.TooLarge 1024)
    ∷ refused (refusals.TooLarge 65536)
    ∷ refused refusals.NoCodec
    ∷ refused (refusals.ContextClosed (entry 15))
    ∷ refused refusals.BadAddress
    ∷ refused (refusals.TooLarge 100)
    ∷ refused (refusals.TooLarge 1024)
    ∷ refused (refusals.TooLarge 65536)
    ∷ []

-- ## Request

abbrev pub requests_refused : List By
requests_refused =
    set_up ++ by 1 (calls.Request (context 99) [] deep no_such 0 None)
    ∷ by 1 (calls.Request (context 0) [] deep no_such 0 None)
    ∷ by 1 (calls.Request (context 0) [] deep many_headers 0 None)
    ∷ by 1 (calls.Request (context 2) [] deep many_headers 0 None)
    ∷ by 0 (calls.Request (context 0) [] deep many_headers 0 None)
    ∷ by 0 (calls.Request (context 0) (codes "a") deep many_headers 0 None)
    ∷ by 0 (calls.Request (context 0) (codes "a") (number 1) many_headers 0 None)
    ∷ by 0 (calls.Request (context 0) (codes "a") (number 1) long_header 0 None)
    ∷ by 0 (calls.Request (context 0) (codes "a") (number 1) plain 0 None)
    ∷ by 0 (calls.Request (context 0) (codes "a") (number 1) plain 1000000000001 None)
    ∷ []

abbrev pub requests_refused_replies : List Reply
requests_refused_replies =
    set_up_replies ++ refused refusals.NoContext
    ∷ refused refusals.NoCodec
    ∷ refused (refusals.NotYours (owners.Pass (pass 0)))
    ∷ refused (refusals.ContextClosed (entry 15))
    ∷ refused refusals.BadAddress
    ∷ refused (refusals.TooLarge 100)
    ∷ refused (refusals.TooLarge 1024)
    ∷ refused (refusals.TooLarge 65536)
    ∷ refused refusals.BadDelay
    ∷ refused refusals.BadDelay
    ∷ []

-- ## Reply, and then Fail

abbrev pub replies_refused : List By
replies_refused =
    set_up ++ by 1 (calls.Reply (message 99) deep no_such)
    ∷ by 1 (calls.Reply (message 6) deep no_such)
    ∷ by 0 (calls.Reply (message 5) deep no_such)
    ∷ by 0 (calls.Reply (message 5) deep many_headers)
    ∷ by 1 (calls.Reply (message 5) deep many_headers)
    ∷ by 1 finish
    ∷ by 1 (calls.Reply (message 5) (number 2) plain)
    ∷ by 1 (calls.Reply (message 5) deep many_headers)
    ∷ by 1 (calls.Reply (message 5) (number 1) many_headers)
    ∷ by 1 (calls.Reply (message 5) (number 1) long_header)
    ∷ by 1 (calls.Reply (message 5) (number 1) plain)
    ∷ by 1 (calls.Fail (message 5) (pos 1) (codes "no"))
    ∷ []

abbrev pub replies_refused_replies : List Reply
replies_refused_replies =
    set_up_replies ++ refused refusals.NoMessage
    ∷ refused refusals.NotRequest
    ∷ refused refusals.NoCodec
    ∷ refused (refusals.NotYours (owners.Pass (pass 1)))
    ∷ refused (refusals.ContextClosed (entry 15))
    ∷ done
    ∷ done
    ∷ refused (refusals.TooLarge 100)
    ∷ refused (refusals.TooLarge 1024)
    ∷ refused (refusals.TooLarge 65536)
    ∷ refused (refusals.Late (entry 22))
    ∷ refused (refusals.Late (entry 22))
    ∷ []

abbrev pub long_failure : List ℕ
long_failure = replicate 65537 97

-- ... and where pass 1 holds no task, so that a large body is what it is refused for
abbrev pub answering : List By
answering = set_up ++ by 1 finish ∷ []

-- ## Fail

abbrev pub failures_refused : List By
failures_refused =
    set_up ++ by 1 (calls.Fail (message 99) (pos 1) long_failure)
    ∷ by 1 (calls.Fail (message 6) (pos 1) long_failure)
    ∷ by 0 (calls.Fail (message 5) (pos 1) long_failure)
    ∷ by 1 (calls.Fail (message 5) (pos 1) long_failure)
    ∷ by 1 finish
    ∷ by 1 (calls.Fail (message 5) (pos 1) (codes "no"))
    ∷ by 1 (calls.Fail (message 5) (pos 1) long_failure)
    ∷ by 1 (calls.Reply (message 5) (number 1) plain)
    ∷ []

abbrev pub failures_refused_replies : List Reply
failures_refused_replies =
    set_up_replies ++ refused refusals.NoMessage
    ∷ refused refusals.NotRequest
    ∷ refused (refusals.NotYours (owners.Pass (pass 1)))
    ∷ refused (refusals.ContextClosed (entry 15))
    ∷ done
    ∷ done
    ∷ refused (refusals.TooLarge 65536)
    ∷ refused (refusals.Late (entry 21))
    ∷ []

-- ## ReplyRequest

abbrev pub asking_again_refused : List By
asking_again_refused =
    set_up ++ by 1 (calls.ReplyRequest (message 99) (context 99) deep no_such 0)
    ∷ by 1 (calls.ReplyRequest (message 6) (context 99) deep no_such 0)
    ∷ by 1 (calls.ReplyRequest (message 5) (context 99) deep no_such 0)
    ∷ by 1 (calls.ReplyRequest (message 5) (context 0) deep no_such 0)
    ∷ by 0 (calls.ReplyRequest (message 5) (context 13) deep many_headers 0)
    ∷ by 1 (calls.ReplyRequest (message 5) (context 0) deep many_headers 0)
    ∷ by 1 (calls.ReplyRequest (message 5) (context 2) deep many_headers 0)
    ∷ by 1 finish
    ∷ by 1 (calls.ReplyRequest (message 5) (context 13) deep many_headers 0)
    ∷ by 1 (calls.ReplyRequest (message 5) (context 2) (number 1) plain 1)
    ∷ by 1 (calls.ReplyRequest (message 5) (context 2) deep many_headers 0)
    ∷ by 1 (calls.ReplyRequest (message 5) (context 2) (number 1) many_headers 0)
    ∷ by 1 (calls.ReplyRequest (message 5) (context 2) (number 1) long_header 0)
    ∷ by 1 (calls.ReplyRequest (message 5) (context 2) (number 1) plain 0)
    ∷ by 1 (calls.ReplyRequest (message 5) (context 2) (number 1) plain 1)
    ∷ []

abbrev pub asking_again_refused_replies : List Reply
asking_again_refused_replies =
    set_up_replies ++ refused refusals.NoMessage
    ∷ refused refusals.NotRequest
    ∷ refused refusals.NoContext
    ∷ refused refusals.NoCodec
    ∷ refused (refusals.NotYours (owners.Pass (pass 1)))
    ∷ refused (refusals.NotYours (owners.Pass (pass 0)))
    ∷ refused (refusals.ContextClosed (entry 15))
    ∷ done
    ∷ refused (refusals.NotYours (owners.Context (context 13)))
    ∷ replies.Asked reached.Asker
    ∷ refused (refusals.TooLarge 100)
    ∷ refused (refusals.TooLarge 1024)
    ∷ refused (refusals.TooLarge 65536)
    ∷ refused refusals.BadDelay
    ∷ refused (refusals.Late (entry 25))
    ∷ []

-- ## SetTimer, CancelTimer, RunOn and Blocking

abbrev pub timers_refused : List By
timers_refused =
    set_up ++ by 1 (calls.SetTimer (context 99) 0 false)
    ∷ by 1 (calls.SetTimer (context 0) 0 false)
    ∷ by 1 (calls.SetTimer (context 2) 0 false)
    ∷ by 0 (calls.SetTimer (context 0) 0 false)
    ∷ by 0 (calls.SetTimer (context 0) 1000000000001 false)
    ∷ by 1 (calls.CancelTimer (timer 99))
    ∷ by 0 (calls.CancelTimer (timer 4))
    ∷ by 1 (calls.CancelTimer (timer 4))
    ∷ by 1 (calls.RunOn (context 99) None)
    ∷ by 0 (calls.RunOn (context 13) None)
    ∷ by 1 (calls.RunOn (context 0) None)
    ∷ by 1 (calls.Blocking (context 99) false None)
    ∷ by 1 (calls.Blocking (context 0) false None)
    ∷ by 1 (calls.Blocking (context 2) false None)
    ∷ []

abbrev pub timers_refused_replies : List Reply
timers_refused_replies =
    set_up_replies ++ refused refusals.NoContext
    ∷ refused (refusals.NotYours (owners.Pass (pass 0)))
    ∷ refused (refusals.ContextClosed (entry 15))
    ∷ refused refusals.BadDelay
    ∷ refused refusals.BadDelay
    ∷ refused refusals.NoTimer
    ∷ refused (refusals.NotYours (owners.Pass (pass 1)))
    ∷ refused (refusals.ContextClosed (entry 15))
    ∷ refused refusals.NoContext
    ∷ refused (refusals.ContextClosed (entry 15))
    ∷ refused (refusals.ContextClosed (entry 15))
    ∷ refused refusals.NoContext
    ∷ refused (refusals.NotYours (owners.Pass (pass 0)))
    ∷ refused (refusals.ContextClosed (entry 15))
    ∷ []

abbrev pub rule : ℕ → RuleId
rule n = record { 0 = entry n }

-- ## AddCodec, RemoveCodec, AddRule and RemoveRule

abbrev pub codecs_and_rules_refused : List By
codecs_and_rules_refused =
    set_up ++ by 1 (calls.AddCodec [] (forms.KeepKeys (replicate 65 long)))
    ∷ by 0 (calls.AddCodec [] (forms.KeepKeys (replicate 65 long)))
    ∷ by 0 (calls.AddCodec (codes "w") (forms.KeepKeys (replicate 65 long)))
    ∷ by 0 (calls.AddCodec (codes "w") (forms.DropKeys (replicate 64 long)))
    ∷ by 0 (calls.AddCodec (codes "w") (forms.Wrap long))
    ∷ by 0 (calls.AddCodec (codes "w") (forms.Wrap (codes "k")))
    ∷ by 1 (calls.RemoveCodec (codes "x"))
    ∷ by 1 (calls.RemoveCodec (codes "w"))
    ∷ by 1 (calls.AddRule sides.Out conditions.Any (verdicts.Add (codes "h") long))
    ∷ by 0 (calls.AddRule sides.Out conditions.Any (verdicts.Add (codes "h") (replicate 1024 97)))
    ∷ by 0 (calls.AddRule sides.Out conditions.Any verdicts.Stop)
    ∷ by 1 (calls.RemoveRule (rule 99))
    ∷ by 1 (calls.RemoveRule (rule 26))
    ∷ []

abbrev pub codecs_and_rules_refused_replies : List Reply
codecs_and_rules_refused_replies =
    set_up_replies ++ refused (refusals.ContextClosed (entry 15))
    ∷ refused refusals.BadAddress
    ∷ refused (refusals.TooLarge 64)
    ∷ refused (refusals.TooLarge 1024)
    ∷ refused (refusals.TooLarge 1024)
    ∷ refused (refusals.CodecTaken (entry 12))
    ∷ refused refusals.NoCodec
    ∷ refused (refusals.ContextClosed (entry 15))
    ∷ refused (refusals.ContextClosed (entry 15))
    ∷ refused (refusals.TooLarge 1024)
    ∷ replies.Rule (rule 26)
    ∷ refused refusals.NoRule
    ∷ refused (refusals.ContextClosed (entry 15))
    ∷ []

-- As many codecs, rules and pools as there may be: entries that are all alike stand for those that added them.
abbrev pub alike : ℕ → Call → Reply → List Traced
alike count call reply = replicate count (plain_entry pass_0 call reply no_mark)

abbrev pub all_codecs : List Traced
all_codecs = alike 256 (calls.AddCodec (codes "w") forms.Copy) (replies.Codec (record { 0 = entry 0 }))

abbrev pub one_codec_more : List By
one_codec_more =
    by 0 (calls.AddCodec (codes "w") forms.Copy)
    ∷ by 0 (calls.AddCodec (codes "x") forms.Copy)
    ∷ []

abbrev pub one_codec_more_replies : List Reply
one_codec_more_replies =
    refused (refusals.CodecTaken (entry 0))
    ∷ refused (refusals.TooLarge 256)
    ∷ []

abbrev pub all_rules : List Traced
all_rules = alike 64 (calls.AddRule sides.In conditions.Any verdicts.Stop) (replies.Rule (rule 0))

abbrev pub one_rule_more : List By
one_rule_more =
    by 0 (calls.AddRule sides.In conditions.Any (verdicts.Add (codes "h") long))
    ∷ by 0 (calls.AddRule sides.In conditions.Any verdicts.Stop)
    ∷ by 0 (calls.AddRule sides.Out conditions.Any verdicts.Stop)
    ∷ []

abbrev pub one_rule_more_replies : List Reply
one_rule_more_replies =
    refused (refusals.TooLarge 1024)
    ∷ refused (refusals.TooLarge 64)
    ∷ replies.Rule (rule 66)
    ∷ []

abbrev pub all_pools : List Traced
all_pools = alike 8 (calls.AddPool (codes "p") 1) (replies.Pool (pool 0))

abbrev pub one_pool_more : List By
one_pool_more =
    by 0 (calls.AddPool (codes "p") 1)
    ∷ by 0 (calls.AddPool (codes "q") 1)
    ∷ []

abbrev pub one_pool_more_replies : List Reply
one_pool_more_replies =
    refused (refusals.PoolTaken (entry 0))
    ∷ refused refusals.BadCount
    ∷ []

-- ## SetLoops, AddPool, Deploy, Undeploy, StartDone, StopDone and Close

abbrev pub deployments_refused : List By
deployments_refused =
    set_up ++ by 1 (calls.SetLoops 0)
    ∷ by 0 (calls.SetLoops 0)
    ∷ by 0 (calls.SetLoops 17)
    ∷ by 1 (calls.AddPool [] 0)
    ∷ by 0 (calls.AddPool [] 0)
    ∷ by 0 (calls.AddPool (codes "p") 0)
    ∷ by 0 (calls.AddPool (codes "p") 1)
    ∷ by 0 (calls.AddPool (codes "p") 21)
    ∷ by 0 (calls.AddPool (codes "p") 1)
    ∷ by 1 (calls.Deploy false (Some (codes "x")) (Some (context 99)) 0)
    ∷ by 1 (calls.Deploy false (Some (codes "x")) (Some (context 0)) 0)
    ∷ by 1 (calls.Deploy false None (Some (context 0)) 0)
    ∷ by 1 (calls.Deploy false None (Some (context 2)) 0)
    ∷ by 0 (calls.Deploy false None (Some (context 0)) 0)
    ∷ by 0 (calls.Deploy false None None 65)
    ∷ by 0 (calls.Deploy false None None 1)
    ∷ by 0 (calls.StartDone results.Ok)
    ∷ by 0 calls.StopDone
    ∷ by 1 (calls.StartDone results.Ok)
    ∷ by 1 calls.StopDone
    ∷ by 0 (send (codes "a") 1)
    ∷ by 0 (take_own 0)
    ∷ by 0 (calls.StartDone results.Ok)
    ∷ by 0 calls.StopDone
    ∷ by 0 finish
    ∷ by 0 (take_loop 1)
    ∷ by 0 calls.StopDone
    ∷ by 0 (calls.Undeploy (deployment 31) None)
    ∷ by 0 (calls.Deploy false None None 0)
    ∷ by 0 (calls.Deploy false None None 1)
    ∷ by 1 (calls.Undeploy (deployment 13) (Some (context 99)))
    ∷ by 1 (calls.Undeploy (deployment 31) (Some (context 99)))
    ∷ by 1 (calls.Undeploy (deployment 31) (Some (context 0)))
    ∷ by 1 (calls.Undeploy (deployment 31) (Some (context 2)))
    ∷ by 0 (calls.Undeploy (deployment 31) None)
    ∷ by 0 (calls.StartDone results.Ok)
    ∷ by 0 (calls.StartDone results.Ok)
    ∷ by 1 calls.Close
    ∷ []

abbrev pub deployments_refused_replies : List Reply
deployments_refused_replies =
    set_up_replies ++ refused (refusals.ContextClosed (entry 15))
    ∷ refused refusals.BadCount
    ∷ refused refusals.BadCount
    ∷ refused (refusals.ContextClosed (entry 15))
    ∷ refused refusals.BadAddress
    ∷ refused refusals.BadCount
    ∷ replies.Pool (pool 22)
    ∷ refused refusals.BadCount
    ∷ refused (refusals.PoolTaken (entry 22))
    ∷ refused refusals.NoContext
    ∷ refused refusals.NoPool
    ∷ refused (refusals.NotYours (owners.Pass (pass 0)))
    ∷ refused (refusals.ContextClosed (entry 15))
    ∷ refused refusals.BadCount
    ∷ refused refusals.BadCount
    ∷ replies.Deployment (deployment 31)
    ∷ refused refusals.NotHolding
    ∷ refused refusals.NotHolding
    ∷ refused (refusals.ContextClosed (entry 15))
    ∷ refused (refusals.ContextClosed (entry 15))
    ∷ sent_to 11
    ∷ delivered 11 36 (codes "a") (number 1)
    ∷ refused refusals.NoDeployment
    ∷ refused refusals.NoDeployment
    ∷ done
    ∷ task (tasks.Start (context 31))
    ∷ refused refusals.NotPending
    ∷ done
    ∷ refused refusals.BadCount
    ∷ refused (refusals.Stopping (entry 43))
    ∷ refused refusals.NoDeployment
    ∷ refused refusals.NoContext
    ∷ refused (refusals.NotYours (owners.Pass (pass 0)))
    ∷ refused (refusals.ContextClosed (entry 15))
    ∷ refused (refusals.Stopping (entry 43))
    ∷ done
    ∷ refused refusals.NotPending
    ∷ refused (refusals.StillDeployed (deployment 31))
    ∷ []

-- ## NewContext, Take and Finish, and what is refused once the hub is closed

abbrev pub lanes_refused : List By
lanes_refused =
    set_up ++ by 1 calls.NewContext
    ∷ by 1 (take_own 99)
    ∷ by 0 (take_own 99)
    ∷ by 0 (take_own 13)
    ∷ by 0 (take_loop 16)
    ∷ by 0 (calls.Take (lanes.Named (pool 99)))
    ∷ by 0 (take_own 2)
    ∷ by 0 (take_loop 0)
    ∷ by 0 finish
    ∷ by 0 calls.Close
    ∷ by 1 (take_own 99)
    ∷ by 0 calls.Close
    ∷ by 1 calls.NewContext
    ∷ by 1 (calls.Register (context 99) [] 0)
    ∷ by 0 (calls.Advance 1)
    ∷ by 0 (calls.CloseConn (conn 99))
    ∷ by 0 calls.NewPass
    ∷ by 1 finish
    ∷ []

abbrev pub lanes_refused_replies : List Reply
lanes_refused_replies =
    set_up_replies ++ refused (refusals.Holding (entry 14))
    ∷ refused (refusals.Holding (entry 14))
    ∷ refused refusals.NoLane
    ∷ refused refusals.NoLane
    ∷ refused refusals.NoLane
    ∷ refused refusals.NoLane
    ∷ refused (refusals.NotYours (owners.Pass (pass 1)))
    ∷ refused (refusals.LaneHeld (pass 1))
    ∷ refused refusals.NotHolding
    ∷ done
    ∷ replies.Stopped
    ∷ refused (refusals.HostClosed (entry 25))
    ∷ refused (refusals.HostClosed (entry 25))
    ∷ refused (refusals.HostClosed (entry 25))
    ∷ refused (refusals.HostClosed (entry 25))
    ∷ refused refusals.NoConnection
    ∷ replies.Pass (pass 2)
    ∷ done
    ∷ []

-- ## OpenConn, FrameIn, TakeOut and CloseConn

abbrev pub connections_refused : List By
connections_refused =
    set_up ++ by 1 (opens ([] ∷ []) (replicate 257 []))
    ∷ by 0 (opens ([] ∷ []) (replicate 257 []))
    ∷ by 0 (opens (replicate 257 []) [])
    ∷ by 0 (opens ([] ∷ []) [])
    ∷ by 0 (opens [] (long ∷ []))
    ∷ by 0 (opens [] [])
    ∷ frame 99 frames.Ping
    ∷ out 99
    ∷ by 0 (calls.CloseConn (conn 99))
    ∷ by 1 (calls.CloseConn (conn 21))
    ∷ frame 21 frames.Ping
    ∷ out 21
    ∷ by 1 (calls.CloseConn (conn 21))
    ∷ []

abbrev pub connections_refused_replies : List Reply
connections_refused_replies =
    set_up_replies ++ refused (refusals.ContextClosed (entry 15))
    ∷ refused (refusals.TooLarge 256)
    ∷ refused (refusals.TooLarge 256)
    ∷ refused refusals.BadAddress
    ∷ refused refusals.BadAddress
    ∷ replies.Connection (conn 21)
    ∷ refused refusals.NoConnection
    ∷ refused refusals.NoConnection
    ∷ refused refusals.NoConnection
    ∷ done
    ∷ refused (refusals.ConnClosed (entry 25))
    ∷ refused (refusals.ConnClosed (entry 25))
    ∷ refused (refusals.ConnClosed (entry 25))
    ∷ []
