use Rattle.std.proofs.Common.{◌≡◌, ◌++◌, drop, flat_map}
use Rattle.vx_reply_text.specs.Replies.{consumer_text}
use Rattle.vx_reply_text.proofs.reply.write_consumers.Given as goal

abbrev pub invariant-loop-consumer : goal.invariant-loop-consumer
invariant-loop-consumer l = l.into.items ++ flat_map consumer_text (drop l.consumer-index l.consumers) ≡ l.initial.into.items ++ flat_map consumer_text l.consumers
