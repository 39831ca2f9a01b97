use Rattle.std.proofs.Common.{◌≡◌, ◌++◌, drop, flat_map}
use Rattle.vx_reply_text.specs.Replies.{header_text}
use Rattle.vx_reply_text.proofs.reply.write_headers.Given as goal

abbrev pub invariant-loop-header : goal.invariant-loop-header
invariant-loop-header l = l.into.items ++ flat_map header_text (drop l.header-index l.headers) ≡ l.initial.into.items ++ flat_map header_text l.headers
