use Rattle.std.proofs.Common.{◌≡◌, ◌+◌, ◌≤◌, length, drop}
use Rattle.vx_data.specs.HeaderLists.{header_bytes}
use Rattle.vx_message.specs.Rules.{rules_of, through}
use Rattle.vx_rules.specs.Stores.{additions, bearing}
use Rattle.vx_rules.proofs.rules.headers_past.Given as goal

abbrev pub invariant-loop-rule : goal.invariant-loop-rule
invariant-loop-rule l = record {
  same : through (rules_of l.side l.rules) l.message ≡ through (rules_of l.side (drop l.rule-index l.rules)) (bearing l.message l.headers);
  pairs : length l.headers + length (additions (rules_of l.side (drop l.rule-index l.rules))) ≤ length l.message.headers + length (additions (rules_of l.side l.rules));
  bytes : header_bytes l.headers + header_bytes (additions (rules_of l.side (drop l.rule-index l.rules))) ≤ header_bytes l.message.headers + header_bytes (additions (rules_of l.side l.rules));
}
