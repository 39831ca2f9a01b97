use Rattle.std.proofs.Common.{◌≡◌, ◌++◌, drop}
use Rattle.vx_data.specs.Bodies.{members}
use Rattle.vx_json_parts.specs.Compact.{spelled_texts}
use Rattle.vx_json.proofs.Joining.{more_texts}
use Rattle.vx_json_parts.proofs.compact.append_pairs.Given as goal

abbrev pub invariant-loop-pair : goal.invariant-loop-pair
invariant-loop-pair l = l.into.items ++ more_texts (spelled_texts (members (drop l.pair-index l.more))) ≡ l.initial.into.items ++ more_texts (spelled_texts (members l.more))
