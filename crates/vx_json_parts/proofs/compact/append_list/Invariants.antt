use Rattle.std.proofs.Common.{◌≡◌, ◌++◌, drop, map}
use Rattle.vx_json_parts.specs.Compact.{text_in}
use Rattle.vx_json.proofs.Joining.{more_texts}
use Rattle.vx_json_parts.proofs.compact.append_list.Given as goal

abbrev pub invariant-loop-text : goal.invariant-loop-text
invariant-loop-text l = l.into.items ++ more_texts (map text_in (drop l.text-index l.more)) ≡ l.initial.into.items ++ more_texts (map text_in l.more)
