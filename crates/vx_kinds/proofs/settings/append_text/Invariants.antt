use Rattle.std.proofs.Common.{◌≡◌, ◌++◌, ◌∷◌, pos, map, length, take}
use Rattle.vx_kinds.proofs.settings.append_text.Given as goal

abbrev pub invariant-loop-byte : goal.invariant-loop-byte
invariant-loop-byte l = l.into.items ≡ l.fn.into.items ++ (pos (length l.bytes) ∷ map pos (take l.byte-index l.bytes))
