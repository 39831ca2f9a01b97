-- The bytes of frames. (Vert.x TCP EventBus bridge manual, "Message format": a message is its length in four bytes,
-- big-endian, and its JSON.)
use Rattle.std.specs.Prelude.{ℕ, List, ◌++◌, length}
use Rattle.std.specs.Int.{to_be_bytes, w32}

-- the four bytes of a length
unfoldable pub prefix : ℕ → List ℕ
prefix n = to_be_bytes w32 n

-- the bytes of a frame with this JSON
abbrev pub framed : List ℕ → List ℕ
framed json = prefix (length json) ++ json
