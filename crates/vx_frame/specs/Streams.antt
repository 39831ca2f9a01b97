-- Frames on a stream of bytes. (Vert.x TCP EventBus bridge manual, "Message format". The limit of the length is this
-- project's own.)
use Rattle.std.specs.Prelude.{◌≡◌, ◌<◌, ◌≤◌, ◌⊎◌, ℕ, ◌^◌, Bool, true, false, List, [], ◌∷◌, ◌++◌, length}
use Rattle.vx_message.specs.declared.frame.InFrame.{InFrame}
use Rattle.vx_message.specs.declared.frame.InFrame.TheVariants as frames
use Rattle.vx_message.specs.Framing.{prefix, framed}
use Rattle.vx_frame_read.specs.Frames.{IsFrameOf}

-- how long the JSON of a frame that comes in may be
abbrev pub max_len : ℕ
max_len = 1048576

-- The bytes are the frame: a length with so many bytes of JSON, or a length that is refused, alone.
abbrev pub IsFramed : InFrame → List ℕ → Type 0
IsFramed frame bytes =
    ((json : List ℕ) × (length json ≤ max_len) × (bytes ≡ framed json) × IsFrameOf frame json)
    ⊎ ((n : ℕ) × (max_len < n) × (n < 2 ^ 32) × (bytes ≡ prefix n) × (frame ≡ frames.TooLong n))

-- behind a frame that closes no other is read
abbrev pub closes : InFrame → Bool
closes frames.BadJson = true
closes (frames.TooLong n) = true
closes _ = false

-- The bytes are these frames, one after another, and then the rest. None but the last closes.
abbrev pub AreFrames : List InFrame → List ℕ → List ℕ → Type 0
AreFrames [] bytes rest = bytes ≡ rest
AreFrames (f ∷ fs) bytes rest = (here : List ℕ) × (more : List ℕ) × (bytes ≡ here ++ more) × IsFramed f here × (closes f ≡ true → fs ≡ []) × AreFrames fs more rest

-- whether the last of the frames closes
abbrev pub are_closed : List InFrame → Bool
are_closed [] = false
are_closed (f ∷ []) = closes f
are_closed (f ∷ g ∷ fs) = are_closed (g ∷ fs)

-- no frame stands at the front
abbrev pub IsPart : List ℕ → Type 0
IsPart rest = (f : InFrame) (here more : List ℕ) → rest ≡ here ++ more → IsFramed f here → ⊥

-- The frames of the bytes, all of them, and the rest: where none closes, no frame stands there.
abbrev pub IsReading : List ℕ → List InFrame → List ℕ → Type 0
IsReading bytes fs rest = AreFrames fs bytes rest × (are_closed fs ≡ false → IsPart rest)

-- A reader, as (the bytes that it holds, whether it has ended), was fed these bytes and has given these frames.
abbrev pub HasGiven : List ℕ → List InFrame → List ℕ × Bool → Type 0
HasGiven fed given reader = (are_closed given ≡ reader.1) × ((rest : List ℕ) × AreFrames given fed rest × (reader.1 ≡ false → rest ≡ reader.0))
