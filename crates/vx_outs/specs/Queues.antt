-- Frames in queues.
use Rattle.std.specs.Prelude.{ℕ, List, length, map}
use Rattle.vx_message.specs.declared.frame.OutFrame.{OutFrame}
use Rattle.vx_items.specs.Items.{Entry}

-- the queues, each as its frames in order, and for how many more frames there is room
pub record QueueStore : Type 0 where
  pub queues : List (List OutFrame)
  pub room : ℕ

-- the frames of items
abbrev pub frames_in : List (Entry OutFrame) → List OutFrame
frames_in entries = map (λ (entry : Entry OutFrame). entry.value) entries

abbrev pub length_of : List (Entry OutFrame) → ℕ
length_of entries = length entries

-- so many frames may wait on a connection
abbrev pub max_waiting : ℕ
max_waiting = 10000
