-- The frame that a JSON text is. (Vert.x TCP EventBus bridge manual, "Message format": the types, and the fields of each.
-- The order in which a frame is tested, and what becomes of fields of another type, are this project's own.)
use Rattle.std.specs.Prelude.{◌≡◌, ◌⊎◌, ℕ, nat_lt, Bool, true, false, ◌||◌, List, [], ◌∷◌, length, Option, Some, None, option_map, option_and_then, unwrap_or, if◌then◌else◌, codes}
use Rattle.std.specs.Option.{option_or, option_map_or}
use Rattle.std.specs.Str.{bytes_eq}
use Rattle.vx_data.specs.Tree.{Tree, null, boolean, int, text, bytes, array, object, Members, no_members, member}
use Rattle.vx_data.specs.Bodies.{tree_depth}
use Rattle.vx_json.specs.Grammar.{IsJson, settled}
use Rattle.vx_message.specs.declared.frame.FrameMessage.{FrameMessage}
use Rattle.vx_message.specs.declared.frame.InFrame.{InFrame}
use Rattle.vx_message.specs.declared.frame.InFrame.TheVariants as frames
use Rattle.vx_frame_read.specs.HeaderPairs.{header_pairs, are_large}

-- of a name that comes again the last value counts
abbrev pub last : List ℕ → Members → Option Tree
last name no_members = None
last name (member k t ms) = option_or (last name ms) (if bytes_eq k name then Some t else None)

-- the value of a field, each part of it settled likewise
abbrev pub field : List ℕ → Members → Option Tree
field name ms = option_map settled (last name ms)

abbrev pub text_in : Tree → Option (List ℕ)
text_in (text s) = Some s
text_in _ = None

-- a field that is a text
abbrev pub text_field : List ℕ → Members → Option (List ℕ)
text_field name ms = option_and_then text_in (field name ms)

abbrev pub body_in : Members → Tree
body_in ms = unwrap_or (field (codes "body") ms) null

-- the headers that a value is
abbrev pub headers_field : Option Tree → List (List ℕ × List ℕ)
headers_field value = option_map_or header_pairs (option_map settled value) []

abbrev pub headers_in : Members → List (List ℕ × List ℕ)
headers_in ms = headers_field (last (codes "headers") ms)

abbrev pub is_long : Option (List ℕ) → Bool
is_long None = false
is_long (Some reply) = nat_lt 1024 (length reply)

-- what passes a limit of messages
abbrev pub is_large : Members → Bool
is_large ms = nat_lt 100 (tree_depth (body_in ms)) || are_large (headers_in ms) || is_long (text_field (codes "replyAddress") ms)

abbrev pub message_in : List ℕ → Members → FrameMessage
message_in address ms = record { address = address; headers = headers_in ms; body = body_in ms }

abbrev pub send_in : List ℕ → Members → InFrame
send_in address ms = if is_large ms then frames.Large else frames.Send (message_in address ms) (text_field (codes "replyAddress") ms)

abbrev pub publish_in : List ℕ → Members → InFrame
publish_in address ms = if is_large ms then frames.Large else frames.Publish (message_in address ms)

-- the frames that name an address
abbrev pub addressed : (List ℕ → InFrame) → Option (List ℕ) → InFrame
addressed frame None = frames.NoAddress
addressed frame (Some address) = frame address

abbrev pub frame_of_type : List ℕ → Members → InFrame
frame_of_type kind ms =
    if bytes_eq kind (codes "ping") then frames.Ping
    else if bytes_eq kind (codes "register") then addressed frames.Register (text_field (codes "address") ms)
    else if bytes_eq kind (codes "unregister") then addressed frames.Unregister (text_field (codes "address") ms)
    else if bytes_eq kind (codes "send") then addressed (λ address. send_in address ms) (text_field (codes "address") ms)
    else if bytes_eq kind (codes "publish") then addressed (λ address. publish_in address ms) (text_field (codes "address") ms)
    else frames.UnknownType

abbrev pub frame_typed : Option (List ℕ) → Members → InFrame
frame_typed None ms = frames.UnknownType
frame_typed (Some kind) ms = frame_of_type kind ms

-- the frame of an object's members, as they stand in the text
abbrev pub frame_of_members : Members → InFrame
frame_of_members ms = frame_typed (text_field (codes "type") ms) ms

-- The frame that a JSON text is: that of its object, and a bad one where it is none, with nesting of at most 127.
abbrev pub IsFrameOf : InFrame → List ℕ → Type 0
IsFrameOf frame json = ((ms : Members) × IsJson (object ms) json × (frame ≡ frame_of_members ms)) ⊎ (((ms : Members) → IsJson (object ms) json → ⊥) × (frame ≡ frames.BadJson))
