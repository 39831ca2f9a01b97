-- The bytes of a frame that goes out. (Vert.x TCP EventBus bridge manual, "Message format". The layout of errors, the
-- order of keys and the reply addresses are this project's own.)
use Rattle.std.specs.Prelude.{ℕ, Bool, true, false, List, [], ◌∷◌, ◌++◌, length, map, filter, Option, Some, None, codes}
use Rattle.std.specs.Fmt.{decimal}
use Rattle.std.specs.Str.{bytes_eq}
use Rattle.vx_data.specs.Bodies.{elements, gathered}
use Rattle.vx_data.specs.BodyText.{body_text}
use Rattle.vx_data.specs.Tree.{Tree, null, boolean, int, text, array, object, Members, no_members, member}
use Rattle.vx_data.specs.declared.ids.MessageId.{MessageId}
use Rattle.vx_message.specs.declared.FailureKind.{FailureKind}
use Rattle.vx_message.specs.declared.FailureKind.TheVariants as failures
use Rattle.vx_message.specs.Framing.{framed}
use Rattle.vx_message.specs.declared.Failure.{Failure}
use Rattle.vx_message.specs.declared.frame.FrameMessage.{FrameMessage}
use Rattle.vx_message.specs.declared.frame.OutFrame.{OutFrame}
use Rattle.vx_message.specs.declared.frame.OutFrame.TheVariants as outs

-- the values of a name, in order
abbrev pub values_named : List ℕ → List (List ℕ × List ℕ) → List (List ℕ)
values_named name pairs = map (λ (pair : List ℕ × List ℕ). pair.1) (filter (λ (pair : List ℕ × List ℕ). bytes_eq pair.0 name) pairs)

-- one value is a text, several are an array of texts
abbrev pub values_tree : List (List ℕ) → Tree
values_tree [] = array (elements [])
values_tree (value ∷ []) = text value
values_tree (value ∷ other ∷ others) = array (elements (map text (value ∷ other ∷ others)))

-- each name once, in byte order, with its values
abbrev pub headers_tree : List (List ℕ × List ℕ) → Tree
headers_tree pairs = object (gathered (map (λ (pair : List ℕ × List ℕ). (pair.0, values_tree (values_named pair.0 pairs))) pairs))

-- where there are none the field is left out
abbrev pub with_headers : List (List ℕ × List ℕ) → Members → Members
with_headers [] others = others
with_headers (pair ∷ pairs) others = member (codes "headers") (headers_tree (pair ∷ pairs)) others

-- the address of the reply to a message
abbrev pub reply_address : MessageId → List ℕ
reply_address id = codes "__vertx.reply." ++ decimal id.0.0

abbrev pub with_reply : Option MessageId → Members → Members
with_reply None others = others
with_reply (Some id) others = member (codes "replyAddress") (text (reply_address id)) others

abbrev pub of_type : List ℕ → Members
of_type kind = member (codes "type") (text kind) no_members

abbrev pub error_members : List ℕ → Members
error_members error = member (codes "message") (text error) (of_type (codes "err"))

-- what a message and a reply share, before what else they have
abbrev pub message_members : FrameMessage → Option MessageId → Members → Members
message_members message reply others =
    member (codes "address") (text message.address) (member (codes "body") message.body (with_headers message.headers (with_reply reply others)))

abbrev pub is_sent : Bool → Tree
is_sent true = boolean false
is_sent false = boolean true

abbrev pub send_members : Bool → Members
send_members publish = member (codes "send") (is_sent publish) (of_type (codes "message"))

abbrev pub kind_text : FailureKind → List ℕ
kind_text failures.Timeout = codes "TIMEOUT"
kind_text failures.NoHandlers = codes "NO_HANDLERS"
kind_text failures.RecipientFailure = codes "RECIPIENT_FAILURE"

abbrev pub failure_members : List ℕ → Failure → Members
failure_members address failure =
    member (codes "address") (text address)
    (member (codes "failureCode") (int failure.code) (member (codes "failureType") (text (kind_text failure.kind)) (member (codes "message") (text failure.text) (of_type (codes "err")))))

-- the members of a frame, with their keys in byte order
abbrev pub frame_members : OutFrame → Members
frame_members outs.Pong = of_type (codes "pong")
frame_members (outs.Err error) = error_members error
frame_members (outs.Message message reply publish) = message_members message reply (send_members publish)
frame_members (outs.Reply message again) = message_members message again (of_type (codes "message"))
frame_members (outs.Failed address failure) = failure_members address failure

abbrev pub frame_json : OutFrame → List ℕ
frame_json frame = body_text (object (frame_members frame))

-- the length of the JSON, and the JSON
abbrev pub frame_text : OutFrame → List ℕ
frame_text frame = framed (frame_json frame)
