-- Types of frames.
use Rattle.std.proofs.Common.{◌≡◌, refl, sym, ◌∙◌, ap, ℕ, List, Bool, true, false, Option, Some, None, if◌then◌else◌}
use Rattle.std.specs.Prelude.{option_map, option_and_then, codes}
use Rattle.std.specs.Str.{bytes_eq}
use Rattle.vx_data.specs.Tree.{Members}
use Rattle.vx_message.specs.declared.frame.InFrame.{InFrame}
use Rattle.vx_message.specs.declared.frame.InFrame.TheVariants as frames
use Rattle.vx_frame_read.specs.declared.read.Kind.{Kind}
use Rattle.vx_frame_read.specs.declared.read.Kind.TheVariants as kinds
use Rattle.vx_frame_read.specs.Fields.{kind_named}
use Rattle.vx_frame_read.specs.Frames.{text_field, addressed, send_in, publish_in, frame_of_type, frame_typed, frame_of_members}

-- the frame of each kind
abbrev pub frame_of_kind : Kind → Option (List ℕ) → Members → InFrame
frame_of_kind kinds.Ping address ms = frames.Ping
frame_of_kind kinds.Register address ms = addressed frames.Register address
frame_of_kind kinds.Unregister address ms = addressed frames.Unregister address
frame_of_kind kinds.Send address ms = addressed (λ a. send_in a ms) address
frame_of_kind kinds.Publish address ms = addressed (λ a. publish_in a ms) address

abbrev pub frame_of_found : Option Kind → Members → InFrame
frame_of_found None ms = frames.UnknownType
frame_of_found (Some kind) ms = frame_of_kind kind (text_field (codes "address") ms) ms

-- a choice between two frames follows one between two kinds
chosen : (test : Bool) (kind : Kind) (others : Option Kind) (f g : InFrame) (ms : Members) → frame_of_kind kind (text_field (codes "address") ms) ms ≡ f → frame_of_found others ms ≡ g
    → frame_of_found (if test then Some kind else others) ms ≡ (if test then f else g)
chosen true kind others f g ms h k = h
chosen false kind others f g ms h k = k

found_named : (kind : List ℕ) (ms : Members) → frame_of_found (kind_named kind) ms ≡ frame_of_type kind ms
found_named kind ms =
    chosen (bytes_eq kind (codes "ping")) kinds.Ping _ _ _ ms refl
    (chosen (bytes_eq kind (codes "register")) kinds.Register _ _ _ ms refl
    (chosen (bytes_eq kind (codes "unregister")) kinds.Unregister _ _ _ ms refl
    (chosen (bytes_eq kind (codes "send")) kinds.Send _ _ _ ms refl
    (chosen (bytes_eq kind (codes "publish")) kinds.Publish _ _ _ ms refl refl))))

found_typed : (kind : Option (List ℕ)) (ms : Members) → frame_of_found (option_and_then kind_named kind) ms ≡ frame_typed kind ms
found_typed None ms = refl
found_typed (Some kind) ms = found_named kind ms

-- the frame of the members, from the kind that their type asks for
pub frame_found : (found : Option Kind) (ms : Members) → found ≡ option_and_then kind_named (text_field (codes "type") ms) → frame_of_found found ms ≡ frame_of_members ms
frame_found found ms is = ap (λ kind. frame_of_found kind ms) is ∙ found_typed (text_field (codes "type") ms) ms
