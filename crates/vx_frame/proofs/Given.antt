-- What a reader gives, against the frames of the bytes that it was fed.
use Rattle.std.proofs.Common.{◌≡◌, refl, sym, ◌∙◌, ap, ℕ, zero, suc, ◌+◌, ◌^◌, ◌<◌, ◌≤◌, ◌⊎◌, inl, inr, List, [], ◌∷◌, ◌++◌, length, Bool, true, false, Option, Some, None, if◌then◌else◌, drop, arith, append_assoc, append-nil, length-append}
use Rattle.std.proofs.lemmas.List.{drop_at}
use mathlib.Core.Path.{subst}
use Rattle.vx_message.specs.Framing.{prefix, framed}
use Rattle.std.specs.Prelude.{codes}
use Rattle.std.specs.Str.{bytes_eq}
use Rattle.vx_data.specs.Tree.{Members, object}
use Rattle.vx_json.specs.Grammar.{IsJson}
use Rattle.vx_message.specs.declared.frame.InFrame.{InFrame}
use Rattle.vx_message.specs.declared.frame.InFrame.TheVariants as frames
use Rattle.vx_frame_read.specs.Frames.{IsFrameOf, frame_of_members, frame_typed, frame_of_type, addressed, text_field, is_large, send_in, publish_in}
use Rattle.vx_frame.specs.Streams.{max_len, IsFramed, closes, AreFrames, are_closed, IsPart, IsReading, HasGiven}
use Rattle.vx_frame.specs.Nexts.{next_of, Follows}
use Rattle.vx_frame.specs.declared.reader.Next.{Next}
use Rattle.vx_frame.specs.declared.reader.Next.TheVariants as nexts
use Rattle.vx_frame.specs.Cuts.{IsShort}
use Rattle.vx_frame.proofs.Cutting.{same_number, same_json, not_both, length_4}

-- ---- frames of objects close nothing

open_if : (test : Bool) (f g : InFrame) → closes f ≡ false → closes g ≡ false → closes (if test then f else g) ≡ false
open_if true f g h k = h
open_if false f g h k = k

open_addressed : (frame : List ℕ → InFrame) (address : Option (List ℕ)) → ((a : List ℕ) → closes (frame a) ≡ false) → closes (addressed frame address) ≡ false
open_addressed frame None h = refl
open_addressed frame (Some a) h = h a

open_of_type : (kind : List ℕ) (ms : Members) → closes (frame_of_type kind ms) ≡ false
open_of_type kind ms =
    let address = text_field (codes "address") ms in
    open_if (bytes_eq kind (codes "ping")) _ _ refl
    (open_if (bytes_eq kind (codes "register")) _ _ (open_addressed (λ a. frames.Register a) address (λ a. refl))
    (open_if (bytes_eq kind (codes "unregister")) _ _ (open_addressed (λ a. frames.Unregister a) address (λ a. refl))
    (open_if (bytes_eq kind (codes "send")) _ _ (open_addressed (λ a. send_in a ms) address (λ a. open_if (is_large ms) _ _ refl refl))
    (open_if (bytes_eq kind (codes "publish")) _ _ (open_addressed (λ a. publish_in a ms) address (λ a. open_if (is_large ms) _ _ refl refl)) refl))))

open_typed : (kind : Option (List ℕ)) (ms : Members) → closes (frame_typed kind ms) ≡ false
open_typed None ms = refl
open_typed (Some kind) ms = open_of_type kind ms

pub open_members : (ms : Members) → closes (frame_of_members ms) ≡ false
open_members ms = open_typed (text_field (codes "type") ms) ms

-- two frames of one text close alike
closes_alike : (f g : InFrame) (json : List ℕ) → IsFrameOf f json → IsFrameOf g json → closes f ≡ closes g
closes_alike f g json (inl h) (inl k) = ap closes h.2 ∙ open_members h.0 ∙ sym (ap closes k.2 ∙ open_members k.0)
closes_alike f g json (inl h) (inr k) = absurd (k.0 h.0 h.1)
closes_alike f g json (inr h) (inl k) = absurd (h.0 k.0 k.1)
closes_alike f g json (inr h) (inr k) = ap closes h.1 ∙ sym (ap closes k.1)

-- ---- two frames at the front of one stream

record SameFront (f g : InFrame) (more less : List ℕ) : Type 0 where
  behind : more ≡ less
  alike : closes f ≡ closes g

same_front : (f g : InFrame) (here there more less : List ℕ) → IsFramed f here → IsFramed g there → here ++ more ≡ there ++ less → SameFront f g more less
same_front f g here there more less (inl h) (inl k) same =
    let parts = same_json h.0 k.0 more less h.1 k.1 (ap (λ (xs : List ℕ). xs ++ more) (sym h.2) ∙ same ∙ ap (λ (xs : List ℕ). xs ++ less) k.2) in
    record { behind = parts.1; alike = closes_alike f g h.0 h.3 (subst (IsFrameOf g) (sym parts.0) k.3) }
same_front f g here there more less (inl h) (inr k) same =
    absurd (not_both h.0 more less k.0 h.1 k.1 k.2 (ap (λ (xs : List ℕ). xs ++ more) (sym h.2) ∙ same ∙ ap (λ (xs : List ℕ). xs ++ less) k.3))
same_front f g here there more less (inr h) (inl k) same =
    absurd (not_both k.0 less more h.0 k.1 h.1 h.2 (ap (λ (xs : List ℕ). xs ++ less) (sym k.2) ∙ sym same ∙ ap (λ (xs : List ℕ). xs ++ more) h.3))
same_front f g here there more less (inr h) (inr k) same =
    let parts = same_number h.0 k.0 more less h.2 k.2 (ap (λ (xs : List ℕ). xs ++ more) (sym h.3) ∙ same ∙ ap (λ (xs : List ℕ). xs ++ less) k.3) in
    record { behind = parts.1; alike = ap closes h.4 ∙ sym (ap closes k.4) }

-- ---- more bytes, and more frames

pub frames_more : (fs : List InFrame) (bytes rest piece : List ℕ) → AreFrames fs bytes rest → AreFrames fs (bytes ++ piece) (rest ++ piece)
frames_more [] bytes rest piece h = ap (λ (xs : List ℕ). xs ++ piece) h
frames_more (f ∷ fs) bytes rest piece h =
    (h.0, h.1 ++ piece, ap (λ (xs : List ℕ). xs ++ piece) h.2 ∙ append_assoc h.0 h.1 piece, h.3, h.4, frames_more fs h.1 rest piece h.5)

no_frames : (f : InFrame) (fs : List InFrame) → f ∷ fs ≡ [] → ⊥
no_frames f fs h = cc

true_false : (b : Bool) → b ≡ true → b ≡ false → ⊥
true_false b h k = cc

pub frames_then : (fs : List InFrame) (f : InFrame) (bytes rest here more : List ℕ) → AreFrames fs bytes rest → are_closed fs ≡ false → rest ≡ here ++ more → IsFramed f here → AreFrames (fs ++ f ∷ []) bytes more
frames_then [] f bytes rest here more h unclosed is framed_f = (here, more, h ∙ is, framed_f, (λ _. refl), refl)
frames_then (g ∷ []) f bytes rest here more h unclosed is framed_f = (h.0, h.1, h.2, h.3, (λ closing. absurd (true_false (closes g) closing unclosed)), (here, more, h.5 ∙ is, framed_f, (λ _. refl), refl))
frames_then (g ∷ k ∷ ks) f bytes rest here more h unclosed is framed_f =
    (h.0, h.1, h.2, h.3, (λ closing. absurd (no_frames k ks (h.4 closing))), frames_then (k ∷ ks) f h.1 rest here more h.5 unclosed is framed_f)

pub closed_then : (fs : List InFrame) (f : InFrame) → are_closed (fs ++ f ∷ []) ≡ closes f
closed_then [] f = refl
closed_then (g ∷ []) f = refl
closed_then (g ∷ k ∷ ks) f = closed_then (k ∷ ks) f

-- ---- the frames that were given are the first of all frames

-- the frames behind those that were given
pub record Behind (given fs : List InFrame) (rest last : List ℕ) : Type 0 where
  pub tail : List InFrame
  pub are : AreFrames tail rest last
  pub part : are_closed tail ≡ false → IsPart last
  pub next : next_of fs last (length given) ≡ next_of tail last 0

next_is_part : (f : InFrame) (last : List ℕ) (count : ℕ) → closes f ≡ false → next_of (f ∷ []) last (suc count) ≡ nexts.Part (length last)
next_is_part f last count unclosed = ap (λ test. if test then nexts.Ended else nexts.Part (length last)) unclosed

-- a frame that was given, and the frame that all frames have in its place
first_behind : (g : InFrame) (given : List InFrame) (f : InFrame) (fs : List InFrame) (rest last : List ℕ) → closes f ≡ false → Behind given fs rest last → Behind (g ∷ given) (f ∷ fs) rest last
first_behind g given f [] rest last unclosed h = record { tail = h.tail; are = h.are; part = h.part; next = next_is_part f last (length given) unclosed ∙ h.next }
first_behind g given f (k ∷ ks) rest last unclosed h = record { tail = h.tail; are = h.are; part = h.part; next = h.next }

open_tail : (f : InFrame) (fs : List InFrame) (last : List ℕ) → closes f ≡ false → (are_closed (f ∷ fs) ≡ false → IsPart last) → are_closed fs ≡ false → IsPart last
open_tail f [] last unclosed part h = part unclosed
open_tail f (k ∷ ks) last unclosed part h = part h

not_closing : (g : InFrame) (b : Bool) → closes g ≡ b → (closes g ≡ true → ⊥) → closes g ≡ false
not_closing g true is never = absurd (never is)
not_closing g false is never = is

-- a frame that was given and is not the last that closes
open_head : (g : InFrame) (given : List InFrame) → are_closed (g ∷ given) ≡ false → (closes g ≡ true → given ≡ []) → closes g ≡ false
open_head g [] unclosed only = unclosed
open_head g (k ∷ ks) unclosed only = not_closing g (closes g) refl (λ closing. no_frames k ks (only closing))

open_rest : (g : InFrame) (given : List InFrame) → are_closed (g ∷ given) ≡ false → are_closed given ≡ false
open_rest g [] unclosed = refl
open_rest g (k ∷ ks) unclosed = unclosed

pub behind : (given fs : List InFrame) (fed rest last : List ℕ) → AreFrames given fed rest → are_closed given ≡ false → AreFrames fs fed last → (are_closed fs ≡ false → IsPart last) → Behind given fs rest last
behind [] fs fed rest last h unclosed k part = record { tail = fs; are = subst (λ xs. AreFrames fs xs last) h k; part = part; next = refl }
behind (g ∷ given) [] fed rest last h unclosed k part = absurd (part refl g h.0 h.1 (sym k ∙ h.2) h.3)
behind (g ∷ given) (f ∷ fs) fed rest last h unclosed k part =
    let same = same_front g f h.0 k.0 h.1 k.1 h.3 k.3 (sym h.2 ∙ k.2) in
    let still : closes f ≡ false = sym same.alike ∙ open_head g given unclosed h.4 in
    first_behind g given f fs rest last still
    (behind given fs h.1 rest last h.5 (open_rest g given unclosed) (subst (λ xs. AreFrames fs xs last) (sym same.behind) k.5) (open_tail f fs last still part))

-- behind the frame that closes there is none
ended_one : (f : InFrame) (fs : List InFrame) (last : List ℕ) → closes f ≡ true → fs ≡ [] → next_of (f ∷ fs) last 1 ≡ nexts.Ended
ended_one f [] last closing none = ap (λ test. if test then nexts.Ended else nexts.Part (length last)) closing
ended_one f (k ∷ ks) last closing none = absurd (no_frames k ks none)

ended_more : (f : InFrame) (fs : List InFrame) (last : List ℕ) (count : ℕ) → next_of fs last count ≡ nexts.Ended → next_of (f ∷ fs) last (suc count) ≡ nexts.Ended
ended_more f [] last count h = absurd (cc)
ended_more f (k ∷ ks) last count h = h

pub ended : (given fs : List InFrame) (fed rest last : List ℕ) → AreFrames given fed rest → are_closed given ≡ true → AreFrames fs fed last → (are_closed fs ≡ false → IsPart last) → next_of fs last (length given) ≡ nexts.Ended
ended [] fs fed rest last h closing k part = absurd (cc)
ended (g ∷ given) [] fed rest last h closing k part = absurd (part refl g h.0 h.1 (sym k ∙ h.2) h.3)
ended (g ∷ []) (f ∷ fs) fed rest last h closing k part =
    let same = same_front g f h.0 k.0 h.1 k.1 h.3 k.3 (sym h.2 ∙ k.2) in
    let shut : closes f ≡ true = sym same.alike ∙ closing in
    ended_one f fs last shut (k.4 shut)
ended (g ∷ e ∷ es) (f ∷ fs) fed rest last h closing k part =
    let same = same_front g f h.0 k.0 h.1 k.1 h.3 k.3 (sym h.2 ∙ k.2) in
    let still : closes f ≡ false = sym same.alike ∙ not_closing g (closes g) refl (λ shut. no_frames e es (h.4 shut)) in
    ended_more f fs last (length (e ∷ es)) (ended (e ∷ es) fs h.1 rest last h.5 closing (subst (λ xs. AreFrames fs xs last) (sym same.behind) k.5) (open_tail f fs last still part))

-- ---- what clauses say of it

pub given_nothing : HasGiven [] [] ([], false)
given_nothing = (refl, ([], refl, λ _. refl))

pub given_more : (fed piece pending : List ℕ) (given : List InFrame) → HasGiven fed given (pending, false) → HasGiven (fed ++ piece) given (pending ++ piece, false)
given_more fed piece pending given h = (h.0, (h.1.0 ++ piece, frames_more given fed h.1.0 piece h.1.1, λ unclosed. ap (λ (xs : List ℕ). xs ++ piece) (h.1.2 unclosed)))

pub given_after_end : (fed piece pending : List ℕ) (given : List InFrame) → HasGiven fed given (pending, true) → HasGiven (fed ++ piece) given (pending, true)
given_after_end fed piece pending given h = (h.0, (h.1.0 ++ piece, frames_more given fed h.1.0 piece h.1.1, λ unclosed. absurd (true_false true refl unclosed)))

pub given_frame : (fed pending here more : List ℕ) (given : List InFrame) (f : InFrame) → HasGiven fed given (pending, false) → pending ≡ here ++ more → IsFramed f here → HasGiven fed (given ++ f ∷ []) (more, closes f)
given_frame fed pending here more given f h is framed_f =
    (closed_then given f, (more, frames_then given f fed h.1.0 here more h.1.1 h.0 (h.1.2 refl ∙ is) framed_f, λ _. refl))

pub given_part : (fed pending : List ℕ) (given : List InFrame) → HasGiven fed given (pending, false) → IsPart pending → (rest : List ℕ) × IsReading fed given rest × (length pending ≡ length rest)
given_part fed pending given h part = (pending, (subst (λ (rest : List ℕ). AreFrames given fed rest) (h.1.2 refl) h.1.1, λ _. part), refl)

-- what stands at the front of the frames that are left
alone_behind : (pending last : List ℕ) (tail : List InFrame) (next : Next) → AreFrames tail pending last → (are_closed tail ≡ false → IsPart last) → (IsPart pending → next ≡ nexts.Part (length pending))
    → ((f : InFrame) (here more : List ℕ) → pending ≡ here ++ more → IsFramed f here → next ≡ nexts.Frame f) → (IsPart pending ⊎ ((f : InFrame) × (here : List ℕ) × (more : List ℕ) × (pending ≡ here ++ more) × IsFramed f here)) → next ≡ next_of tail last 0
alone_behind pending last [] next are part no_more is_frame (inl h) = no_more h ∙ ap (λ (xs : List ℕ). nexts.Part (length xs)) are
alone_behind pending last [] next are part no_more is_frame (inr h) = absurd (part refl h.0 h.1 h.2 (sym are ∙ h.3) h.4)
alone_behind pending last (g ∷ gs) next are part no_more is_frame h = is_frame g are.0 are.1 are.2 are.3

alone : (fed pending last : List ℕ) (given fs : List InFrame) (next : Next) → HasGiven fed given (pending, false) → IsReading fed fs last → (IsPart pending → next ≡ nexts.Part (length pending))
    → ((f : InFrame) (here more : List ℕ) → pending ≡ here ++ more → IsFramed f here → next ≡ nexts.Frame f) → (IsPart pending ⊎ ((f : InFrame) × (here : List ℕ) × (more : List ℕ) × (pending ≡ here ++ more) × IsFramed f here)) → next ≡ next_of fs last (length given)
alone fed pending last given fs next h reading no_more is_frame which =
    let rest = behind given fs fed pending last (subst (λ (xs : List ℕ). AreFrames given fed xs) (h.1.2 refl) h.1.1) h.0 reading.0 reading.1 in
    alone_behind pending last rest.tail next rest.are rest.part no_more is_frame which ∙ sym rest.next

pub alone_part : (fed pending last : List ℕ) (given fs : List InFrame) → HasGiven fed given (pending, false) → IsReading fed fs last → IsPart pending → nexts.Part (length pending) ≡ next_of fs last (length given)
alone_part fed pending last given fs h reading part =
    alone fed pending last given fs (nexts.Part (length pending)) h reading (λ _. refl) (λ f here more is framed_f. absurd (part f here more is framed_f)) (inl part)

-- a frame of this JSON
frame_there : (found f : InFrame) (json more here less : List ℕ) → length json ≤ max_len → ((g : InFrame) → IsFrameOf g json → found ≡ g) → framed json ++ more ≡ here ++ less → IsFramed f here → found ≡ f
frame_there found f json more here less small only same (inl k) =
    let parts = same_json json k.0 more less small k.1 (same ∙ ap (λ (xs : List ℕ). xs ++ less) k.2) in
    only f (subst (IsFrameOf f) (sym parts.0) k.3)
frame_there found f json more here less small only same (inr k) = absurd (not_both json more less k.0 small k.1 k.2 (same ∙ ap (λ (xs : List ℕ). xs ++ less) k.3))

pub alone_whole : (fed pending last json more : List ℕ) (given fs : List InFrame) (found : InFrame) → HasGiven fed given (pending, false) → IsReading fed fs last → pending ≡ framed json ++ more → length json ≤ max_len → IsFrameOf found json
    → ((g : InFrame) → IsFrameOf g json → found ≡ g) → nexts.Frame found ≡ next_of fs last (length given)
alone_whole fed pending last json more given fs found h reading is small is_found only =
    let whole : IsFramed found (framed json) = inl (json, small, refl, is_found) in
    alone fed pending last given fs (nexts.Frame found) h reading (λ part. absurd (part found (framed json) more is whole))
    (λ f here less spelled framed_f. ap nexts.Frame (frame_there found f json more here less small only (sym is ∙ spelled) framed_f)) (inr (found, framed json, more, is, whole))

refused_there : (f : InFrame) (n : ℕ) (more here less : List ℕ) → max_len < n → n < 2 ^ 32 → prefix n ++ more ≡ here ++ less → IsFramed f here → frames.TooLong n ≡ f
refused_there f n more here less large fits same (inl k) = absurd (not_both k.0 less more n k.1 large fits (ap (λ (xs : List ℕ). xs ++ less) (sym k.2) ∙ sym same))
refused_there f n more here less large fits same (inr k) =
    let parts = same_number n k.0 more less fits k.2 (same ∙ ap (λ (xs : List ℕ). xs ++ less) k.3) in
    ap frames.TooLong parts.0 ∙ sym k.4

pub alone_refused : (fed pending last more : List ℕ) (given fs : List InFrame) (n : ℕ) → HasGiven fed given (pending, false) → IsReading fed fs last → pending ≡ prefix n ++ more → max_len < n → n < 2 ^ 32 → nexts.Frame (frames.TooLong n) ≡ next_of fs last (length given)
alone_refused fed pending last more given fs n h reading is large fits =
    let whole : IsFramed (frames.TooLong n) (prefix n) = inr (n, large, fits, refl, refl) in
    alone fed pending last given fs (nexts.Frame (frames.TooLong n)) h reading (λ part. absurd (part (frames.TooLong n) (prefix n) more is whole))
    (λ f here less spelled framed_f. ap nexts.Frame (refused_there f n more here less large fits (sym is ∙ spelled) framed_f)) (inr (frames.TooLong n, prefix n, more, is, whole))

pub alone_ended : (fed pending last : List ℕ) (given fs : List InFrame) → HasGiven fed given (pending, true) → IsReading fed fs last → nexts.Ended ≡ next_of fs last (length given)
alone_ended fed pending last given fs h reading = sym (ended given fs fed h.1.0 last h.1.1 h.0 reading.0 reading.1)

pub feed_ended : (fed piece pending : List ℕ) (given : List InFrame) (ended_too : Bool) → ended_too ≡ true → HasGiven fed given (pending, ended_too) → HasGiven (fed ++ piece) given (pending, ended_too)
feed_ended fed piece pending given false is h = absurd (cc)
feed_ended fed piece pending given true is h = given_after_end fed piece pending given h

pub feed_open : (fed piece pending after : List ℕ) (given : List InFrame) (unclosed : Bool) → unclosed ≡ false → after ≡ pending ++ piece → HasGiven fed given (pending, unclosed) → HasGiven (fed ++ piece) given (after, unclosed)
feed_open fed piece pending after given true is same h = absurd (cc)
feed_open fed piece pending after given false is same h = subst (λ (xs : List ℕ). HasGiven (fed ++ piece) given (xs, false)) (sym same) (given_more fed piece pending given h)

-- ---- what stands at the front

pub short_is_part : (held : List ℕ) → IsShort held → IsPart held
short_is_part held short f here more is (inl k) = short.whole k.0 more k.1 (is ∙ ap (λ (xs : List ℕ). xs ++ more) k.2)
short_is_part held short f here more is (inr k) = short.refused k.0 more k.1 k.2 (is ∙ ap (λ (xs : List ℕ). xs ++ more) k.3)

pub given_refused : (fed pending more : List ℕ) (given : List InFrame) (n : ℕ) (left : List ℕ) → HasGiven fed given (pending, false) → pending ≡ prefix n ++ more → max_len < n → n < 2 ^ 32 → HasGiven fed (given ++ frames.TooLong n ∷ []) (left, true)
given_refused fed pending more given n left h is large fits =
    let next = given_frame fed pending (prefix n) more given (frames.TooLong n) h is (inr (n, large, fits, refl, refl)) in
    (next.0, (next.1.0, next.1.1, λ unclosed. absurd (true_false true refl unclosed)))

pub whole_len : (json more : List ℕ) → length (framed json) ≡ 4 + length json
whole_len json more = omega (arith, length-append (prefix (length json)) json, length_4 (length json))

pub given_whole : (fed pending json more : List ℕ) (given : List InFrame) (f : InFrame) (after : List ℕ × Bool) → HasGiven fed given (pending, false) → pending ≡ framed json ++ more → length json ≤ max_len → IsFrameOf f json
    → after ≡ (drop (4 + length json) pending, closes f) → HasGiven fed (given ++ f ∷ []) after
given_whole fed pending json more given f after h is small is_f left =
    let behind_it : drop (4 + length json) pending ≡ more = ap (drop (4 + length json)) is ∙ drop_at (framed json) more (4 + length json) (whole_len json more) in
    subst (HasGiven fed (given ++ f ∷ [])) (sym (left ∙ ap (λ (xs : List ℕ). (xs, closes f)) behind_it)) (given_frame fed pending (framed json) more given f h is (inl (json, small, refl, is_f)))

pub whole_within : (pending json more : List ℕ) → pending ≡ framed json ++ more → 4 + length json ≤ length pending
whole_within pending json more is = let whole = ap length is in omega (arith, length-append (framed json) more, whole_len json more)

-- a reader that has not ended, by the bytes that it holds
pub open_reader : (fed held : List ℕ) (given : List InFrame) (reader : List ℕ × Bool) → HasGiven fed given reader → reader.1 ≡ false → held ≡ reader.0 → HasGiven fed given (held, false)
open_reader fed held given reader h unclosed is = subst (λ (xs : List ℕ). HasGiven fed given (xs, false)) (sym is) (subst (λ b. HasGiven fed given (reader.0, b)) unclosed h)

pub ended_reader : (fed : List ℕ) (given : List InFrame) (reader : List ℕ × Bool) → HasGiven fed given reader → reader.1 ≡ true → HasGiven fed given (reader.0, true)
ended_reader fed given reader h is = subst (λ b. HasGiven fed given (reader.0, b)) is h
