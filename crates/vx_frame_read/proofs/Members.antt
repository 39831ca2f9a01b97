-- The fields of a frame, as they are read, against the members of its text.
use Rattle.std.proofs.Common.{◌≡◌, refl, sym, ◌∙◌, ap, ℕ, zero, suc, ◌<◌, ◌≤◌, ◌⊎◌, inl, inr, List, [], ◌∷◌, ◌++◌, length, Bool, true, false, Option, Some, None, if◌then◌else◌, arith}
use Rattle.std.specs.Prelude.{◌||◌, nat_lt, option_map, option_and_then, unwrap_or, codes}
use mathlib.Core.Path.{subst}
use Rattle.std.specs.Option.{option_or, option_map_or}
use Rattle.std.specs.Str.{bytes_eq}
use Rattle.std.proofs.lemmas.Bool.Decides.{nat_tests}
use Rattle.vx_data.specs.Tree.{Tree, null, boolean, int, text, bytes, array, object, Members, no_members, member}
use Rattle.vx_data.specs.Bodies.{tree_depth}
use Rattle.vx_json.specs.Grammar.{IsJson, settled}
use Rattle.vx_json.specs.Keeps.{Keeps}
use Rattle.vx_json_parts.specs.Parts.{IsPart, AreFields}
use Rattle.vx_json_parts.specs.declared.part.Part.{Part}
use Rattle.vx_json.proofs.Keeping.{within_or_deep}
use Rattle.vx_message.specs.declared.frame.FrameMessage.{FrameMessage}
use Rattle.vx_message.specs.declared.frame.InFrame.{InFrame}
use Rattle.vx_message.specs.declared.frame.InFrame.TheVariants as frames
use Rattle.vx_frame_read.specs.Fields.{last_part, MayBePart, text_of_part, body_of, framed_message, within}
use Rattle.vx_frame_read.specs.Frames.{last, field, text_in, text_field, body_in, headers_field, headers_in, is_long, is_large, message_in, send_in, publish_in}
use Rattle.vx_frame_read.specs.HeaderPairs.{header_pairs, are_large}

-- ---- the last of a name

or_part : (s t : Option Tree) (p q : Option Part) → MayBePart s p → MayBePart t q → MayBePart (option_or s t) (option_or p q)
or_part None t None q h k = k
or_part None t (Some p) q h k = absurd h
or_part (Some s) t None q h k = absurd h
or_part (Some s) t (Some p) q h k = h

if_part : (test : Bool) (t : Tree) (p : Part) → IsPart t p → MayBePart (if test then Some t else None) (if test then Some p else None)
if_part true t p h = h
if_part false t p h = tt

pub last_is_part : (name : List ℕ) (ms : Members) (fields : List (List ℕ × Part)) → AreFields ms fields → MayBePart (last name ms) (last_part name fields)
last_is_part name no_members [] h = tt
last_is_part name no_members (f ∷ fs) h = absurd h
last_is_part name (member k t ms) [] h = absurd h
last_is_part name (member k t ms) (f ∷ fs) h =
    or_part (last name ms) (if bytes_eq k name then Some t else None) (last_part name fs) (if bytes_eq f.0 name then Some f.1 else None) (last_is_part name ms fs h.2)
    (subst (λ (key : List ℕ). MayBePart (if bytes_eq k name then Some t else None) (if bytes_eq key name then Some f.1 else None)) (sym h.0) (if_part (bytes_eq k name) t f.1 h.1))

-- ---- texts

no_text_deep : (t : Tree) → 0 < tree_depth t → text_in t ≡ None
no_text_deep null deep = refl
no_text_deep (boolean b) deep = refl
no_text_deep (int n) deep = refl
no_text_deep (text s) deep = absurd (omega arith)
no_text_deep (bytes s) deep = refl
no_text_deep (array es) deep = refl
no_text_deep (object ms) deep = refl

text_kept : (k s : Tree) → Keeps k s → (tree_depth s ≤ 100) ⊎ (100 < tree_depth s) → text_in k ≡ text_in s
text_kept k s h (inl small) = ap text_in (h.exact small)
text_kept k s h (inr deep) = no_text_deep k (omega (arith, h.deep deep)) ∙ sym (no_text_deep s (omega arith))

text_of_last : (t : Option Tree) (p : Option Part) → MayBePart t p → option_and_then text_in (option_map settled t) ≡ option_and_then text_of_part p
text_of_last None None h = refl
text_of_last None (Some p) h = absurd h
text_of_last (Some t) None h = absurd h
text_of_last (Some t) (Some p) h = sym (text_kept p.body (settled t) h.keeps (within_or_deep (tree_depth (settled t))))

-- what stands in a part that was found is the member of that name
pub part_found : (name : List ℕ) (ms : Members) (fields : List (List ℕ × Part)) (found : Option Part) → AreFields ms fields → found ≡ last_part name fields → MayBePart (last name ms) found
part_found name ms fields found h is = subst (MayBePart (last name ms)) (sym is) (last_is_part name ms fields h)

pub text_of_found : (name : List ℕ) (ms : Members) (fields : List (List ℕ × Part)) (found : Option Part) → AreFields ms fields → found ≡ last_part name fields → option_and_then text_of_part found ≡ text_field name ms
text_of_found name ms fields found h is = sym (text_of_last (last name ms) found (part_found name ms fields found h is))

-- ---- the body

body_kept : (t : Option Tree) (p : Option Part) → MayBePart t p → Keeps (body_of p) (unwrap_or (option_map settled t) null)
body_kept None None h = record { exact = λ _. refl; deep = λ deep. absurd (omega arith) }
body_kept None (Some p) h = absurd h
body_kept (Some t) None h = absurd h
body_kept (Some t) (Some p) h = h.keeps

pub body_keeps : (ms : Members) (fields : List (List ℕ × Part)) → AreFields ms fields → Keeps (body_of (last_part (codes "body") fields)) (body_in ms)
body_keeps ms fields h = body_kept (last (codes "body") ms) (last_part (codes "body") fields) (last_is_part (codes "body") ms fields h)

same_depth : (k s : Tree) → Keeps k s → (tree_depth s ≤ 100) ⊎ (100 < tree_depth s) → 100 < tree_depth k → 100 < tree_depth s
same_depth k s h (inl small) deep = let same = ap tree_depth (h.exact small) in absurd (omega arith)
same_depth k s h (inr large) deep = large

less_depth : (k s : Tree) → Keeps k s → (tree_depth s ≤ 100) ⊎ (100 < tree_depth s) → tree_depth k ≤ 100 → tree_depth s ≤ 100
less_depth k s h (inl small) flat = small
less_depth k s h (inr large) flat = let kept = h.deep large in absurd (omega arith)

pub body_deep : (ms : Members) (fields : List (List ℕ × Part)) → AreFields ms fields → 100 < tree_depth (body_of (last_part (codes "body") fields)) → nat_lt 100 (tree_depth (body_in ms)) ≡ true
body_deep ms fields h deep =
    let large : 100 < tree_depth (body_in ms) = same_depth (body_of (last_part (codes "body") fields)) (body_in ms) (body_keeps ms fields h) (within_or_deep (tree_depth (body_in ms))) deep in
    grind (arith, nat_tests)

pub body_flat : (ms : Members) (fields : List (List ℕ × Part)) → AreFields ms fields → tree_depth (body_of (last_part (codes "body") fields)) ≤ 100 → (nat_lt 100 (tree_depth (body_in ms)) ≡ false) × (body_of (last_part (codes "body") fields) ≡ body_in ms)
body_flat ms fields h flat =
    let small : tree_depth (body_in ms) ≤ 100 = less_depth (body_of (last_part (codes "body") fields)) (body_in ms) (body_keeps ms fields h) (within_or_deep (tree_depth (body_in ms))) flat in
    (grind (arith, nat_tests), (body_keeps ms fields h).exact small)

-- ---- headers

within_none : (test : Bool) (pairs : List (List ℕ × List ℕ)) → None ≡ (if test then None else Some pairs) → test ≡ true
within_none true pairs h = refl
within_none false pairs h = absurd (cc)

within_some : (test : Bool) (found pairs : List (List ℕ × List ℕ)) → Some found ≡ (if test then None else Some pairs) → (test ≡ false) × (found ≡ pairs)
within_some true found pairs h = absurd (cc)
within_some false found pairs h = (refl, (cc))

pub headers_large : (ms : Members) → None ≡ within (headers_in ms) → are_large (headers_in ms) ≡ true
headers_large ms h = within_none (are_large (headers_in ms)) (headers_in ms) h

pub headers_fit : (ms : Members) (found : List (List ℕ × List ℕ)) → Some found ≡ within (headers_in ms) → (are_large (headers_in ms) ≡ false) × (found ≡ headers_in ms)
headers_fit ms found h = within_some (are_large (headers_in ms)) found (headers_in ms) h

-- ---- messages

abbrev pub message_with : List ℕ → List (List ℕ × List ℕ) → Tree → FrameMessage
message_with address headers body = record { address = address; headers = headers; body = body }

pub large_message : (publish : Bool) (address : List ℕ) (ms : Members) → is_large ms ≡ true → frames.Large ≡ framed_message publish address ms
large_message true address ms h = sym (ap (λ test. if test then frames.Large else frames.Publish (message_in address ms)) h)
large_message false address ms h = sym (ap (λ test. if test then frames.Large else frames.Send (message_in address ms) (text_field (codes "replyAddress") ms)) h)

or_first : (a b c : Bool) → a ≡ true → (a || b || c) ≡ true
or_first true b c h = refl
or_first false b c h = absurd (cc)

or_second : (a b c : Bool) → b ≡ true → (a || b || c) ≡ true
or_second true b c h = refl
or_second false true c h = refl
or_second false false c h = absurd (cc)

or_third : (a b c : Bool) → c ≡ true → (a || b || c) ≡ true
or_third true b c h = refl
or_third false true c h = refl
or_third false false c h = h

or_none : (a b c : Bool) → a ≡ false → b ≡ false → c ≡ false → (a || b || c) ≡ false
or_none true b c h k l = absurd (cc)
or_none false true c h k l = absurd (cc)
or_none false false c h k l = l

pub deep_is_large : (ms : Members) → nat_lt 100 (tree_depth (body_in ms)) ≡ true → is_large ms ≡ true
deep_is_large ms h = or_first (nat_lt 100 (tree_depth (body_in ms))) (are_large (headers_in ms)) (is_long (text_field (codes "replyAddress") ms)) h

pub many_is_large : (ms : Members) → are_large (headers_in ms) ≡ true → is_large ms ≡ true
many_is_large ms h = or_second (nat_lt 100 (tree_depth (body_in ms))) (are_large (headers_in ms)) (is_long (text_field (codes "replyAddress") ms)) h

pub long_is_large : (ms : Members) → is_long (text_field (codes "replyAddress") ms) ≡ true → is_large ms ≡ true
long_is_large ms h = or_third (nat_lt 100 (tree_depth (body_in ms))) (are_large (headers_in ms)) (is_long (text_field (codes "replyAddress") ms)) h

pub not_large : (ms : Members) → nat_lt 100 (tree_depth (body_in ms)) ≡ false → are_large (headers_in ms) ≡ false → is_long (text_field (codes "replyAddress") ms) ≡ false → is_large ms ≡ false
not_large ms h k l = or_none (nat_lt 100 (tree_depth (body_in ms))) (are_large (headers_in ms)) (is_long (text_field (codes "replyAddress") ms)) h k l

same_message : (address : List ℕ) (ms : Members) (headers : List (List ℕ × List ℕ)) (body : Tree) → headers ≡ headers_in ms → body ≡ body_in ms → message_with address headers body ≡ message_in address ms
same_message address ms headers body k l = λ i. message_with address (k i) (l i)

pub small_publish : (address : List ℕ) (ms : Members) (headers : List (List ℕ × List ℕ)) (body : Tree) → is_large ms ≡ false → headers ≡ headers_in ms → body ≡ body_in ms → frames.Publish (message_with address headers body) ≡ framed_message true address ms
small_publish address ms headers body h k l = ap frames.Publish (same_message address ms headers body k l) ∙ sym (ap (λ test. if test then frames.Large else frames.Publish (message_in address ms)) h)

pub small_send : (address : List ℕ) (ms : Members) (reply : Option (List ℕ)) (headers : List (List ℕ × List ℕ)) (body : Tree) → is_large ms ≡ false → reply ≡ text_field (codes "replyAddress") ms → headers ≡ headers_in ms → body ≡ body_in ms → frames.Send (message_with address headers body) reply ≡ framed_message false address ms
small_send address ms reply headers body h r k l = (λ i. frames.Send (same_message address ms headers body k l i) (r i)) ∙ sym (ap (λ test. if test then frames.Large else frames.Send (message_in address ms) (text_field (codes "replyAddress") ms)) h)
