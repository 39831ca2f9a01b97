-- Reading the words of a line from left to right. A tail is what is left behind a word: it is empty or begins with a space.
use Rattle.std.specs.Prelude.{◌≡◌, ℕ, ℤ, pos, neg_ℤ, List, [], ◌∷◌, length, take, drop, zero, suc, Bool, true, not, Option, Some, None, Result, Ok, Err, ◌==◌, nat_le, if◌then◌else◌, codes}
use Rattle.std.specs.List.{prefix_len}
use Rattle.std.specs.Str.{bytes_eq, is_utf8}
use Rattle.std.specs.Str.Parse.{digits_value}
use Rattle.vx_data.specs.declared.ids.PassNo.{PassNo}
use Rattle.vx_data.specs.declared.ids.ContextId.{ContextId}
use Rattle.vx_data.specs.Tree.{Tree}
use Rattle.vx_data.specs.Bodies.{tree_depth}
use Rattle.vx_json.specs.Grammar.{max_read_depth}
use Rattle.vx_json.specs.Reading.{after, json_of}
use Rattle.vx_message.specs.declared.DoneResult.{DoneResult}
use Rattle.vx_message.specs.declared.DoneResult.TheVariants as results
use Rattle.vx_message.specs.declared.Lane.{Lane}
use Rattle.vx_message.specs.declared.Lane.TheVariants as lanes
use Rattle.vx_call.specs.declared.call.End.{End}
use Rattle.vx_call.specs.declared.call.End.TheVariants as ends
use Rattle.vx_message.specs.declared.rules.CodecForm.{CodecForm}
use Rattle.vx_message.specs.declared.rules.CodecForm.TheVariants.{Copy, KeepKeys, DropKeys, Wrap}
use Rattle.vx_message.specs.declared.rules.Condition.{Condition}
use Rattle.vx_message.specs.declared.rules.Condition.TheVariants.{Any, At, Has}
use Rattle.vx_message.specs.declared.rules.Side.{Side}
use Rattle.vx_message.specs.declared.rules.Side.TheVariants as sides
use Rattle.vx_message.specs.declared.rules.Verdict.{Verdict}
use Rattle.vx_message.specs.declared.rules.Verdict.TheVariants.{Stop, Add}
use Rattle.vx_words.specs.declared.fault.LineFault.{LineFault}
use Rattle.vx_words.specs.declared.fault.LineFault.TheVariants as faults
use Rattle.vx_words.specs.Grammar.{is_number, is_negated, is_blank, is_pass, Token, AWord, ANumber, AtMost, AContext, ASigned, AText, AKnown, AHeader, ASide, ACondition, AVerdict, TokenValue, Ending, Nothing, TheRest, ABody, ACodecForm, ALane, AnEnd, AResult, EndValue, Values}

-- what a step reads, and the next step from there
infixl 10 ◌>>=◌
abbrev pub ◌>>=◌ : {A B : Type 0} → Option A → (A → Option B) → Option B
(Some x) >>= f = f x
None >>= f = None

-- what reading gives where a function failed; nothing is said where memory ran out
abbrev pub Fails : {Y : Type 0} → LineFault → Option Y → Type 0
Fails faults.NoMemory read = Unit {0}
Fails faults.Misfit read = read ≡ None

-- what a function returned, seen by `view`, is what reading gives
abbrev pub Gives : {X Y : Type 0} → (X → Y) → Result X LineFault → Option Y → Type 0
Gives view (Ok x) read = read ≡ Some (view x)
Gives view (Err fault) read = Fails fault read

-- ## Words

-- the length of the word at the front, and of the spaces at the front
abbrev pub word_len : List ℕ → ℕ
word_len bytes = prefix_len (λ b. not (b == 32)) bytes

abbrev pub spaces_len : List ℕ → ℕ
spaces_len bytes = prefix_len (λ b. b == 32) bytes

-- how many bytes stand before the first of this one
abbrev pub place_of : ℕ → List ℕ → ℕ
place_of letter bytes = prefix_len (λ b. not (b == letter)) bytes

abbrev pub without_spaces : List ℕ → List ℕ
without_spaces bytes = drop (spaces_len bytes) bytes

abbrev pub first_word : List ℕ → List ℕ
first_word bytes = take (word_len bytes) bytes

abbrev pub behind_word : List ℕ → List ℕ
behind_word bytes = drop (word_len bytes) bytes

-- what stands behind the spaces at the front, of which there is one at least
unfoldable pub behind_spaces : List ℕ → Option (List ℕ)
behind_spaces tail = if spaces_len tail == 0 then None else Some (without_spaces tail)

abbrev pub split_word : List ℕ → Option (List ℕ × List ℕ)
split_word [] = None
split_word (b ∷ bs) = Some (first_word (b ∷ bs), behind_word (b ∷ bs))

-- the word behind the spaces, and the tail behind it
unfoldable pub word_at : List ℕ → Option (List ℕ × List ℕ)
word_at tail = behind_spaces tail >>= split_word

-- ## What one word says

unfoldable pub number_in : ℕ → List ℕ → Option ℕ
number_in bits text = if is_number bits text then Some (digits_value 10 text) else None

-- the number behind the point
abbrev pub instance_in : List ℕ → Option ℕ
instance_in [] = Some 0
instance_in (point ∷ digits) = number_in 32 digits

unfoldable pub context_in : List ℕ → Option ContextId
context_in text = do
  entry ← number_in 64 (take (place_of 46 text) text)
  instance ← instance_in (drop (place_of 46 text) text)
  Some (record { entry = record { 0 = entry }; instance = instance })

-- the number of 32 bits, where it is at most this
unfoldable pub at_most_in : ℕ → List ℕ → Option ℕ
at_most_in limit text = number_in 32 text >>= λ number. (if nat_le number limit then Some number else None)

abbrev pub negative_in : ℕ → List ℕ → Option ℤ
negative_in bits digits = if is_negated bits digits then Some (neg_ℤ (pos (digits_value 10 digits))) else None

abbrev pub positive_in : ℕ → List ℕ → Option ℤ
positive_in bits digits = if is_number bits digits then Some (pos (digits_value 10 digits)) else None

-- the digits of a number, behind its sign
abbrev pub behind_minus : List ℕ → List ℕ
behind_minus [] = []
behind_minus (b ∷ bs) = if b == 45 then bs else b ∷ bs

unfoldable pub signed_in : ℕ → List ℕ → Option ℤ
signed_in bits [] = None
signed_in bits (b ∷ bs) = if b == 45 then negative_in bits bs else positive_in bits (b ∷ bs)

-- the text of bytes that are UTF-8
unfoldable pub text_in : List ℕ → Option (List ℕ)
text_in text = if is_utf8 text then Some text else None

-- the value of a header, from the equals sign on
abbrev pub value_in : List ℕ → Option (List ℕ)
value_in [] = None
value_in (sign ∷ value) = text_in value

unfoldable pub header_in : List ℕ → Option (List ℕ × List ℕ)
header_in text = do
  name ← text_in (take (place_of 61 text) text)
  value ← value_in (drop (place_of 61 text) text)
  Some (name, value)

unfoldable pub side_in : List ℕ → Option Side
side_in text = if bytes_eq text (codes "in") then Some sides.In else if bytes_eq text (codes "out") then Some sides.Out else None

abbrev pub has_in : List ℕ → Option Condition
has_in text = after (codes "has:") text >>= λ name. (text_in name >>= λ name. Some (Has name))

abbrev pub at_in : Option (List ℕ) → List ℕ → Option Condition
at_in None text = has_in text
at_in (Some address) text = text_in address >>= λ address. Some (At address)

unfoldable pub condition_in : List ℕ → Option Condition
condition_in text = if bytes_eq text (codes "any") then Some Any else at_in (after (codes "at:") text) text

unfoldable pub verdict_in : List ℕ → Option Verdict
verdict_in text = if bytes_eq text (codes "stop") then Some Stop else (after (codes "add:") text >>= λ header. (header_in header >>= λ header. Some (Add header.0 header.1)))

-- what a word says
abbrev pub token_in : (token : Token) → List ℕ → Option (TokenValue token)
token_in (AWord word) text = if bytes_eq text word then Some tt else None
token_in (ANumber bits) text = number_in bits text
token_in (AtMost limit) text = at_most_in limit text
token_in AContext text = context_in text
token_in (ASigned bits) text = signed_in bits text
token_in AText text = text_in text
token_in (AKnown test) text = if test text then text_in text else None
token_in AHeader text = header_in text
token_in ASide text = side_in text
token_in ACondition text = condition_in text
token_in AVerdict text = verdict_in text

-- the next word, and the tail behind it
abbrev pub token_at : (token : Token) → List ℕ → Option (TokenValue token × List ℕ)
token_at token tail = word_at tail >>= λ word. (token_in token word.0 >>= λ value. Some (value, word.1))

-- ## Endings

-- nothing but spaces is left
unfoldable pub end_at : List ℕ → Option (Unit {0})
end_at tail = if is_blank tail then Some tt else None

-- the rest of the line
unfoldable pub rest_at : List ℕ → Option (List ℕ)
rest_at [] = Some []
rest_at (b ∷ bs) = behind_spaces (b ∷ bs) >>= text_in

-- the body of a JSON text
unfoldable pub body_in : List ℕ → Option Tree
body_in text = json_of text >>= λ body. (if nat_le (tree_depth body) max_read_depth then Some body else None)

-- the same behind one space
unfoldable pub body_at : List ℕ → Option Tree
body_at [] = None
body_at (b ∷ bs) = if b == 32 then body_in bs else None

-- the words that are left, in at most so many turns
abbrev pub with_word : (List ℕ → Option (List (List ℕ))) → List ℕ → Option (List ℕ × List ℕ) → Option (List (List ℕ))
with_word more tail None = end_at tail >>= λ _. Some []
with_word more tail (Some word) = text_in word.0 >>= λ text. (more word.1 >>= λ texts. Some (text ∷ texts))

unfoldable pub words_in : ℕ → List ℕ → Option (List (List ℕ))
words_in zero tail = end_at tail >>= λ _. Some []
words_in (suc turns) tail = with_word (words_in turns) tail (word_at tail)

unfoldable pub words_at : List ℕ → Option (List (List ℕ))
words_at tail = words_in (length tail) tail

-- the form of a codec, behind its first word
abbrev pub codec_form_by : List ℕ → List ℕ → Option CodecForm
codec_form_by word tail =
    if bytes_eq word (codes "copy") then (end_at tail >>= λ _. Some Copy)
    else if bytes_eq word (codes "keep") then (words_at tail >>= λ keys. Some (KeepKeys keys))
    else if bytes_eq word (codes "drop") then (words_at tail >>= λ keys. Some (DropKeys keys))
    else if bytes_eq word (codes "wrap") then (token_at AText tail >>= λ key. (end_at key.1 >>= λ _. Some (Wrap key.0)))
    else None

unfoldable pub codec_form_at : List ℕ → Option CodecForm
codec_form_at tail = word_at tail >>= λ word. codec_form_by word.0 word.1

-- one word that says something, and nothing else
abbrev pub last_at : (token : Token) → List ℕ → Option (TokenValue token)
last_at token tail = token_at token tail >>= λ x. (end_at x.1 >>= λ _. Some x.0)

-- a lane, behind its first word
abbrev pub lane_by : List ℕ → List ℕ → Option Lane
lane_by word tail =
    if bytes_eq word (codes "loop") then (last_at (ANumber 8) tail >>= λ number. Some (lanes.Loop number))
    else if bytes_eq word (codes "pool") then (end_at tail >>= λ _. Some lanes.Pool)
    else if bytes_eq word (codes "named") then (last_at (ANumber 64) tail >>= λ entry. Some (lanes.Named (record { 0 = record { 0 = entry } })))
    else if bytes_eq word (codes "own") then (last_at AContext tail >>= λ context. Some (lanes.Own context))
    else None

unfoldable pub lane_at : List ℕ → Option Lane
lane_at tail = word_at tail >>= λ word. lane_by word.0 word.1

-- what the next word leads to, or this where none follows
abbrev pub by_word : {A : Type 0} → A → (List ℕ → List ℕ → Option A) → List ℕ → Option (List ℕ × List ℕ) → Option A
by_word without by tail None = end_at tail >>= λ _. Some without
by_word without by tail (Some word) = by word.0 word.1

-- how a task ends, behind its first word
abbrev pub task_end_by : List ℕ → List ℕ → Option End
task_end_by word tail =
    if bytes_eq word (codes "later") then (end_at tail >>= λ _. Some ends.Later)
    else if bytes_eq word (codes "value") then (last_at (ASigned 63) tail >>= λ value. Some (ends.Value value))
    else if bytes_eq word (codes "fail") then (last_at (ASigned 31) tail >>= λ code. Some (ends.Fail code))
    else if bytes_eq word (codes "nomemory") then (end_at tail >>= λ _. Some ends.NoMemory)
    else None

unfoldable pub task_end_at : List ℕ → Option End
task_end_at tail = by_word ends.Done task_end_by tail (word_at tail)

-- how a start ends, behind its first word
abbrev pub result_by : List ℕ → List ℕ → Option DoneResult
result_by word tail =
    if bytes_eq word (codes "fail") then (last_at (ASigned 31) tail >>= λ code. Some (results.Fail code))
    else if bytes_eq word (codes "nomemory") then (end_at tail >>= λ _. Some results.NoMemory)
    else None

unfoldable pub result_at : List ℕ → Option DoneResult
result_at tail = by_word results.Ok result_by tail (word_at tail)

abbrev pub ending_at : (ending : Ending) → List ℕ → Option (EndValue ending)
ending_at Nothing tail = end_at tail
ending_at TheRest tail = rest_at tail
ending_at ABody tail = body_at tail
ending_at ACodecForm tail = codec_form_at tail
ending_at ALane tail = lane_at tail
ending_at AnEnd tail = task_end_at tail
ending_at AResult tail = result_at tail

abbrev pub values_at : (tokens : List Token) (ending : Ending) → List ℕ → Option (Values tokens ending)
values_at [] ending tail = ending_at ending tail
values_at (token ∷ tokens) ending tail = token_at token tail >>= λ x. (values_at tokens ending x.1 >>= λ xs. Some (x.0, xs))

-- ## Passes

-- Whether a line, from its first word on, names no pass or one that is there.
abbrev pub names_pass : ℕ → List ℕ → Bool
names_pass passes [] = true
names_pass passes (b ∷ bs) = if b == 64 then is_pass passes (first_word bs) else true

-- the pass that it names, or pass 0
abbrev pub pass_of : List ℕ → PassNo
pass_of [] = record { 0 = 0 }
pass_of (b ∷ bs) = record { 0 = if b == 64 then digits_value 10 (first_word bs) else 0 }

-- what stands behind the pass
abbrev pub behind_pass : List ℕ → List ℕ
behind_pass [] = []
behind_pass (b ∷ bs) = if b == 64 then without_spaces (behind_word bs) else b ∷ bs

-- the pass of a line, from its first word on, and what stands behind it
abbrev pub pass_at : ℕ → List ℕ → Option (PassNo × List ℕ)
pass_at passes bytes = if names_pass passes bytes then Some (pass_of bytes, behind_pass bytes) else None
