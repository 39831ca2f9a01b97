-- The words of a line: what one word spells, what a line ends with, and which pass it names, apart from how they are read. The language is this project's own.
use Rattle.std.specs.Prelude.{◌≡◌, ℕ, ◌+◌, ◌^◌, ℤ, pos, neg_ℤ, List, [], ◌∷◌, ◌++◌, length, Bool, false, ◌&&◌, not, nat_le, nat_lt, ◌==◌, IsTrue, codes, replicate, Ok, ◌⊎◌}
use Rattle.std.specs.List.{list_all}
use Rattle.std.specs.Char.{is_ascii_digit}
use Rattle.std.specs.Str.{IsUtf8}
use Rattle.std.specs.Str.Parse.{digits_value}
use Rattle.vx_data.specs.declared.ids.PassNo.{PassNo}
use Rattle.vx_data.specs.declared.ids.ContextId.{ContextId}
use Rattle.vx_data.specs.Tree.{Tree}
use Rattle.vx_json.specs.Grammar.{IsJson}
use Rattle.vx_json.specs.Answers.{IsAnswer}
use Rattle.vx_message.specs.declared.DoneResult.{DoneResult}
use Rattle.vx_message.specs.declared.DoneResult.TheVariants as results
use Rattle.vx_message.specs.declared.Lane.{Lane}
use Rattle.vx_message.specs.declared.Lane.TheVariants as lanes
use Rattle.vx_call.specs.declared.call.End.{End}
use Rattle.vx_call.specs.declared.call.End.TheVariants as ends
use Rattle.vx_message.specs.declared.rules.CodecForm.{CodecForm}
use Rattle.vx_message.specs.declared.rules.CodecForm.TheVariants.{Copy, KeepKeys, DropKeys, Wrap}
use Rattle.vx_message.specs.declared.rules.Condition.{Condition}
use Rattle.vx_message.specs.declared.rules.Condition.TheVariants.{Any, At, Has}
use Rattle.vx_message.specs.declared.rules.Side.{Side}
use Rattle.vx_message.specs.declared.rules.Side.TheVariants as sides
use Rattle.vx_message.specs.declared.rules.Verdict.{Verdict}
use Rattle.vx_message.specs.declared.rules.Verdict.TheVariants.{Stop, Add}

-- ## Letters

-- spaces and nothing else
abbrev pub is_blank : List ℕ → Bool
is_blank text = list_all (λ b. b == 32) text

-- no byte is this one
abbrev pub has_no : ℕ → List ℕ → Bool
has_no letter text = list_all (λ b. not (b == letter)) text

-- the first byte is this one
abbrev pub begins_with : ℕ → List ℕ → Bool
begins_with letter [] = false
begins_with letter (b ∷ bs) = b == letter

-- some bytes without a space
abbrev pub is_word : List ℕ → Bool
is_word text = nat_le 1 (length text) && has_no 32 text

-- ## What one word says

-- 1 to 20 digits
abbrev pub is_digits : List ℕ → Bool
is_digits text = nat_le 1 (length text) && nat_le (length text) 20 && list_all is_ascii_digit text

-- A number is 1 to 20 digits, and fits so many bits.
abbrev pub is_number : ℕ → List ℕ → Bool
is_number bits text = is_digits text && nat_lt (digits_value 10 text) (2 ^ bits)

abbrev pub SpellsNumber : ℕ → ℕ → List ℕ → Type 0
SpellsNumber bits number text = IsTrue (is_number bits text) × (number ≡ digits_value 10 text)

-- A context is the entry that made it, and where it is not the first that the entry made, a point and its number there.
abbrev pub SpellsContext : ContextId → List ℕ → Type 0
SpellsContext context text =
    (SpellsNumber 64 context.entry.0 text × (context.instance ≡ 0))
    ⊎ ((entry : List ℕ) × (instance : List ℕ) × (text ≡ entry ++ 46 ∷ instance) × SpellsNumber 64 context.entry.0 entry × SpellsNumber 32 context.instance instance)

-- a number of 32 bits that is at most so large
abbrev pub SpellsAtMost : ℕ → ℕ → List ℕ → Type 0
SpellsAtMost limit number text = SpellsNumber 32 number text × IsTrue (nat_le number limit)

-- 1 to 20 digits, which spell at most 2 ^ bits
abbrev pub is_negated : ℕ → List ℕ → Bool
is_negated bits digits = is_digits digits && nat_le (digits_value 10 digits) (2 ^ bits)

-- A number with a sign, of so many bits and one: a minus sign stands before a negative one.
abbrev pub SpellsSigned : ℕ → ℤ → List ℕ → Type 0
SpellsSigned bits number text =
    (IsTrue (is_number bits text) × (number ≡ pos (digits_value 10 text)))
    ⊎ ((digits : List ℕ) × (text ≡ 45 ∷ digits) × IsTrue (is_negated bits digits) × (number ≡ neg_ℤ (pos (digits_value 10 digits))))

-- A text is its bytes, which are UTF-8.
abbrev pub SpellsText : List ℕ → List ℕ → Type 0
SpellsText said text = (said ≡ text) × IsUtf8 text

-- a text that passes a test
abbrev pub SpellsKnown : (List ℕ → Bool) → List ℕ → List ℕ → Type 0
SpellsKnown test said text = IsTrue (test text) × SpellsText said text

-- A header is its name, an equals sign and its value. The name goes to the first such sign.
abbrev pub SpellsHeader : List ℕ × List ℕ → List ℕ → Type 0
SpellsHeader header text = (text ≡ header.0 ++ 61 ∷ header.1) × IsTrue (has_no 61 header.0) × IsUtf8 header.0 × IsUtf8 header.1

abbrev pub SpellsSide : Side → List ℕ → Type 0
SpellsSide sides.In text = text ≡ codes "in"
SpellsSide sides.Out text = text ≡ codes "out"

abbrev pub SpellsCondition : Condition → List ℕ → Type 0
SpellsCondition Any text = text ≡ codes "any"
SpellsCondition (At address) text = (text ≡ codes "at:" ++ address) × IsUtf8 address
SpellsCondition (Has name) text = (text ≡ codes "has:" ++ name) × IsUtf8 name

abbrev pub SpellsVerdict : Verdict → List ℕ → Type 0
SpellsVerdict Stop text = text ≡ codes "stop"
SpellsVerdict (Add name value) text = (header : List ℕ) × (text ≡ codes "add:" ++ header) × SpellsHeader (name, value) header

-- What one word may be: a certain word; a number of so many bits; one of at most this; a context; a number with a sign, of so
-- many bits beside it; a text; a text that passes a test; a header; which way a rule is for, what messages it is for, and what
-- it does with them.
pub data Token : Type 0 where
  AWord : List ℕ → Token
  ANumber : ℕ → Token
  AtMost : ℕ → Token
  AContext : Token
  ASigned : ℕ → Token
  AText : Token
  AKnown : (List ℕ → Bool) → Token
  AHeader : Token
  ASide : Token
  ACondition : Token
  AVerdict : Token

-- what such a word says; a certain word says nothing
abbrev pub TokenValue : Token → Type 0
TokenValue (AWord word) = Unit {0}
TokenValue (ANumber bits) = ℕ
TokenValue (AtMost limit) = ℕ
TokenValue AContext = ContextId
TokenValue (ASigned bits) = ℤ
TokenValue AText = List ℕ
TokenValue (AKnown test) = List ℕ
TokenValue AHeader = List ℕ × List ℕ
TokenValue ASide = Side
TokenValue ACondition = Condition
TokenValue AVerdict = Verdict

-- The word spells the value.
abbrev pub SpellsToken : (token : Token) → TokenValue token → List ℕ → Type 0
SpellsToken (AWord word) _ text = text ≡ word
SpellsToken (ANumber bits) number text = SpellsNumber bits number text
SpellsToken (AtMost limit) number text = SpellsAtMost limit number text
SpellsToken AContext context text = SpellsContext context text
SpellsToken (ASigned bits) number text = SpellsSigned bits number text
SpellsToken AText said text = SpellsText said text
SpellsToken (AKnown test) said text = SpellsKnown test said text
SpellsToken AHeader header text = SpellsHeader header text
SpellsToken ASide side text = SpellsSide side text
SpellsToken ACondition condition text = SpellsCondition condition text
SpellsToken AVerdict verdict text = SpellsVerdict verdict text

-- ## What follows behind the first word

-- nothing but spaces
abbrev pub NoMore : List ℕ → Type 0
NoMore tail = IsTrue (is_blank tail)

-- A word that spells the value follows, behind one or more spaces, and then more.
abbrev pub Next : (token : Token) → TokenValue token → (List ℕ → Type 0) → List ℕ → Type 0
Next token value More tail =
    (spaces : ℕ) × (word : List ℕ) × (rest : List ℕ) × (tail ≡ replicate (spaces + 1) 32 ++ (word ++ rest)) × IsTrue (is_word word) × SpellsToken token value word × More rest

-- A body is the value of a JSON text, which is not too deep for a body that is read. White space may stand round it.
abbrev pub SpellsBody : Tree → List ℕ → Type 0
SpellsBody body text = (value : Tree) × IsJson value text × IsAnswer value (Ok body)

-- the words of a codec's form
abbrev pub form_words : CodecForm → List (List ℕ)
form_words Copy = codes "copy" ∷ []
form_words (KeepKeys keys) = codes "keep" ∷ keys
form_words (DropKeys keys) = codes "drop" ∷ keys
form_words (Wrap key) = codes "wrap" ∷ key ∷ []

-- The words follow, each behind one or more spaces. Spaces may stand at the end.
abbrev pub AreWords : List (List ℕ) → List ℕ → Type 0
AreWords [] tail = NoMore tail
AreWords (word ∷ words) tail = (spaces : ℕ) × (rest : List ℕ) × (tail ≡ replicate (spaces + 1) 32 ++ (word ++ rest)) × IsTrue (is_word word) × IsUtf8 word × AreWords words rest

-- The lane that a task is taken from: an event loop, the workers without a name, a named pool, or that of an outside context.
abbrev pub SpellsLane : Lane → List ℕ → Type 0
SpellsLane (lanes.Loop number) tail = Next (AWord (codes "loop")) tt (Next (ANumber 8) number NoMore) tail
SpellsLane lanes.Pool tail = Next (AWord (codes "pool")) tt NoMore tail
SpellsLane (lanes.Named pool) tail = Next (AWord (codes "named")) tt (Next (ANumber 64) pool.0.0 NoMore) tail
SpellsLane (lanes.Own context) tail = Next (AWord (codes "own")) tt (Next AContext context NoMore) tail

-- How a task ends: done where no word says more.
abbrev pub SpellsEnd : End → List ℕ → Type 0
SpellsEnd ends.Done tail = NoMore tail
SpellsEnd ends.Later tail = Next (AWord (codes "later")) tt NoMore tail
SpellsEnd (ends.Value value) tail = Next (AWord (codes "value")) tt (Next (ASigned 63) value NoMore) tail
SpellsEnd (ends.Fail code) tail = Next (AWord (codes "fail")) tt (Next (ASigned 31) code NoMore) tail
SpellsEnd ends.NoMemory tail = Next (AWord (codes "nomemory")) tt NoMore tail

-- How a start ends: well where no word says more.
abbrev pub SpellsResult : DoneResult → List ℕ → Type 0
SpellsResult results.Ok tail = NoMore tail
SpellsResult (results.Fail code) tail = Next (AWord (codes "fail")) tt (Next (ASigned 31) code NoMore) tail
SpellsResult results.NoMemory tail = Next (AWord (codes "nomemory")) tt NoMore tail

-- behind the last word that a line's form names: nothing, the rest of the line as a text, a body, the form of a codec, a lane,
-- how a task ends, or how a start ends
pub data Ending : Type 0 where
  Nothing : Ending
  TheRest : Ending
  ABody : Ending
  ACodecForm : Ending
  ALane : Ending
  AnEnd : Ending
  AResult : Ending

abbrev pub EndValue : Ending → Type 0
EndValue Nothing = Unit {0}
EndValue TheRest = List ℕ
EndValue ABody = Tree
EndValue ACodecForm = CodecForm
EndValue ALane = Lane
EndValue AnEnd = End
EndValue AResult = DoneResult

-- Spaces may stand at the end. The rest of the line begins behind all spaces. A body begins behind one space or more.
abbrev pub Ends : (ending : Ending) → EndValue ending → List ℕ → Type 0
Ends Nothing _ tail = NoMore tail
Ends TheRest text tail = ((text ≡ []) × (tail ≡ [])) ⊎ ((spaces : ℕ) × (tail ≡ replicate (spaces + 1) 32 ++ text) × IsTrue (not (begins_with 32 text)) × IsUtf8 text)
Ends ABody body tail = (text : List ℕ) × (tail ≡ 32 ∷ text) × SpellsBody body text
Ends ACodecForm form tail = AreWords (form_words form) tail
Ends ALane lane tail = SpellsLane lane tail
Ends AnEnd end tail = SpellsEnd end tail
Ends AResult result tail = SpellsResult result tail

abbrev pub Values : List Token → Ending → Type 0
Values [] ending = EndValue ending
Values (token ∷ tokens) ending = TokenValue token × Values tokens ending

-- Words that spell these values follow, each behind one or more spaces, and then the ending.
abbrev pub Follow : (tokens : List Token) (ending : Ending) → Values tokens ending → List ℕ → Type 0
Follow [] ending value tail = Ends ending value tail
Follow (token ∷ tokens) ending values tail = Next token values.0 (Follow tokens ending values.1) tail

-- ## Passes

-- the number of a pass that is there, where there are so many
abbrev pub is_pass : ℕ → List ℕ → Bool
is_pass passes text = is_number 64 text && nat_lt (digits_value 10 text) passes

-- A pass is named by @ and its number, behind which spaces stand. Pass 0 need not be named.
abbrev pub NamesPass : ℕ → PassNo → List ℕ → Type 0
NamesPass passes pass text =
    ((text ≡ []) × (pass ≡ record { 0 = 0 }))
    ⊎ ((digits : List ℕ) × (spaces : ℕ) × (text ≡ 64 ∷ digits ++ replicate (spaces + 1) 32) × IsTrue (is_pass passes digits) × (pass ≡ record { 0 = digits_value 10 digits }))
