-- The lines of a script: what a line of which form has done, apart from how it is read. The language is this project's own.
use Rattle.std.specs.Prelude.{◌≡◌, ℕ, ◌+◌, ◌^◌, min, List, [], ◌∷◌, ◌++◌, map, filter, Bool, true, ◌&&◌, not, ◌==◌, if◌then◌else◌, IsTrue, codes, replicate, take, drop, Option, Some, None, is_some, unwrap_or}
use Rattle.std.specs.List.{list_any}
use Rattle.std.specs.Str.{bytes_eq}
use Rattle.vx_data.specs.HeaderLists.{too_many}
use Rattle.vx_message.specs.declared.Options.{Options}
use Rattle.vx_call.specs.declared.call.Call.TheVariants as calls
use Rattle.vx_kinds.specs.Hosts.{place_of}
use Rattle.vx_line.specs.declared.instruction.Instruction.{Instruction}
use Rattle.vx_line.specs.declared.instruction.Instruction.TheVariants as does
use Rattle.vx_words.specs.Grammar.{ABody, ACodecForm, ACondition, AContext, AHeader, AKnown, ALane, ANumber, AResult, ASide, ASigned, AText, AVerdict, AWord, AnEnd, AtMost, Ending, Nothing, SpellsToken, TheRest, Token, TokenValue, Values, begins_with, has_no}

-- ## Options

-- What a line may leave out, by the name that the word begins with, and by what follows in the word. One word alone may
-- have the name, or any number of them whose values pass a test.
pub data Optional : Type 0 where
  One : List ℕ → Token → Optional
  Many : List ℕ → (token : Token) → (List (TokenValue token) → Bool) → Optional

abbrev pub name_of : Optional → List ℕ
name_of (One name token) = name
name_of (Many name token fit) = name

abbrev pub Choice : Optional → Type 0
Choice (One name token) = Option (TokenValue token)
Choice (Many name token fit) = List (TokenValue token)

abbrev pub Chosen : List Optional → Type 0
Chosen [] = Unit {0}
Chosen (option ∷ options) = Choice option × Chosen options

-- how long the name of an option is: it goes to the first colon, or to the end where there is none
abbrev pub name_len : List ℕ → ℕ
name_len [] = 0
name_len (b ∷ bs) = if b == 58 then 1 else name_len bs + 1

abbrev pub option_name : List ℕ → List ℕ
option_name word = take (name_len word) word

abbrev pub option_text : List ℕ → List ℕ
option_text word = drop (name_len word) word

-- a word that begins with a plus sign, and has one of these names
abbrev pub is_option : List (List ℕ) → List ℕ → Bool
is_option names word = begins_with 43 word && has_no 32 word && list_any (bytes_eq (option_name word)) names

-- behind the spaces no plus sign comes first
abbrev pub is_plain : List ℕ → Bool
is_plain [] = true
is_plain (b ∷ bs) = if b == 32 then is_plain bs else not (b == 43)

-- The words, each an option of one of these names behind one or more spaces, and then the rest, which begins with no word
-- that has a plus sign in front.
abbrev pub Run : List (List ℕ) → List (List ℕ) → List ℕ → List ℕ → Type 0
Run names [] rest tail = (tail ≡ rest) × IsTrue (is_plain rest)
Run names (word ∷ words) rest tail = (spaces : ℕ) × (behind : List ℕ) × (tail ≡ replicate (spaces + 1) 32 ++ (word ++ behind)) × IsTrue (is_option names word) × Run names words rest behind

-- what follows the name in the words that have it
abbrev pub texts_of : List ℕ → List (List ℕ) → List (List ℕ)
texts_of name words = map option_text (filter (λ word. bytes_eq (option_name word) name) words)

-- The texts spell the values, each one.
abbrev pub SpellAll : (token : Token) → List (TokenValue token) → List (List ℕ) → Type 0
SpellAll token [] texts = texts ≡ []
SpellAll token (value ∷ values) texts = (text : List ℕ) × (more : List (List ℕ)) × (texts ≡ text ∷ more) × SpellsToken token value text × SpellAll token values more

-- The words with the option's name spell what is chosen: none, or one alone; or any number.
abbrev pub Tells : (option : Optional) → Choice option → List (List ℕ) → Type 0
Tells (One name token) None words = texts_of name words ≡ []
Tells (One name token) (Some value) words = (text : List ℕ) × (texts_of name words ≡ text ∷ []) × SpellsToken token value text
Tells (Many name token fit) values words = SpellAll token values (texts_of name words) × IsTrue (fit values)

abbrev pub TellAll : (options : List Optional) → Chosen options → List (List ℕ) → Type 0
TellAll [] chosen words = Unit {0}
TellAll (option ∷ options) chosen words = Tells option chosen.0 words × TellAll options chosen.1 words

-- The options of a line come first: they choose this, and the rest follows. Where a form has none, its words may begin
-- with a plus sign.
abbrev pub Choose : (options : List Optional) → Chosen options → List ℕ → List ℕ → Type 0
Choose [] chosen rest tail = tail ≡ rest
Choose (option ∷ options) chosen rest tail = (words : List (List ℕ)) × Run (map name_of (option ∷ options)) words rest tail × TellAll (option ∷ options) chosen words

-- ## Forms

-- A form: the word that a line begins with, its options, the words behind them and the ending, and what they have done.
pub record Form : Type 0 where
  pub word : List ℕ
  pub options : List Optional
  pub tokens : List Token
  pub ending : Ending
  pub make : Chosen options → Values tokens ending → Instruction

abbrev pub limit_option : Optional
limit_option = One (codes "+limit:") (ANumber 32)

-- how many messages are held: 1,000 where no limit is chosen
abbrev pub limit_of : Option ℕ → ℕ
limit_of None = 1000
limit_of (Some limit) = limit

abbrev pub pass_form : Form
pass_form = record { word = codes "pass"; options = []; tokens = []; ending = Nothing; make = make }
  where
    make : Chosen [] → Values [] Nothing → Instruction
    make _ _ = does.Call calls.NewPass

abbrev pub context_form : Form
context_form = record { word = codes "context"; options = []; tokens = []; ending = Nothing; make = make }
  where
    make : Chosen [] → Values [] Nothing → Instruction
    make _ _ = does.Call calls.NewContext

abbrev pub register_form : Form
register_form = record { word = codes "register"; options = limit_option ∷ []; tokens = AContext ∷ AText ∷ []; ending = Nothing; make = make }
  where
    make : Chosen (limit_option ∷ []) → Values (AContext ∷ AText ∷ []) Nothing → Instruction
    make (limit, _) (context, (address, _)) = does.Call (calls.Register context address (limit_of limit))

abbrev pub unregister_form : Form
unregister_form = record { word = codes "unregister"; options = []; tokens = ANumber 64 ∷ []; ending = Nothing; make = make }
  where
    make : Chosen [] → Values (ANumber 64 ∷ []) Nothing → Instruction
    make _ (consumer, _) = does.Call (calls.Unregister (record { 0 = record { 0 = consumer } }))

abbrev pub pause_form : Form
pause_form = record { word = codes "pause"; options = []; tokens = ANumber 64 ∷ []; ending = Nothing; make = make }
  where
    make : Chosen [] → Values (ANumber 64 ∷ []) Nothing → Instruction
    make _ (consumer, _) = does.Call (calls.Pause (record { 0 = record { 0 = consumer } }))

abbrev pub resume_form : Form
resume_form = record { word = codes "resume"; options = []; tokens = ANumber 64 ∷ []; ending = Nothing; make = make }
  where
    make : Chosen [] → Values (ANumber 64 ∷ []) Nothing → Instruction
    make _ (consumer, _) = does.Call (calls.Resume (record { 0 = record { 0 = consumer } }))

abbrev pub fetch_form : Form
fetch_form = record { word = codes "fetch"; options = []; tokens = ANumber 64 ∷ ANumber 32 ∷ []; ending = Nothing; make = make }
  where
    make : Chosen [] → Values (ANumber 64 ∷ ANumber 32 ∷ []) Nothing → Instruction
    make _ (consumer, (count, _)) = does.Call (calls.Fetch (record { 0 = record { 0 = consumer } }) count)

-- moments end at 2 ^ 62
abbrev pub advance_form : Form
advance_form = record { word = codes "advance"; options = []; tokens = ANumber 64 ∷ []; ending = Nothing; make = make }
  where
    make : Chosen [] → Values (ANumber 64 ∷ []) Nothing → Instruction
    make _ (moment, _) = does.Call (calls.Advance (min moment (2 ^ 62)))

abbrev pub close_form : Form
close_form = record { word = codes "close"; options = []; tokens = []; ending = Nothing; make = make }
  where
    make : Chosen [] → Values [] Nothing → Instruction
    make _ _ = does.Call calls.Close

abbrev pub hub_forms : List Form
hub_forms = pass_form ∷ context_form ∷ register_form ∷ unregister_form ∷ pause_form ∷ resume_form ∷ fetch_form ∷ advance_form ∷ close_form ∷ []

-- ## Forms of verticles

abbrev pub loops_form : Form
loops_form = record { word = codes "loops"; options = []; tokens = ANumber 32 ∷ []; ending = Nothing; make = make }
  where
    make : Chosen [] → Values (ANumber 32 ∷ []) Nothing → Instruction
    make _ (count, _) = does.Call (calls.SetLoops count)

abbrev pub pool_form : Form
pool_form = record { word = codes "pool"; options = []; tokens = AText ∷ ANumber 32 ∷ []; ending = Nothing; make = make }
  where
    make : Chosen [] → Values (AText ∷ ANumber 32 ∷ []) Nothing → Instruction
    make _ (name, (size, _)) = does.Call (calls.AddPool name size)

-- the context that is told
abbrev pub tell_option : Optional
tell_option = One (codes "+tell:") AContext

abbrev pub undeploy_form : Form
undeploy_form = record { word = codes "undeploy"; options = tell_option ∷ []; tokens = ANumber 64 ∷ []; ending = Nothing; make = make }
  where
    make : Chosen (tell_option ∷ []) → Values (ANumber 64 ∷ []) Nothing → Instruction
    make (tell, _) (deployment, _) = does.Call (calls.Undeploy (record { 0 = record { 0 = deployment } }) tell)

abbrev pub started_form : Form
started_form = record { word = codes "started"; options = []; tokens = []; ending = AResult; make = make }
  where
    make : Chosen [] → Values [] AResult → Instruction
    make _ result = does.Call (calls.StartDone result)

abbrev pub stopped_form : Form
stopped_form = record { word = codes "stopped"; options = []; tokens = []; ending = Nothing; make = make }
  where
    make : Chosen [] → Values [] Nothing → Instruction
    make _ _ = does.Call calls.StopDone

abbrev pub verticle_forms : List Form
verticle_forms = loops_form ∷ pool_form ∷ undeploy_form ∷ started_form ∷ stopped_form ∷ []

-- ## Forms of messages

abbrev pub headers_option : Optional
headers_option = Many (codes "+h:") AHeader (λ headers. not (too_many headers))

abbrev pub codec_option : Optional
codec_option = One (codes "+codec:") AText

abbrev pub delivery : List (List ℕ × List ℕ) → Option (List ℕ) → Options
delivery headers codec = record { headers = headers; codec = codec }

abbrev pub timeout_option : Optional
timeout_option = One (codes "+timeout:") (ANumber 64)

-- the timeout in ms: 30,000 where none is chosen
abbrev pub timeout_of : Option ℕ → ℕ
timeout_of None = 30000
timeout_of (Some timeout) = timeout

abbrev pub send_form : Form
send_form = record { word = codes "send"; options = headers_option ∷ codec_option ∷ []; tokens = AText ∷ []; ending = ABody; make = make }
  where
    make : Chosen (headers_option ∷ codec_option ∷ []) → Values (AText ∷ []) ABody → Instruction
    make (headers, (codec, _)) (address, body) = does.Call (calls.Send address body (delivery headers codec))

abbrev pub publish_form : Form
publish_form = record { word = codes "publish"; options = headers_option ∷ codec_option ∷ []; tokens = AText ∷ []; ending = ABody; make = make }
  where
    make : Chosen (headers_option ∷ codec_option ∷ []) → Values (AText ∷ []) ABody → Instruction
    make (headers, (codec, _)) (address, body) = does.Call (calls.Publish address body (delivery headers codec))

abbrev pub request_form : Form
request_form = record { word = codes "request"; options = headers_option ∷ codec_option ∷ timeout_option ∷ []; tokens = AContext ∷ AText ∷ []; ending = ABody; make = make }
  where
    make : Chosen (headers_option ∷ codec_option ∷ timeout_option ∷ []) → Values (AContext ∷ AText ∷ []) ABody → Instruction
    make (headers, (codec, (timeout, _))) (context, (address, body)) = does.Call (calls.Request context address body (delivery headers codec) (timeout_of timeout) None)

abbrev pub reply_form : Form
reply_form = record { word = codes "reply"; options = headers_option ∷ codec_option ∷ []; tokens = ANumber 64 ∷ []; ending = ABody; make = make }
  where
    make : Chosen (headers_option ∷ codec_option ∷ []) → Values (ANumber 64 ∷ []) ABody → Instruction
    make (headers, (codec, _)) (message, body) = does.Call (calls.Reply (record { 0 = record { 0 = message } }) body (delivery headers codec))

abbrev pub fail_form : Form
fail_form = record { word = codes "fail"; options = []; tokens = ANumber 64 ∷ ASigned 31 ∷ []; ending = TheRest; make = make }
  where
    make : Chosen [] → Values (ANumber 64 ∷ ASigned 31 ∷ []) TheRest → Instruction
    make _ (message, (code, text)) = does.Call (calls.Fail (record { 0 = record { 0 = message } }) code text)

abbrev pub ask_form : Form
ask_form = record { word = codes "ask"; options = headers_option ∷ codec_option ∷ timeout_option ∷ []; tokens = ANumber 64 ∷ AContext ∷ []; ending = ABody; make = make }
  where
    make : Chosen (headers_option ∷ codec_option ∷ timeout_option ∷ []) → Values (ANumber 64 ∷ AContext ∷ []) ABody → Instruction
    make (headers, (codec, (timeout, _))) (message, (context, body)) = does.Call (calls.ReplyRequest (record { 0 = record { 0 = message } }) context body (delivery headers codec) (timeout_of timeout))

abbrev pub message_forms : List Form
message_forms = send_form ∷ publish_form ∷ request_form ∷ reply_form ∷ fail_form ∷ ask_form ∷ []

-- ## Forms of codecs and rules

abbrev pub codec_form : Form
codec_form = record { word = codes "codec"; options = []; tokens = AText ∷ []; ending = ACodecForm; make = make }
  where
    make : Chosen [] → Values (AText ∷ []) ACodecForm → Instruction
    make _ (name, form) = does.Call (calls.AddCodec name form)

abbrev pub uncodec_form : Form
uncodec_form = record { word = codes "uncodec"; options = []; tokens = AText ∷ []; ending = Nothing; make = make }
  where
    make : Chosen [] → Values (AText ∷ []) Nothing → Instruction
    make _ (name, _) = does.Call (calls.RemoveCodec name)

abbrev pub rule_form : Form
rule_form = record { word = codes "rule"; options = []; tokens = ASide ∷ ACondition ∷ AVerdict ∷ []; ending = Nothing; make = make }
  where
    make : Chosen [] → Values (ASide ∷ ACondition ∷ AVerdict ∷ []) Nothing → Instruction
    make _ (side, (condition, (verdict, _))) = does.Call (calls.AddRule side condition verdict)

abbrev pub unrule_form : Form
unrule_form = record { word = codes "unrule"; options = []; tokens = ANumber 64 ∷ []; ending = Nothing; make = make }
  where
    make : Chosen [] → Values (ANumber 64 ∷ []) Nothing → Instruction
    make _ (rule, _) = does.Call (calls.RemoveRule (record { 0 = record { 0 = rule } }))

abbrev pub rule_forms : List Form
rule_forms = codec_form ∷ uncodec_form ∷ rule_form ∷ unrule_form ∷ []

-- ## Forms that make no call alone

abbrev pub take_form : Form
take_form = record { word = codes "take"; options = []; tokens = []; ending = ALane; make = make }
  where
    make : Chosen [] → Values [] ALane → Instruction
    make _ lane = does.Take lane

abbrev pub finish_form : Form
finish_form = record { word = codes "finish"; options = []; tokens = []; ending = AnEnd; make = make }
  where
    make : Chosen [] → Values [] AnEnd → Instruction
    make _ end = does.Finish end

abbrev pub work_form : Form
work_form = record { word = codes "work"; options = []; tokens = []; ending = ALane; make = make }
  where
    make : Chosen [] → Values [] ALane → Instruction
    make _ lane = does.Work lane

-- an option that says nothing but that it is there
abbrev pub worker_option : Optional
worker_option = One (codes "+worker") (AWord [])

abbrev pub pool_option : Optional
pool_option = One (codes "+pool:") AText

abbrev pub to_option : Optional
to_option = One (codes "+to:") AText

abbrev pub config_option : Optional
config_option = Many (codes "+config:") (ASigned 63) (λ numbers. true)

abbrev pub deploy_options : List Optional
deploy_options = tell_option ∷ worker_option ∷ pool_option ∷ to_option ∷ config_option ∷ []

-- whether there is a kind of this name so far
abbrev pub is_kind : List ℕ → Bool
is_kind name = is_some (place_of name)

-- at most so many instances, of which the hub refuses more than 64
abbrev pub max_instances : ℕ
max_instances = 1000

-- A verticle sends on to its own address where no other is chosen.
abbrev pub deploy_form : Form
deploy_form = record { word = codes "deploy"; options = deploy_options; tokens = AKnown is_kind ∷ AText ∷ AtMost max_instances ∷ []; ending = Nothing; make = make }
  where
    make : Chosen deploy_options → Values (AKnown is_kind ∷ AText ∷ AtMost max_instances ∷ []) Nothing → Instruction
    make (tell, (worker, (pool, (to, (config, _))))) (kind, (address, (instances, _))) =
        does.Deploy (record { worker = is_some worker; pool = pool; tell = tell }) (record { kind = kind; address = address; to = unwrap_or to address; config = config }) instances

-- forms that make one call
abbrev pub call_forms : List Form
call_forms = hub_forms ++ (verticle_forms ++ (message_forms ++ rule_forms))

-- THE TABLE of all forms. No two begin with the same word.
abbrev pub forms : List Form
forms = take_form ∷ finish_form ∷ work_form ∷ deploy_form ∷ call_forms
