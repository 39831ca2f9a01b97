-- Entries that close contexts: what ends with the contexts, and what they leave.
use Rattle.std.proofs.Common.{◌≡◌, List, [], ◌++◌, refl, ap}
use Rattle.std.specs.Prelude.{Bool, true, false, ◌||◌, Option, None, Some}
use Rattle.std.specs.Option.{option_map, option_or, option_and_then}
use Rattle.vx_data.specs.declared.ids.ContextId.{ContextId}
use Rattle.vx_data.specs.declared.ids.ConsumerId.{ConsumerId}
use Rattle.vx_data.specs.declared.ids.PassNo.{PassNo}
use Rattle.vx_message.specs.declared.Held.{Held}
use Rattle.vx_message.specs.declared.ItemKind.{ItemKind}
use Rattle.vx_message.specs.declared.ItemKind.TheVariants as kinds
use Rattle.vx_message.specs.declared.rules.Codec.{Codec}
use Rattle.vx_message.specs.declared.rules.Rule.{Rule}
use Rattle.vx_consumer.specs.Mailboxes as moves
use Rattle.vx_call.specs.declared.call.Call.{Call}
use Rattle.vx_call.specs.declared.call.Call.TheVariants as calls
use Rattle.vx_call.specs.declared.call.End.{End}
use Rattle.vx_call.specs.declared.reply.Reply.{Reply}
use Rattle.vx_call.specs.declared.reply.Task.{Task}
use Rattle.vx_call.specs.declared.history.Consumer.{Consumer}
use Rattle.vx_call.specs.declared.history.Deed.{Deed}
use Rattle.vx_call.specs.declared.history.Mark.{Mark}
use Rattle.vx_call.specs.declared.history.Traced.{Traced}
use Rattle.vx_call.specs.Contexts.{context_made}
use Rattle.vx_call.specs.Held.{holding, is_of_context, held_made}
use Rattle.vx_call.specs.Queued.{Queued, queued_made}
use Rattle.vx_call.specs.Pools.{pool_made}
use Rattle.vx_call.specs.Codecs.{codec_made, codec_ended}
use Rattle.vx_call.specs.Rules.{rule_made, rule_ended}
use Rattle.vx_call.specs.Jobs.{is_job, is_job_held, ends_job, jobs_ended, jobs}
use Rattle.vx_call.specs.Starts.{Ending, ending, done_by, starts_in, stops_in, ended_start, ended_stop, failure_in}
use Rattle.vx_call.specs.Closings.{context_in, closing_by, closes, open_contexts}
use Rattle.vx_call.specs.Registered.{consumer_made}
use Rattle.vx_call.specs.Consumers.{ends_by_name, ends}
use Rattle.vx_call.specs.Choices.{choice_made}
use Rattle.vx_call.specs.Given.{given_made}
use Rattle.vx_call.specs.Mailboxes.{move_if, moves_by}
use Rattle.vx_call.specs.Requests.{Open, open_made, settles, closes_asker, is_lost_at}
use Rattle.vx_call.specs.Settled.{settled_made, settled_by_closing, dropped_with_context, dropped_by_closing}
use Rattle.vx_call.specs.Homes.{heard}
use Rattle.vx_call.specs.Lives.{jobs_done, open_ones, life_tasks}
use Rattle.vx_call.specs.Items.{closes_task, outcome_tasks, task_made, task_ended, placed, item_by, item_ended}
use Rattle.vx_call.proofs.Each.{every}
use Rattle.vx_call.proofs.Filters.{filter_no}

-- ## Calls that close contexts

-- calls that may close one context: they end a start or a stop
abbrev pub may_close_one : Call → Bool
may_close_one (calls.StartDone result) = true
may_close_one calls.StopDone = true
may_close_one (calls.Finish end) = true
may_close_one _ = false

abbrev pub may_close : Call → Bool
may_close calls.Close = true
may_close call = may_close_one call

-- a call that makes nothing that contexts have, and ends it with its context alone
pub record IsClosingCall (history : List Traced) (pass : PassNo) (call : Call) : Type 0 where
  pub contexts : context_made history pass call ≡ []
  pub queued : queued_made history call ≡ []
  pub pools : pool_made history call ≡ []
  pub held : (reply : Reply) → held_made history pass call reply ≡ []
  pub codecs : codec_made history call ≡ []
  pub codecs_kept : (codec : Codec) → codec_ended call codec ≡ false
  pub rules : rule_made history call ≡ []
  pub rules_kept : (rule : Rule) → rule_ended call rule ≡ false
  pub registers : (deed : Deed) → consumer_made history call deed ≡ []
  pub named : (deed : Deed) (id : ConsumerId) → ends_by_name call deed id ≡ false
  pub moves : (consumer : Consumer) (mark : Mark) (reply : Reply) → moves_by consumer history pass call mark reply ≡ move_if (ends history pass call mark consumer) moves.ends
  pub chooses : (deed : Deed) → choice_made history call deed ≡ []
  pub asks : (deed : Deed) → open_made history call deed ≡ []
  pub settles : (deed : Deed) (request : Open) → settles history pass call deed request ≡ (closes_asker history pass call request.asker || is_lost_at history pass call request request.home)
  pub dropped : dropped_with_context history pass call ≡ dropped_by_closing history pass call
  pub gives : (reply : Reply) → given_made history call reply ≡ []

pub closing_call : (history : List Traced) (pass : PassNo) (call : Call) → may_close call ≡ true → IsClosingCall history pass call
closing_call history pass (calls.StartDone result) may = record {
  contexts = refl;
  queued = refl;
  pools = refl;
  held = λ reply. refl;
  codecs = refl;
  codecs_kept = λ codec. refl;
  rules = refl;
  rules_kept = λ rule. refl;
  registers = λ deed. refl;
  named = λ deed id. refl;
  moves = λ consumer mark reply. refl;
  chooses = λ deed. refl;
  asks = λ deed. refl;
  settles = λ deed request. refl;
  dropped = refl;
  gives = λ reply. refl;
}
closing_call history pass calls.StopDone may = record {
  contexts = refl;
  queued = refl;
  pools = refl;
  held = λ reply. refl;
  codecs = refl;
  codecs_kept = λ codec. refl;
  rules = refl;
  rules_kept = λ rule. refl;
  registers = λ deed. refl;
  named = λ deed id. refl;
  moves = λ consumer mark reply. refl;
  chooses = λ deed. refl;
  asks = λ deed. refl;
  settles = λ deed request. refl;
  dropped = refl;
  gives = λ reply. refl;
}
closing_call history pass (calls.Finish end) may = record {
  contexts = refl;
  queued = refl;
  pools = refl;
  held = λ reply. refl;
  codecs = refl;
  codecs_kept = λ codec. refl;
  rules = refl;
  rules_kept = λ rule. refl;
  registers = λ deed. refl;
  named = λ deed id. refl;
  moves = λ consumer mark reply. refl;
  chooses = λ deed. refl;
  asks = λ deed. refl;
  settles = λ deed request. refl;
  dropped = refl;
  gives = λ reply. refl;
}
closing_call history pass calls.Close may = record {
  contexts = refl;
  queued = refl;
  pools = refl;
  held = λ reply. refl;
  codecs = refl;
  codecs_kept = λ codec. refl;
  rules = refl;
  rules_kept = λ rule. refl;
  registers = λ deed. refl;
  named = λ deed id. refl;
  moves = λ consumer mark reply. refl;
  chooses = λ deed. refl;
  asks = λ deed. refl;
  settles = λ deed request. refl;
  dropped = refl;
  gives = λ reply. refl;
}
closing_call history pass _ may = absurd cc

-- one that may close one context
pub record IsClosingOne (history : List Traced) (pass : PassNo) (call : Call) : Type 0 where
  pub closes : (context : ContextId) → closes history pass call context ≡ is_of_context context (closing_by history pass call)
  pub settled : (deed : Deed) → settled_made history pass call deed ≡ settled_by_closing history pass call deed
  pub tasks : (deed : Deed) → task_made history pass call deed ≡ outcome_tasks (heard (settled_made history pass call deed))
  pub task : (reply : Reply) (task : Task) → task_ended history pass call reply task ≡ closes_task history (closing_by history pass call) task
  pub item : (reply : Reply) (task : Task) → item_ended history pass call reply task ≡ closes_task history (closing_by history pass call) task

pub closing_one : (history : List Traced) (pass : PassNo) (call : Call) → may_close_one call ≡ true → IsClosingOne history pass call
closing_one history pass (calls.StartDone result) may = record { closes = λ context. refl; settled = λ deed. refl; tasks = λ deed. refl; task = λ reply task. refl; item = λ reply task. refl }
closing_one history pass calls.StopDone may = record { closes = λ context. refl; settled = λ deed. refl; tasks = λ deed. refl; task = λ reply task. refl; item = λ reply task. refl }
closing_one history pass (calls.Finish end) may = record { closes = λ context. refl; settled = λ deed. refl; tasks = λ deed. refl; task = λ reply task. refl; item = λ reply task. refl }
closing_one history pass _ may = absurd cc

-- it closes contexts
pub closing_too : (call : Call) → may_close_one call ≡ true → may_close call ≡ true
closing_too calls.Close may = refl
closing_too call may = may

-- an entry that closes one is one of these
pub closes_by_one : (history : List Traced) (pass : PassNo) (call : Call) (context : ContextId) → closing_by history pass call ≡ Some context → may_close_one call ≡ true
closes_by_one history pass (calls.StartDone result) context closing = refl
closes_by_one history pass calls.StopDone context closing = refl
closes_by_one history pass (calls.Finish end) context closing = refl
closes_by_one history pass _ context closing = absurd cc

-- ## A Finish that closes a context ends no blocking code

-- what a Finish closes, where the pass holds a task of this kind
abbrev closing_of : List Traced → ItemKind → End → Option ContextId
closing_of history kind end =
    option_or
    (option_map context_in (option_and_then (λ (ending : Ending). failure_in ending ending.result) (ended_start history (ending (starts_in kind) (done_by end)))))
    (option_map context_in (ended_stop history (ending (stops_in kind) (done_by end))))

not_a_job : (history : List Traced) (kind : ItemKind) (end : End) (context : ContextId) → closing_of history kind end ≡ Some context → (queued : Queued) → is_job queued kind ≡ false
not_a_job history (kinds.Job id) end context closing queued = absurd cc
not_a_job history _ end context closing queued = refl

-- what a Finish closes, where the pass holds this task, if it holds one
abbrev closing_held : List Traced → Option Held → End → Option ContextId
closing_held history held end =
    option_or
    (option_map context_in (option_and_then (λ (ending : Ending). failure_in ending ending.result) (ended_start history (ending (option_and_then (λ (h : Held). starts_in h.kind) held) (done_by end)))))
    (option_map context_in (ended_stop history (ending (option_and_then (λ (h : Held). stops_in h.kind) held) (done_by end))))

none_held : (history : List Traced) (held : Option Held) (end : End) (context : ContextId) → closing_held history held end ≡ Some context → (queued : Queued) → is_job_held queued held ≡ false
none_held history None end context closing queued = refl
none_held history (Some held) end context closing queued = not_a_job history held.kind end context closing queued

no_jobs : (history : List Traced) (pass : PassNo) (end : End) (context : ContextId) → closing_by history pass (calls.Finish end) ≡ Some context → jobs_ended history pass (calls.Finish end) ≡ []
no_jobs history pass end context closing =
    filter_no (ends_job history pass (calls.Finish end)) (jobs history) (every _ (none_held history (holding history pass) end context closing) (jobs history))

-- what a call that closes a context makes ready: what verticles do as they start and stop
pub closing_items : (history : List Traced) (new : Traced) (call : Call) (context : ContextId) → may_close_one call ≡ true → closing_by history new.entry.pass call ≡ Some context → item_by history new call ≡ placed history 0 (life_tasks history new)
closing_items history new (calls.StartDone result) context may closing = refl
closing_items history new calls.StopDone context may closing = refl
closing_items history new (calls.Finish end) context may closing =
    ap (λ ended. placed history 0 (open_ones (open_contexts history) (jobs_done end ended) ++ life_tasks history new)) (no_jobs history new.entry.pass end context closing)
closing_items history new _ context may closing = absurd cc
