-- How requests end. (Vert.x core manual, "Acknowledging messages / sending replies", "Sending with timeouts" and "Send failures": an asker
-- gets a reply, or a failure of one of three kinds. The codes and texts are this project's own.)
use Rattle.std.specs.Prelude.{ℕ, ℤ, negsuc, codes, Bool, false, not, ◌&&◌, if◌then◌else◌, List, [], ◌∷◌, ◌++◌, map, filter, find, is_some, Option, None, Some}
use Rattle.std.specs.Option.{option_or, option_map}
use Rattle.vx_data.specs.declared.ids.EntryNo.{EntryNo}
use Rattle.vx_data.specs.declared.ids.PassNo.{PassNo}
use Rattle.vx_data.specs.declared.ids.ConnId.{ConnId}
use Rattle.vx_data.specs.declared.ids.MessageId.{MessageId}
use Rattle.vx_data.specs.Tree.{Tree}
use Rattle.vx_message.specs.declared.Options.{Options}
use Rattle.vx_message.specs.declared.FailureKind.{FailureKind}
use Rattle.vx_message.specs.declared.FailureKind.TheVariants as failures
use Rattle.vx_message.specs.declared.Outcome.{Outcome}
use Rattle.vx_message.specs.declared.Outcome.TheVariants as outcomes
use Rattle.vx_call.specs.declared.history.Consumer.{Consumer}
use Rattle.vx_call.specs.declared.call.Call.{Call}
use Rattle.vx_call.specs.declared.call.Call.TheVariants as calls
use Rattle.vx_call.specs.declared.history.Deed.{Deed}
use Rattle.vx_call.specs.declared.history.Deed.TheVariants as deeds
use Rattle.vx_call.specs.declared.history.Sending.{Sending}
use Rattle.vx_call.specs.declared.history.Traced.{Traced}
use Rattle.vx_call.specs.History.{Kind, lasting}
use Rattle.vx_data.specs.Ids.{same_message}
use Rattle.vx_call.specs.Names.{next_entry, next_message}
use Rattle.vx_call.specs.Codecs.{coded}
use Rattle.vx_call.specs.Mailboxes.{accepting}
use Rattle.vx_call.specs.Askers.{Asker, is_asked_by}
use Rattle.vx_call.specs.Askers as askers
use Rattle.vx_call.specs.Requests.{Open, open_made, unsettled, settled_by, by_due, closes_asker}
use Rattle.vx_call.specs.Sendings.{Sent, nothing_sent, send_all, outcome_sending}

-- a request that has ended: the entry that settled it, and the outcome that its asker gets
pub record Settled : Type 0 where
  pub request : MessageId
  pub at : EntryNo
  pub asker : Asker
  pub outcome : Outcome

abbrev pub failed : FailureKind → ℤ → List ℕ → Outcome
failed kind code text = outcomes.Failed (record { kind = kind; code = code; text = text })

abbrev pub timeout : Outcome
timeout = failed failures.Timeout (negsuc 0) (codes "timeout")

abbrev pub no_handlers : Outcome
no_handlers = failed failures.NoHandlers (negsuc 0) (codes "no_handlers")

-- a request that the next entry settles so
abbrev pub settlement : List Traced → Outcome → Open → Settled
settlement before outcome request = record { request = request.id; at = next_entry before; asker = request.asker; outcome = outcome }

abbrev pub settlements : List Traced → Outcome → List Open → List Settled
settlements before outcome settled = map (settlement before outcome) settled

-- a request whose message nobody accepts is settled at its own entry
abbrev pub settled_unheard : List Traced → Asker → List Consumer → List Settled
settled_unheard before asker [] = record { request = next_message before; at = next_entry before; asker = asker; outcome = no_handlers } ∷ []
settled_unheard before asker (consumer ∷ others) = []

-- a reply with these headers and this body, behind the codec that it names
abbrev pub replied : List Traced → Tree → Options → Option MessageId → Outcome
replied before body options again = outcomes.Ok options.headers (coded before options.codec body) again

-- requests that are settled as a context closes, save those whose asker closes with it: these get no outcome
abbrev pub settled_by_closing : List Traced → PassNo → Call → Deed → List Settled
settled_by_closing before pass call deed =
    settlements before no_handlers (filter (λ (request : Open). not (closes_asker before pass call request.asker)) (settled_by before pass call deed))

-- the frame of an outcome, where a connection asked
abbrev pub sending_of : Settled → List Sending
sending_of settled = outcome_sending settled.asker settled.outcome

-- Requests whose time is up, one after another. Where the frame of one closes its connection, the later ones of that
-- connection end with it, and their time is not up.
abbrev pub timed_out : List Traced → Sent → List Open → List Settled
timed_out before sent [] = []
timed_out before sent (request ∷ others) =
    if is_asked_by sent.shut request.asker then timed_out before sent others
    else settlement before timeout request ∷ timed_out before (send_all before sent (sending_of (settlement before timeout request))) others

-- the message of a reply that asks again
abbrev pub asked_again : List Traced → Option (List ℕ) → Option MessageId
asked_again before None = None
asked_again before (Some at) = Some (next_message before)

-- what a frame settles
abbrev pub settled_by_frame : List Traced → ConnId → List Consumer → List Open → Deed → List Settled
settled_by_frame before conn accepted requests (deeds.Requests address headers body at) = settled_unheard before (askers.connection conn at) accepted
settled_by_frame before conn accepted requests (deeds.Replies message headers body at) = settlements before (outcomes.Ok headers body (asked_again before at)) requests
settled_by_frame before conn accepted requests _ = []

-- What a call settles: by (due moment, id) where their time is up, and else by id. As the hub closes, nobody is left to
-- get an outcome.
abbrev pub settled_made : List Traced → PassNo → Call → Deed → List Settled
settled_made before pass (calls.Request context address body options time once) deed =
    settled_unheard before (askers.context context) (accepting before (calls.Request context address body options time once) deed)
settled_made before pass (calls.Reply message body options) deed = settlements before (replied before body options None) (settled_by before pass (calls.Reply message body options) deed)
settled_made before pass (calls.Fail message code text) deed = settlements before (failed failures.RecipientFailure code text) (settled_by before pass (calls.Fail message code text) deed)
settled_made before pass (calls.ReplyRequest message context body options time) deed =
    settlements before (replied before body options (Some (next_message before))) (settled_by before pass (calls.ReplyRequest message context body options time) deed)
settled_made before pass (calls.Advance moment) deed = timed_out before nothing_sent (by_due (settled_by before pass (calls.Advance moment) deed))
settled_made before pass (calls.Unregister id) deed = settlements before no_handlers (settled_by before pass (calls.Unregister id) deed)
settled_made before pass (calls.FrameIn conn frame) deed =
    settled_by_frame before conn (accepting before (calls.FrameIn conn frame) deed) (settled_by before pass (calls.FrameIn conn frame) deed) deed
settled_made before pass (calls.StartDone result) deed = settled_by_closing before pass (calls.StartDone result) deed
settled_made before pass calls.StopDone deed = settled_by_closing before pass calls.StopDone deed
settled_made before pass (calls.Finish end) deed = settled_by_closing before pass (calls.Finish end) deed
settled_made before pass _ deed = []

abbrev pub settled_kind : Kind Settled
settled_kind = record {
  made = λ before new. settled_made before new.entry.pass new.entry.call new.mark.deed;
  ended = λ before new settled. false;
}

-- how a request ended, where it has
abbrev pub settled : List Traced → MessageId → Option Settled
settled history id = find (λ (s : Settled). same_message id s.request) (lasting settled_kind history)

-- ## Without an outcome

-- a request whose asker was closed, and the entry that closed it
pub record Dropped : Type 0 where
  pub request : MessageId
  pub at : EntryNo

abbrev pub drop_all : List Traced → List Open → List Dropped
drop_all before requests = map (λ (request : Open). record { request = request.id; at = next_entry before }) requests

abbrev pub dropped_by_closing : List Traced → PassNo → Call → List Open
dropped_by_closing before pass call = filter (λ (request : Open). closes_asker before pass call request.asker) (unsettled before)

-- those of contexts
abbrev pub dropped_with_context : List Traced → PassNo → Call → List Open
dropped_with_context before pass (calls.StartDone result) = dropped_by_closing before pass (calls.StartDone result)
dropped_with_context before pass calls.StopDone = dropped_by_closing before pass calls.StopDone
dropped_with_context before pass (calls.Finish end) = dropped_by_closing before pass (calls.Finish end)
dropped_with_context before pass calls.Close = dropped_by_closing before pass calls.Close
dropped_with_context before pass _ = []

abbrev pub has_outcome : List Settled → Open → Bool
has_outcome settled request = is_some (find (λ (s : Settled). same_message request.id s.request) settled)

-- those of connections, that which the entry made included. Where a frame that was not added closes the connection, those
-- that the entry settles keep their outcomes.
abbrev pub dropped_with_connection : List Traced → Traced → List ConnId → List Open
dropped_with_connection before new [] = []
dropped_with_connection before new shut =
    filter (λ (request : Open). is_asked_by shut request.asker && not (has_outcome (settled_made before new.entry.pass new.entry.call new.mark.deed) request))
    (unsettled before ++ open_made before new.entry.call new.mark.deed)

abbrev pub dropped_made : List Traced → Traced → List Dropped
dropped_made before new = drop_all before (dropped_with_context before new.entry.pass new.entry.call ++ dropped_with_connection before new new.mark.shut)

abbrev pub dropped_kind : Kind Dropped
dropped_kind = record {
  made = dropped_made;
  ended = λ before new dropped. false;
}

abbrev pub dropped : List Traced → MessageId → Option Dropped
dropped history id = find (λ (d : Dropped). same_message id d.request) (lasting dropped_kind history)

-- the entry at which a request ended
abbrev pub settled_at : List Traced → MessageId → Option EntryNo
settled_at history id =
    option_or (option_map (λ (settled : Settled). settled.at) (settled history id)) (option_map (λ (dropped : Dropped). dropped.at) (dropped history id))
