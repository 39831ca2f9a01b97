-- Which of the requests that wait an entry ends that closes no context.
use Rattle.std.proofs.Common.{◌≡◌, List, [], refl, ap, ◌∙◌}
use Rattle.std.specs.Prelude.{Bool, true, false, not, ◌&&◌, ◌||◌, Option, None, Some}
use Rattle.vx_data.specs.declared.ids.ContextId.{ContextId}
use Rattle.vx_data.specs.declared.ids.PassNo.{PassNo}
use Rattle.vx_call.specs.declared.call.Call.{Call}
use Rattle.vx_call.specs.declared.history.Deed.{Deed}
use Rattle.vx_call.specs.declared.history.Mark.{Mark}
use Rattle.vx_call.specs.declared.history.Traced.{Traced}
use Rattle.vx_call.specs.History.{ended_by, is_accepted}
use Rattle.vx_call.specs.Askers.{Asker, is_asked_by}
use Rattle.vx_call.specs.Askers as askers
use Rattle.vx_call.specs.Given.{is_given}
use Rattle.vx_call.specs.Requests.{Open, open_kind, settles, closes_asker, is_lost_at}
use Rattle.vx_call.specs.Built.{IsStored}
use Rattle.vx_call.proofs.Lasting.{and_false}
use Rattle.vx_call.proofs.KeepsOpen.{KeepsOpen}

-- nobody asked whose connection closes
pub none_shut : (asker : Asker) → is_asked_by [] asker ≡ false
none_shut (askers.context context) = refl
none_shut (askers.connection conn at) = refl

pub or_false : (b : Bool) → (b || false) ≡ b
or_false true = refl
or_false false = refl

-- a request is ended by a call that settles it alone
pub ended_by_call : (history : List Traced) (new : Traced) (request : Open) → IsStored new →
    ended_by open_kind history new request ≡ (is_accepted new.entry.reply && settles history new.entry.pass new.entry.call new.mark.deed request)
ended_by_call history new request one =
    let settled = settles history new.entry.pass new.entry.call new.mark.deed request in
    ap (λ (mark : Mark). is_accepted new.entry.reply && (settled || is_asked_by mark.shut request.asker)) one.mark
    ∙ ap (λ b. is_accepted new.entry.reply && (settled || b)) (none_shut request.asker)
    ∙ ap (λ b. is_accepted new.entry.reply && b) (or_false settled)

-- ## Calls that settle requests only as a context closes

pub asker_open : (history : List Traced) (new : Traced) (asker : Asker) → KeepsOpen history new → closes_asker history new.entry.pass new.entry.call asker ≡ false
asker_open history new (askers.context context) keeps = keeps.closes context
asker_open history new (askers.connection conn at) keeps = refl

pub home_open : (history : List Traced) (new : Traced) (request : Open) (home : Option ContextId) → KeepsOpen history new → is_lost_at history new.entry.pass new.entry.call request home ≡ false
home_open history new request None keeps = refl
home_open history new request (Some home) keeps = ap (λ b. b && not (is_given history request.id)) (keeps.closes home)

-- they settle none
pub settles_none : (history : List Traced) (new : Traced) (request : Open) → KeepsOpen history new →
    settles history new.entry.pass new.entry.call new.mark.deed request
    ≡ (closes_asker history new.entry.pass new.entry.call request.asker || is_lost_at history new.entry.pass new.entry.call request request.home) → settles history new.entry.pass new.entry.call new.mark.deed request ≡ false
settles_none history new request keeps by_closing =
    by_closing ∙ ap (λ b. b || is_lost_at history new.entry.pass new.entry.call request request.home) (asker_open history new request.asker keeps) ∙ home_open history new request request.home keeps

pub request_kept : (history : List Traced) (new : Traced) (request : Open) → KeepsOpen history new →
    settles history new.entry.pass new.entry.call new.mark.deed request
    ≡ (closes_asker history new.entry.pass new.entry.call request.asker || is_lost_at history new.entry.pass new.entry.call request request.home) →
    ended_by open_kind history new request ≡ false
request_kept history new request keeps by_closing =
    ended_by_call history new request keeps.stored ∙ ap (λ b. is_accepted new.entry.reply && b) (settles_none history new request keeps by_closing) ∙ and_false (is_accepted new.entry.reply)
