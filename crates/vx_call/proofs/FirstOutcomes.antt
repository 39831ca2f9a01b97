-- What is made ready as a context closes: outcomes first, and what verticles do as they start and stop behind them.
use Rattle.std.proofs.Common.{◌≡◌, ℕ, ◌+◌, List, [], ◌∷◌, ◌++◌, length, refl, ap, sym, ◌∙◌, subst, arith}
use Rattle.std.specs.Prelude.{true}
use Rattle.vx_data.specs.declared.ids.ContextId.{ContextId}
use Rattle.vx_call.specs.declared.history.Traced.{Traced}
use Rattle.vx_call.specs.Names.{next_entry}
use Rattle.vx_call.specs.Closings.{open_contexts, is_open, ClosesOne}
use Rattle.vx_call.specs.Requests.{Open, unsettled}
use Rattle.vx_call.specs.Settled.{Settled, no_handlers, settlements}
use Rattle.vx_call.specs.Homes.{Heard, heard}
use Rattle.vx_call.specs.Lives.{Ready, ready_outcomes, open_ones, deploy_ends, undeploy_ends, stops, ends_and_stops, life_tasks}
use Rattle.vx_call.specs.Items.{Waiting, outcome_item, outcome_items, placed}
use Rattle.vx_call.proofs.Each.{Each}
use Rattle.vx_call.proofs.ClosedWith.{failing, one_call, settles_failing}
use Rattle.vx_call.proofs.Homes.{IsHeardOf, Each-heard}
use Rattle.vx_call.proofs.OpenAskers.{AsksOpen}
use Rattle.vx_call.proofs.Told.{ready_open, hear_open}

pub placed-append : (history : List Traced) (place n : ℕ) (first more : List Ready) → n ≡ place + length first → placed history place (first ++ more) ≡ placed history place first ++ placed history n more
placed-append history place n [] more e = let same : place ≡ n = omega arith in ap (λ m. placed history m more) same
placed-append history place n (r ∷ others) more e =
    let here : Waiting = record { entry = next_entry history; place = place; context = r.context; task = r.task } in
    ap (λ items. here ∷ items) (placed-append history (place + 1) n others more (omega arith))

-- each is of the next entry
abbrev pub IsNow : List Traced → Heard → Type 0
IsNow history it = it.at ≡ next_entry history

pub outcomes_placed : (history : List Traced) (place : ℕ) (all : List Heard) → Each (IsNow history) all → placed history place (ready_outcomes all) ≡ outcome_items place all
outcomes_placed history place [] now = refl
outcomes_placed history place (it ∷ others) now =
    ap (λ at. let item : Waiting = record (outcome_item place it) { entry = at } in item ∷ placed history (place + 1) (ready_outcomes others)) (sym now.0)
    ∙ ap (λ items. outcome_item place it ∷ items) (outcomes_placed history (place + 1) others now.1)

length_ready : (all : List Heard) → length (ready_outcomes all) ≡ length all
length_ready [] = refl
length_ready (it ∷ others) = let rest = length_ready others in omega arith

-- the outcomes that contexts get
abbrev pub hearing : List Traced → Traced → List Heard
hearing history new = heard (settlements history no_handlers (failing history new))

-- the outcomes come first, where those that asked are open
pub outcomes_first : (history : List Traced) (new : Traced) (context : ContextId) → ClosesOne history new context → Each (λ (request : Open). AsksOpen history request.asker) (unsettled history) →
    placed history 0 (life_tasks history new) ≡ placed history 0 (ready_outcomes (hearing history new)) ++ placed history (length (hearing history new)) (ends_and_stops history new)
outcomes_first history new context one asks =
    let cs = open_contexts (history ++ new ∷ []) in
    let more = deploy_ends history new ++ (undeploy_ends history new ++ stops history new) in
    let hears = settles_failing history new context one in
    let Heard_ : List Settled → Type 0 = λ made. Each (λ (it : Heard). is_open (history ++ new ∷ []) it.context ≡ true) (heard made) in
    let counted = length_ready (hearing history new) in
    ap (λ made. placed history 0 (open_ones cs (ready_outcomes (heard made) ++ more))) hears
    ∙ ap (placed history 0) (ready_open cs (hearing history new) more (subst Heard_ hears (hear_open history new asks (one_call history new context one))))
    ∙ placed-append history 0 (length (hearing history new)) (ready_outcomes (hearing history new)) (open_ones cs more) (omega (arith, counted))

settled_now : (history : List Traced) (requests : List Open) → Each (λ (s : Settled). (it : Heard) → IsHeardOf s it → IsNow history it) (settlements history no_handlers requests)
settled_now history [] = tt
settled_now history (request ∷ others) = (λ it heard. heard.at, settled_now history others)

-- they are of the entry itself
pub hearing_now : (history : List Traced) (new : Traced) → Each (IsNow history) (hearing history new)
hearing_now history new =
    Each-heard (IsNow history) (settlements history no_handlers (failing history new)) (settled_now history (failing history new))
