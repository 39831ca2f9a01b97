-- Send.
use Rattle.std.proofs.Common.{◌≡◌, ℕ, ◌<◌, ◌^◌, List, ◌++◌, refl, ap, sym, ◌∙◌, subst}
use Rattle.std.proofs.Common.{inl, inr}
use Rattle.std.specs.Prelude.{false, map, None}
use Rattle.std.proofs.lemmas.List.{append-nil}
use Rattle.vx_data.specs.declared.ids.EntryNo.{EntryNo}
use Rattle.vx_data.specs.declared.ids.PassNo.{PassNo}
use Rattle.vx_data.specs.Tree.{Tree}
use Rattle.vx_message.specs.declared.Options.{Options}
use Rattle.vx_timer.specs.declared.timers.Timer.{Timer}
use Rattle.vx_request.specs.Stores.{ended_at, given_at}
use Rattle.vx_call.specs.declared.call.Call.TheVariants as calls
use Rattle.vx_call.specs.declared.reply.Reply.TheVariants as replies
use Rattle.vx_call.specs.declared.reply.To.{To}
use Rattle.vx_call.specs.declared.history.Traced.{Traced}
use Rattle.vx_call.specs.History.{plain_entry, no_mark}
use Rattle.vx_call.specs.Built.{AreStored}
use Rattle.vx_call.specs.Owners.{is_context_owner}
use Rattle.vx_call.specs.Requests.{unsettled, by_due}
use Rattle.vx_call.specs.Items.{item_by}
use Rattle.vx_call.specs.Refusals.{unless_refused}
use Rattle.vx_call.specs.Rows.{destination, send_refusal}
use Rattle.vx_call.proofs.Stored.{live_of_context}
use Rattle.vx_call.proofs.KeepsOpen.{KeepsOpen, call_keeps}
use Rattle.vx_call.proofs.Mailboxes.{mailbox_moved}
use Rattle.vx_context.specs.Stores.{ContextStore, item_of}
use Rattle.vx_context.specs.Stands.{IsNext}
use Rattle.vx_bus_delivery.specs.declared.passages.Passage.{Passage}
use Rattle.vx_bus_delivery.specs.Deliveries.{PassesOn}
use Rattle.vx_bus_store.specs.Stores.{BusStore, changed, arrived, timer_of}
use Rattle.vx_bus_store.specs.Stands.{BusStands, StoresStand, Follows}
use Rattle.vx_bus_store.proofs.Frames.{consumer_kept, consumers_left}
use Rattle.vx_bus_send.proofs.Stays.{request_stays}
use Rattle.vx_bus_send.proofs.Passing.{IsPassed, GoesOut, goes_out, Misses, Meets, how, consumers_missed, consumers_met}
use Rattle.vx_bus_send.proofs.Sending.{IsFound, found_true, choices_passed, same_items, all_ended, missed_items, missed_tasks, met_items, met_tasks, met_accepts}

abbrev entry_of : PassNo → List ℕ → Tree → Options → To → Traced
entry_of pass address body options to = plain_entry pass (calls.Send address body options) (replies.Sent to) no_mark

passed_send : (history : List Traced) (pass : PassNo) (address : List ℕ) (body : Tree) (options : Options) (to : To) → AreStored history → IsPassed history (entry_of pass address body options to) (calls.Send address body options)
passed_send history pass address body options to stored =
    let entry = entry_of pass address body options to in
    let keeps : KeepsOpen history entry = call_keeps history entry (record { call = refl; mark = refl }) refl in
    record {
      contexts = record { keeps = keeps; items = record { contexts = refl; queued = refl }; pools = refl; held = refl; finished = λ held. refl };
      consumers = record { registered = refl; kept = λ consumer. consumer_kept history entry consumer keeps refl };
      given = refl;
      codecs = record { added = refl; kept = λ codec. refl };
      rules = record { added = refl; kept = λ rule. refl };
      tasks = refl;
      untaken = λ task. refl;
      items = refl;
      kept = λ item. refl;
      settled = refl;
      opened = refl;
      closed = λ request. request_stays history entry request keeps;
      moves = λ consumer is_live. mailbox_moved history entry consumer (ap is_context_owner (live_of_context history consumer stored is_live).1) is_live;
    }

-- a message is sent, and reaches what the bus found
pub sends : (contexts new_contexts : ContextStore) (timers : List Timer) (old bus new_bus : BusStore) (history : List Traced) (at : EntryNo) (pass : PassNo) (address : List ℕ) (body : Tree) (options : Options) (passage : Passage) (to : To) →
    BusStands old history → StoresStand contexts timers bus history → IsNext at history → at.0 < 2 ^ 48 → send_refusal history pass address body options ≡ None →
    IsFound old at address body options false passage to → PassesOn contexts new_contexts bus new_bus at passage address to →
    Follows new_contexts timers new_bus history pass (calls.Send address body options) (replies.Sent to)
sends contexts new_contexts timers old bus new_bus history at pass address body options passage to was stands is_next small accepted found passes =
    let call = calls.Send address body options in
    let entry = entry_of pass address body options to in
    let passed = passed_send history pass address body options to stands.stored in
    let is_true = found_true old history at call address body options false passage to stands.stored was is_next refl found in
    let Small : ℕ → Type 0 = λ n. n < 2 ^ 48 in
    let choices = choices_passed contexts new_contexts bus bus new_bus history entry at call address passage to stands.bus (subst Small is_next small) (consumers_left history entry passed.consumers) refl passes is_true refl in
    let timers_stay = stands.timers ∙ ap (λ requests. map timer_of (by_due requests)) (sym (append-nil (unsettled history))) in
    let Goes : Type 0 = GoesOut contexts new_contexts timers bus new_bus history entry call in
    let out : Goes =
    elim (how history call address refl) as (λ _. Goes) [
      | inl misses ↦
          (let Q : To → Type 0 = Misses history call in
          let nobody : Misses history call to = subst Q (sym is_true.goes) misses in
          let same = passes.bus nobody.elsewhere in
          record {
            items = same_items contexts new_contexts history (item_by history entry call) (passes.contexts nobody.elsewhere) (append-nil _ ∙ missed_items history call to nobody);
            timers = timers_stay;
            consumers = ap (λ (s : BusStore). s.consumers) same ∙ stands.bus.consumers ∙ consumers_missed history entry call to stands.stored passed nobody;
            in_turn = passes.in_turn;
            choices = choices;
            tasks = ap (λ (s : BusStore). s.tasks) same ∙ sym (append-nil bus.tasks) ∙ ap (λ made. bus.tasks ++ made) (sym (append-nil _ ∙ missed_tasks history call to nobody));
            opened = ap (λ (s : BusStore). s.requests.waiting) same ∙ sym (append-nil bus.requests.waiting);
            ended = λ id. ap (λ (s : BusStore). ended_at id s.requests.ended) same ∙ stands.bus.ended id ∙ all_ended history id;
            given = λ id. ap (λ (s : BusStore). given_at id s.given) same;
            codecs = ap (λ (s : BusStore). s.codecs) same;
            rules = ap (λ (s : BusStore). s.rules) same;
          })
      | inr meets ↦
          (let Q : To → Type 0 = Meets history call address in
          let one : Meets history call address to = subst Q (sym is_true.goes) meets in
          let done = met_accepts contexts new_contexts bus new_bus history at call address passage to stands.bus passes is_true one in
          record {
            items = done.items
                ∙ ap (λ items. record contexts { waiting = contexts.waiting ++ items; room = new_contexts.room })
                (met_items contexts history call address to at stands.stored stands.contexts one is_next ∙ ap (map (item_of history)) (sym (append-nil _)));
            timers = timers_stay;
            consumers = ap (λ (s : BusStore). s.consumers) done.bus ∙ ap (map (changed one.consumer.id arrived)) stands.bus.consumers ∙ consumers_met history entry call one.consumer passed one.alone;
            in_turn = passes.in_turn;
            choices = choices;
            tasks = ap (λ (s : BusStore). s.tasks) done.bus ∙ ap (λ made. bus.tasks ++ made) (sym (append-nil _ ∙ met_tasks history call address to stands.stored one));
            opened = ap (λ (s : BusStore). s.requests.waiting) done.bus ∙ sym (append-nil bus.requests.waiting);
            ended = λ id. ap (λ (s : BusStore). ended_at id s.requests.ended) done.bus ∙ stands.bus.ended id ∙ all_ended history id;
            given = λ id. ap (λ (s : BusStore). given_at id s.given) done.bus;
            codecs = ap (λ (s : BusStore). s.codecs) done.bus;
            rules = ap (λ (s : BusStore). s.rules) done.bus;
          })
    ] in
    record {
      answered = ap replies.Sent is_true.goes ∙ sym (ap (λ refusal. unless_refused refusal (replies.Sent (destination history call address))) accepted);
      stores = goes_out contexts new_contexts timers timers bus new_bus history entry call passed stands out;
    }
