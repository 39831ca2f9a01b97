-- Codecs and rules come and go: of the stores the entries move the codecs or the rules alone.
use Rattle.std.proofs.Common.{◌≡◌, ℕ, List, [], ◌∷◌, ◌++◌, refl, ap, sym, ◌∙◌}
use Rattle.std.specs.Prelude.{not, filter, map, None}
use Rattle.std.specs.Option.{option_or}
use Rattle.std.proofs.lemmas.List.{append-nil}
use Rattle.vx_data.specs.declared.ids.EntryNo.{EntryNo}
use Rattle.vx_data.specs.declared.ids.PassNo.{PassNo}
use Rattle.vx_data.specs.declared.ids.CodecId.{CodecId}
use Rattle.vx_data.specs.declared.ids.RuleId.{RuleId}
use Rattle.vx_message.specs.declared.rules.Codec.{Codec}
use Rattle.vx_message.specs.declared.rules.CodecForm.{CodecForm}
use Rattle.vx_message.specs.declared.rules.Condition.{Condition}
use Rattle.vx_message.specs.declared.rules.Rule.{Rule}
use Rattle.vx_message.specs.declared.rules.Side.{Side}
use Rattle.vx_message.specs.declared.rules.Verdict.{Verdict}
use Rattle.vx_message.specs.Codecs.{is_codec}
use Rattle.vx_message.specs.Rules.{is_rule}
use Rattle.vx_ring.specs.Rings.{consumers_at, choices_at}
use Rattle.vx_request.specs.Stores.{ended_at, given_at}
use Rattle.vx_timer.specs.declared.timers.Timer.{Timer}
use Rattle.vx_call.specs.declared.call.Call.TheVariants as calls
use Rattle.vx_call.specs.declared.reply.Reply.TheVariants as replies
use Rattle.vx_call.specs.declared.history.Traced.{Traced}
use Rattle.vx_call.specs.declared.history.Consumer.{Consumer}
use Rattle.vx_call.specs.History.{plain_entry, no_mark, made_by}
use Rattle.vx_call.specs.Mailboxes.{mailbox}
use Rattle.vx_call.specs.Choices.{choice_kind}
use Rattle.vx_call.specs.Given.{given_kind}
use Rattle.vx_call.specs.Names.{next_codec, next_rule}
use Rattle.vx_call.specs.Codecs.{codecs, codec_kind}
use Rattle.vx_call.specs.Rules.{rules, rule_kind}
use Rattle.vx_call.specs.Settled.{settled_kind}
use Rattle.vx_call.specs.Refusals.{unless_refused, no_codec, no_rule, holder_closed}
use Rattle.vx_call.specs.Rows.{add_codec_refusal, add_rule_refusal}
use Rattle.vx_call.proofs.Lasting.{lasting-append, lasting_more}
use Rattle.vx_call.proofs.Stored.{stored_more}
use Rattle.vx_call.proofs.KeepsOpen.{KeepsOpen, call_keeps}
use Rattle.vx_call.proofs.Dropped.{settled_at_same}
use Rattle.vx_context.specs.Stores.{ContextStore}
use Rattle.vx_context.specs.Stands.{IsNext}
use Rattle.vx_bus_store.specs.Stores.{BusStore, row_of}
use Rattle.vx_bus_store.specs.Stands.{StoresStand, Follows}
use Rattle.vx_bus_store.proofs.Frames.{LeavesContexts, LeavesRequests, LeavesConsumers, LeavesTasks, consumer_kept, contexts_left, timers_left, requests_left, handlers_left, numbers_left, rings_left, choices_left, tasks_left, given_left, codecs_left, rules_left}
use Rattle.vx_bus_store.proofs.KeptRequests.{request_kept}
use Rattle.vx_bus_store.proofs.Kept.{mailbox_kept}

-- ## All else stays

-- an entry that leaves what is neither a codec nor a rule
pub record LeavesElse (history : List Traced) (new : Traced) : Type 0 where
  pub keeps : KeepsOpen history new
  pub contexts : LeavesContexts history new
  pub requests : LeavesRequests history new
  pub consumers : LeavesConsumers history new
  pub mailboxes : (consumer : Consumer) → mailbox (history ++ new ∷ []) consumer ≡ mailbox history consumer
  pub choices : made_by choice_kind history new ≡ []
  pub tasks : LeavesTasks history new
  pub settled : made_by settled_kind history new ≡ []
  pub given : made_by given_kind history new ≡ []

-- the stores of such an entry have its codecs and its rules
pub stands_else : (contexts : ContextStore) (timers : List Timer) (old new : BusStore) (history : List Traced) (entry : Traced) → LeavesElse history entry → StoresStand contexts timers old history →
    new ≡ record old { codecs = new.codecs; rules = new.rules } → new.codecs ≡ codecs (history ++ entry ∷ []) → new.rules ≡ rules (history ++ entry ∷ []) →
    StoresStand contexts timers new (history ++ entry ∷ [])
stands_else contexts timers old new history entry leaves stands is_new is_codecs is_rules = record {
  stored = stored_more history entry stands.stored leaves.keeps.stored;
  contexts = contexts_left contexts history entry leaves.contexts stands.contexts;
  timers = timers_left timers history entry leaves.requests stands.timers;
  bus = record {
    consumers = ap (λ (s : BusStore). s.consumers) is_new ∙ stands.bus.consumers ∙ sym (handlers_left history entry leaves.consumers (numbers_left history entry leaves.mailboxes));
    rings = λ address. ap (λ (s : BusStore). consumers_at address s.rings) is_new ∙ stands.bus.rings address ∙ sym (rings_left history entry address leaves.consumers);
    choices = λ address. ap (λ (s : BusStore). choices_at address s.rings) is_new ∙ stands.bus.choices address ∙ sym (choices_left history entry address leaves.consumers leaves.choices);
    tasks = ap (λ (s : BusStore). s.tasks) is_new ∙ stands.bus.tasks ∙ sym (tasks_left history entry leaves.tasks);
    opened = ap (λ (s : BusStore). s.requests.waiting) is_new ∙ stands.bus.opened ∙ ap (map row_of) (sym (requests_left history entry leaves.requests));
    ended = λ id. ap (λ (s : BusStore). ended_at id s.requests.ended) is_new ∙ stands.bus.ended id ∙ sym (settled_at_same history entry id stands.stored leaves.keeps leaves.settled);
    given = λ id. ap (λ (s : BusStore). given_at id s.given) is_new ∙ stands.bus.given id ∙ sym (given_left history entry id leaves.given);
    codecs = is_codecs;
    rules = is_rules;
  };
}

-- ## Codecs

add_codec_else : (history : List Traced) (pass : PassNo) (name : List ℕ) (form : CodecForm) (id : CodecId) → LeavesElse history (plain_entry pass (calls.AddCodec name form) (replies.Codec id) no_mark)
add_codec_else history pass name form id =
    let entry = plain_entry pass (calls.AddCodec name form) (replies.Codec id) no_mark in
    let keeps : KeepsOpen history entry = call_keeps history entry (record { call = refl; mark = refl }) refl in
    record {
      keeps = keeps;
      contexts = record { closings = refl; items = record { contexts = refl; queued = refl }; pools = refl; held = refl; finished = λ h. refl; waiting = record { none = refl; kept = λ w. refl } };
      requests = record { opened = refl; settled = λ r. request_kept history entry r keeps refl };
      consumers = record { registered = refl; kept = λ c. consumer_kept history entry c keeps refl };
      mailboxes = λ c. mailbox_kept history entry c keeps refl refl;
      choices = refl;
      tasks = record { made = refl; kept = λ t. refl };
      settled = refl;
      given = refl;
    }

pub adds_codec : (contexts : ContextStore) (timers : List Timer) (old new : BusStore) (history : List Traced) (at : EntryNo) (pass : PassNo) (name : List ℕ) (form : CodecForm) →
    StoresStand contexts timers old history → IsNext at history → add_codec_refusal history pass name form ≡ None →
    new ≡ record old { codecs = old.codecs ++ record { id = record { 0 = at }; name = name; form = form } ∷ [] } →
    Follows contexts timers new history pass (calls.AddCodec name form) (replies.Codec (record { 0 = at }))
adds_codec contexts timers old new history at pass name form stands is_next free is_new =
    let id : ℕ → CodecId = λ n. record { 0 = record { 0 = n } } in
    let codec : ℕ → Codec = λ n. record { id = id n; name = name; form = form } in
    let entry = plain_entry pass (calls.AddCodec name form) (replies.Codec (id at.0)) no_mark in
    let is_codecs = ap (λ (s : BusStore). s.codecs) is_new in
    let is_rules = ap (λ (s : BusStore). s.rules) is_new in
    record {
      answered = ap (λ n. replies.Codec (id n)) is_next ∙ sym (ap (λ r. unless_refused r (replies.Codec (next_codec history))) free);
      stores = stands_else contexts timers old new history entry (add_codec_else history pass name form (id at.0)) stands
          (is_new ∙ sym (ap (λ cs. (let s : BusStore = record old { codecs = cs; rules = new.rules } in s)) is_codecs ∙ ap (λ rs. (let s : BusStore = record old { codecs = old.codecs ++ codec at.0 ∷ []; rules = rs } in s)) is_rules))
          (is_codecs ∙ ap (λ cs. cs ++ codec at.0 ∷ []) stands.bus.codecs ∙ ap (λ n. codecs history ++ codec n ∷ []) is_next ∙ sym (lasting_more codec_kind history entry (λ c. refl)))
          (is_rules ∙ stands.bus.rules ∙ sym (rules_left history entry (record { added = refl; kept = λ r. refl })));
    }

remove_codec_else : (history : List Traced) (pass : PassNo) (name : List ℕ) → LeavesElse history (plain_entry pass (calls.RemoveCodec name) replies.Done no_mark)
remove_codec_else history pass name =
    let entry = plain_entry pass (calls.RemoveCodec name) replies.Done no_mark in
    let keeps : KeepsOpen history entry = call_keeps history entry (record { call = refl; mark = refl }) refl in
    record {
      keeps = keeps;
      contexts = record { closings = refl; items = record { contexts = refl; queued = refl }; pools = refl; held = refl; finished = λ h. refl; waiting = record { none = refl; kept = λ w. refl } };
      requests = record { opened = refl; settled = λ r. request_kept history entry r keeps refl };
      consumers = record { registered = refl; kept = λ c. consumer_kept history entry c keeps refl };
      mailboxes = λ c. mailbox_kept history entry c keeps refl refl;
      choices = refl;
      tasks = record { made = refl; kept = λ t. refl };
      settled = refl;
      given = refl;
    }

pub removes_codec : (contexts : ContextStore) (timers : List Timer) (old new : BusStore) (history : List Traced) (pass : PassNo) (name : List ℕ) →
    StoresStand contexts timers old history → option_or (no_codec history name) (holder_closed history pass) ≡ None → new ≡ record old { codecs = filter (λ codec. not (is_codec name codec)) old.codecs } →
    Follows contexts timers new history pass (calls.RemoveCodec name) replies.Done
removes_codec contexts timers old new history pass name stands there is_new =
    let entry = plain_entry pass (calls.RemoveCodec name) replies.Done no_mark in
    let left = filter (λ codec. not (is_codec name codec)) in
    let is_codecs = ap (λ (s : BusStore). s.codecs) is_new in
    let is_rules = ap (λ (s : BusStore). s.rules) is_new in
    record {
      answered = sym (ap (λ r. unless_refused r replies.Done) there);
      stores = stands_else contexts timers old new history entry (remove_codec_else history pass name) stands
          (is_new ∙ sym (ap (λ cs. (let s : BusStore = record old { codecs = cs; rules = new.rules } in s)) is_codecs ∙ ap (λ rs. (let s : BusStore = record old { codecs = left old.codecs; rules = rs } in s)) is_rules))
          (is_codecs ∙ ap left stands.bus.codecs ∙ sym (lasting-append codec_kind history entry ∙ append-nil (left (codecs history))))
          (is_rules ∙ stands.bus.rules ∙ sym (rules_left history entry (record { added = refl; kept = λ r. refl })));
    }

-- ## Rules

add_rule_else : (history : List Traced) (pass : PassNo) (side : Side) (condition : Condition) (verdict : Verdict) (id : RuleId) → LeavesElse history (plain_entry pass (calls.AddRule side condition verdict) (replies.Rule id) no_mark)
add_rule_else history pass side condition verdict id =
    let entry = plain_entry pass (calls.AddRule side condition verdict) (replies.Rule id) no_mark in
    let keeps : KeepsOpen history entry = call_keeps history entry (record { call = refl; mark = refl }) refl in
    record {
      keeps = keeps;
      contexts = record { closings = refl; items = record { contexts = refl; queued = refl }; pools = refl; held = refl; finished = λ h. refl; waiting = record { none = refl; kept = λ w. refl } };
      requests = record { opened = refl; settled = λ r. request_kept history entry r keeps refl };
      consumers = record { registered = refl; kept = λ c. consumer_kept history entry c keeps refl };
      mailboxes = λ c. mailbox_kept history entry c keeps refl refl;
      choices = refl;
      tasks = record { made = refl; kept = λ t. refl };
      settled = refl;
      given = refl;
    }

pub adds_rule : (contexts : ContextStore) (timers : List Timer) (old new : BusStore) (history : List Traced) (at : EntryNo) (pass : PassNo) (side : Side) (condition : Condition) (verdict : Verdict) →
    StoresStand contexts timers old history → IsNext at history → add_rule_refusal history pass side verdict ≡ None →
    new ≡ record old { rules = old.rules ++ record { id = record { 0 = at }; side = side; condition = condition; verdict = verdict } ∷ [] } →
    Follows contexts timers new history pass (calls.AddRule side condition verdict) (replies.Rule (record { 0 = at }))
adds_rule contexts timers old new history at pass side condition verdict stands is_next free is_new =
    let id : ℕ → RuleId = λ n. record { 0 = record { 0 = n } } in
    let rule : ℕ → Rule = λ n. record { id = id n; side = side; condition = condition; verdict = verdict } in
    let entry = plain_entry pass (calls.AddRule side condition verdict) (replies.Rule (id at.0)) no_mark in
    let is_codecs = ap (λ (s : BusStore). s.codecs) is_new in
    let is_rules = ap (λ (s : BusStore). s.rules) is_new in
    record {
      answered = ap (λ n. replies.Rule (id n)) is_next ∙ sym (ap (λ r. unless_refused r (replies.Rule (next_rule history))) free);
      stores = stands_else contexts timers old new history entry (add_rule_else history pass side condition verdict (id at.0)) stands
          (is_new ∙ sym (ap (λ cs. (let s : BusStore = record old { codecs = cs; rules = new.rules } in s)) is_codecs ∙ ap (λ rs. (let s : BusStore = record old { rules = rs } in s)) is_rules))
          (is_codecs ∙ stands.bus.codecs ∙ sym (codecs_left history entry (record { added = refl; kept = λ c. refl })))
          (is_rules ∙ ap (λ rs. rs ++ rule at.0 ∷ []) stands.bus.rules ∙ ap (λ n. rules history ++ rule n ∷ []) is_next ∙ sym (lasting_more rule_kind history entry (λ r. refl)));
    }

remove_rule_else : (history : List Traced) (pass : PassNo) (id : RuleId) → LeavesElse history (plain_entry pass (calls.RemoveRule id) replies.Done no_mark)
remove_rule_else history pass id =
    let entry = plain_entry pass (calls.RemoveRule id) replies.Done no_mark in
    let keeps : KeepsOpen history entry = call_keeps history entry (record { call = refl; mark = refl }) refl in
    record {
      keeps = keeps;
      contexts = record { closings = refl; items = record { contexts = refl; queued = refl }; pools = refl; held = refl; finished = λ h. refl; waiting = record { none = refl; kept = λ w. refl } };
      requests = record { opened = refl; settled = λ r. request_kept history entry r keeps refl };
      consumers = record { registered = refl; kept = λ c. consumer_kept history entry c keeps refl };
      mailboxes = λ c. mailbox_kept history entry c keeps refl refl;
      choices = refl;
      tasks = record { made = refl; kept = λ t. refl };
      settled = refl;
      given = refl;
    }

pub removes_rule : (contexts : ContextStore) (timers : List Timer) (old new : BusStore) (history : List Traced) (pass : PassNo) (id : RuleId) →
    StoresStand contexts timers old history → option_or (no_rule history id) (holder_closed history pass) ≡ None → new ≡ record old { rules = filter (λ rule. not (is_rule id rule)) old.rules } →
    Follows contexts timers new history pass (calls.RemoveRule id) replies.Done
removes_rule contexts timers old new history pass id stands there is_new =
    let entry = plain_entry pass (calls.RemoveRule id) replies.Done no_mark in
    let left = filter (λ rule. not (is_rule id rule)) in
    let is_codecs = ap (λ (s : BusStore). s.codecs) is_new in
    let is_rules = ap (λ (s : BusStore). s.rules) is_new in
    record {
      answered = sym (ap (λ r. unless_refused r replies.Done) there);
      stores = stands_else contexts timers old new history entry (remove_rule_else history pass id) stands
          (is_new ∙ sym (ap (λ cs. (let s : BusStore = record old { codecs = cs; rules = new.rules } in s)) is_codecs ∙ ap (λ rs. (let s : BusStore = record old { rules = rs } in s)) is_rules))
          (is_codecs ∙ stands.bus.codecs ∙ sym (codecs_left history entry (record { added = refl; kept = λ c. refl })))
          (is_rules ∙ ap left stands.bus.rules ∙ sym (lasting-append rule_kind history entry ∙ append-nil (left (rules history))));
    }
