-- Histories of the calls whose effects the stores keep: nothing has to do with connections.
use Rattle.std.proofs.Common.{◌≡◌, ℕ, List, [], ◌∷◌, ◌++◌, refl, ap, ◌∙◌}
use Rattle.std.specs.Prelude.{true, false, not, cond, filter, map, Option, None, Some}
use Rattle.std.specs.List.{flat_map}
use Rattle.vx_data.specs.declared.ids.ContextId.{ContextId}
use Rattle.vx_data.specs.declared.ids.PassNo.{PassNo}
use Rattle.vx_message.specs.declared.Message.{Message}
use Rattle.vx_message.specs.declared.Owner.TheVariants as owners
use Rattle.vx_call.specs.declared.call.Call.{Call}
use Rattle.vx_call.specs.declared.call.Call.TheVariants as calls
use Rattle.vx_call.specs.declared.reply.Reply.{Reply}
use Rattle.vx_call.specs.declared.history.Consumer.{Consumer}
use Rattle.vx_call.specs.declared.history.Deed.{Deed}
use Rattle.vx_call.specs.declared.history.Deed.TheVariants as deeds
use Rattle.vx_call.specs.declared.history.Sending.{Sending}
use Rattle.vx_call.specs.declared.history.Traced.{Traced}
use Rattle.vx_call.specs.History.{Kind, is_accepted, no_mark, made_by, ended_by, lasting}
use Rattle.vx_call.specs.Registered.{consumer_made, is_named}
use Rattle.vx_call.specs.Consumers.{consumer_kind, consumers}
use Rattle.vx_call.specs.Messages.{received}
use Rattle.vx_call.specs.Mailboxes.{accepting}
use Rattle.vx_call.specs.Askers.{Asker, is_asked_by}
use Rattle.vx_call.specs.Askers as askers
use Rattle.vx_call.specs.Requests.{Open, opened, open_made, open_kind, unsettled}
use Rattle.vx_call.specs.Sendings.{nothing_sent, send_all, outcome_sending}
use Rattle.vx_call.specs.Settled.{Settled, settlement, settlements, timeout, sending_of, timed_out, settled_made}
use Rattle.vx_call.specs.Deeds.{deed_of}
use Rattle.vx_call.specs.Effects.{answered, message_out, messages_out, sendings, connections_closed, mark_with, mark_of, marked}
use Rattle.vx_call.specs.Built.{is_stored, IsStored, AreStored}
use Rattle.vx_call.specs.Connections.{Connection, connection_made, open_connection_kind, open_connections}
use Rattle.vx_call.proofs.Lasting.{lasting-append, lasting_none}
use Rattle.vx_call.proofs.Each.{Each, Each-filter, Each-find, weaken, accepted, by_entries, lasting_each}
use Rattle.vx_call.proofs.Consumers.{IsLive}
use Rattle.vx_call.proofs.Arrivals.{accepting_live}
use Rattle.vx_call.proofs.Settlings.{Asks, each_settled, each_settled_by}
use Rattle.vx_call.proofs.Opened.{stays_asked}

-- what such a history begins with is one
pub stored_front : (history after : List Traced) → AreStored (history ++ after) → AreStored history
stored_front [] after stored = tt
stored_front (first ∷ others) after stored = (stored.0, stored_front others after stored.1)

-- and so is its last entry
pub stored_last : (history : List Traced) (new : Traced) → AreStored (history ++ new ∷ []) → IsStored new
stored_last [] new stored = stored.0
stored_last (first ∷ others) new stored = stored_last others new stored.1

pub stored_more : (history : List Traced) (new : Traced) → AreStored history → IsStored new → AreStored (history ++ new ∷ [])
stored_more [] new stored one = (one, tt)
stored_more (first ∷ others) new stored one = (stored.0, stored_more others new stored.1 one)

-- there is nothing of a kind that none of them makes
pub none_ever : {A : Type 0} (kind : Kind A) → ((history : List Traced) (new : Traced) → AreStored history → is_stored new.entry.call ≡ true → kind.made history new ≡ []) → (history : List Traced) → AreStored history → lasting kind history ≡ []
none_ever {A} kind none =
    by_entries (λ history. AreStored history → lasting kind history ≡ []) (λ stored. lasting_none kind)
    (λ history new before stored.
    let rest = stored_front history (new ∷ []) stored in
    let b = is_accepted new.entry.reply in
    let stays = λ (x : A). not (ended_by kind history new x) in
    let nothing : cond {A = List A} b [] [] ≡ [] = elim b as (λ c. cond {A = List A} c [] [] ≡ []) [ true ↦ refl | false ↦ refl ] in
    lasting-append kind history new ∙ ap (λ (xs : List A). filter stays xs ++ made_by kind history new) (before rest) ∙ ap (λ (xs : List A). cond b xs []) (none history new rest (stored_last history new stored).call) ∙ nothing)

-- ## All is of contexts

abbrev pub IsOfContext : Consumer → Type 0
IsOfContext consumer = (context : ContextId) × (consumer.owner ≡ owners.Context context)

made_of_contexts : (history : List Traced) (call : Call) (deed : Deed) → is_stored call ≡ true → Each IsOfContext (consumer_made history call deed)
made_of_contexts history (calls.Register context address limit) deed stored = ((context, refl), tt)
made_of_contexts history (calls.FrameIn conn frame) deed stored = absurd cc
made_of_contexts history _ deed stored = tt

abbrev OfContextIn : List Traced → Consumer → Type 0
OfContextIn history consumer = AreStored history → IsOfContext consumer

-- what holds of each under a premise
pub under : {A : Type 0} (H : Type 0) (P : A → Type 0) (xs : List A) → (H → Each P xs) → Each (λ x. H → P x) xs
under H P [] all = tt
under H P (x ∷ xs) all = (λ h. (all h).0, under H P xs (λ h. (all h).1))

pub consumers_of_contexts : (history : List Traced) → AreStored history → Each IsOfContext (consumers history)
consumers_of_contexts history stored =
    weaken (OfContextIn history) IsOfContext (consumers history) (λ consumer so. so stored)
    (lasting_each consumer_kind OfContextIn (λ h new consumer stays before all. before (stored_front h (new ∷ []) all))
    (λ h new. accepted (OfContextIn (h ++ new ∷ [])) (is_accepted new.entry.reply) (consumer_made h new.entry.call new.mark.deed)
    (λ ok. under (AreStored (h ++ new ∷ [])) IsOfContext (consumer_made h new.entry.call new.mark.deed) (λ all. made_of_contexts h new.entry.call new.mark.deed (stored_last h new all).call))) history)

pub live_of_context : (history : List Traced) (consumer : Consumer) → AreStored history → IsLive history consumer → IsOfContext consumer
live_of_context history consumer stored is_live = Each-find IsOfContext (is_named consumer.id) (consumers history) consumer (consumers_of_contexts history stored) is_live

abbrev pub IsAskedByContext : Open → Type 0
IsAskedByContext request = (context : ContextId) × (request.asker ≡ askers.context context)

opened_by_context : (history : List Traced) (context : ContextId) (timeout : ℕ) (all : List Consumer) → Each IsAskedByContext (map (opened history (askers.context context) timeout) all)
opened_by_context history context time [] = tt
opened_by_context history context time (consumer ∷ others) = ((context, refl), opened_by_context history context time others)

made_by_context : (history : List Traced) (call : Call) (deed : Deed) → is_stored call ≡ true → Each IsAskedByContext (open_made history call deed)
made_by_context history (calls.Request context address body options timeout once) deed stored = opened_by_context history context timeout (accepting history (calls.Request context address body options timeout once) deed)
made_by_context history (calls.ReplyRequest message context body options timeout) deed stored = ((context, refl), tt)
made_by_context history (calls.FrameIn conn frame) deed stored = absurd cc
made_by_context history _ deed stored = tt

abbrev AskedIn : List Traced → Open → Type 0
AskedIn history request = AreStored history → IsAskedByContext request

pub unsettled_of_contexts : (history : List Traced) → AreStored history → Each IsAskedByContext (unsettled history)
unsettled_of_contexts history stored =
    weaken (AskedIn history) IsAskedByContext (unsettled history) (λ request so. so stored)
    (lasting_each open_kind AskedIn (λ h new request stays before all. before (stored_front h (new ∷ []) all))
    (λ h new. accepted (AskedIn (h ++ new ∷ [])) (is_accepted new.entry.reply) _
    (λ ok. Each-filter (AskedIn (h ++ new ∷ [])) (AskedIn (h ++ new ∷ [])) (stays_asked new) (open_made h new.entry.call new.mark.deed) (λ request passes so. so)
    (under (AreStored (h ++ new ∷ [])) IsAskedByContext (open_made h new.entry.call new.mark.deed) (λ all. made_by_context h new.entry.call new.mark.deed (stored_last h new all).call)))) history)

-- ## Nothing has to do with connections

none_flat : {A : Type 0} (f : A → List Sending) (xs : List A) → Each (λ x. f x ≡ []) xs → flat_map f xs ≡ []
none_flat f [] none = refl
none_flat f (x ∷ xs) none = ap (λ ys. ys ++ flat_map f xs) none.0 ∙ none_flat f xs none.1

none_out : (o : Option Message) (all : List Consumer) → Each IsOfContext all → messages_out o all ≡ []
none_out None all of = refl
none_out (Some message) all of =
    none_flat (λ (consumer : Consumer). message_out message consumer.owner) all
    (weaken IsOfContext (λ (consumer : Consumer). message_out message consumer.owner ≡ []) all (λ consumer of_context. ap (message_out message) of_context.1) of)

abbrev pub IsSettledForContext : Settled → Type 0
IsSettledForContext s = (context : ContextId) × (s.asker ≡ askers.context context)

asks_as_context : (call : Call) (deed : Deed) (asker : Asker) → is_stored call ≡ true → Asks call deed asker → (context : ContextId) × (asker ≡ askers.context context)
asks_as_context (calls.Request context address body options time once) deed asker stored asks = (context, asks)
asks_as_context (calls.FrameIn conn frame) deed asker stored asks = absurd cc
asks_as_context _ deed asker stored asks = absurd asks

pub settled_for_contexts : (history : List Traced) (pass : PassNo) (call : Call) (deed : Deed) → AreStored history → is_stored call ≡ true → Each IsSettledForContext (settled_made history pass call deed)
settled_for_contexts history pass call deed stored is =
    each_settled IsSettledForContext history pass call deed
    (each_settled_by IsAskedByContext IsSettledForContext history pass call deed (λ request outcome asked. asked) (unsettled_of_contexts history stored))
    (λ asker asks nobody. asks_as_context call deed asker is asks)

none_answered : (call : Call) (deed : Deed) → is_stored call ≡ true → answered call deed ≡ []
none_answered (calls.FrameIn conn frame) deed stored = absurd cc
none_answered _ deed stored = refl

pub no_deed : (history : List Traced) (call : Call) → is_stored call ≡ true → deed_of history call ≡ deeds.Nothing
no_deed history (calls.FrameIn conn frame) stored = absurd cc
no_deed history _ stored = refl

none_opened : (history : List Traced) (call : Call) → is_stored call ≡ true → connection_made history call ≡ []
none_opened history (calls.OpenConn permits) stored = absurd cc
none_opened history _ stored = refl

-- no connection is there
pub no_connections : (history : List Traced) → AreStored history → open_connections history ≡ []
no_connections = none_ever open_connection_kind (λ history new rest stored. none_opened history new.entry.call stored)

none_shut_by : (history : List Traced) (call : Call) → AreStored history → is_stored call ≡ true → connections_closed history call ≡ []
none_shut_by history (calls.FrameIn conn frame) are stored = absurd cc
none_shut_by history (calls.CloseConn conn) are stored = absurd cc
none_shut_by history calls.Close are stored = ap (map (λ (connection : Connection). connection.id)) (no_connections history are)
none_shut_by history _ are stored = refl

no_sendings : (history : List Traced) (pass : PassNo) (call : Call) (deed : Deed) → AreStored history → is_stored call ≡ true → sendings history pass call deed ≡ []
no_sendings history pass call deed stored is =
    let all = accepting history call deed in
    let ended = settled_made history pass call deed in
    let of : Each IsOfContext all = weaken (IsLive history) IsOfContext all (λ consumer is_live. live_of_context history consumer stored is_live) (accepting_live history call deed) in
    ap (λ xs. xs ++ messages_out (received history call deed) all ++ flat_map sending_of ended) (none_answered call deed is)
    ∙ ap (λ xs. xs ++ flat_map sending_of ended) (none_out (received history call deed) all of)
    ∙ none_flat sending_of ended
    (weaken IsSettledForContext (λ (s : Settled). sending_of s ≡ []) ended (λ s for_context. ap (λ asker. outcome_sending asker s.outcome) for_context.1) (settled_for_contexts history pass call deed stored is))

-- the mark of an entry is none
pub no_mark_stored : (history : List Traced) (pass : PassNo) (call : Call) (reply : Reply) → AreStored history → is_stored call ≡ true → marked history pass call reply ≡ no_mark
no_mark_stored history pass call reply stored is =
    let deed = deed_of history call in
    let whole : mark_of history pass call ≡ no_mark =
    ap (λ sends. mark_with deed (send_all history nothing_sent sends) (connections_closed history call)) (no_sendings history pass call deed stored is)
    ∙ ap (mark_with deed nothing_sent) (none_shut_by history call stored is)
    ∙ ap (λ d. mark_with d nothing_sent []) (no_deed history call is) in
    elim (is_accepted reply) as (λ b. cond b (mark_of history pass call) no_mark ≡ no_mark) [ true ↦ whole | false ↦ refl ]

-- all whose time is up are settled
pub all_timed_out : (history : List Traced) (all : List Open) → Each IsAskedByContext all → timed_out history nothing_sent all ≡ settlements history timeout all
all_timed_out history [] asked = refl
all_timed_out history (request ∷ others) asked =
    let here = settlement history timeout request in
    let behind : List Sending → List Settled = λ sends. timed_out history (send_all history nothing_sent sends) others in
    ap (λ asker. cond (is_asked_by [] asker) (timed_out history nothing_sent others) (here ∷ behind (sending_of here))) asked.0.1
    ∙ ap (λ asker. here ∷ behind (outcome_sending asker timeout)) asked.0.1
    ∙ ap (λ xs. here ∷ xs) (all_timed_out history others asked.1)
