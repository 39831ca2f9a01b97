-- A request that a context asked is open, or it has ended.
use Rattle.std.proofs.Common.{◌≡◌, ℕ, List, [], ◌∷◌, ◌++◌, length, refl, ap, sym, ◌∙◌, subst, inl, inr, ◌⊎◌}
use Rattle.std.specs.Prelude.{Bool, true, false, not, cond, ◌&&◌, ◌||◌, nat_le, filter, find, map, is_some, Option, None, Some}
use Rattle.std.specs.List.{list_any}
use Rattle.std.specs.Option.{option_map, option_or}
use Rattle.std.proofs.lemmas.Bool.{or_right, eq-eqb, eqb-true}
use Rattle.std.proofs.lemmas.List.Elements.{filter_agree}
use Rattle.vx_data.specs.declared.ids.ContextId.{ContextId}
use Rattle.vx_data.specs.declared.ids.MessageId.{MessageId}
use Rattle.vx_data.specs.declared.ids.PassNo.{PassNo}
use Rattle.vx_data.specs.Ids.{same_message}
use Rattle.vx_message.specs.declared.Outcome.{Outcome}
use Rattle.vx_call.specs.declared.call.Call.{Call}
use Rattle.vx_call.specs.declared.call.Call.TheVariants as calls
use Rattle.vx_call.specs.declared.history.Consumer.{Consumer}
use Rattle.vx_call.specs.declared.history.Deed.{Deed}
use Rattle.vx_call.specs.declared.history.Deed.TheVariants as deeds
use Rattle.vx_call.specs.declared.history.Mark.{Mark}
use Rattle.vx_call.specs.declared.history.Traced.{Traced}
use Rattle.vx_call.specs.History.{is_accepted, no_mark, made_by, ended_by, lasting}
use Rattle.vx_call.specs.Built.{is_stored, AreStored}
use Rattle.vx_call.specs.Names.{next_entry, next_message}
use Rattle.vx_call.specs.Closings.{closes}
use Rattle.vx_call.specs.Mailboxes.{accepting}
use Rattle.vx_call.specs.Given.{Asked, asked_made, asked_kind, asker, is_given}
use Rattle.vx_call.specs.Askers.{Asker, is_asked_by, context_asking}
use Rattle.vx_call.specs.Askers as askers
use Rattle.vx_call.specs.Requests.{Open, opened, open_made, open_kind, unsettled, settles, settles_or_shuts, settled_by, closes_asker, is_lost_at, put_by_due, by_due}
use Rattle.vx_call.specs.Settled.{Settled, no_handlers, timeout, settlement, settlements, settled_unheard, settled_by_closing, settled_made, Dropped, drop_all, dropped_by_closing, dropped_with_context, dropped_made, settled_at}
use Rattle.vx_call.proofs.Lasting.{lasting-append, filter_all}
use Rattle.vx_call.proofs.Each.{Each, Each-filter, Each-find, weaken, accepted, lasting_each}
use Rattle.vx_call.proofs.Found.{find_passes}
use Rattle.vx_call.proofs.Once.{any_here}
use Rattle.vx_call.proofs.Filters.{filter_every, filter_swap}
use Rattle.vx_call.proofs.Opened.{open_asker, Each-by_due}
use Rattle.vx_call.proofs.Settlings.{is_settled_as, unheard}
use Rattle.vx_call.proofs.Stored.{under, stored_front, stored_last, IsAskedByContext, unsettled_of_contexts, all_timed_out}
use Rattle.vx_call.proofs.Dropped.{is_dropped_as, dropped_of_contexts, ended_among, dropped_among, settled_at_more}
use Rattle.vx_call.proofs.OpenAskers.{any_front, any_behind}

abbrev is_it : MessageId → Open → Bool
is_it id request = same_message id request.id

-- ## One of those that end is among what ends

-- one that passes stays, or goes
any_split : {A : Type 0} (p q : A → Bool) (xs : List A) → list_any p xs ≡ true → (list_any p (filter (λ x. not (q x)) xs) ≡ true) ⊎ (list_any p (filter q xs) ≡ true)
any_split p q [] found = absurd cc
any_split {A} p q (x ∷ xs) found =
    let stay = filter (λ y. not (q y)) xs in
    let go = filter q xs in
    let All : Bool → Type 0 = λ c. (list_any p (cond (not c) (x ∷ stay) stay) ≡ true) ⊎ (list_any p (cond c (x ∷ go) go) ≡ true) in
    elim (p x) as (λ b. p x ≡ b → (b || list_any p xs) ≡ true → All (q x)) [
      | true ↦ λ passes here. elim (q x) as All [ true ↦ inr (any_here p x go passes) | false ↦ inl (any_here p x stay passes) ]
      | false ↦ λ fails later.
          (elim (any_split p q xs later) as (λ _. All (q x)) [
            | inl stays ↦ elim (q x) as All [ true ↦ inl stays | false ↦ inl (ap (λ b. p x || b) stays ∙ or_right (p x) true refl) ]
            | inr goes ↦ elim (q x) as All [ true ↦ inr (ap (λ b. p x || b) goes ∙ or_right (p x) true refl) | false ↦ inr goes ]
          ])
    ] refl found

found_settled : (history : List Traced) (outcome : Outcome) (id : MessageId) (requests : List Open) → list_any (is_it id) requests ≡ true → is_some (find (is_settled_as id) (settlements history outcome requests)) ≡ true
found_settled history outcome id [] found = absurd cc
found_settled history outcome id (request ∷ others) found =
    elim (same_message id request.id) as (λ b. (b || list_any (is_it id) others) ≡ true → is_some (cond b (Some (settlement history outcome request)) (find (is_settled_as id) (settlements history outcome others))) ≡ true) [
      | true ↦ λ here. refl
      | false ↦ λ later. found_settled history outcome id others later
    ] found

abbrev dropped_one : List Traced → Open → Dropped
dropped_one history request = record { request = request.id; at = next_entry history }

found_dropped : (history : List Traced) (id : MessageId) (requests : List Open) → list_any (is_it id) requests ≡ true → is_some (find (is_dropped_as id) (drop_all history requests)) ≡ true
found_dropped history id [] found = absurd cc
found_dropped history id (request ∷ others) found =
    elim (same_message id request.id) as (λ b. (b || list_any (is_it id) others) ≡ true → is_some (cond b (Some (dropped_one history request)) (find (is_dropped_as id) (drop_all history others))) ≡ true) [
      | true ↦ λ here. refl
      | false ↦ λ later. found_dropped history id others later
    ] found

or_swap : (a b c : Bool) → (a || (b || c)) ≡ (b || (a || c))
or_swap true true c = refl
or_swap true false c = refl
or_swap false b c = refl

any_put : (p : Open → Bool) (request : Open) (others : List Open) → list_any p (put_by_due request others) ≡ (p request || list_any p others)
any_put p request [] = refl
any_put p request (other ∷ others) =
    elim (nat_le request.due other.due) as (λ b. list_any p (cond b (request ∷ other ∷ others) (other ∷ put_by_due request others)) ≡ (p request || (p other || list_any p others))) [
      | true ↦ refl
      | false ↦ ap (λ b. p other || b) (any_put p request others) ∙ or_swap (p other) (p request) (list_any p others)
    ]

any_by_due : (p : Open → Bool) (all : List Open) → list_any p (by_due all) ≡ list_any p all
any_by_due p [] = refl
any_by_due p (request ∷ others) = any_put p request (by_due others) ∙ ap (λ b. p request || b) (any_by_due p others)

none_any : {A : Type 0} (p q : A → Bool) (xs : List A) → ((x : A) → q x ≡ false) → list_any p (filter q xs) ≡ true → ⊥
none_any p q [] none found = cc
none_any p q (x ∷ xs) none found = none_any p q xs none (ap (λ b. list_any p (cond b (x ∷ filter q xs) (filter q xs))) (sym (none x)) ∙ found)

-- one that passes among some is one among all
any_of : {A : Type 0} (p q : A → Bool) (xs : List A) → list_any p (filter q xs) ≡ true → list_any p xs ≡ true
any_of p q [] found = found
any_of p q (x ∷ xs) found =
    elim (q x) as (λ b. list_any p (cond b (x ∷ filter q xs) (filter q xs)) ≡ true → (p x || list_any p xs) ≡ true) [
      | true ↦ λ all. elim (p x) as (λ c. (c || list_any p (filter q xs)) ≡ true → (c || list_any p xs) ≡ true) [ true ↦ λ here. refl | false ↦ λ later. any_of p q xs later ] all
      | false ↦ λ later. ap (λ b. p x || b) (any_of p q xs later) ∙ or_right (p x) true refl
    ] found

-- ... and among more of them
any_wider : {A : Type 0} (p q r : A → Bool) (xs : List A) → list_any p (filter q (filter r xs)) ≡ true → list_any p (filter q xs) ≡ true
any_wider p q r xs found = any_of p r (filter q xs) (ap (list_any p) (filter_swap r q xs) ∙ found)

no_part : (history : List Traced) (pass : PassNo) (call : Call) → ((context : ContextId) → closes history pass call context ≡ false) → (request : Open) (asker : Asker) (home : Option ContextId) →
    (closes_asker history pass call asker || is_lost_at history pass call request home) ≡ false
no_part history pass call kept request (askers.context context) None = ap (λ b. b || false) (kept context)
no_part history pass call kept request (askers.context context) (Some home) = ap (λ b. b || is_lost_at history pass call request (Some home)) (kept context) ∙ ap (λ b. b && not (is_given history request.id)) (kept home)
no_part history pass call kept request (askers.connection conn at) None = refl
no_part history pass call kept request (askers.connection conn at) (Some home) = ap (λ b. b && not (is_given history request.id)) (kept home)

-- a call that closes no context ends no request by closing
no_closing_ends : (history : List Traced) (pass : PassNo) (call : Call) → ((context : ContextId) → closes history pass call context ≡ false) → (request : Open) →
    (closes_asker history pass call request.asker || is_lost_at history pass call request request.home) ≡ false
no_closing_ends history pass call kept request = no_part history pass call kept request request.asker request.home

or_false : (b : Bool) → (b || false) ≡ b
or_false true = refl
or_false false = refl

not_shut : (asker : Asker) → is_asked_by [] asker ≡ false
not_shut (askers.context context) = refl
not_shut (askers.connection conn at) = refl

abbrev EndedNow : List Traced → PassNo → Call → Deed → MessageId → Type 0
EndedNow history pass call deed id =
    (is_some (find (is_settled_as id) (settled_made history pass call deed)) ≡ true) ⊎ (is_some (find (is_dropped_as id) (drop_all history (dropped_with_context history pass call))) ≡ true)

-- as a context closes
closed_now : (history : List Traced) (pass : PassNo) (call : Call) (deed : Deed) (id : MessageId) → settled_made history pass call deed ≡ settled_by_closing history pass call deed → dropped_with_context history pass call ≡ dropped_by_closing history pass call →
    list_any (is_it id) (settled_by history pass call deed) ≡ true → EndedNow history pass call deed id
closed_now history pass call deed id settled dropped found =
    let asks = λ (request : Open). closes_asker history pass call request.asker in
    elim (any_split (is_it id) asks (settled_by history pass call deed) found) as (λ _. EndedNow history pass call deed id) [
      | inl stays ↦ inl (ap (λ made. is_some (find (is_settled_as id) made)) settled ∙ found_settled history no_handlers id (filter (λ request. not (asks request)) (settled_by history pass call deed)) stays)
      | inr goes ↦ inr (ap (λ all. is_some (find (is_dropped_as id) (drop_all history all))) dropped
          ∙ found_dropped history id (filter asks (unsettled history)) (any_wider (is_it id) asks (settles history pass call deed) (unsettled history) goes))
    ]

ended_now : (history : List Traced) (pass : PassNo) (call : Call) (deed : Deed) (id : MessageId) → Each IsAskedByContext (unsettled history) → is_stored call ≡ true → list_any (is_it id) (settled_by history pass call deed) ≡ true → EndedNow history pass call deed id
ended_now history pass (calls.Reply message body options) deed id asked stored found = inl (found_settled history _ id (settled_by history pass (calls.Reply message body options) deed) found)
ended_now history pass (calls.Fail message code text) deed id asked stored found = inl (found_settled history _ id (settled_by history pass (calls.Fail message code text) deed) found)
ended_now history pass (calls.ReplyRequest message context body options time) deed id asked stored found = inl (found_settled history _ id (settled_by history pass (calls.ReplyRequest message context body options time) deed) found)
ended_now history pass (calls.Unregister consumer) deed id asked stored found = inl (found_settled history _ id (settled_by history pass (calls.Unregister consumer) deed) found)
ended_now history pass (calls.Advance moment) deed id asked stored found =
    let up = settled_by history pass (calls.Advance moment) deed in
    let up_asked : Each IsAskedByContext up = Each-filter IsAskedByContext IsAskedByContext (settles history pass (calls.Advance moment) deed) (unsettled history) (λ request passes of. of) asked in
    inl (ap (λ made. is_some (find (is_settled_as id) made)) (all_timed_out history (by_due up) (Each-by_due IsAskedByContext up up_asked))
    ∙ found_settled history timeout id (by_due up) (any_by_due (is_it id) up ∙ found))
ended_now history pass (calls.FrameIn conn frame) deed id asked stored found = absurd cc
ended_now history pass (calls.StartDone result) deed id asked stored found = closed_now history pass (calls.StartDone result) deed id refl refl found
ended_now history pass calls.StopDone deed id asked stored found = closed_now history pass calls.StopDone deed id refl refl found
ended_now history pass (calls.Finish end) deed id asked stored found = closed_now history pass (calls.Finish end) deed id refl refl found
ended_now history pass calls.Close deed id asked stored found =
    let asks = λ (request : Open). closes_asker history pass calls.Close request.asker in
    let all : filter asks (unsettled history) ≡ unsettled history = filter_every asks (unsettled history) (weaken IsAskedByContext (λ request. asks request ≡ true) (unsettled history) (λ request by. ap (closes_asker history pass calls.Close) by.1) asked) in
    inr (found_dropped history id (filter asks (unsettled history)) (ap (list_any (is_it id)) all ∙ any_of (is_it id) (settles history pass calls.Close deed) (unsettled history) found))
ended_now history pass call deed id asked stored found = absurd (none_any (is_it id) (settles history pass call deed) (unsettled history) (no_closing_ends history pass call (λ context. refl)) found)

-- ## Open, or ended

abbrev OpenOrEnded : List Traced → MessageId → Type 0
OpenOrEnded history id = (list_any (is_it id) (unsettled history) ≡ true) ⊎ (is_some (settled_at history id) ≡ true)

either_some : {A : Type 0} (a b : Option A) → (is_some a ≡ true) ⊎ (is_some b ≡ true) → is_some (option_or a b) ≡ true
either_some (Some x) b some = refl
either_some None b some = elim some as (λ _. is_some b ≡ true) [ inl nothing ↦ absurd cc | inr there ↦ there ]

mapped_some : {A B : Type 0} (f : A → B) (o : Option A) → is_some o ≡ true → is_some (option_map f o) ≡ true
mapped_some f None some = some
mapped_some f (Some x) some = refl

-- an entry that ends it says so
goes_ended : (history : List Traced) (new : Traced) (id : MessageId) → AreStored (history ++ new ∷ []) → list_any (is_it id) (filter (ended_by open_kind history new) (unsettled history)) ≡ true → is_some (settled_at (history ++ new ∷ []) id) ≡ true
goes_ended history new id stored goes =
    let pass = new.entry.pass in
    let call = new.entry.call in
    let deed = new.mark.deed in
    let before = stored_front history (new ∷ []) stored in
    let one = stored_last history new stored in
    let Now : Bool → Type 0 = λ b.
    is_some (option_or (ended_among id (cond b (settled_made history pass call deed) [])) (dropped_among id (cond b (dropped_made history new) []))) ≡ true in
    let shown : Now (is_accepted new.entry.reply) =
    elim (is_accepted new.entry.reply) as (λ b. list_any (is_it id) (filter (λ request. b && settles_or_shuts history new request) (unsettled history)) ≡ true → Now b) [
      | true ↦ λ found.
          (let settles_it : list_any (is_it id) (settled_by history pass call deed) ≡ true =
          ap (list_any (is_it id)) (sym (filter_agree _ _ (λ (request : Open). ap (λ (m : Mark). settles history pass call deed request || is_asked_by m.shut request.asker) one.mark
          ∙ ap (λ b. settles history pass call deed request || b) (not_shut request.asker) ∙ or_false (settles history pass call deed request)) (unsettled history))) ∙ found in
          either_some _ _
          (elim (ended_now history pass call deed id (unsettled_of_contexts history before) one.call settles_it) as (λ _.
          (is_some (ended_among id (settled_made history pass call deed)) ≡ true) ⊎ (is_some (dropped_among id (dropped_made history new)) ≡ true)) [
            | inl ends ↦ inl (mapped_some (λ (s : Settled). s.at) _ ends)
            | inr drops ↦ inr (mapped_some (λ (d : Dropped). d.at) _ (ap (λ all. is_some (find (is_dropped_as id) all)) (dropped_of_contexts history new one) ∙ drops))
          ]))
      | false ↦ λ found. absurd (none_any (is_it id) (λ request. false) (unsettled history) (λ request. refl) found)
    ] goes in
    ap is_some (settled_at_more history new id before) ∙ either_some (settled_at history id) _ (inr shown)

keeps_or_ends : (history : List Traced) (new : Traced) (id : MessageId) → AreStored (history ++ new ∷ []) → OpenOrEnded history id → OpenOrEnded (history ++ new ∷ []) id
keeps_or_ends history new id stored known =
    let After : Type 0 = OpenOrEnded (history ++ new ∷ []) id in
    elim known as (λ _. After) [
      | inl is_open ↦
          (elim (any_split (is_it id) (ended_by open_kind history new) (unsettled history) is_open) as (λ _. After) [
            | inl stays ↦ inl (ap (list_any (is_it id)) (lasting-append open_kind history new) ∙ any_front (is_it id) (filter (λ request. not (ended_by open_kind history new request)) (unsettled history)) (made_by open_kind history new) stays)
            | inr goes ↦ inr (goes_ended history new id stored goes)
          ])
      | inr ended ↦ inr (ap is_some (settled_at_more history new id (stored_front history (new ∷ []) stored)) ∙ either_some (settled_at history id) _ (inl ended))
    ]

-- where the entry makes it
made_open : (history : List Traced) (new : Traced) (id : MessageId) → is_accepted new.entry.reply ≡ true → new.mark ≡ no_mark → list_any (is_it id) (open_made history new.entry.call deeds.Nothing) ≡ true → OpenOrEnded (history ++ new ∷ []) id
made_open history new id ok mark made =
    let stays = λ (request : Open). not (is_asked_by new.mark.shut request.asker) in
    let all : filter stays (open_made history new.entry.call new.mark.deed) ≡ open_made history new.entry.call deeds.Nothing =
    ap (λ (m : Mark). filter (λ (request : Open). not (is_asked_by m.shut request.asker)) (open_made history new.entry.call m.deed)) mark
    ∙ filter_all _ (λ (request : Open). ap not (not_shut request.asker)) (open_made history new.entry.call deeds.Nothing) in
    inl (ap (list_any (is_it id)) (lasting-append open_kind history new)
    ∙ any_behind (is_it id) (filter (λ request. not (ended_by open_kind history new request)) (unsettled history)) (made_by open_kind history new)
    (ap (λ b. list_any (is_it id) (cond b (filter stays (open_made history new.entry.call new.mark.deed)) [])) ok ∙ ap (list_any (is_it id)) all ∙ made))

made_ended : (history : List Traced) (new : Traced) (id : MessageId) → is_accepted new.entry.reply ≡ true → new.mark ≡ no_mark → AreStored history →
    is_some (find (is_settled_as id) (settled_made history new.entry.pass new.entry.call deeds.Nothing)) ≡ true → OpenOrEnded (history ++ new ∷ []) id
made_ended history new id ok mark stored made =
    inr (ap is_some (settled_at_more history new id stored) ∙ either_some (settled_at history id) _
    (inr (either_some _ _
    (inl (mapped_some (λ (s : Settled). s.at) _
    (ap (λ b. is_some (find (is_settled_as id) (cond b (settled_made history new.entry.pass new.entry.call new.mark.deed) []))) ok
    ∙ ap (λ (m : Mark). is_some (find (is_settled_as id) (settled_made history new.entry.pass new.entry.call m.deed))) mark ∙ made))))))

heard_or_not : (history : List Traced) (context : ContextId) (timeout : ℕ) (all : List Consumer) →
    (list_any (is_it (next_message history)) (map (opened history (askers.context context) timeout) all) ≡ true) ⊎ (is_some (find (is_settled_as (next_message history)) (settled_unheard history (askers.context context) all)) ≡ true)
heard_or_not history context timeout [] = inr (ap (λ b. is_some (cond b (Some (unheard history (askers.context context))) None)) (eq-eqb (length history) (length history) refl))
heard_or_not history context timeout (consumer ∷ others) = inl (ap (λ b. b || list_any (is_it (next_message history)) (map (opened history (askers.context context) timeout) others)) (eq-eqb (length history) (length history) refl))

made_known : (history : List Traced) (new : Traced) (call : Call) → new.entry.call ≡ call → is_accepted new.entry.reply ≡ true → AreStored (history ++ new ∷ []) → Each (λ (asked : Asked). OpenOrEnded (history ++ new ∷ []) asked.id) (asked_made history call)
made_known history new (calls.Request context address body options timeout once) is_call ok stored =
    let call = calls.Request context address body options timeout once in
    let id = next_message history in
    let mark = (stored_last history new stored).mark in (
      elim (heard_or_not history context timeout (accepting history call deeds.Nothing)) as (λ _. OpenOrEnded (history ++ new ∷ []) id) [
        | inl opens ↦ made_open history new id ok mark (ap (λ c. list_any (is_it id) (open_made history c deeds.Nothing)) is_call ∙ opens)
        | inr ends ↦ made_ended history new id ok mark (stored_front history (new ∷ []) stored) (ap (λ c. is_some (find (is_settled_as id) (settled_made history new.entry.pass c deeds.Nothing))) is_call ∙ ends)
      ],
      tt,
    )
made_known history new (calls.ReplyRequest message context body options timeout) is_call ok stored =
    let id = next_message history in (
      made_open history new id ok (stored_last history new stored).mark
          (ap (λ c. list_any (is_it id) (open_made history c deeds.Nothing)) is_call ∙ ap (λ b. b || false) (eq-eqb (length history) (length history) refl)),
      tt,
    )
made_known history new _ is_call ok stored = tt

abbrev KnownIn : List Traced → Asked → Type 0
KnownIn history asked = AreStored history → OpenOrEnded history asked.id

asked_known : (history : List Traced) → Each (KnownIn history) (lasting asked_kind history)
asked_known =
    lasting_each asked_kind KnownIn (λ h new asked stays known stored. keeps_or_ends h new asked.id stored (known (stored_front h (new ∷ []) stored)))
    (λ h new. accepted (KnownIn (h ++ new ∷ [])) (is_accepted new.entry.reply) _
    (λ ok. under (AreStored (h ++ new ∷ [])) (λ (asked : Asked). OpenOrEnded (h ++ new ∷ []) asked.id) (asked_made h new.entry.call) (λ stored. made_known h new new.entry.call refl ok stored)))

-- ## The open request of a name

same_id : (id other : MessageId) → same_message id other ≡ true → id ≡ other
same_id id other same = let named : ℕ → MessageId = λ n. record { 0 = record { 0 = n } } in ap named (eqb-true id.0.0 other.0.0 same)

found_open : (history : List Traced) (id : MessageId) (context : ContextId) (all : List Open) → Each (λ (request : Open). asker history request.id ≡ context_asking request.asker) all → list_any (is_it id) all ≡ true → asker history id ≡ Some context →
    (request : Open) × ((find (is_it id) all ≡ Some request) × (context_asking request.asker ≡ Some context))
found_open history id context [] known found asks = absurd cc
found_open history id context (request ∷ others) known found asks =
    let Found : Option Open → Type 0 = λ o. (r : Open) × ((o ≡ Some r) × (context_asking r.asker ≡ Some context)) in
    elim (same_message id request.id) as (λ b. same_message id request.id ≡ b → (b || list_any (is_it id) others) ≡ true → Found (cond b (Some request) (find (is_it id) others))) [
      | true ↦ λ here any. (request, (refl, sym known.0 ∙ ap (asker history) (sym (same_id id request.id here)) ∙ asks))
      | false ↦ λ other later. found_open history id context others known.1 later asks
    ] refl found

asked_found : (history : List Traced) (id : MessageId) (o : Option Asked) → find (λ (asked : Asked). same_message id asked.id) (lasting asked_kind history) ≡ o → AreStored history → (context : ContextId) → option_map (λ (asked : Asked). asked.asker) o ≡ Some context → OpenOrEnded history id
asked_found history id None found stored context asks = absurd cc
asked_found history id (Some asked) found stored context asks =
    let named = same_id id asked.id (find_passes (λ (a : Asked). same_message id a.id) (lasting asked_kind history) asked found) in
    let Known : MessageId → Type 0 = OpenOrEnded history in
    subst Known (sym named) (Each-find (KnownIn history) (λ (a : Asked). same_message id a.id) (lasting asked_kind history) asked (asked_known history) found stored)

none_there : (o : Option Open) (history : List Traced) (id : MessageId) → find (is_it id) (unsettled history) ≡ o → AreStored history → asker history id ≡ None → o ≡ None
none_there None history id found stored none = refl
none_there (Some request) history id found stored none =
    let named = same_id id request.id (find_passes (is_it id) (unsettled history) request found) in
    let known = Each-find (λ (r : Open). asker history r.id ≡ context_asking r.asker) (is_it id) (unsettled history) request (open_asker history) found in
    let by = Each-find IsAskedByContext (is_it id) (unsettled history) request (unsettled_of_contexts history stored) found in
    let no : None ≡ Some by.0 = sym none ∙ ap (asker history) named ∙ known ∙ ap context_asking by.1 in
    absurd cc

abbrev pub asks_in : Option Open → Option ContextId
asks_in None = None
asks_in (Some request) = context_asking request.asker

-- the context that gets the outcome of a request that has not ended is the one that the open request of this name has
pub asker_open : (history : List Traced) (id : MessageId) → AreStored history → settled_at history id ≡ None → asks_in (find (λ (request : Open). same_message id request.id) (unsettled history)) ≡ asker history id
asker_open history id stored unended =
    elim (asker history id) as (λ o. asker history id ≡ o → asks_in (find (is_it id) (unsettled history)) ≡ o) [
      | None ↦ λ none. ap asks_in (none_there (find (is_it id) (unsettled history)) history id refl stored none)
      | Some context ↦ λ asks.
          (elim (asked_found history id (find (λ (asked : Asked). same_message id asked.id) (lasting asked_kind history)) refl stored context asks) as (λ _. asks_in (find (is_it id) (unsettled history)) ≡ Some context) [
            | inl is_open ↦ (let it = found_open history id context (unsettled history) (open_asker history) is_open asks in ap asks_in it.1.0 ∙ it.1.1)
            | inr ended ↦ (let no : false ≡ true = sym (ap is_some unended) ∙ ended in absurd cc)
          ])
    ] refl
