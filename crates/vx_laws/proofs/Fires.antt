-- Timers fire when they are due, and no more often.
use Rattle.std.proofs.Common.{◌≡◌, ℕ, ◌+◌, ◌<◌, ◌≤◌, List, [], ◌∷◌, ◌++◌, length, take, refl, ap, sym, ◌∙◌, subst, append_assoc, arith, inl, inr}
use Rattle.std.specs.Prelude.{Bool, true, false, not, ◌&&◌, cond, filter, slice_get, is_none, Option, None, Some}
use Rattle.std.specs.Option.{option_or}
use Rattle.std.proofs.lemmas.Bool.{cases_lt, eq-eqb, eqb-true}
use Rattle.vx_data.specs.declared.ids.PassNo.{PassNo}
use Rattle.vx_data.specs.declared.ids.TimerId.{TimerId}
use Rattle.vx_data.specs.Ids.{same_timer}
use Rattle.vx_message.specs.declared.Lane.{Lane}
use Rattle.vx_call.specs.declared.call.Call.TheVariants as calls
use Rattle.vx_call.specs.declared.reply.Refusal.{Refusal}
use Rattle.vx_call.specs.declared.reply.Refusal.TheVariants as refusals
use Rattle.vx_call.specs.declared.reply.Reply.TheVariants as replies
use Rattle.vx_call.specs.declared.reply.Task.{Task}
use Rattle.vx_call.specs.declared.reply.Task.TheVariants as tasks
use Rattle.vx_call.specs.declared.history.Traced.{Traced}
use Rattle.vx_call.specs.History.{is_accepted, ended_by}
use Rattle.vx_call.specs.Time.{now}
use Rattle.vx_call.specs.Timers.{Timer, is_timer_of, timer_set, due_at}
use Rattle.vx_call.specs.Kinds.{same_task}
use Rattle.vx_call.specs.Fires.{timer_ended, timer_kind, timers, timer_at, tick_made, tick_ended, tick_kind}
use Rattle.vx_call.specs.Items.{Waiting, is_fire_of, waiting}
use Rattle.vx_call.specs.Refusals.{refused_if, spent, shut, no_timer}
use Rattle.vx_call.specs.Rows.{cancel_timer_row}
use Rattle.vx_call.specs.Machine.{IsLegal, answer}
use Rattle.vx_call.proofs.Each.{Each, Each-find, weaken}
use Rattle.vx_call.proofs.Apart.{Apart, lasting_earlier}
use Rattle.vx_call.proofs.Below.{not_refused, under}
use Rattle.vx_call.proofs.Found.{find_passes}
use Rattle.vx_call.proofs.Items.{each_among}
use Rattle.vx_call.proofs.Known.{IsKnownItem, IsTicking}
use Rattle.vx_call.proofs.Owners.{timers_found}
use Rattle.vx_call.proofs.Waiting.{same_waiting, waiting_known, waiting_apart}
use Rattle.vx_laws.specs.Entries.{TakesAt}
use Rattle.vx_laws.specs.Timers.{FiresOnce, FiresWhenDue, FiresAgainWhenDue, TakesNoneCancelled, OneFireWaits, FiresInTime}
use Rattle.vx_laws.proofs.Splits.{Split, split_at, later_cut}
use Rattle.vx_laws.proofs.Handed.{Handed, handed}
use Rattle.vx_laws.proofs.Ticks.{timer_key, timers_keyed, IsSet, set_on, now_rises, ticks, ticks_set, ticks_earlier, ticks_due, IsDueSince, AreDueSince, due_since_behind, IsSpent, spent_behind, no_ticks_now, spent_now}

-- ## What a Take hands out had come due

-- the timer that is found at a front of the history is found at its end
one_timer : (history before after : List Traced) (id : TimerId) (timer other : Timer) → history ≡ before ++ after → timer_set before id ≡ Some timer → timer_set history id ≡ Some other → timer ≡ other
one_timer history before after id timer other parts found set =
    let later : timer_set history id ≡ Some timer = ap (λ h. timer_set h id) parts ∙ set_on before after id timer found in
    cc

-- a fire that is handed out is of a timer whose time came
ticking : (history : List Traced) (i : ℕ) (lane : Lane) (id : TimerId) (fire : Handed history i lane (tasks.Fire id)) → IsTicking fire.before id
ticking history i lane id fire =
    let before : List Traced = fire.before in
    let Known : Task → Type 0 = IsKnownItem before in
    subst Known fire.is_task (Each-find (λ (item : Waiting). Known item.task) _ (waiting before) fire.item (waiting_known before) fire.found)

-- it is the one that was set
is_timer : (history : List Traced) (i : ℕ) (lane : Lane) (id : TimerId) (timer : Timer) (fire : Handed history i lane (tasks.Fire id)) → timer_set history id ≡ Some timer → (ticking history i lane id fire).timer ≡ timer
is_timer history i lane id timer fire set =
    let before : List Traced = fire.before in
    let known = ticking history i lane id fire in
    let found : timer_set before known.timer.id ≡ Some known.timer = each_among (IsSet before) known.timer (ticks before) known.ticks (ticks_set before) in
    one_timer history before (fire.new ∷ fire.after) id known.timer timer fire.parts (ap (timer_set before) known.named ∙ found) set

its_name : (history : List Traced) (id : TimerId) (known : IsTicking history id) → is_timer_of id known.timer ≡ true
its_name history id known = eq-eqb id.0.0 known.timer.id.0.0 (ap (λ (t : TimerId). t.0.0) known.named)

-- where none of the name is left, no fire is handed out
not_spent : (history : List Traced) (i : ℕ) (lane : Lane) (id : TimerId) (fire : Handed history i lane (tasks.Fire id)) → IsSpent id fire.before → ⊥
not_spent history i lane id fire spent =
    let known = ticking history i lane id fire in
    let no : is_timer_of id known.timer ≡ false = each_among (λ t. is_timer_of id t ≡ false) known.timer (ticks fire.before) known.ticks spent.no_ticks in
    let yes = its_name fire.before id known in
    cc

take_front : (xs ys : List Traced) → take (length xs) (xs ++ ys) ≡ xs
take_front [] ys = refl
take_front (x ∷ xs) ys = ap (λ (l : List Traced). x ∷ l) (take_front xs ys)

-- the history before a Take, as seen from the whole
is_front : (history : List Traced) (i : ℕ) (lane : Lane) (task : Task) (take_of : Handed history i lane task) → take i history ≡ take_of.before
is_front history i lane task take_of =
    ap (take i) take_of.parts ∙ ap (λ n. take n (take_of.before ++ take_of.new ∷ take_of.after)) (sym take_of.at) ∙ take_front take_of.before (take_of.new ∷ take_of.after)

fires_when_due : (history : List Traced) → IsLegal history → FiresWhenDue history
fires_when_due history legal = λ i lane id timer set takes.
    (let fire = handed history i lane (tasks.Fire id) legal takes in
    let before : List Traced = fire.before in
    let known = ticking history i lane id fire in
    let Due : Timer → Type 0 = λ t. t.set + t.delay ≤ now before in
    let due : Due known.timer = each_among Due known.timer (ticks before) known.ticks (ticks_due before) in
    let here : Due timer = subst Due (is_timer history i lane id timer fire set) due in
    let At : List Traced → Type 0 = λ h. timer.set + timer.delay ≤ now h in
    subst At (sym (is_front history i lane (tasks.Fire id) fire)) here)

-- ## Once

same_timer-true : (a b : TimerId) → same_timer a b ≡ true → a ≡ b
same_timer-true a b same = let named : ℕ → TimerId = λ n. record { 0 = record { 0 = n } } in ap named (eqb-true a.0.0 b.0.0 same)

-- the Take of a fire ends its ticks
ends_ticks : (history : List Traced) (i : ℕ) (lane : Lane) (id : TimerId) (fire : Handed history i lane (tasks.Fire id)) (t : Timer) → is_timer_of id t ≡ true → ended_by tick_kind fire.before fire.new t ≡ true
ends_ticks history i lane id fire t its =
    let before : List Traced = fire.before in
    let new : Traced = fire.new in
    let pass = new.entry.pass in
    ap (λ reply. is_accepted reply && tick_ended before pass new.entry.call reply t) fire.replied ∙ ap (λ call. tick_ended before pass call (replies.Task (tasks.Fire id)) t) fire.called ∙ its

-- ... and a timer that fires once
spent_by_fire : (history : List Traced) (i : ℕ) (lane : Lane) (id : TimerId) (timer : Timer) (fire : Handed history i lane (tasks.Fire id)) → timer_set history id ≡ Some timer → timer.periodic ≡ false →
    IsSpent id (fire.before ++ fire.new ∷ [])
spent_by_fire history i lane id timer fire set once =
    let before : List Traced = fire.before in
    let new : Traced = fire.new in
    let pass = new.entry.pass in
    let known = ticking history i lane id fire in
    let first : id.0.0 < length before =
    (let e = ap (λ (t : TimerId). t.0.0) known.named in
    let was : timer_key known.timer < length before = each_among (λ t. timer_key t < length before) known.timer (ticks before) known.ticks (ticks_earlier before) in
    omega arith) in
    spent_now id before new first (ap (tick_made before) fire.called)
    (weaken (IsSet before) (λ t. is_timer_of id t ≡ true → ended_by timer_kind before new t ≡ true) (timers before)
    (λ t found its.
    (let same : t ≡ timer = one_timer history before (new ∷ fire.after) id t timer fire.parts (ap (timer_set before) (same_timer-true id t.id its) ∙ found) set in
    ap (λ reply. is_accepted reply && timer_ended before pass new.entry.call reply t) fire.replied ∙ ap (λ call. timer_ended before pass call (replies.Task (tasks.Fire id)) t) fire.called
    ∙ ap (λ b. b && not t.periodic) its ∙ ap (λ (x : Timer). not x.periodic) same ∙ ap not once)) (timers_found before))
    (ends_ticks history i lane id fire)

-- what holds behind one Take, and goes on, holds before a later one
behind : (P : List Traced → Type 0) → ((h after : List Traced) → P h → P (h ++ after)) → (history : List Traced) (i j : ℕ) (lane other_lane : Lane) (task other : Task) (first : Handed history i lane task) (second : Handed history j other_lane other) →
    i < j → P (first.before ++ first.new ∷ []) → P second.before
behind P on history i j lane other_lane task other first second lt holds =
    let lengths : length first.before < length second.before = (let a = first.at in let b = second.at in omega arith) in
    let cut = later_cut first.before first.after first.new second.before second.after second.new (sym first.parts ∙ second.parts) lengths in
    subst P (append_assoc first.before (first.new ∷ []) cut.0 ∙ sym cut.1) (on (first.before ++ first.new ∷ []) cut.0 holds)

no_second : (history : List Traced) (i j : ℕ) (lane other_lane : Lane) (id : TimerId) (timer : Timer) → IsLegal history → timer_set history id ≡ Some timer → timer.periodic ≡ false →
    TakesAt history i lane (tasks.Fire id) → TakesAt history j other_lane (tasks.Fire id) → i < j → ⊥
no_second history i j lane other_lane id timer legal set once one two lt =
    let first = handed history i lane (tasks.Fire id) legal one in
    let second = handed history j other_lane (tasks.Fire id) legal two in
    not_spent history j other_lane id second
    (behind (IsSpent id) (spent_behind id) history i j lane other_lane (tasks.Fire id) (tasks.Fire id) first second lt (spent_by_fire history i lane id timer first set once))

fires_once : (history : List Traced) → IsLegal history → FiresOnce history
fires_once history legal = λ i j lane other_lane id timer set once one two.
    elim (cases_lt i j) as (λ _. i ≡ j) [
      | inl lt ↦ absurd (no_second history i j lane other_lane id timer legal set once one two lt)
      | inr le ↦
          (elim (cases_lt j i) as (λ _. i ≡ j) [ inl lt ↦ absurd (no_second history j i other_lane lane id timer legal set once two one lt) | inr ge ↦ omega arith ])
    ]

-- ## Again

vacuous : (moment : ℕ) (id : TimerId) (history : List Traced) (all : List Timer) → Each (λ t. is_timer_of id t ≡ false) all → Each (IsDueSince moment id history) all
vacuous moment id history all none = weaken (λ t. is_timer_of id t ≡ false) (IsDueSince moment id history) all (λ t no yes. absurd cc) none

fires_again : (history : List Traced) → IsLegal history → FiresAgainWhenDue history
fires_again history legal = λ i j lane other_lane id timer set one two lt.
    (let first = handed history i lane (tasks.Fire id) legal one in
    let second = handed history j other_lane (tasks.Fire id) legal two in
    let before : List Traced = first.before in
    let later : List Traced = second.before in
    let after : List Traced = before ++ first.new ∷ [] in
    let moment = now before in
    let begins : AreDueSince moment id after = record {
      later = now_rises before first.new;
      each = vacuous moment id after (ticks after) (no_ticks_now id before first.new (ap (tick_made before) first.called) (ends_ticks history i lane id first));
    } in
    let since : AreDueSince moment id later = behind (AreDueSince moment id) (due_since_behind moment id) history i j lane other_lane (tasks.Fire id) (tasks.Fire id) first second lt begins in
    let known = ticking history j other_lane id second in
    let due : due_at moment known.timer ≤ now later = each_among (IsDueSince moment id later) known.timer (ticks later) known.ticks since.each (its_name later id known) in
    let Due : Timer → Type 0 = λ t. due_at moment t ≤ now later in
    let At : List Traced → List Traced → Type 0 = λ g h. due_at (now g) timer ≤ now h in
    let here : At before later = subst Due (is_timer history j other_lane id timer second set) due in
    subst (λ g. At g (take j history)) (sym (is_front history i lane (tasks.Fire id) first))
    (subst (At before) (sym (is_front history j other_lane (tasks.Fire id) second)) here))

-- ## Cancelled

first_none : (a b : Option Refusal) → option_or a b ≡ None → a ≡ None
first_none None b none = refl
first_none (Some refusal) b none = absurd cc

is_there : (o : Option Timer) → refused_if (is_none o) refusals.NoTimer ≡ None → (timer : Timer) × (o ≡ Some timer)
is_there None none = absurd cc
is_there (Some timer) none = (timer, refl)

-- a CancelTimer is not refused where the timer is there
cancels : (history : List Traced) (pass : PassNo) (id : TimerId) → is_accepted (answer history pass (calls.CancelTimer id)) ≡ true → (timer : Timer) × (timer_at history id ≡ Some timer)
cancels history pass id ok =
    let above = option_or (spent history) (shut history (calls.CancelTimer id)) in
    let row = cancel_timer_row history pass id in
    let row_ok : is_accepted row ≡ true = under above row (not_refused above row ok) ok in
    is_there (timer_at history id) (first_none (no_timer history id) _ (not_refused (option_or (no_timer history id) _) replies.Done row_ok))

spent_by_cancel : (history : List Traced) (new : Traced) (id : TimerId) → new.entry.reply ≡ answer history new.entry.pass new.entry.call → new.entry.call ≡ calls.CancelTimer id → is_accepted new.entry.reply ≡ true → IsSpent id (history ++ new ∷ [])
spent_by_cancel history new id answered is_call ok =
    let pass = new.entry.pass in
    let reply = new.entry.reply in
    let there = cancels history pass id (ap is_accepted (sym (answered ∙ ap (answer history pass) is_call)) ∙ ok) in
    let timer : Timer = there.0 in
    let first : id.0.0 < length history =
    (let e = eqb-true id.0.0 timer.id.0.0 (find_passes (is_timer_of id) (timers history) timer there.1) in
    let was : timer_key timer < length history = Each-find (λ t. timer_key t < length history) (is_timer_of id) (timers history) timer (lasting_earlier timer_kind timer_key timers_keyed history) there.1 in
    omega arith) in
    spent_now id history new first (ap (tick_made history) is_call)
    (weaken (IsSet history) (λ t. is_timer_of id t ≡ true → ended_by timer_kind history new t ≡ true) (timers history)
    (λ t found its. ap (λ b. b && timer_ended history pass new.entry.call reply t) ok ∙ ap (λ call. timer_ended history pass call reply t) is_call ∙ its) (timers_found history))
    (λ t its. ap (λ b. b && tick_ended history pass new.entry.call reply t) ok ∙ ap (λ call. tick_ended history pass call reply t) is_call ∙ its)

none_behind_cancel : (history : List Traced) (i j : ℕ) (lane : Lane) (id : TimerId) (entry : Traced) → IsLegal history → slice_get history i ≡ Some entry → entry.entry.call ≡ calls.CancelTimer id → is_accepted entry.entry.reply ≡ true →
    TakesAt history j lane (tasks.Fire id) → i < j → ⊥
none_behind_cancel history i j lane id entry legal there is_call ok takes lt =
    let split : Split history i entry = split_at history i entry there in
    let before : List Traced = split.before in
    let fire = handed history j lane (tasks.Fire id) legal takes in
    let lengths : length before < length fire.before = (let a = split.at in let b = fire.at in omega arith) in
    let cut = later_cut before split.after entry fire.before fire.after fire.new (sym split.parts ∙ fire.parts) lengths in
    let P : List Traced → Type 0 = IsSpent id in
    not_spent history j lane id fire
    (subst P (append_assoc before (entry ∷ []) cut.0 ∙ sym cut.1)
    (spent_behind id (before ++ entry ∷ []) cut.0 (spent_by_cancel before entry id (legal before entry split.after split.parts).answered is_call ok)))

not_itself : (history : List Traced) (i j : ℕ) (lane : Lane) (id : TimerId) (entry : Traced) → slice_get history i ≡ Some entry → entry.entry.call ≡ calls.CancelTimer id → TakesAt history j lane (tasks.Fire id) → i ≡ j → ⊥
not_itself history i j lane id entry there is_call takes at =
    let here : slice_get history i ≡ Some takes.entry = ap (slice_get history) at ∙ takes.is_there in
    let e : entry ≡ takes.entry = cc in
    let no : calls.CancelTimer id ≡ calls.Take lane = sym is_call ∙ ap (λ (t : Traced). t.entry.call) e ∙ takes.called in
    cc

none_cancelled : (history : List Traced) → IsLegal history → TakesNoneCancelled history
none_cancelled history legal = λ i j lane id entry there is_call ok takes.
    elim (cases_lt i j) as (λ _. j < i) [
      | inl lt ↦ absurd (none_behind_cancel history i j lane id entry legal there is_call ok takes lt)
      | inr le ↦ (elim (cases_lt j i) as (λ _. j < i) [ inl lt ↦ lt | inr ge ↦ absurd (not_itself history i j lane id entry there is_call takes (omega arith)) ])
    ]

-- ## One that waits

none_pass : {A : Type 0} (p : A → Bool) (xs : List A) → Each (λ x. p x ≡ false) xs → filter p xs ≡ []
none_pass p [] none = refl
none_pass {A} p (x ∷ xs) none = ap (λ b. cond {A = List A} b (x ∷ filter p xs) (filter p xs)) none.0 ∙ none_pass p xs none.1

-- of things that are apart at most one passes a test by which they would not be
one_passes : {A : Type 0} (test : A → A → Bool) (p : A → Bool) → ((x y : A) → p x ≡ true → p y ≡ true → test x y ≡ true) → (xs : List A) → Apart test xs → length (filter p xs) ≤ 1
one_passes test p alike [] apart = omega arith
one_passes {A} test p alike (x ∷ xs) apart =
    elim (p x) as (λ b. p x ≡ b → length (cond {A = List A} b (x ∷ filter p xs) (filter p xs)) ≤ 1) [
      | true ↦ λ passes.
          (let others : Each (λ y. p y ≡ false) xs =
          weaken (λ y. test x y ≡ false) (λ y. p y ≡ false) xs (λ y differs. elim (p y) as (λ b. p y ≡ b → b ≡ false) [ true ↦ λ too. (let e = alike x y passes too in cc) | false ↦ λ no. refl ] refl) apart.0 in
          let e = ap (λ (l : List A). length (x ∷ l)) (none_pass p xs others) in
          omega arith)
      | false ↦ λ fails. one_passes test p alike xs apart.1
    ] refl

same_fires : (id : TimerId) (a b : Task) → is_fire_of id a ≡ true → is_fire_of id b ≡ true → same_task a b ≡ true
same_fires id (tasks.Fire x) (tasks.Fire y) one two = eq-eqb x.0.0 y.0.0 (sym (eqb-true id.0.0 x.0.0 one) ∙ eqb-true id.0.0 y.0.0 two)
same_fires id (tasks.Fire x) _ one two = absurd cc
same_fires id _ b one two = absurd cc

one_fire_waits : (history : List Traced) → OneFireWaits history
one_fire_waits history = λ before after id parts.
    one_passes same_waiting (λ (item : Waiting). is_fire_of id item.task) (λ x y one two. same_fires id x.task y.task one two) (waiting before) (waiting_apart before)

-- ## All

pub fires_in_time : (history : List Traced) → IsLegal history → FiresInTime history
fires_in_time history legal = record {
  once = fires_once history legal;
  when_due = fires_when_due history legal;
  again = fires_again history legal;
  cancelled = none_cancelled history legal;
  one_waits = one_fire_waits history;
}
