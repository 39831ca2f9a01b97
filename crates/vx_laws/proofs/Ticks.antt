-- Timers that were set, moments, and ticks: what is known of a timer whose fire waits.
use Rattle.std.proofs.Common.{◌≡◌, ℕ, zero, suc, ◌+◌, ◌*◌, ◌-◌, ◌/◌, ◌<◌, ◌≤◌, List, [], ◌∷◌, ◌++◌, length, refl, ap, sym, ◌∙◌, subst, append_assoc, arith}
use Rattle.std.specs.Prelude.{Bool, true, false, nat_le, nat_lt, max, fold, not, cond, find, Some}
use Rattle.std.specs.List.{list_any}
use Rattle.std.proofs.lemmas.Bool.{and_parts, eqb-true}
use Rattle.std.proofs.lemmas.Bool.Decides.{nat_tests}
use Rattle.std.proofs.lemmas.List.{append-nil, length_push}
use Rattle.std.proofs.lemmas.List.Sums.{fold-append}
use Rattle.std.proofs.lemmas.Nat.{mul-le, le-div, div-add-mod'}
use Rattle.vx_data.specs.declared.ids.TimerId.{TimerId}
use Rattle.vx_call.specs.declared.call.Call.{Call}
use Rattle.vx_call.specs.declared.call.Call.TheVariants as calls
use Rattle.vx_call.specs.declared.history.Traced.{Traced}
use Rattle.vx_call.specs.History.{is_accepted, made_by, ended_by, lasting}
use Rattle.vx_call.specs.Time.{moment_made, moment_kind, now}
use Rattle.vx_call.specs.Timers.{Timer, timer_made, set_kind, timers_set, is_timer_of, timer_set, rounds, due_at}
use Rattle.vx_call.specs.Fires.{timer_kind, timers, comes_due, due_timers, tick_made, tick_kind}
use Rattle.vx_call.proofs.Lasting.{lasting-append, lasting_more, and_false}
use Rattle.vx_call.proofs.Each.{Each, Each-append, Each-filter, Each-find, weaken, accepted, by_entries, lasting_each}
use Rattle.vx_call.proofs.Apart.{lasting_earlier}
use Rattle.vx_call.proofs.Found.{find_front}
use Rattle.vx_call.proofs.Once.{any_each, stays_away, goes_away_each}
use Rattle.vx_call.proofs.Owners.{timers_found}

-- ## Timers that were set

abbrev pub timer_key : Timer → ℕ
timer_key timer = timer.id.0.0

set_keyed : (history : List Traced) (call : Call) → Each (λ t. timer_key t ≡ length history) (timer_made history call)
set_keyed history (calls.SetTimer context delay periodic) = (refl, tt)
set_keyed history _ = tt

pub timers_keyed : (history : List Traced) (new : Traced) → Each (λ t. timer_key t ≡ length history) (made_by timer_kind history new)
timers_keyed history new = accepted (λ t. timer_key t ≡ length history) (is_accepted new.entry.reply) _ (λ ok. set_keyed history new.entry.call)

abbrev pub IsSet : List Traced → Timer → Type 0
IsSet history timer = timer_set history timer.id ≡ Some timer

pub keeps_set : (history : List Traced) (new : Traced) (id : TimerId) (timer : Timer) → timer_set history id ≡ Some timer → timer_set (history ++ new ∷ []) id ≡ Some timer
keeps_set history new id timer found =
    ap (find (is_timer_of id)) (lasting_more set_kind history new (λ t. and_false (is_accepted new.entry.reply))) ∙ find_front (is_timer_of id) (timers_set history) (made_by set_kind history new) timer found

pub set_on : (history after : List Traced) (id : TimerId) (timer : Timer) → timer_set history id ≡ Some timer → timer_set (history ++ after) id ≡ Some timer
set_on history after id timer found =
    let P : List Traced → Type 0 = λ h. timer_set h id ≡ Some timer in
    by_entries (λ later. timer_set (history ++ later) id ≡ Some timer) (subst P (sym (append-nil history)) found)
    (λ later new before. subst P (append_assoc history later (new ∷ [])) (keeps_set (history ++ later) new id timer before)) after

-- ## Moments

pub now-append : (history : List Traced) (new : Traced) → now (history ++ new ∷ []) ≡ fold max (now history) (made_by moment_kind history new)
now-append history new =
    ap (fold max 0) (lasting_more moment_kind history new (λ m. and_false (is_accepted new.entry.reply))) ∙ fold-append max 0 (lasting moment_kind history) (made_by moment_kind history new)

max_rises : (n : ℕ) (xs : List ℕ) → n ≤ fold max n xs
max_rises n [] = omega arith
max_rises n (x ∷ xs) = let rest = max_rises (max n x) xs in omega arith

pub now_rises : (history : List Traced) (new : Traced) → now history ≤ now (history ++ new ∷ [])
now_rises history new =
    let rises = max_rises (now history) (made_by moment_kind history new) in
    let later = now-append history new in
    omega arith

pub now_on : (history after : List Traced) → now history ≤ now (history ++ after)
now_on history after =
    let P : List Traced → Type 0 = λ h. now history ≤ now h in
    by_entries (λ later. now history ≤ now (history ++ later)) (subst P (sym (append-nil history)) (omega arith))
    (λ later new before. subst P (append_assoc history later (new ∷ []))
    (let next = now_rises (history ++ later) new in omega arith)) after

-- the moment of an Advance
pub now_told : (history : List Traced) (new : Traced) (moment : ℕ) → is_accepted new.entry.reply ≡ true → new.entry.call ≡ calls.Advance moment → now (history ++ new ∷ []) ≡ max (now history) moment
now_told history new moment ok is_call =
    now-append history new ∙ ap (λ b. fold max (now history) (cond b (moment_made new.entry.call) [])) ok ∙ ap (λ c. fold max (now history) (moment_made c)) is_call

-- ## Due moments

one_round : (moment : ℕ) (timer : Timer) → 1 ≤ rounds moment timer
one_round moment timer = elim (timer.periodic) as (λ b. 1 ≤ cond b ((moment - timer.set) / timer.delay + 1) 1) [ true ↦ omega arith | false ↦ omega arith ]

one-times : (n : ℕ) → 1 * n ≡ n
one-times n = omega arith

-- a timer is due no earlier than its delay after it was set
pub due_after : (moment : ℕ) (timer : Timer) → timer.set + timer.delay ≤ due_at moment timer
due_after moment timer =
    let most : 1 * timer.delay ≤ rounds moment timer * timer.delay = mul-le 1 timer.delay (rounds moment timer) timer.delay (one_round moment timer) (omega arith) in
    let one = one-times timer.delay in
    omega arith

div-mono : (m n k : ℕ) → 0 < k → m ≤ n → m / k ≤ n / k
div-mono m n k some le =
    let parts = div-add-mod' m k in
    le-div (m / k) n k some (omega arith)

times-mono : (a b d : ℕ) → (0 < d → a ≤ b) → a * d ≤ b * d
times-mono a b zero le = omega arith
times-mono a b (suc d) le = mul-le a (suc d) b (suc d) (le (omega arith)) (omega arith)

more_rounds : (m n : ℕ) (timer : Timer) → m ≤ n → 0 < timer.delay → rounds m timer ≤ rounds n timer
more_rounds m n timer le some =
    elim (timer.periodic) as (λ b. cond b ((m - timer.set) / timer.delay + 1) 1 ≤ cond b ((n - timer.set) / timer.delay + 1) 1) [
      | true ↦ (let rest = div-mono (m - timer.set) (n - timer.set) timer.delay some (omega arith) in omega arith)
      | false ↦ omega arith
    ]

-- the later the moment, the later a timer is due next, as seen from there
pub due_rises : (m n : ℕ) (timer : Timer) → m ≤ n → due_at m timer ≤ due_at n timer
due_rises m n timer le =
    let most = times-mono (rounds m timer) (rounds n timer) timer.delay (more_rounds m n timer le) in
    omega arith

-- ## Ticks

abbrev pub ticks : List Traced → List Timer
ticks history = lasting tick_kind history

ticks_by : (P : Timer → Type 0) (history : List Traced) (call : Call) → ((moment : ℕ) → call ≡ calls.Advance moment → Each P (due_timers history moment)) → Each P (tick_made history call)
ticks_by P history (calls.Advance moment) each = each moment refl
ticks_by P history _ each = tt

-- what holds of each timer that comes due with an Advance holds of each tick that an entry makes
pub each_tick : (P : Timer → Type 0) (history : List Traced) (new : Traced) → ((moment : ℕ) → is_accepted new.entry.reply ≡ true → new.entry.call ≡ calls.Advance moment → Each P (due_timers history moment)) →
    Each P (made_by tick_kind history new)
each_tick P history new each = accepted P (is_accepted new.entry.reply) (tick_made history new.entry.call) (λ ok. ticks_by P history new.entry.call (λ moment is_call. each moment ok is_call))

-- each is of a timer that was set
pub ticks_set : (history : List Traced) → Each (IsSet history) (ticks history)
ticks_set =
    lasting_each tick_kind IsSet (λ history new timer stays found. keeps_set history new timer.id timer found)
    (λ history new. each_tick (IsSet (history ++ new ∷ [])) history new
    (λ moment ok is_call.
    Each-filter (IsSet history) (IsSet (history ++ new ∷ [])) _ (timers history) (λ timer passes found. keeps_set history new timer.id timer found) (timers_found history)))

set_earlier : (history : List Traced) → Each (λ t. timer_key t < length history) (timers_set history)
set_earlier = lasting_earlier set_kind timer_key (λ history new. accepted (λ t. timer_key t ≡ length history) (is_accepted new.entry.reply) _ (λ ok. set_keyed history new.entry.call))

pub ticks_earlier : (history : List Traced) → Each (λ t. timer_key t < length history) (ticks history)
ticks_earlier history =
    weaken (IsSet history) (λ t. timer_key t < length history) (ticks history)
    (λ t found. Each-find (λ x. timer_key x < length history) (is_timer_of t.id) (timers_set history) t (set_earlier history) found) (ticks_set history)

le_from : (m n : ℕ) → nat_le m n ≡ true → m ≤ n
le_from m n h = grind (arith, nat_tests)

-- the timers that come due with an Advance are due by then
come_due : (history : List Traced) (new : Traced) (moment : ℕ) → is_accepted new.entry.reply ≡ true → new.entry.call ≡ calls.Advance moment → Each (λ t. due_at (now history) t ≤ now (history ++ new ∷ [])) (due_timers history moment)
come_due history new moment ok is_call =
    let is = max (now history) moment in
    let told : now (history ++ new ∷ []) ≡ is = now_told history new moment ok is_call in
    Each-filter (IsSet history) (λ t. due_at (now history) t ≤ now (history ++ new ∷ [])) (comes_due (now history) is) (timers history)
    (λ timer passes found.
    (let due = due_at (now history) timer in
    let by_then : due ≤ is = le_from due is (and_parts (nat_lt (now history) due) (nat_le due is) passes).1 in
    omega arith)) (timers_found history)

-- its delay has passed since the timer was set
pub ticks_due : (history : List Traced) → Each (λ t. t.set + t.delay ≤ now history) (ticks history)
ticks_due =
    lasting_each tick_kind (λ history t. t.set + t.delay ≤ now history) (λ history new t stays due. (let later = now_rises history new in omega arith))
    (λ history new. each_tick (λ t. t.set + t.delay ≤ now (history ++ new ∷ [])) history new
    (λ moment ok is_call.
    weaken (λ t. due_at (now history) t ≤ now (history ++ new ∷ [])) (λ t. t.set + t.delay ≤ now (history ++ new ∷ [])) (due_timers history moment)
    (λ t due. (let first = due_after (now history) t in omega arith)) (come_due history new moment ok is_call)))

-- ## Behind a moment

-- the ticks of this name are of timers that were due again since a moment
abbrev pub IsDueSince : ℕ → TimerId → List Traced → Timer → Type 0
IsDueSince moment id history t = is_timer_of id t ≡ true → due_at moment t ≤ now history

pub record AreDueSince (moment : ℕ) (id : TimerId) (history : List Traced) : Type 0 where
  pub later : moment ≤ now history
  pub each : Each (IsDueSince moment id history) (ticks history)

due_since_on : (moment : ℕ) (id : TimerId) (history : List Traced) (new : Traced) → AreDueSince moment id history → AreDueSince moment id (history ++ new ∷ [])
due_since_on moment id history new before =
    let after = history ++ new ∷ [] in
    let rises = now_rises history new in
    let was : moment ≤ now history = before.later in
    let Later : Timer → Type 0 = IsDueSince moment id after in
    let P : List Timer → Type 0 = Each Later in
    record {
      later = omega arith;
      each = subst P (sym (lasting-append tick_kind history new))
          (Each-append Later _ _
          (Each-filter (IsDueSince moment id history) Later (λ t. not (ended_by tick_kind history new t)) (ticks history)
          (λ t stays due named. (let old = due named in omega arith)) before.each)
          (each_tick Later history new (λ told ok is_call.
          weaken (λ t. due_at (now history) t ≤ now after) Later (due_timers history told)
          (λ t due named. (let sooner = due_rises moment (now history) t was in omega arith)) (come_due history new told ok is_call))));
    }

pub due_since_behind : (moment : ℕ) (id : TimerId) (history after : List Traced) → AreDueSince moment id history → AreDueSince moment id (history ++ after)
due_since_behind moment id history after since =
    let P : List Traced → Type 0 = AreDueSince moment id in
    by_entries (λ later. AreDueSince moment id (history ++ later)) (subst P (sym (append-nil history)) since)
    (λ later new before. subst P (append_assoc history later (new ∷ [])) (due_since_on moment id (history ++ later) new before)) after

-- ## A timer that will fire no more

-- nothing of this name is there, nor comes
pub record IsSpent (id : TimerId) (history : List Traced) : Type 0 where
  pub earlier : id.0.0 < length history
  pub none : list_any (is_timer_of id) (timers history) ≡ false
  pub no_ticks : Each (λ t. is_timer_of id t ≡ false) (ticks history)

named_key : (id : TimerId) (t : Timer) → is_timer_of id t ≡ true → timer_key t ≡ id.0.0
named_key id t named = sym (eqb-true id.0.0 t.id.0.0 named)

no_new_ticks : (id : TimerId) (history : List Traced) (new : Traced) → list_any (is_timer_of id) (timers history) ≡ false → Each (λ t. is_timer_of id t ≡ false) (made_by tick_kind history new)
no_new_ticks id history new none =
    let Other : Timer → Type 0 = λ t. is_timer_of id t ≡ false in
    each_tick Other history new (λ moment ok is_call. Each-filter Other Other _ (timers history) (λ t passes other. other) (any_each (is_timer_of id) (timers history) none))

spent_on : (id : TimerId) (history : List Traced) (new : Traced) → IsSpent id history → IsSpent id (history ++ new ∷ [])
spent_on id history new spent =
    let Other : Timer → Type 0 = λ t. is_timer_of id t ≡ false in
    let P : List Timer → Type 0 = Each Other in
    let longer = length_push history new in
    let before : id.0.0 < length history = spent.earlier in
    record {
      earlier = omega arith;
      none = stays_away timer_kind (is_timer_of id) timer_key id.0.0 (named_key id) timers_keyed history new before spent.none;
      no_ticks = subst P (sym (lasting-append tick_kind history new))
          (Each-append Other _ _ (Each-filter Other Other (λ t. not (ended_by tick_kind history new t)) (ticks history) (λ t stays other. other) spent.no_ticks) (no_new_ticks id history new spent.none));
    }

pub spent_behind : (id : TimerId) (history after : List Traced) → IsSpent id history → IsSpent id (history ++ after)
spent_behind id history after spent =
    let P : List Traced → Type 0 = IsSpent id in
    by_entries (λ later. IsSpent id (history ++ later)) (subst P (sym (append-nil history)) spent)
    (λ later new before. subst P (append_assoc history later (new ∷ [])) (spent_on id (history ++ later) new before)) after

ends_all : (b c : Bool) → (b ≡ true → c ≡ true) → not c ≡ true → b ≡ false
ends_all true c ends stays = absurd (let e = ends refl in cc)
ends_all false c ends stays = refl

-- an entry that makes no tick, and ends all ticks of the name
pub no_ticks_now : (id : TimerId) (history : List Traced) (new : Traced) → tick_made history new.entry.call ≡ [] → ((t : Timer) → is_timer_of id t ≡ true → ended_by tick_kind history new t ≡ true) →
    Each (λ t. is_timer_of id t ≡ false) (ticks (history ++ new ∷ []))
no_ticks_now id history new makes_none ends =
    let Other : Timer → Type 0 = λ t. is_timer_of id t ≡ false in
    let P : List Timer → Type 0 = Each Other in
    subst P (sym (lasting-append tick_kind history new))
    (Each-append Other _ _
    (Each-filter (IsSet history) Other (λ t. not (ended_by tick_kind history new t)) (ticks history)
    (λ t stays set. ends_all (is_timer_of id t) (ended_by tick_kind history new t) (ends t) stays) (ticks_set history))
    (accepted Other (is_accepted new.entry.reply) (tick_made history new.entry.call) (λ ok. subst P (sym makes_none) tt)))

-- ... and all timers of the name
pub spent_now : (id : TimerId) (history : List Traced) (new : Traced) → id.0.0 < length history → tick_made history new.entry.call ≡ [] →
    Each (λ t. is_timer_of id t ≡ true → ended_by timer_kind history new t ≡ true) (timers history) → ((t : Timer) → is_timer_of id t ≡ true → ended_by tick_kind history new t ≡ true) → IsSpent id (history ++ new ∷ [])
spent_now id history new earlier makes_none ends ends_ticks =
    let longer = length_push history new in
    record {
      earlier = omega arith;
      none = goes_away_each timer_kind (is_timer_of id) timer_key id.0.0 (named_key id) timers_keyed history new earlier ends;
      no_ticks = no_ticks_now id history new makes_none ends_ticks;
    }
