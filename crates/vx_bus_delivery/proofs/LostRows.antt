-- What one more lost request adds.
use Rattle.std.proofs.Common.{◌≡◌, ℕ, ◌+◌, ◌<◌, ◌≤◌, List, [], ◌∷◌, ◌++◌, length, take, get_or, refl, ap, sym, ◌∙◌, append-nil, append_assoc, arith}
use Rattle.std.specs.Prelude.{Bool, true, false, not, cond, ◌||◌, filter}
use Rattle.std.proofs.lemmas.List.Elements.{filter_agree, filter_more}
use Rattle.std.proofs.lemmas.List.Folds.{list_any-append}
use Rattle.std.proofs.lemmas.List.Sums.{length-filter, count_by-le-length}
use Rattle.std.proofs.Math.ListN.{length-take}
use Rattle.vx_data.specs.declared.ids.EntryNo.{EntryNo}
use Rattle.vx_message.specs.declared.Context.{Context}
use Rattle.vx_timer.specs.declared.timers.Timer.{Timer}
use Rattle.vx_timer.specs.Order.{is_named}
use Rattle.vx_request.specs.declared.requests.OpenRequest.{OpenRequest}
use Rattle.vx_context.specs.Stores.{ContextStore}
use Rattle.vx_bus_store.specs.Stores.{BusStore}
use Rattle.vx_bus_delivery.specs.Lost.{lost_item, lost_task, lost_items, lost_tasks, is_timer_of}

pub items_push : (made : List Context) (at : EntryNo) (place n : ℕ) (rows : List OpenRequest) (row : OpenRequest) → n ≡ place + length rows →
    lost_items made at place (rows ++ row ∷ []) ≡ lost_items made at place rows ++ lost_item made at n row.id row.asker
items_push made at place n [] row e =
    let here : place ≡ n = omega arith in
    append-nil (lost_item made at place row.id row.asker) ∙ ap (λ m. lost_item made at m row.id row.asker) here
items_push made at place n (first ∷ rows) row e =
    let front = lost_item made at place first.id first.asker in
    ap (λ items. front ++ items) (items_push made at (place + 1) n rows row (omega arith)) ∙ sym (append_assoc front (lost_items made at (place + 1) rows) (lost_item made at n row.id row.asker))

pub tasks_push : (rows : List OpenRequest) (row : OpenRequest) → lost_tasks (rows ++ row ∷ []) ≡ lost_tasks rows ++ lost_task row.id row.asker
tasks_push [] row = append-nil (lost_task row.id row.asker)
tasks_push (first ∷ rows) row =
    let front = lost_task first.id first.asker in
    ap (λ tasks. front ++ tasks) (tasks_push rows row) ∙ sym (append_assoc front (lost_tasks rows) (lost_task row.id row.asker))

-- to leave out what passes one of two tests is to leave out what passes the one and then what passes the other
pub filter_either : {X : Type 0} (p q : X → Bool) (xs : List X) → filter (λ x. not (p x || q x)) xs ≡ filter (λ x. not (q x)) (filter (λ x. not (p x)) xs)
filter_either p q [] = refl
filter_either p q (x ∷ xs) =
    elim (p x) as (λ b. cond (not (b || q x)) (x ∷ filter (λ x. not (p x || q x)) xs) (filter (λ x. not (p x || q x)) xs)
    ≡ filter (λ x. not (q x)) (cond (not b) (x ∷ filter (λ x. not (p x)) xs) (filter (λ x. not (p x)) xs))) [
      | true ↦ filter_either p q xs
      | false ↦ ap (λ ys. cond (not (q x)) (x ∷ ys) ys) (filter_either p q xs)
    ]

either_none : (b : Bool) → (b || false) ≡ b
either_none true = refl
either_none false = refl

pub timers_push : (rows : List OpenRequest) (row : OpenRequest) (timers : List Timer) →
    filter (λ (timer : Timer). not (is_timer_of (rows ++ row ∷ []) timer)) timers ≡ filter (λ (timer : Timer). not (is_named row.id.0 timer)) (filter (λ (timer : Timer). not (is_timer_of rows timer)) timers)
timers_push rows row timers =
    filter_agree _ _ (λ timer. ap not (list_any-append (λ (r : OpenRequest). is_named r.id.0 timer) rows (row ∷ []) ∙ ap (λ b. is_timer_of rows timer || b) (either_none (is_named row.id.0 timer)))) timers
    ∙ filter_either (is_timer_of rows) (λ (timer : Timer). is_named row.id.0 timer) timers

-- the lost ones among the first so many rows, and one row more
module _ (test : OpenRequest → Bool) (rows : List OpenRequest) (i : ℕ) (row : OpenRequest) (within : i < length rows) (read : row ≡ get_or rows i row) where
  more : filter test (take (i + 1) rows) ≡ filter test (take i rows) ++ cond (test row) (row ∷ []) []
  more = filter_more test rows i row within ∙ ap (λ (r : OpenRequest). filter test (take i rows) ++ cond (test r) (r ∷ []) []) (sym read)

  pub one_more : test row ≡ true → filter test (take (i + 1) rows) ≡ filter test (take i rows) ++ row ∷ []
  one_more lost = more ∙ ap (λ b. filter test (take i rows) ++ cond b (row ∷ []) []) lost

  pub none_more : test row ≡ false → filter test (take (i + 1) rows) ≡ filter test (take i rows)
  none_more kept = more ∙ ap (λ b. filter test (take i rows) ++ cond b (row ∷ []) []) kept ∙ append-nil (filter test (take i rows))

-- of the first so many rows no more are lost
pub no_more : (test : OpenRequest → Bool) (rows : List OpenRequest) (i : ℕ) → i ≤ length rows → length (filter test (take i rows)) ≤ i
no_more test rows i within = omega (arith, length-filter test (take i rows), count_by-le-length test (take i rows), length-take i rows)

-- where there is room for all rows, there is room for one more that is lost
pub room_left : (test : OpenRequest → Bool) (rows : List OpenRequest) (i before now : ℕ) → i < length rows → length rows ≤ before → before ≤ now + length (filter test (take i rows)) → 0 < now
room_left test rows i before now within enough few = omega (arith, no_more test rows i (omega arith))

-- ## The stores

pub contexts_more : (first old new : ContextStore) (at : EntryNo) (place : ℕ) (row : OpenRequest) (lost all : List OpenRequest) → old ≡ record first { waiting = first.waiting ++ lost_items first.made at 0 lost; room = old.room } →
    new ≡ record old { waiting = old.waiting ++ lost_item old.made at place row.id row.asker; room = new.room } → place ≡ length lost → all ≡ lost ++ row ∷ [] →
    new ≡ record first { waiting = first.waiting ++ lost_items first.made at 0 all; room = new.room }
contexts_more first old new at place row lost all is_old is_new is_place is_all =
    let made = first.made in
    is_new
    ∙ ap (λ (s : ContextStore). record s { waiting = s.waiting ++ lost_item s.made at place row.id row.asker; room = new.room }) is_old
    ∙ ap (λ items. record first { waiting = items; room = new.room })
    (append_assoc first.waiting (lost_items made at 0 lost) (lost_item made at place row.id row.asker)
    ∙ ap (λ items. first.waiting ++ items) (sym (ap (lost_items made at 0) is_all ∙ items_push made at 0 place lost row (omega arith))))

pub bus_more : (first old new : BusStore) (row : OpenRequest) (lost all : List OpenRequest) → old ≡ record first { tasks = first.tasks ++ lost_tasks lost; room = old.room } →
    new ≡ record old { tasks = old.tasks ++ lost_task row.id row.asker; room = new.room } → all ≡ lost ++ row ∷ [] →
    new ≡ record first { tasks = first.tasks ++ lost_tasks all; room = new.room }
bus_more first old new row lost all is_old is_new is_all =
    is_new
    ∙ ap (λ (s : BusStore). record s { tasks = s.tasks ++ lost_task row.id row.asker; room = new.room }) is_old
    ∙ ap (λ tasks. record first { tasks = tasks; room = new.room })
    (append_assoc first.tasks (lost_tasks lost) (lost_task row.id row.asker)
    ∙ ap (λ tasks. first.tasks ++ tasks) (sym (ap lost_tasks is_all ∙ tasks_push lost row)))

pub timers_more : (first old new : List Timer) (row : OpenRequest) (lost all : List OpenRequest) → old ≡ filter (λ (timer : Timer). not (is_timer_of lost timer)) first →
    new ≡ filter (λ (timer : Timer). not (is_named row.id.0 timer)) old → all ≡ lost ++ row ∷ [] → new ≡ filter (λ (timer : Timer). not (is_timer_of all timer)) first
timers_more first old new row lost all is_old is_new is_all =
    is_new
    ∙ ap (filter (λ (timer : Timer). not (is_named row.id.0 timer))) is_old
    ∙ sym (ap (λ rows. filter (λ (timer : Timer). not (is_timer_of rows timer)) first) is_all ∙ timers_push lost row first)
