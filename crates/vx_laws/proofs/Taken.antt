-- Takes by one more entry, and that what they hand out is given.
use Rattle.std.proofs.Common.{◌≡◌, ℕ, zero, suc, List, [], ◌∷◌, ◌++◌, refl, ap, ◌∙◌, inl, inr}
use Rattle.std.specs.Prelude.{◌⊎◌, Bool, true, false, cond, find, slice_get, None, Some}
use Rattle.std.proofs.lemmas.Bool.{eq-eqb, eqb-true}
use Rattle.vx_data.specs.declared.ids.ConsumerId.{ConsumerId}
use Rattle.vx_data.specs.declared.ids.MessageId.{MessageId}
use Rattle.vx_message.specs.declared.Given.{Given}
use Rattle.vx_message.specs.declared.Lane.{Lane}
use Rattle.vx_message.specs.declared.Message.{Message}
use Rattle.vx_call.specs.declared.call.Call.TheVariants as calls
use Rattle.vx_call.specs.declared.reply.Reply.TheVariants as replies
use Rattle.vx_call.specs.declared.reply.Task.{Task}
use Rattle.vx_call.specs.declared.reply.Task.TheVariants as tasks
use Rattle.vx_call.specs.declared.history.Traced.{Traced}
use Rattle.vx_call.specs.History.{is_accepted, made_by, lasting}
use Rattle.vx_data.specs.Ids.{same_message}
use Rattle.vx_call.specs.Given.{given_made, given_kind, given, context_of}
use Rattle.vx_call.proofs.Lasting.{lasting_more, and_false}
use Rattle.vx_call.proofs.Each.{by_entries}
use Rattle.vx_call.proofs.Found.{find_front}
use Rattle.vx_laws.specs.Entries.{TakesAt}

-- ## Takes of one more entry

-- a Take that hands out the task
abbrev pub IsTake : Traced → Lane → Task → Type 0
IsTake new lane task = (new.entry.call ≡ calls.Take lane) × (new.entry.reply ≡ replies.Task task)

at_push : (history : List Traced) (new entry : Traced) (i : ℕ) → slice_get (history ++ new ∷ []) i ≡ Some entry → (slice_get history i ≡ Some entry) ⊎ (new ≡ entry)
at_push [] new entry zero h = inr cc
at_push [] new entry (suc i) h = cc
at_push (first ∷ history) new entry zero h = inl h
at_push (first ∷ history) new entry (suc i) h = at_push history new entry i h

pub takes_push : (history : List Traced) (new : Traced) (i : ℕ) (lane : Lane) (task : Task) → TakesAt (history ++ new ∷ []) i lane task → TakesAt history i lane task ⊎ IsTake new lane task
takes_push history new i lane task takes =
    elim (at_push history new takes.entry i takes.is_there) as (λ _. TakesAt history i lane task ⊎ IsTake new lane task) [
      | inl there ↦ inl (record { entry = takes.entry; is_there = there; called = takes.called; replied = takes.replied })
      | inr e ↦ inr (ap (λ (t : Traced). t.entry.call) e ∙ takes.called, ap (λ (t : Traced). t.entry.reply) e ∙ takes.replied)
    ]

-- ## What is handed out is given

pub same_message-true : (a b : MessageId) → same_message a b ≡ true → a ≡ b
same_message-true a b same =
    let by_number : ℕ → MessageId = λ n. record { 0 = record { 0 = n } } in
    ap by_number (eqb-true a.0.0 b.0.0 same)

found_last : {X : Type 0} (p : X → Bool) (xs : List X) (y : X) → p y ≡ true → (x : X) × (find p (xs ++ y ∷ []) ≡ Some x)
found_last p [] y passes = (y, ap (λ b. cond b (Some y) None) passes)
found_last {X} p (x ∷ xs) y passes =
    let rest = found_last p xs y passes in
    elim (p x) as (λ b. (z : X) × (cond b (Some x) (find p (xs ++ y ∷ [])) ≡ Some z)) [ true ↦ (x, refl) | false ↦ rest ]

abbrev pub is_given_as : MessageId → Given → Bool
is_given_as id g = same_message id g.id

pub given-append : (history : List Traced) (new : Traced) → lasting given_kind (history ++ new ∷ []) ≡ lasting given_kind history ++ made_by given_kind history new
given-append history new = lasting_more given_kind history new (λ g. and_false (is_accepted new.entry.reply))

abbrev pub IsGiven : List Traced → MessageId → Type 0
IsGiven history id = (g : Given) × (given history id ≡ Some g)

given_by_take : (history : List Traced) (new : Traced) (lane : Lane) (consumer : ConsumerId) (message : Message) → IsTake new lane (tasks.Deliver consumer message) → IsGiven (history ++ new ∷ []) message.id
given_by_take history new lane consumer message take =
    let task = tasks.Deliver consumer message in
    let g : Given = record { id = message.id; receiver = context_of history task; request = message.request } in
    let made : made_by given_kind history new ≡ g ∷ [] =
    ap (λ reply. cond (is_accepted reply) (given_made history new.entry.call reply) []) take.1 ∙ ap (λ call. given_made history call (replies.Task task)) take.0 in
    let whole : lasting given_kind (history ++ new ∷ []) ≡ lasting given_kind history ++ g ∷ [] = given-append history new ∙ ap (λ xs. lasting given_kind history ++ xs) made in
    let last = found_last (is_given_as message.id) (lasting given_kind history) g (eq-eqb message.id.0.0 message.id.0.0 refl) in
    (last.0, ap (find (is_given_as message.id)) whole ∙ last.1)

pub taken_given : (history : List Traced) (i : ℕ) (lane : Lane) (consumer : ConsumerId) (message : Message) → TakesAt history i lane (tasks.Deliver consumer message) → IsGiven history message.id
taken_given =
    by_entries (λ history. (i : ℕ) (lane : Lane) (consumer : ConsumerId) (message : Message) → TakesAt history i lane (tasks.Deliver consumer message) → IsGiven history message.id)
    (λ i lane consumer message takes. (let none : None ≡ Some takes.entry = takes.is_there in absurd cc))
    (λ history new before i lane consumer message takes.
    elim (takes_push history new i lane (tasks.Deliver consumer message) takes) as (λ _. IsGiven (history ++ new ∷ []) message.id) [
      | inl old ↦
          (let g = before i lane consumer message old in
          (g.0, ap (find (is_given_as message.id)) (given-append history new) ∙ find_front (is_given_as message.id) (lasting given_kind history) (made_by given_kind history new) g.0 g.1))
      | inr take ↦ given_by_take history new lane consumer message take
    ])
