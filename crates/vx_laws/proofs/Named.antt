-- The consumer that the reply to a Send or a Request names is the one that was chosen.
use Rattle.std.proofs.Common.{◌≡◌, ℕ, ◌%◌, List, [], ◌∷◌, length, refl, ap, sym, ◌∙◌, subst}
use Rattle.std.specs.Prelude.{true, false, not, cond, ◌&&◌, ◌||◌, is_some, slice_get, Option, None, Some}
use Rattle.std.specs.List.{list_any}
use Rattle.std.specs.Option.{option_or, option_to_list}
use Rattle.std.specs.Str.{bytes_eq}
use Rattle.vx_data.specs.declared.ids.ConsumerId.{ConsumerId}
use Rattle.vx_data.specs.declared.ids.PassNo.{PassNo}
use Rattle.vx_message.specs.declared.Message.{Message}
use Rattle.vx_consumer.specs.declared.flow.Arrive.{Arrive}
use Rattle.vx_consumer.specs.declared.flow.Arrive.TheVariants as arrives
use Rattle.vx_call.specs.declared.call.Call.{Call}
use Rattle.vx_call.specs.declared.call.Call.TheVariants as calls
use Rattle.vx_call.specs.declared.reply.Refusal.{Refusal}
use Rattle.vx_call.specs.declared.reply.Reply.{Reply}
use Rattle.vx_call.specs.declared.reply.Reply.TheVariants as replies
use Rattle.vx_call.specs.declared.reply.To.{To}
use Rattle.vx_call.specs.declared.reply.To.TheVariants as to
use Rattle.vx_call.specs.declared.history.Consumer.{Consumer}
use Rattle.vx_call.specs.declared.history.Deed.{Deed}
use Rattle.vx_call.specs.declared.history.Deed.TheVariants as deeds
use Rattle.vx_call.specs.declared.history.Traced.{Traced}
use Rattle.vx_call.specs.History.{is_accepted}
use Rattle.vx_call.specs.Consumers.{handlers}
use Rattle.vx_call.specs.Messages.{sent, received}
use Rattle.vx_call.specs.Choices.{is_empty, chosen_at, choice_made, choices, choice}
use Rattle.vx_call.specs.Mailboxes.{arrival_at}
use Rattle.vx_call.specs.Refusals.{unless_refused, spent, shut}
use Rattle.vx_call.specs.Rows.{arrived_at, reached_by, destination, send_refusal, request_refusal, ids_of}
use Rattle.vx_call.specs.Machine.{IsLegal, answer}
use Rattle.vx_laws.specs.Turns.{named_by, address_of, NamesChosen}
use Rattle.vx_laws.proofs.Chosen.{itself}

-- a consumer that the reply names is the one that was chosen
abbrev Names : List Traced → List (List ℕ) → List ℕ → Reply → Type 0
Names before made address reply =
    (id : ConsumerId) → named_by reply ≡ id ∷ [] → cond (is_accepted reply && list_any (bytes_eq address) made) (ids_of (option_to_list (choice before address))) [] ≡ id ∷ []

unless : (before : List Traced) (made : List (List ℕ)) (address : List ℕ) (o : Option Refusal) (reply : Reply) → Names before made address reply → Names before made address (unless_refused o reply)
unless before made address None reply names = names
unless before made address (Some refusal) reply names = λ id named. cc

-- an entry chooses at its address where a handler's turn is there
chosen_here : (before : List Traced) (address : List ℕ) (consumer : Consumer) → choice before address ≡ Some consumer → list_any (bytes_eq address) (chosen_at before true address) ≡ true
chosen_here before address consumer is_choice =
    elim (handlers before address) as (λ live. slice_get live (choices before address % length live) ≡ Some consumer → list_any (bytes_eq address) (cond (true && not (is_empty live)) (address ∷ []) []) ≡ true) [
      | [] ↦ λ none. cc
      | first ∷ others ↦ λ some. ap (λ b. b || false) (itself address)
    ] is_choice

one_named : (reply : To → Reply) → ((t : To) → named_by (reply t) ≡ named_by (replies.Sent t)) → (a : Arrive) (consumer : Consumer) → named_by (reply (arrived_at consumer a)) ≡ consumer.id ∷ []
one_named reply alike arrives.Ready consumer = alike (to.Consumer consumer.id)
one_named reply alike arrives.Held consumer = alike (to.Consumer consumer.id)
one_named reply alike arrives.Lost consumer = alike (to.Lost consumer.id)

nobody_named : (reply : To → Reply) → ((t : To) → named_by (reply t) ≡ named_by (replies.Sent t)) → (t : To) → named_by (replies.Sent t) ≡ [] → (id : ConsumerId) → named_by (reply t) ≡ id ∷ [] → ⊥
nobody_named reply alike t none id named = let e : [] ≡ id ∷ [] = sym none ∙ sym (alike t) ∙ named in cc

-- what the message reached, behind the rules as it was sent
reached_named : (before : List Traced) (address : List ℕ) (reply : To → Reply) → ((t : To) → named_by (reply t) ≡ named_by (replies.Sent t)) → ((t : To) → is_accepted (reply t) ≡ true) →
    (o : Option Message) (c : Option Consumer) → choice before address ≡ c → Names before (chosen_at before true address) address (reply (reached_by before o c))
reached_named before address reply alike accepts o None is_choice = λ id named. absurd (nobody_named reply alike to.None refl id named)
reached_named before address reply alike accepts None (Some consumer) is_choice = λ id named. absurd (nobody_named reply alike to.Stopped refl id named)
reached_named before address reply alike accepts (Some message) (Some consumer) is_choice = λ id named.
    (let its : named_by (reply (arrived_at consumer (arrival_at before consumer))) ≡ consumer.id ∷ [] = one_named reply alike (arrival_at before consumer) consumer in
    let ids = ids_of (option_to_list (choice before address)) in
    let any = list_any (bytes_eq address) (chosen_at before true address) in
    ap (λ b. cond (b && any) ids []) (accepts (arrived_at consumer (arrival_at before consumer)))
    ∙ ap (λ b. cond b ids []) (chosen_here before address consumer is_choice)
    ∙ ap (λ c. ids_of (option_to_list c)) is_choice
    ∙ sym its
    ∙ named)

destination_named : (before : List Traced) (call : Call) (address : List ℕ) (reply : To → Reply) → ((t : To) → named_by (reply t) ≡ named_by (replies.Sent t)) → ((t : To) → is_accepted (reply t) ≡ true) →
    Names before (chosen_at before (is_some (sent before call deeds.Nothing)) address) address (reply (destination before call address))
destination_named before call address reply alike accepts =
    let o = received before call deeds.Nothing in
    let c = choice before address in
    elim (is_some (sent before call deeds.Nothing)) as (λ b. Names before (chosen_at before b address) address (reply (cond b (reached_by before o c) to.Stopped))) [
      | true ↦ reached_named before address reply alike accepts o c refl
      | false ↦ λ id named. absurd (nobody_named reply alike to.Stopped refl id named)
    ]

asked_alike : (t : To) → named_by (replies.Asked t) ≡ named_by (replies.Sent t)
asked_alike to.None = refl
asked_alike to.Stopped = refl
asked_alike (to.Lost id) = refl
asked_alike (to.Consumer id) = refl
asked_alike to.Asker = refl

answer_named : (before : List Traced) (pass : PassNo) (call : Call) (deed : Deed) (address : List ℕ) → address_of call ≡ address ∷ [] → Names before (choice_made before call deed) address (answer before pass call)
answer_named before pass (calls.Send other body options) deed address is_address =
    let call = calls.Send other body options in
    let made = chosen_at before (is_some (sent before call deeds.Nothing)) other in
    let same : other ≡ address = cc in
    let P : List ℕ → Type 0 = λ a. Names before made a (answer before pass call) in
    subst P same
    (unless before made other (option_or (spent before) (shut before call)) _
    (unless before made other (send_refusal before pass other body options) _ (destination_named before call other (λ t. replies.Sent t) (λ t. refl) (λ t. refl))))
answer_named before pass (calls.Request context other body options timeout once) deed address is_address =
    let call = calls.Request context other body options timeout once in
    let made = chosen_at before (is_some (sent before call deeds.Nothing)) other in
    let same : other ≡ address = cc in
    let P : List ℕ → Type 0 = λ a. Names before made a (answer before pass call) in
    subst P same
    (unless before made other (option_or (spent before) (shut before call)) _
    (unless before made other (request_refusal before pass context other body options timeout) _ (destination_named before call other (λ t. replies.Asked t) asked_alike (λ t. refl))))
answer_named before pass _ deed address is_address = absurd cc

pub names_chosen : (history : List Traced) → IsLegal history → NamesChosen history
names_chosen history legal = λ before new after address id parts is_address named.
    (let P : Reply → Type 0 = Names before (choice_made before new.entry.call new.mark.deed) address in
    subst P (sym (legal before new after parts).answered) (answer_named before new.entry.pass new.entry.call new.mark.deed address is_address) id named)
