-- An ended consumer takes nothing.
use Rattle.std.proofs.Common.{◌≡◌, ◌+◌, ◌<◌, List, [], ◌∷◌, ◌++◌, length, refl, ap, sym, ◌∙◌, subst, append_assoc, arith}
use Rattle.std.proofs.Common.{inl, inr}
use Rattle.std.specs.Prelude.{true, false, ◌&&◌, ◌||◌, cond, Option, None, Some}
use Rattle.std.proofs.lemmas.Bool.{or_left}
use Rattle.vx_call.proofs.Legal.{legal_front}
use Rattle.std.proofs.lemmas.List.{append-nil, length-append}
use Rattle.vx_data.specs.declared.ids.ConsumerId.{ConsumerId}
use Rattle.vx_data.specs.Ids.{same_consumer}
use Rattle.vx_call.specs.declared.call.Call.TheVariants as calls
use Rattle.vx_call.specs.declared.history.Consumer.{Consumer}
use Rattle.vx_call.specs.declared.history.Traced.{Traced}
use Rattle.vx_call.specs.History.{is_accepted}
use Rattle.vx_call.specs.Consumers.{live, ends_by_name, closes_owner}
use Rattle.vx_call.specs.Machine.{IsLegal, MayFollow, row}
use Rattle.vx_call.proofs.Each.{by_entries}
use Rattle.vx_call.proofs.Consumers.{live_named, live_found, live_came, same_consumer-self}
use Rattle.vx_laws.specs.Entries.{is_taken_by, taken_in}
use Rattle.vx_laws.specs.Leaving.{TakesNothingOnceEnded}
use Rattle.vx_laws.proofs.Takes.{hands_so, one_taken, takes_live, named_earlier}

-- one that no longer is, never is again
stays_gone : (now : List Traced) (new : Traced) (id : ConsumerId) → id.0.0 < length now → live now id ≡ None → live (now ++ new ∷ []) id ≡ None
stays_gone now new id earlier none =
    elim (live (now ++ new ∷ []) id) as (λ (o : Option Consumer). live (now ++ new ∷ []) id ≡ o → o ≡ None) [
      | None ↦ λ found. refl
      | Some consumer ↦ λ found.
          (let named : id ≡ consumer.id = live_named (now ++ new ∷ []) id consumer found in
          elim (live_came now new consumer (live_found (now ++ new ∷ []) id consumer found)) as (λ _. Some consumer ≡ None) [
            | inl stays ↦ (let was : Some consumer ≡ None = sym (ap (live now) named ∙ stays.was) ∙ none in was)
            | inr keyed ↦ absurd (omega (arith, earlier, keyed, ap (λ i. i.0.0) named))
          ])
    ] refl

-- an Unregister that is not refused ends it
gone_first : (before : List Traced) (end : Traced) (id : ConsumerId) → MayFollow before end → end.entry.call ≡ calls.Unregister id → is_accepted end.entry.reply ≡ true → (id.0.0 < length before) × (live (before ++ end ∷ []) id ≡ None)
gone_first before end id may called done =
    let earlier = named_earlier before end id may (ap (row before end.entry.pass) called) done in (
      earlier,
      elim (live (before ++ end ∷ []) id) as (λ (o : Option Consumer). live (before ++ end ∷ []) id ≡ o → o ≡ None) [
        | None ↦ λ found. refl
        | Some consumer ↦ λ found.
            (let named : id ≡ consumer.id = live_named (before ++ end ∷ []) id consumer found in
            elim (live_came before end consumer (live_found (before ++ end ∷ []) id consumer found)) as (λ _. Some consumer ≡ None) [
              | inl stays ↦
                  (let by_name = ends_by_name end.entry.call end.mark.deed consumer.id in
                  let closing = closes_owner before end.entry.pass end.entry.call end.mark consumer.owner in
                  let ended : (is_accepted end.entry.reply && (by_name || closing)) ≡ true =
                  ap (λ b. b && (by_name || closing)) done ∙ or_left by_name closing (ap (λ call. ends_by_name call end.mark.deed consumer.id) called ∙ ap (same_consumer id) (sym named) ∙ same_consumer-self id) in
                  absurd (let no : true ≡ false = sym ended ∙ stays.stays in cc))
              | inr keyed ↦ absurd (omega (arith, earlier, keyed, ap (λ i. i.0.0) named))
            ])
      ] refl,
    )

module _ (history : List Traced) (legal : IsLegal history) (id : ConsumerId) (before : List Traced) (end : Traced) (called : end.entry.call ≡ calls.Unregister id) (done : is_accepted end.entry.reply ≡ true) where
  -- after the entries so far it is gone, and took nothing
  record Gone (since : List Traced) : Type 0 where
    pub earlier : id.0.0 < length before
    pub none : live (before ++ end ∷ since) id ≡ None
    pub nothing : taken_in since id ≡ 0

  abbrev Stage : List Traced → Type 0
  Stage since = (after : List Traced) → history ≡ before ++ end ∷ (since ++ after) → Gone since

  took_nothing : (now : List Traced) (new : Traced) → IsLegal now → MayFollow now new → live now id ≡ None → is_taken_by id new ≡ false
  took_nothing now new lawful may none =
      elim (is_taken_by id new) as (λ b. is_taken_by id new ≡ b → b ≡ false) [
        | true ↦ λ hands.
            (let home = takes_live now new id lawful may (hands_so id new.entry.call new.entry.reply hands) in
            let no : Some home.consumer ≡ None = sym home.is_live ∙ none in
            absurd cc)
        | false ↦ λ not_its. refl
      ] refl

  stage : (since : List Traced) → Stage since
  stage =
      by_entries Stage
      (λ after parts.
      (let first = gone_first before end id (legal before end after parts) called done in
      record { earlier = first.0; none = first.1; nothing = refl }))
      (λ since new stages after parts.
      let now = before ++ end ∷ since in
      let cut : history ≡ before ++ end ∷ (since ++ new ∷ after) = parts ∙ ap (λ later. before ++ end ∷ later) (append_assoc since (new ∷ []) after) in
      let far = stages (new ∷ after) cut in
      let whole = cut ∙ sym (append_assoc before (end ∷ since) (new ∷ after)) in
      let may = legal now new after whole in
      let lawful : IsLegal now = legal_front now (new ∷ after) (subst (λ (h : List Traced). IsLegal h) whole legal) in
      record {
        earlier = far.earlier;
        none = ap (λ h. live h id) (sym (append_assoc before (end ∷ since) (new ∷ []))) ∙ stays_gone now new id (omega (arith, far.earlier, length-append before (end ∷ since))) far.none;
        nothing = one_taken id since new ∙ ap (λ b. taken_in since id + cond b 1 0) (took_nothing now new lawful may far.none) ∙ omega (arith, far.nothing);
      })

pub take_nothing : (history : List Traced) → IsLegal history → TakesNothingOnceEnded history
take_nothing history legal = λ id before since end parts called done. (stage history legal id before end called done since [] (parts ∙ ap (λ later. before ++ end ∷ later) (sym (append-nil since)))).nothing
