-- Each message is delivered once.
use Rattle.std.proofs.Common.{◌≡◌, ℕ, List, ◌∷◌, ◌++◌, refl, ap, sym, ◌∙◌, subst, arith, inl, inr}
use Rattle.std.specs.Prelude.{◌≢◌, ◌⊎◌, true, false, ◌&&◌, ◌==◌, slice_get}
use Rattle.std.proofs.lemmas.Bool.{cases_lt, eq-eqb}
use Rattle.vx_data.specs.declared.ids.ConsumerId.{ConsumerId}
use Rattle.vx_data.specs.declared.ids.MessageId.{MessageId}
use Rattle.vx_message.specs.declared.Lane.{Lane}
use Rattle.vx_message.specs.declared.Message.{Message}
use Rattle.vx_call.specs.declared.call.Call.{Call}
use Rattle.vx_call.specs.declared.call.Call.TheVariants as calls
use Rattle.vx_call.specs.declared.history.Deed.{Deed}
use Rattle.vx_call.specs.declared.history.Deed.TheVariants as deeds
use Rattle.vx_call.specs.declared.reply.Task.TheVariants as tasks
use Rattle.vx_call.specs.declared.history.Traced.{Traced}
use Rattle.vx_call.specs.Kinds.{same_task}
use Rattle.vx_call.specs.Machine.{IsLegal}
use Rattle.vx_laws.specs.Entries.{TakesAt}
use Rattle.vx_laws.specs.Deliveries.{publishes_by, publishes, IsPublished, DeliversOnce}
use Rattle.vx_laws.proofs.Splits.{same_cut, slice_get-at}
use Rattle.vx_laws.proofs.Handed.{handed}
use Rattle.vx_laws.proofs.Gone.{takes_apart}
use Rattle.vx_laws.proofs.Origins.{ReachesBy, Reaches, Origin, handed_origin}

-- what reaches two consumers publishes
only_published_by : (before : List Traced) (deed : Deed) (id other : ConsumerId) → id ≢ other → ReachesBy before deed id → ReachesBy before deed other → publishes_by deed ≡ true
only_published_by before (deeds.Sends address headers body) id other apart one two = absurd (apart cc)
only_published_by before (deeds.Requests address headers body at) id other apart one two = absurd (apart cc)
only_published_by before (deeds.Publishes address headers body) id other apart one two = refl
only_published_by before _ id other apart one two = absurd one

only_published : (before : List Traced) (call : Call) (deed : Deed) (id other : ConsumerId) → id ≢ other → Reaches before call deed id → Reaches before call deed other → publishes call deed ≡ true
only_published before (calls.Send address body options) deed id other apart one two = absurd (apart cc)
only_published before (calls.Request context address body options timeout once) deed id other apart one two = absurd (apart cc)
only_published before (calls.Publish address body options) deed id other apart one two = refl
only_published before (calls.FrameIn conn frame) deed id other apart one two = only_published_by before deed id other apart one two
only_published before _ deed id other apart one two = absurd one

published : (history : List Traced) (id other : ConsumerId) (message : MessageId) → id ≢ other → Origin history id message → Origin history other message → IsPublished history message
published history id other message apart one two =
    let cut = same_cut one.before one.after one.new two.before two.after two.new (sym one.parts ∙ two.parts) (one.at ∙ sym two.at) in
    let again : Reaches one.before one.new.entry.call one.new.mark.deed other =
    subst (λ (b : List Traced). Reaches b one.new.entry.call one.new.mark.deed other) (sym cut.fronts) (subst (λ (n : Traced). Reaches two.before n.entry.call n.mark.deed other) (sym cut.items) two.reaches) in
    record {
      entry = one.new;
      is_there = ap (λ (h : List Traced). slice_get h message.0.0) one.parts ∙ sym (ap (λ (n : ℕ). slice_get (one.before ++ one.new ∷ one.after) n) one.at) ∙ slice_get-at one.before one.after one.new;
      accepted = one.accepted;
      publishes = only_published one.before one.new.entry.call one.new.mark.deed id other apart one.reaches again;
    }

different_consumers : (consumer other : ConsumerId) (message same : Message) → message.id ≡ same.id → same_task (tasks.Deliver consumer message) (tasks.Deliver other same) ≡ false → consumer ≢ other
different_consumers consumer other message same one apart = λ alike.
    (let ids : (message.id.0.0 == same.id.0.0) ≡ true = eq-eqb message.id.0.0 same.id.0.0 (ap (λ (m : MessageId). m.0.0) one) in
    let consumers : (consumer.0.0 == other.0.0) ≡ true = eq-eqb consumer.0.0 other.0.0 (ap (λ (c : ConsumerId). c.0.0) alike) in
    let yes : ((consumer.0.0 == other.0.0) && (message.id.0.0 == same.id.0.0)) ≡ true = ap (λ b. b && (message.id.0.0 == same.id.0.0)) consumers ∙ ids in
    cc)

twice : (history : List Traced) (i j : ℕ) (lane other_lane : Lane) (consumer other : ConsumerId) (message same : Message) → IsLegal history →
    TakesAt history i lane (tasks.Deliver consumer message) → TakesAt history j other_lane (tasks.Deliver other same) → message.id ≡ same.id → (i ≡ j → ⊥) → IsPublished history message.id × (consumer ≢ other)
twice history i j lane other_lane consumer other message same legal one two names apart =
    let differ : consumer ≢ other =
    different_consumers consumer other message same names (takes_apart history i j lane other_lane (tasks.Deliver consumer message) (tasks.Deliver other same) legal one two refl refl apart) in
    let first = handed_origin history i lane consumer message (handed history i lane (tasks.Deliver consumer message) legal one) in
    let second = handed_origin history j other_lane other same (handed history j other_lane (tasks.Deliver other same) legal two) in
    (published history consumer other message.id differ first (subst (λ (m : MessageId). Origin history other m) (sym names) second), differ)

pub delivered_once : (history : List Traced) → IsLegal history → DeliversOnce history
delivered_once history legal = λ i j lane other_lane consumer other message same one two names.
    elim (cases_lt i j) as (λ _. (i ≡ j) ⊎ (IsPublished history message.id × (consumer ≢ other))) [
      | inl lt ↦ inr (twice history i j lane other_lane consumer other message same legal one two names (λ e. absurd (omega arith)))
      | inr le ↦
          (elim (cases_lt j i) as (λ _. (i ≡ j) ⊎ (IsPublished history message.id × (consumer ≢ other))) [
            | inl lt ↦ inr (twice history i j lane other_lane consumer other message same legal one two names (λ e. absurd (omega arith)))
            | inr ge ↦ inl (omega arith)
          ])
    ]
