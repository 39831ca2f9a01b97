-- What a Take hands out is not there any more, and no other Take hands it out.
use Rattle.std.proofs.Common.{◌≡◌, ℕ, ◌<◌, List, [], ◌∷◌, ◌++◌, length, ap, sym, ◌∙◌, subst, append_assoc, arith}
use Rattle.std.specs.Prelude.{true, false, not, ◌&&◌, filter}
use Rattle.std.proofs.Common.{inl, inr}
use Rattle.std.proofs.lemmas.Bool.{cases_lt, not-true}
use Rattle.std.proofs.lemmas.List.{append-nil}
use Rattle.vx_message.specs.declared.Lane.{Lane}
use Rattle.vx_call.specs.declared.reply.Reply.TheVariants as replies
use Rattle.vx_call.specs.declared.reply.Task.{Task}
use Rattle.vx_call.specs.declared.history.Traced.{Traced}
use Rattle.vx_call.specs.History.{is_accepted, made_by, ended_by}
use Rattle.vx_call.specs.Items.{task_kind, task_made, task_ended, untaken}
use Rattle.vx_call.specs.Kinds.{same_task}
use Rattle.vx_call.specs.Machine.{IsLegal}
use Rattle.vx_call.proofs.Lasting.{lasting-append}
use Rattle.vx_call.proofs.Each.{Each, Each-append, Each-filter, weaken, accepted, by_entries}
use Rattle.vx_call.proofs.Items.{is_of_bus}
use Rattle.vx_call.proofs.Tasks.{IsOtherTask, IsKnown, IsFresh, different, keeps_known, new_fresh, untaken_known, same_task-swap}
use Rattle.vx_laws.specs.Entries.{TakesAt}
use Rattle.vx_laws.proofs.Splits.{later_cut, Each-any}
use Rattle.vx_laws.proofs.Handed.{Handed, handed, handed_task}

-- the task was made before, and is there no more
pub record IsGone (history : List Traced) (task : Task) : Type 0 where
  pub known : IsKnown history task
  pub gone : Each (IsOtherTask task) (untaken history)

-- what an entry makes is none of the tasks that were there
new_apart : (history : List Traced) (new : Traced) (task : Task) → IsKnown history task → Each (IsOtherTask task) (made_by task_kind history new)
new_apart history new task known =
    weaken (IsFresh history) (IsOtherTask task) (made_by task_kind history new) (λ other fresh. different history task other known fresh)
    (accepted (IsFresh history) (is_accepted new.entry.reply) (task_made history new.entry.pass new.entry.call new.mark.deed) (λ ok. new_fresh history new.entry.pass new.entry.call new.mark.deed))

after_entry : (history : List Traced) (new : Traced) (task : Task) → IsKnown history task →
    Each (IsOtherTask task) (filter (λ other. not (ended_by task_kind history new other)) (untaken history)) → IsGone (history ++ new ∷ []) task
after_entry history new task known left =
    let P : List Task → Type 0 = Each (IsOtherTask task) in
    record {
      known = keeps_known history new task known;
      gone = subst P (sym (lasting-append task_kind history new)) (Each-append (IsOtherTask task) _ _ left (new_apart history new task known));
    }

still_gone : (history : List Traced) (new : Traced) (task : Task) → IsGone history task → IsGone (history ++ new ∷ []) task
still_gone history new task gone =
    after_entry history new task gone.known (Each-filter (IsOtherTask task) (IsOtherTask task) _ (untaken history) (λ other stays apart. apart) gone.gone)

-- what is gone stays gone
pub gone_on : (history after : List Traced) (task : Task) → IsGone history task → IsGone (history ++ after) task
gone_on history after task gone =
    let P : List Traced → Type 0 = λ h. IsGone h task in
    by_entries (λ later. IsGone (history ++ later) task) (subst P (sym (append-nil history)) gone)
    (λ later new before. subst P (append_assoc history later (new ∷ [])) (still_gone (history ++ later) new task before)) after

-- the task that a Take hands out was there, and goes
pub handed_gone : (history : List Traced) (i : ℕ) (lane : Lane) (task : Task) (take : Handed history i lane task) → is_of_bus task ≡ true → IsGone (take.before ++ take.new ∷ []) task
handed_gone history i lane task take bus =
    let before : List Traced = take.before in
    let new : Traced = take.new in
    let ends : (other : Task) → ended_by task_kind before new other ≡ same_task task other =
    λ other. ap (λ reply. is_accepted reply && task_ended before new.entry.pass new.entry.call reply other) take.replied ∙ ap (λ call. task_ended before new.entry.pass call (replies.Task task) other) take.called in
    after_entry before new task (handed_task (IsKnown before) history i lane task take bus (untaken_known before))
    (Each-filter (λ other. Unit {0}) (IsOtherTask task) (λ other. not (ended_by task_kind before new other)) (untaken before)
    (λ other stays here. sym (ends other) ∙ not-true (ended_by task_kind before new other) stays) (Each-any (λ other. Unit {0}) (untaken before) (λ other. tt)))

earlier_apart : (history : List Traced) (i j : ℕ) (lane other_lane : Lane) (task other : Task) → Handed history i lane task → Handed history j other_lane other → is_of_bus task ≡ true → is_of_bus other ≡ true → i < j → same_task task other ≡ false
earlier_apart history i j lane other_lane task other first second bus also lt =
    let lengths : length first.before < length second.before = (let a = first.at in let b = second.at in omega arith) in
    let cut = later_cut first.before first.after first.new second.before second.after second.new (sym first.parts ∙ second.parts) lengths in
    let P : List Traced → Type 0 = λ h. IsGone h task in
    let gone : IsGone second.before task =
    subst P (append_assoc first.before (first.new ∷ []) cut.0 ∙ sym cut.1) (gone_on (first.before ++ first.new ∷ []) cut.0 task (handed_gone history i lane task first bus)) in
    handed_task (IsOtherTask task) history j other_lane other second also gone.gone

-- two Takes hand out different messages and outcomes
pub takes_apart : (history : List Traced) (i j : ℕ) (lane other_lane : Lane) (task other : Task) → IsLegal history → TakesAt history i lane task → TakesAt history j other_lane other → is_of_bus task ≡ true → is_of_bus other ≡ true → (i ≡ j → ⊥) →
    same_task task other ≡ false
takes_apart history i j lane other_lane task other legal first second bus also apart =
    let one = handed history i lane task legal first in
    let two = handed history j other_lane other legal second in
    elim (cases_lt i j) as (λ _. same_task task other ≡ false) [
      | inl lt ↦ earlier_apart history i j lane other_lane task other one two bus also lt
      | inr le ↦ same_task-swap task other ∙ earlier_apart history j i other_lane lane other task two one also bus (omega arith)
    ]
