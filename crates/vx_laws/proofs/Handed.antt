-- What a Take hands out had waited.
use Rattle.std.proofs.Common.{◌≡◌, ℕ, List, ◌∷◌, ◌++◌, length, refl, ap, sym, ◌∙◌, subst}
use Rattle.std.specs.Prelude.{true, find, Option, None, Some}
use Rattle.std.specs.Option.{option_or}
use Rattle.vx_data.specs.declared.ids.EntryNo.{EntryNo}
use Rattle.vx_data.specs.declared.ids.PassNo.{PassNo}
use Rattle.vx_message.specs.declared.Lane.{Lane}
use Rattle.vx_call.specs.declared.call.Call.TheVariants as calls
use Rattle.vx_call.specs.declared.reply.Refusal.{Refusal}
use Rattle.vx_call.specs.declared.reply.Reply.{Reply}
use Rattle.vx_call.specs.declared.reply.Reply.TheVariants as replies
use Rattle.vx_call.specs.declared.reply.Task.{Task}
use Rattle.vx_call.specs.declared.history.Traced.{Traced}
use Rattle.vx_call.specs.Items.{Waiting, untaken, waiting}
use Rattle.vx_call.specs.Kinds.{same_task}
use Rattle.vx_call.specs.Next.{next}
use Rattle.vx_call.specs.Refusals.{unless_refused, spent}
use Rattle.vx_call.specs.Closings.{hub_closed_at}
use Rattle.vx_call.specs.Rows.{take_refusal, handed_out, unless_closed}
use Rattle.vx_call.specs.Machine.{IsLegal, answer}
use Rattle.vx_call.proofs.Each.{Each, Each-find, weaken}
use Rattle.vx_call.proofs.Items.{is_of_bus}
use Rattle.vx_call.proofs.Waiting.{waiting_untaken}
use Rattle.vx_laws.specs.Entries.{TakesAt}
use Rattle.vx_laws.proofs.Splits.{Split, split_at}

-- the history before a Take that hands out a task, the Take, and the item that waited
pub record Handed (history : List Traced) (i : ℕ) (lane : Lane) (task : Task) : Type 0 where
  pub before : List Traced
  pub new : Traced
  pub after : List Traced
  pub parts : history ≡ before ++ new ∷ after
  pub at : length before ≡ i
  pub called : new.entry.call ≡ calls.Take lane
  pub replied : new.entry.reply ≡ replies.Task task
  pub item : Waiting
  pub found : next before lane ≡ Some item
  pub is_task : item.task ≡ task

pub not_closed : (o : Option EntryNo) (reply : Reply) (task : Task) → unless_closed o reply ≡ replies.Task task → reply ≡ replies.Task task
not_closed None reply task h = h
not_closed (Some at) reply task h = cc

pub not_refused : (o : Option Refusal) (reply : Reply) (task : Task) → unless_refused o reply ≡ replies.Task task → reply ≡ replies.Task task
not_refused None reply task h = h
not_refused (Some refusal) reply task h = cc

is_found : (o : Option Waiting) (task : Task) → handed_out o ≡ replies.Task task → (item : Waiting) × (o ≡ Some item) × (item.task ≡ task)
is_found None task h = cc
is_found (Some item) task h = (item, refl, cc)

pub waited : (before : List Traced) (pass : PassNo) (lane : Lane) (task : Task) → replies.Task task ≡ answer before pass (calls.Take lane) →
    (item : Waiting) × (next before lane ≡ Some item) × (item.task ≡ task)
waited before pass lane task answered =
    let reply = handed_out (next before lane) in
    is_found (next before lane) task
    (not_refused (take_refusal before pass lane) reply task
    (not_closed (hub_closed_at before) _ task (not_refused (option_or (spent before) None) _ task (sym answered))))

pub handed : (history : List Traced) (i : ℕ) (lane : Lane) (task : Task) → IsLegal history → TakesAt history i lane task → Handed history i lane task
handed history i lane task legal takes =
    let new : Traced = takes.entry in
    let split : Split history i new = split_at history i new takes.is_there in
    let answered : new.entry.reply ≡ answer split.before new.entry.pass new.entry.call = (legal split.before new split.after split.parts).answered in
    let found = waited split.before new.entry.pass lane task (sym takes.replied ∙ answered ∙ ap (answer split.before new.entry.pass) takes.called) in
    record {
      before = split.before;
      new = new;
      after = split.after;
      parts = split.parts;
      at = split.at;
      called = takes.called;
      replied = takes.replied;
      item = found.0;
      found = found.1;
      is_task = found.2;
    }

-- what holds of each message and outcome that was not taken holds of each that waits
each_waiting : (P : Task → Type 0) (history : List Traced) → Each P (untaken history) → Each (λ item. is_of_bus item.task ≡ true → P item.task) (waiting history)
each_waiting P history each =
    weaken (λ item. is_of_bus item.task ≡ true → find (same_task item.task) (untaken history) ≡ Some item.task) (λ item. is_of_bus item.task ≡ true → P item.task) (waiting history)
    (λ item found bus. Each-find P (same_task item.task) (untaken history) item.task each (found bus)) (waiting_untaken history)

-- ... and of the next one of a lane
pub next_task : (P : Task → Type 0) (history : List Traced) (lane : Lane) (item : Waiting) → next history lane ≡ Some item → is_of_bus item.task ≡ true → Each P (untaken history) → P item.task
next_task P history lane item found bus each = Each-find (λ it. is_of_bus it.task ≡ true → P it.task) _ (waiting history) item (each_waiting P history each) found bus

-- ... and so of one that is handed out
pub handed_task : (P : Task → Type 0) (history : List Traced) (i : ℕ) (lane : Lane) (task : Task) (take : Handed history i lane task) → is_of_bus task ≡ true → Each P (untaken take.before) → P task
handed_task P history i lane task take bus each = subst P take.is_task (next_task P take.before lane take.item take.found (ap is_of_bus take.is_task ∙ bus) each)
