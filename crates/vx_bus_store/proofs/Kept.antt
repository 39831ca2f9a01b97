-- What entries leave that close no context: mailboxes, and tasks that wait or were not taken.
use Rattle.std.proofs.Common.{◌≡◌, List, [], ◌∷◌, ◌++◌, ap, ◌∙◌}
use Rattle.std.specs.Prelude.{false, ◌&&◌, ◌||◌}
use Rattle.vx_consumer.specs.Mailboxes as moves
use Rattle.vx_call.specs.declared.reply.Task.{Task}
use Rattle.vx_call.specs.declared.history.Consumer.{Consumer}
use Rattle.vx_call.specs.declared.history.Traced.{Traced}
use Rattle.vx_call.specs.History.{ended_by, is_accepted}
use Rattle.vx_call.specs.Closings.{closing_by}
use Rattle.vx_call.specs.Consumers.{ends_by_name, closes_owner, ends}
use Rattle.vx_call.specs.Items.{Waiting, closes_task, task_ended, task_kind, item_ended, item_kind}
use Rattle.vx_call.specs.Mailboxes.{move_if, moves_by, mailbox}
use Rattle.vx_call.proofs.Lasting.{and_false}
use Rattle.vx_call.proofs.KeepsOpen.{KeepsOpen}
use Rattle.vx_call.proofs.Mailboxes.{mailbox_unmoved}
use Rattle.vx_bus_store.proofs.Frames.{owner_open}

-- a call that ends no consumer by its name ends none
pub none_ends : (history : List Traced) (new : Traced) (consumer : Consumer) → KeepsOpen history new → ends_by_name new.entry.call new.mark.deed consumer.id ≡ false →
    ends history new.entry.pass new.entry.call new.mark consumer ≡ false
none_ends history new consumer keeps none =
    ap (λ b. b || closes_owner history new.entry.pass new.entry.call new.mark consumer.owner) none ∙ owner_open history new consumer.owner keeps

-- ... and leaves the mailbox that it would move only by ending the consumer
pub mailbox_kept : (history : List Traced) (new : Traced) (consumer : Consumer) → KeepsOpen history new → ends_by_name new.entry.call new.mark.deed consumer.id ≡ false →
    moves_by consumer history new.entry.pass new.entry.call new.mark new.entry.reply ≡ move_if (ends history new.entry.pass new.entry.call new.mark consumer) moves.ends →
    mailbox (history ++ new ∷ []) consumer ≡ mailbox history consumer
mailbox_kept history new consumer keeps none by_ending =
    mailbox_unmoved history new consumer (by_ending ∙ ap (λ b. move_if b moves.ends) (none_ends history new consumer keeps none))

-- a call that ends a task only as its context closes ends none
pub task_kept : (history : List Traced) (new : Traced) (task : Task) → KeepsOpen history new →
    task_ended history new.entry.pass new.entry.call new.entry.reply task ≡ closes_task history (closing_by history new.entry.pass new.entry.call) task → ended_by task_kind history new task ≡ false
task_kept history new task keeps by_closing =
    ap (λ b. is_accepted new.entry.reply && b) (by_closing ∙ ap (λ o. closes_task history o task) keeps.closing) ∙ and_false (is_accepted new.entry.reply)

-- ... and so one that waits
pub item_kept : (history : List Traced) (new : Traced) (item : Waiting) → KeepsOpen history new →
    item_ended history new.entry.pass new.entry.call new.entry.reply item.task ≡ closes_task history (closing_by history new.entry.pass new.entry.call) item.task → ended_by item_kind history new item ≡ false
item_kept history new item keeps by_closing =
    ap (λ b. is_accepted new.entry.reply && b) (by_closing ∙ ap (λ o. closes_task history o item.task) keeps.closing) ∙ and_false (is_accepted new.entry.reply)
