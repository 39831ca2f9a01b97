-- Messages that were not taken stand in the order of their sending.
use Rattle.std.proofs.Common.{◌≡◌, List, [], ◌∷◌, ◌++◌, sym, refl, subst, arith}
use Rattle.std.specs.Prelude.{Bool, false, not, nat_lt, filter}
use Rattle.std.proofs.lemmas.Bool.Decides.{nat_tests}
use Rattle.vx_call.specs.declared.reply.Task.{Task}
use Rattle.vx_call.specs.declared.reply.Task.TheVariants as tasks
use Rattle.vx_call.specs.declared.history.Traced.{Traced}
use Rattle.vx_call.specs.History.{is_accepted, made_by, ended_by}
use Rattle.vx_call.specs.Items.{task_kind, task_made, untaken}
use Rattle.vx_call.proofs.Lasting.{lasting-append, lasting_none}
use Rattle.vx_call.proofs.Each.{Each, Each-filter, weaken, accepted, by_entries}
use Rattle.vx_call.proofs.Apart.{Apart, Apart-filter, Apart-cross}
use Rattle.vx_call.proofs.Tasks.{IsKnown, IsFresh, new_fresh, untaken_known}

-- whether the second is a message that was sent before the first
abbrev pub is_late : Task → Task → Bool
is_late (tasks.Deliver consumer message) (tasks.Deliver other another) = nat_lt another.id.0.0 message.id.0.0
is_late _ _ = false

abbrev IsInTime : Task → Task → Type 0
IsInTime task other = is_late task other ≡ false

-- a message that was made before is not late to one that an entry makes
known_first : (history : List Traced) (task other : Task) → IsKnown history task → IsFresh history other → IsInTime task other
known_first history (tasks.Deliver consumer message) (tasks.Deliver other another) known fresh = grind (arith, nat_tests)
known_first history (tasks.Deliver consumer message) (tasks.Outcome request outcome) known fresh = refl
known_first history (tasks.Deliver consumer message) _ known fresh = absurd fresh
known_first history (tasks.Outcome request outcome) other known fresh = refl
known_first history _ other known fresh = absurd known

-- nor are those that one entry makes
fresh_together : (history : List Traced) (task other : Task) → IsFresh history task → IsFresh history other → IsInTime task other
fresh_together history (tasks.Deliver consumer message) (tasks.Deliver other another) fresh also_fresh = grind (arith, nat_tests)
fresh_together history (tasks.Deliver consumer message) (tasks.Outcome request outcome) fresh also_fresh = refl
fresh_together history (tasks.Deliver consumer message) _ fresh also_fresh = absurd also_fresh
fresh_together history (tasks.Outcome request outcome) other fresh also_fresh = refl
fresh_together history _ other fresh also_fresh = absurd fresh

made_in_time : (history : List Traced) (made : List Task) → Each (IsFresh history) made → Apart is_late made
made_in_time history [] fresh = tt
made_in_time history (task ∷ others) fresh = (weaken (IsFresh history) (IsInTime task) others (λ other also_fresh. fresh_together history task other fresh.0 also_fresh) fresh.1, made_in_time history others fresh.1)

stay_in_time : (history : List Traced) (new : Traced) → Apart is_late (untaken history) → Apart is_late (untaken (history ++ new ∷ []))
stay_in_time history new in_time =
    let stays = λ (task : Task). not (ended_by task_kind history new task) in
    let made = made_by task_kind history new in
    let P : List Task → Type 0 = Apart is_late in
    let fresh : Each (IsFresh history) made = accepted (IsFresh history) (is_accepted new.entry.reply) (task_made history new.entry.pass new.entry.call new.mark.deed) (λ ok. new_fresh history new.entry.pass new.entry.call new.mark.deed) in
    subst P (sym (lasting-append task_kind history new))
    (Apart-cross is_late (filter stays (untaken history)) made (Apart-filter is_late stays (untaken history) in_time) (made_in_time history made fresh)
    (Each-filter (IsKnown history) (λ task. Each (IsInTime task) made) stays (untaken history)
    (λ task passes known. weaken (IsFresh history) (IsInTime task) made (λ other unknown. known_first history task other known unknown) fresh)
    (untaken_known history)))

-- no message that was not taken stands behind one that was sent after it
pub untaken_in_time : (history : List Traced) → Apart is_late (untaken history)
untaken_in_time = let P : List Task → Type 0 = Apart is_late in by_entries (λ history. P (untaken history)) (subst P (sym (lasting_none task_kind)) tt) stay_in_time
