-- An outcome that was not taken is the one with which its request ended.
use Rattle.std.proofs.Common.{◌≡◌, ℕ, List, [], ◌∷◌, ◌++◌, refl, ap, sym, ◌∙◌, subst, append_assoc}
use Rattle.std.specs.Prelude.{true, false, cond, find, None, Some}
use Rattle.std.specs.Option.{option_or}
use Rattle.std.proofs.lemmas.Bool.{eq-eqb}
use Rattle.std.proofs.lemmas.List.{append-nil}
use Rattle.std.proofs.lemmas.List.Folds.{find-append}
use Rattle.vx_data.specs.declared.ids.MessageId.{MessageId}
use Rattle.vx_data.specs.declared.ids.PassNo.{PassNo}
use Rattle.vx_message.specs.declared.Lane.{Lane}
use Rattle.vx_message.specs.declared.Outcome.{Outcome}
use Rattle.vx_call.specs.declared.call.Call.{Call}
use Rattle.vx_call.specs.declared.reply.Task.{Task}
use Rattle.vx_call.specs.declared.reply.Task.TheVariants as tasks
use Rattle.vx_call.specs.declared.history.Deed.{Deed}
use Rattle.vx_call.specs.declared.history.Traced.{Traced}
use Rattle.vx_call.specs.History.{is_accepted, made_by, lasting}
use Rattle.vx_call.specs.Requests.{Open}
use Rattle.vx_call.specs.Settled.{Settled, settled_made, settled_kind, settled}
use Rattle.vx_call.specs.Items.{task_kind, task_made, untaken}
use Rattle.vx_call.specs.Machine.{IsLegal}
use Rattle.vx_call.proofs.Each.{Each, Each-both, weaken, accepted, by_entries, lasting_each}
use Rattle.vx_call.proofs.Apart.{Apart}
use Rattle.vx_call.proofs.Found.{find_front, same_number}
use Rattle.vx_call.proofs.Settlings.{each_settled, each_settled_by, same_settled, settled_made_apart, is_settled_as, settled-append, next_unsettled, settled_open}
use Rattle.vx_call.proofs.Tasks.{each_task}
use Rattle.vx_laws.specs.Outcomes.{HandsOutSettled}
use Rattle.vx_laws.proofs.Handed.{Handed, handed, handed_task}

-- the request ended with this outcome
abbrev pub EndedWith : List Traced → MessageId → Outcome → Type 0
EndedWith history request outcome = (end : Settled) × (settled history request ≡ Some end) × (end.outcome ≡ outcome)

keeps_settled : (history : List Traced) (new : Traced) (request : MessageId) (end : Settled) → settled history request ≡ Some end → settled (history ++ new ∷ []) request ≡ Some end
keeps_settled history new request end known =
    ap (find (is_settled_as request)) (settled-append history new) ∙ find_front (is_settled_as request) (lasting settled_kind history) (made_by settled_kind history new) end known

settled_on : (history after : List Traced) (request : MessageId) (end : Settled) → settled history request ≡ Some end → settled (history ++ after) request ≡ Some end
settled_on history after request end known =
    let P : List Traced → Type 0 = λ h. settled h request ≡ Some end in
    by_entries (λ later. settled (history ++ later) request ≡ Some end) (subst P (sym (append-nil history)) known)
    (λ later new before. subst P (append_assoc history later (new ∷ [])) (keeps_settled (history ++ later) new request end before)) after

abbrev IsEnded : List Traced → Task → Type 0
IsEnded history (tasks.Outcome request outcome) = EndedWith history request outcome
IsEnded history _ = Unit {0}

keeps_ended : (history : List Traced) (new : Traced) (task : Task) → IsEnded history task → IsEnded (history ++ new ∷ []) task
keeps_ended history new (tasks.Outcome request outcome) ended = (ended.0, keeps_settled history new request ended.0 ended.1, ended.2)
keeps_ended history new _ ended = tt

-- ## What an entry settles had not ended

made_open : (history : List Traced) (pass : PassNo) (call : Call) (deed : Deed) → Each (λ (s : Settled). settled history s.request ≡ None) (settled_made history pass call deed)
made_open history pass call deed =
    let IsOpen : Settled → Type 0 = λ s. settled history s.request ≡ None in
    each_settled IsOpen history pass call deed
    (each_settled_by (λ (request : Open). settled history request.id ≡ None) IsOpen history pass call deed (λ request outcome none. none) (settled_open history))
    (λ asker asks nobody. next_unsettled history)

found_itself : (all : List Settled) → Apart same_settled all → Each (λ s. find (is_settled_as s.request) all ≡ Some s) all
found_itself [] apart = tt
found_itself (s ∷ others) apart = (
  ap (λ b. cond b (Some s) (find (is_settled_as s.request) others)) (eq-eqb s.request.0.0 s.request.0.0 refl),
  Each-both (λ o. same_settled s o ≡ false) (λ o. find (is_settled_as o.request) others ≡ Some o) (λ o. find (is_settled_as o.request) (s ∷ others) ≡ Some o) others
      (λ o differs found. ap (λ b. cond b (Some s) (find (is_settled_as o.request) others)) (same_number o.request.0.0 s.request.0.0 ∙ differs) ∙ found)
      apart.0 (found_itself others apart.1),
)

-- what an accepted entry settles has ended then
made_settled : (history : List Traced) (new : Traced) → is_accepted new.entry.reply ≡ true → Each (λ s. settled (history ++ new ∷ []) s.request ≡ Some s) (settled_made history new.entry.pass new.entry.call new.mark.deed)
made_settled history new ok =
    let old = lasting settled_kind history in
    let made = settled_made history new.entry.pass new.entry.call new.mark.deed in
    let whole : lasting settled_kind (history ++ new ∷ []) ≡ old ++ made = settled-append history new ∙ ap (λ b. old ++ cond b made []) ok in
    Each-both (λ s. settled history s.request ≡ None) (λ s. find (is_settled_as s.request) made ≡ Some s) (λ s. settled (history ++ new ∷ []) s.request ≡ Some s) made
    (λ s none found. ap (find (is_settled_as s.request)) whole ∙ find-append (is_settled_as s.request) old made ∙ ap (λ o. option_or o (find (is_settled_as s.request) made)) none ∙ found)
    (made_open history new.entry.pass new.entry.call new.mark.deed) (found_itself made (settled_made_apart history new.entry.pass new.entry.call new.mark.deed))

new_ended : (history : List Traced) (new : Traced) → is_accepted new.entry.reply ≡ true → Each (IsEnded (history ++ new ∷ [])) (task_made history new.entry.pass new.entry.call new.mark.deed)
new_ended history new ok =
    let after = history ++ new ∷ [] in
    let call = new.entry.call in
    each_task (IsEnded after) history new.entry.pass call new.mark.deed (λ message consumer is_message is_live. tt)
    (weaken (λ (s : Settled). settled after s.request ≡ Some s) (λ (s : Settled). EndedWith after s.request s.outcome) (settled_made history new.entry.pass call new.mark.deed) (λ s found. (s, found, refl)) (made_settled history new ok))

untaken_ended : (history : List Traced) → Each (IsEnded history) (untaken history)
untaken_ended =
    lasting_each task_kind IsEnded (λ history new task stays ended. keeps_ended history new task ended)
    (λ history new. accepted (IsEnded (history ++ new ∷ [])) (is_accepted new.entry.reply) (task_made history new.entry.pass new.entry.call new.mark.deed) (new_ended history new))

-- ## What is handed out

handed_ended : (history : List Traced) (i : ℕ) (lane : Lane) (request : MessageId) (outcome : Outcome) → Handed history i lane (tasks.Outcome request outcome) → EndedWith history request outcome
handed_ended history i lane request outcome take =
    let before : List Traced = take.before in
    let then : IsEnded before (tasks.Outcome request outcome) = handed_task (IsEnded before) history i lane (tasks.Outcome request outcome) take refl (untaken_ended before) in
    (then.0, ap (λ (h : List Traced). settled h request) take.parts ∙ settled_on before (take.new ∷ take.after) request then.0 then.1, then.2)

pub as_settled : (history : List Traced) → IsLegal history → HandsOutSettled history
as_settled history legal = λ i lane request outcome takes. handed_ended history i lane request outcome (handed history i lane (tasks.Outcome request outcome) legal takes)
