-- The verticles that passes hold, as the calls of a script go on.
use Rattle.std.proofs.Common.{◌≡◌, ℕ, List, [], ◌∷◌, ◌++◌, refl, ap, sym, ◌∙◌, subst}
use Rattle.std.specs.Prelude.{ℤ, Bool, true, false, cond, ◌&&◌, ◌||◌, ◌==◌, nat_eq, find, is_some, Option, None, Some}
use Rattle.std.specs.Map.{lookup}
use Rattle.std.specs.Option.{option_and_then, option_map, option_or, option_to_list}
use Rattle.vx_data.specs.declared.ids.PassNo.{PassNo}
use Rattle.vx_message.specs.declared.Held.{Held}
use Rattle.vx_message.specs.declared.Lane.{Lane}
use Rattle.vx_call.specs.declared.call.Call.{Call}
use Rattle.vx_call.specs.declared.call.Call.TheVariants as calls
use Rattle.vx_call.specs.declared.call.End.{End}
use Rattle.vx_call.specs.declared.reply.Refusal.TheVariants as refusals
use Rattle.vx_call.specs.declared.reply.Reply.{Reply}
use Rattle.vx_call.specs.declared.reply.Reply.TheVariants as replies
use Rattle.vx_call.specs.declared.reply.Task.{Task}
use Rattle.vx_call.specs.declared.history.Traced.{Traced}
use Rattle.vx_call.specs.Effects.{marked}
use Rattle.vx_call.specs.Deployments.{deployment_of_held}
use Rattle.vx_call.specs.Held.{context_held, held_kind}
use Rattle.vx_call.specs.History.{is_accepted}
use Rattle.vx_call.specs.Machine.{IsLegal, answer, extended_with, row}
use Rattle.vx_call.specs.Plain.{is_plain}
use Rattle.vx_call.specs.Refusals.{is_spent, refused_if, shut, unless_refused}
use Rattle.vx_call.proofs.Found.{same_number}
use Rattle.vx_call.proofs.Lasting.{lasting_none}
use Rattle.vx_hub.specs.Handing.{gave_in}
use Rattle.vx_hub.specs.Stores.{HubStore}
use Rattle.vx_hub.proofs.Handing.{gave_as, some_mapped}
use Rattle.vx_instances.specs.Instances.{gives, verticle_state}
use Rattle.vx_kinds.specs.declared.host.HostVerticle.{HostVerticle}
use Rattle.vx_kinds.specs.Hosts.{state_in}
use Rattle.vx_line.specs.declared.command.Command.{Command}
use Rattle.vx_line.specs.declared.instruction.Instruction.{Instruction}
use Rattle.vx_line.specs.Made.{first_call}
use Rattle.vx_script.specs.Held.{AreHeld, Plays, kept_state, verticle_of}
use Rattle.vx_script.specs.Playing.{behind, played_with, state_held, states_with}
use Rattle.vx_script.proofs.Holding.{all_given, ends_task, finish_its, hands_out, moves_its, same_number_as, stays, still_by, take_free, take_its, the_pass}

-- the entry of a call, with the states that go with it
abbrev pub entry : List Traced → PassNo → Call → Reply → List (List ℤ) → Traced
entry history pass call reply states = record { entry = record { pass = pass; call = call; reply = reply }; states = states; mark = marked history pass call reply }

-- a call that is made where the history is spent is refused
spent_refuses : (history : List Traced) (pass : PassNo) (call : Call) → is_spent history ≡ true → answer history pass call ≡ replies.Refused refusals.Spent
spent_refuses history pass call spent = ap (λ b. unless_refused (option_or (refused_if b refusals.Spent) (shut history call)) (row history pass call)) spent

-- ## What is held behind a call

-- what a pass keeps behind a call of a pass: what the call hands out to it, or nothing where the call ends its task
abbrev pub kept_after : PassNo → Option (List ℤ) → Call → Reply → PassNo → Option (List ℤ) → Option (List ℤ)
kept_after pass given call reply other before = cond (hands_out call reply && (pass.0 == other.0)) given (cond (ends_task call reply && (pass.0 == other.0)) None before)

stays_kept : (a b c : Bool) (given before : Option (List ℤ)) → ((a || b) && c) ≡ false → cond (a && c) given (cond (b && c) None before) ≡ before
stays_kept true b true given before none = absurd cc
stays_kept true true false given before none = refl
stays_kept true false false given before none = refl
stays_kept false true true given before none = absurd cc
stays_kept false true false given before none = refl
stays_kept false false c given before none = refl

module _ (old new : List (ℕ × HostVerticle)) (history : List Traced) (pass : PassNo) (are : AreHeld old history) (call : Call) (reply : Reply) (states : List (List ℤ)) where
  abbrev next : Traced
  next = entry history pass call reply states

  abbrev Back : Type 0
  Back = (end : End) → call ≡ calls.Finish end → states ≡ option_to_list (state_held history pass)

  abbrev Kept : Option (List ℤ) → Type 0
  Kept given = (other : PassNo) → kept_state other new ≡ kept_after pass given call reply other (kept_state other old)

  abbrev Gives : Option (List ℤ) → Type 0
  Gives given = hands_out call reply ≡ true → given ≡ gives history call reply

  module _ (back : Back) (legal : IsLegal (history ++ next ∷ [])) (given : Option (List ℤ)) (hands : Gives given) where
    moved : (c : Call) (r : Reply) → call ≡ c → reply ≡ r → (other : PassNo) → moves_its history next legal back c r other ≡ true → kept_after pass given c r other (kept_state other old) ≡ state_held (history ++ next ∷ []) other
    moved (calls.Take lane) (replies.Task task) is_call is_reply other its =
        let handed : hands_out call reply ≡ true = ap (λ c. hands_out c reply) is_call ∙ ap (hands_out (calls.Take lane)) is_reply in
        let same : gives history call reply ≡ gives history (calls.Take lane) (replies.Task task) = ap (λ c. gives history c reply) is_call ∙ ap (gives history (calls.Take lane)) is_reply in
        ap (λ b. cond b given (kept_state other old)) its ∙ hands handed ∙ same ∙ sym (take_its history next legal back lane task is_call is_reply)
        ∙ ap (state_held (history ++ next ∷ [])) (the_pass history next legal back other its)
    moved (calls.Take lane) reply is_call is_reply other its = absurd cc
    moved (calls.Finish end) r is_call is_reply other its =
        elim (is_accepted r) as (λ b. is_accepted r ≡ b → (b && (pass.0 == other.0)) ≡ true → cond (b && (pass.0 == other.0)) None (kept_state other old) ≡ state_held (history ++ next ∷ []) other) [
          | true ↦ λ ok its.
              ap (λ b. cond b None (kept_state other old)) its
              ∙ sym (ap (verticle_state (history ++ next ∷ [])) (finish_its history next legal back end is_call (ap is_accepted is_reply ∙ ok)))
              ∙ ap (state_held (history ++ next ∷ [])) (the_pass history next legal back other its)
          | false ↦ λ refused its. absurd cc
        ] refl its
    moved c r is_call is_reply other its = absurd cc

    one_more : Kept given → AreHeld new (history ++ next ∷ [])
    one_more kept = record {
      each = λ other.
          kept other
          ∙ elim (moves_its history next legal back call reply other) as (λ b. moves_its history next legal back call reply other ≡ b → kept_after pass given call reply other (kept_state other old) ≡ state_held (history ++ next ∷ []) other) [
            | true ↦ λ its. moved call reply refl refl other its
            | false ↦ λ none.
                stays_kept (hands_out call reply) (ends_task call reply) (pass.0 == other.0) given (kept_state other old) none ∙ are.each other
                ∙ sym (stays history next legal back other (still_by history next legal back call reply refl refl other none))
          ] refl;
      given = all_given history next legal back are.given;
    }

  none_more : (given : Option (List ℤ)) → Kept given → reply ≡ replies.Refused refusals.Spent → AreHeld new history
  none_more given kept is_reply = record {
    each = λ other. kept other ∙ ap (λ r. kept_after pass given call r other (kept_state other old)) is_reply ∙ no_move call (pass.0 == other.0) (kept_state other old) ∙ are.each other;
    given = are.given;
  }
    where
      no_move : (c : Call) (b : Bool) (before : Option (List ℤ)) → cond (hands_out c (replies.Refused refusals.Spent) && b) given (cond (ends_task c (replies.Refused refusals.Spent) && b) None before) ≡ before
      no_move (calls.Take lane) b before = refl
      no_move (calls.Finish end) b before = refl
      no_move c b before = refl

  -- What passes hold goes on to be what the history says.
  pub goes_on : reply ≡ answer history pass call → Back → IsLegal (extended_with history pass call reply states) → (given : Option (List ℤ)) → Gives given → Kept given → AreHeld new (extended_with history pass call reply states)
  goes_on answered back legal given hands kept =
      elim (is_spent history) as (λ b. is_spent history ≡ b → IsLegal (cond b history (history ++ next ∷ [])) → AreHeld new (cond b history (history ++ next ∷ []))) [
        | true ↦ λ spent same. none_more given kept (answered ∙ spent_refuses history pass call spent)
        | false ↦ λ unspent more. one_more back more given hands kept
      ] refl legal

-- before the first call none is held
pub at_first : AreHeld [] []
at_first = record {
  each = λ pass. sym (ap (λ hs. verticle_state [] (option_and_then context_held (find (λ (h : Held). h.pass.0 == pass.0) hs))) (lasting_none held_kind));
  given = λ pass.
      ap (λ hs. is_some (verticle_state [] (option_and_then context_held (find (λ (h : Held). h.pass.0 == pass.0) hs)))) (lasting_none held_kind)
      ∙ sym (ap (λ hs. is_some (deployment_of_held [] (option_and_then context_held (find (λ (h : Held). h.pass.0 == pass.0) hs)))) (lasting_none held_kind));
}

-- ## The calls of a script

-- a pass that takes a task holds none
free : (history : List Traced) (pass : PassNo) (lane : Lane) (task : Task) → replies.Task task ≡ answer history pass (calls.Take lane) → IsLegal (extended_with history pass (calls.Take lane) (replies.Task task) []) → state_held history pass ≡ None
free history pass lane task answered legal =
    let e = entry history pass (calls.Take lane) (replies.Task task) [] in
    elim (is_spent history) as (λ b. is_spent history ≡ b → IsLegal (cond b history (history ++ e ∷ [])) → state_held history pass ≡ None) [
      | true ↦ λ spent same. absurd (let no = answered ∙ spent_refuses history pass (calls.Take lane) spent in cc)
      | false ↦ λ unspent more. take_free history e more (λ end is. absurd cc) lane task refl refl
    ] refl legal

-- a pass keeps what is handed out to it
pub take_on : (old new : List (ℕ × HostVerticle)) (history : List Traced) (pass : PassNo) (lane : Lane) (reply : Reply) (verticle : Option HostVerticle) → AreHeld old history → reply ≡ answer history pass (calls.Take lane) →
    IsLegal (extended_with history pass (calls.Take lane) reply []) → option_map state_in verticle ≡ gives history (calls.Take lane) reply →
    ((other : PassNo) → verticle_of other new ≡ cond (nat_eq other.0 pass.0) (option_or verticle (verticle_of other old)) (verticle_of other old)) → AreHeld new (extended_with history pass (calls.Take lane) reply [])
take_on old new history pass lane reply verticle are answered legal hands keeps =
    goes_on old new history pass are (calls.Take lane) reply [] answered (λ end is. absurd cc) legal (option_map state_in verticle) (λ handed. hands) (λ other. ap (option_map state_in) (keeps other) ∙ by_reply reply answered legal hands other)
  where
    nothing : (b : Bool) (x v : Option HostVerticle) → option_map state_in x ≡ None → option_map state_in (cond b (option_or x v) v) ≡ option_map state_in v
    nothing true None v none = refl
    nothing true (Some x) v none = absurd cc
    nothing false x v none = refl

    anew : (x v : Option HostVerticle) → option_map state_in v ≡ None → option_map state_in (option_or x v) ≡ option_map state_in x
    anew None v none = none
    anew (Some x) v none = refl

    here : (task : Task) → replies.Task task ≡ answer history pass (calls.Take lane) → IsLegal (extended_with history pass (calls.Take lane) (replies.Task task) []) → (other : PassNo) → (pass.0 == other.0) ≡ true → kept_state other old ≡ None
    here task answered legal other its = (let named : ℕ → PassNo = λ n. record { 0 = n } in let same : pass ≡ other = ap named (same_number_as pass.0 other.0 its) in are.each other ∙ ap (state_held history) (sym same) ∙ free history pass lane task answered legal)

    by_reply : (r : Reply) → r ≡ answer history pass (calls.Take lane) → IsLegal (extended_with history pass (calls.Take lane) r []) → option_map state_in verticle ≡ gives history (calls.Take lane) r → (other : PassNo) →
        option_map state_in (cond (nat_eq other.0 pass.0) (option_or verticle (verticle_of other old)) (verticle_of other old)) ≡ kept_after pass (option_map state_in verticle) (calls.Take lane) r other (kept_state other old)
    by_reply (replies.Task task) answered legal hands other =
        let v = verticle_of other old in
        ap (λ b. option_map state_in (cond b (option_or verticle v) v)) (same_number other.0 pass.0)
        ∙ elim (pass.0 == other.0) as (λ b. (pass.0 == other.0) ≡ b → option_map state_in (cond b (option_or verticle v) v) ≡ cond b (option_map state_in verticle) (option_map state_in v)) [
          | true ↦ λ its. anew verticle v (here task answered legal other its)
          | false ↦ λ others. refl
        ] refl
    by_reply r answered legal hands other = nothing (nat_eq other.0 pass.0) verticle (verticle_of other old) hands

-- a pass that ends its task keeps nothing
pub finish_on : (old new : List (ℕ × HostVerticle)) (history : List Traced) (pass : PassNo) (end : End) (reply : Reply) → AreHeld old history → reply ≡ answer history pass (calls.Finish end) →
    IsLegal (extended_with history pass (calls.Finish end) reply (option_to_list (kept_state pass old))) →
    ((other : PassNo) → verticle_of other new ≡ cond (is_accepted reply && nat_eq other.0 pass.0) None (verticle_of other old)) → AreHeld new (extended_with history pass (calls.Finish end) reply (option_to_list (kept_state pass old)))
finish_on old new history pass end reply are answered legal keeps =
    goes_on old new history pass are (calls.Finish end) reply (option_to_list (kept_state pass old)) answered (λ other is. ap option_to_list (are.each pass)) legal None (λ handed. absurd cc)
    (λ other. ap (option_map state_in) (keeps other) ∙ none_if (is_accepted reply) (nat_eq other.0 pass.0) (verticle_of other old) ∙ ap (λ b. cond (is_accepted reply && b) None (kept_state other old)) (same_number other.0 pass.0))
  where
    none_if : (a b : Bool) (v : Option HostVerticle) → option_map state_in (cond (a && b) None v) ≡ cond (a && b) None (option_map state_in v)
    none_if true true v = refl
    none_if true false v = refl
    none_if false b v = refl

-- whether a call takes a task, or ends one
abbrev pub moves_tasks : Call → Bool
moves_tasks (calls.Take lane) = true
moves_tasks (calls.Finish end) = true
moves_tasks _ = false

-- a plain call does neither
pub plain_moves : (call : Call) → is_plain call ≡ true → moves_tasks call ≡ false
plain_moves (calls.Take lane) plain = absurd cc
plain_moves (calls.Finish end) plain = absurd cc
plain_moves call plain = refl

-- no other call changes what passes hold
pub others_on : (held : List (ℕ × HostVerticle)) (history : List Traced) (pass : PassNo) (call : Call) (reply : Reply) (states : List (List ℤ)) → moves_tasks call ≡ false → AreHeld held history → reply ≡ answer history pass call →
    IsLegal (extended_with history pass call reply states) → AreHeld held (extended_with history pass call reply states)
others_on held history pass call reply states other are answered legal =
    goes_on held held history pass are call reply states answered (λ end is. absurd (let e : true ≡ false = ap moves_tasks (sym is) ∙ other in cc)) legal None (λ handed. absurd (no_task call other handed)) (λ by. sym (by_call call other (pass.0 == by.0) (kept_state by held)))
  where
    no_task : (c : Call) → moves_tasks c ≡ false → hands_out c reply ≡ true → ⊥
    no_task (calls.Take lane) other handed = cc
    no_task c other handed = cc

    by_call : (c : Call) → moves_tasks c ≡ false → (b : Bool) (before : Option (List ℤ)) → cond (hands_out c reply && b) None (cond (ends_task c reply && b) None before) ≡ before
    by_call (calls.Take lane) other b before = absurd cc
    by_call (calls.Finish end) other b before = absurd cc
    by_call c other b before = refl

-- what a pass gave in vain it holds again
pub back_again : (before out after : List (ℕ × HostVerticle)) (pass : PassNo) (verticle : Option HostVerticle) → verticle ≡ verticle_of pass before → ((other : PassNo) → verticle_of other out ≡ cond (nat_eq other.0 pass.0) None (verticle_of other before)) →
    ((other : PassNo) → verticle_of other after ≡ cond (nat_eq other.0 pass.0) (option_or verticle (verticle_of other out)) (verticle_of other out)) → (other : PassNo) → verticle_of other after ≡ verticle_of other before
back_again before out after pass verticle is gone again other =
    let w = verticle_of other before in
    again other ∙ ap (λ v. cond (nat_eq other.0 pass.0) (option_or verticle v) v) (gone other)
    ∙ elim (nat_eq other.0 pass.0) as (λ b. nat_eq other.0 pass.0 ≡ b → cond b (option_or verticle (cond b None w)) (cond b None w) ≡ w) [
      | true ↦ λ its. or_none verticle ∙ is ∙ ap (λ n. lookup (nat_eq n) before) (sym (same_number_as other.0 pass.0 its))
      | false ↦ λ others. refl
    ] refl
  where
    or_none : (v : Option HostVerticle) → option_or v None ≡ v
    or_none None = refl
    or_none (Some x) = refl

-- an instruction that takes no task, and ends none
pub instruction_on : (held : List (ℕ × HostVerticle)) (history : List Traced) (pass : PassNo) (instruction : Instruction) (call : Call) (reply : Reply) (states : List (List ℤ)) → call ≡ first_call instruction → states ≡ states_with history pass instruction →
    moves_tasks (first_call instruction) ≡ false → AreHeld held history → reply ≡ answer history pass call → IsLegal (extended_with history pass call reply states) →
    AreHeld held (extended_with history pass (first_call instruction) reply (states_with history pass instruction))
instruction_on held history pass instruction call reply states is given other are answered legal =
    others_on held history pass (first_call instruction) reply (states_with history pass instruction) other are (answered ∙ ap (answer history pass) is)
    (subst (λ (ss : List (List ℤ)). IsLegal (extended_with history pass (first_call instruction) reply ss)) given (subst (λ (c : Call). IsLegal (extended_with history pass c reply states)) is legal))

-- what stands for the history behind an instruction, by its parts and the machine's reply
pub behind_by : (Stands : List Traced → Type 0) (history : List Traced) (command : Command) (parts : PassNo × Instruction) (reply : Reply) → parts ≡ (command.pass, command.instruction) → reply ≡ answer history parts.0 (first_call parts.1) →
    Stands (extended_with history parts.0 (first_call parts.1) reply (states_with history parts.0 parts.1)) → Stands (behind history command)
behind_by Stands history command parts reply is answered stands =
    subst (λ (p : PassNo × Instruction). Stands (played_with history p.0 (first_call p.1) (states_with history p.0 p.1))) is
    (subst (λ (r : Reply). Stands (extended_with history parts.0 (first_call parts.1) r (states_with history parts.0 parts.1))) answered stands)

-- a pass holds a verticle where the hub's stores say that its task handed one out
pub held_there : (hub : HubStore) (verticles : List (ℕ × HostVerticle)) (history : List Traced) (pass : PassNo) → Plays hub verticles history → is_some (verticle_of pass verticles) ≡ gave_in hub.contexts pass
held_there hub verticles history pass plays =
    sym (some_mapped state_in (verticle_of pass verticles)) ∙ ap is_some (plays.held.each pass) ∙ plays.held.given pass ∙ sym (gave_as hub.contexts history pass plays.stands.parts.parts.all.stores.contexts)
