-- From the hub's answer in a turn to what the pass knows then.
use Rattle.std.proofs.Common.{◌≡◌, ℕ, ◌<◌, true, false, cond, List, [], ◌∷◌, ◌++◌, length, All, refl, sym, ap, ◌∙◌, subst}
use Rattle.std.specs.Prelude.{ℤ, Option}
use Rattle.std.specs.List.{enumerate_from}
use Rattle.std.proofs.lemmas.List.{append-nil}
use Rattle.std.proofs.lemmas.List.Elements.{All-nil, All-contains}
use Rattle.vx_data.specs.declared.ids.ContextId.{ContextId}
use Rattle.vx_data.specs.declared.ids.PassNo.{PassNo}
use Rattle.vx_message.specs.declared.Lane.{Lane}
use Rattle.vx_call.specs.declared.call.Call.{Call}
use Rattle.vx_call.specs.declared.call.Call.TheVariants as calls
use Rattle.vx_call.specs.declared.reply.Reply.{Reply}
use Rattle.vx_call.specs.declared.history.Traced.{Traced}
use Rattle.vx_call.specs.History.{entry_of}
use Rattle.vx_call.specs.Effects.{marked}
use Rattle.vx_call.specs.Refusals.{is_spent}
use Rattle.vx_call.specs.Passes.{passes}
use Rattle.vx_call.specs.Machine.{answer, extended_with, IsLegal}
use Rattle.vx_call.specs.Unchanged.{IsUnchanged}
use Rattle.vx_turn.specs.declared.machine.Machine.{Ghosts}
use Rattle.vx_turn.specs.Entries.{is_in, GrewByOthers}
use Rattle.vx_turn.specs.Caller.{Caller, mine_of, own_of, Came, SameEntries}
use Rattle.vx_turn.proofs.Facts.{grew_trans, All-one}
use Rattle.vx_turn.proofs.Numbers.{in_of}
use Rattle.vx_instances.specs.Instances.{gives, handler_in}
use Rattle.vx_hub.specs.Passes.{pass_of, opens}
use Rattle.vx_hub.specs.Stores.{HubStore}
use Rattle.vx_hub.specs.Stands.{AllStand, StandsFor, Answered, Meets, Keeps}
use Rattle.vx_host.specs.Turns.{pass_no, HasTurn, Adds, HasLeft}
use Rattle.vx_host.specs.Hub.{Takes}
use Rattle.vx_host.specs.Calls.{call_entry, machine_entry, Called, Took, AddedNothing}

-- a hub, as turns see a machine
abbrev pub the_hub : Ghosts HubStore Traced
the_hub = record { stands_for = AllStand; legal = IsLegal; pass_of = pass_of; passes = passes; opens = opens }

-- the history that a call leaves
pub extended_by : (history : List Traced) (pass : PassNo) (call : Call) (reply : Reply) (states : List (List ℤ)) → extended_with history pass call reply states ≡ history ++ call_entry history pass call reply states
extended_by history pass call reply states =
    let entry = entry_of pass call reply states (marked history pass call reply) ∷ [] in
    elim (is_spent history) as (λ b. cond b history (history ++ entry) ≡ history ++ cond b [] entry) [ true ↦ sym (append-nil history) | false ↦ refl ]

-- the entry is the pass's
pub entry_own : (history : List Traced) (pass : PassNo) (call : Call) (reply : Reply) (states : List (List ℤ)) → All (λ e. pass_of e ≡ pass.0) (call_entry history pass call reply states)
entry_own history pass call reply states =
    let P : Traced → Type 0 = λ e. pass_of e ≡ pass.0 in
    let entry = entry_of pass call reply states (marked history pass call reply) in
    elim (is_spent history) as (λ b. All P (cond b [] (entry ∷ []))) [ true ↦ All-nil P | false ↦ All-one P entry refl ]

-- a call that its pass made in a turn, it made as it came
pub called_since : (before turn after : Caller Traced) (call : Call) (reply : Reply) (states : List (List ℤ)) → Came IsLegal pass_of passes before turn → SameEntries pass_of before turn → Called turn call reply states after → Called before call reply states after
called_since before turn after call reply states came same called =
    let no : pass_no turn ≡ pass_no before = ap (λ n. let p : PassNo = record { 0 = n } in p) came.number in
    let history = called.history in
    let entry = ap (λ p. call_entry history p call reply states) no in
    record {
      number = called.number ∙ came.number;
      numbers = called.numbers ∙ came.numbers;
      history = history;
      found = grew_trans pass_of before.numbers before.seen turn.seen history came.seen (subst (λ ns. GrewByOthers pass_of ns turn.seen history) came.numbers called.found);
      answered = called.answered ∙ ap (λ p. answer history p call) no;
      seen = called.seen ∙ ap (λ es. history ++ es) entry;
      is_legal = called.is_legal;
      mine = called.mine ∙ (ap (λ ms. ms ++ enumerate_from (length history) (call_entry history (pass_no turn) call reply states)) same.mine ∙ ap (λ es. mine_of pass_of before ++ enumerate_from (length history) es) entry);
      own = called.own ∙ (ap (λ ms. ms ++ enumerate_from (length history) (call_entry history (pass_no turn) call reply states)) same.own ∙ ap (λ es. own_of pass_of before ++ enumerate_from (length history) es) entry);
      refused = called.refused;
    }

-- what the pass knows when the turn has ended
called_in : (turn after : Caller Traced) (left : HubStore) (call : Call) (reply : Reply) (states : List (List ℤ)) → Answered left turn.seen (pass_no turn) call reply states → HasLeft the_hub turn after (call_entry turn.seen (pass_no turn) call reply states)
    → Called turn call reply states after
called_in turn after left call reply states answered leaves =
    let entry = call_entry turn.seen (pass_no turn) call reply states in
    let seen : after.seen ≡ turn.seen ++ entry = ap (λ (c : Caller Traced). c.seen) leaves.seen in
    let all : after.seen ≡ extended_with turn.seen (pass_no turn) call reply states = seen ∙ sym (extended_by turn.seen (pass_no turn) call reply states) in
    record {
      number = ap (λ (c : Caller Traced). c.number) leaves.seen;
      numbers = ap (λ (c : Caller Traced). c.numbers) leaves.seen;
      history = turn.seen;
      found = ([], append-nil turn.seen, All-nil _);
      answered = answered.answered;
      seen = seen;
      is_legal = subst IsLegal (sym all) answered.stands.legal;
      mine = leaves.mine;
      own = leaves.own;
      refused = λ no. subst (IsUnchanged turn.seen) (sym all) (answered.refused no);
    }

-- the pass that came to its turn has still its number
pub still_in : (before turn : Caller Traced) → is_in before.numbers before.number ≡ true → Came IsLegal pass_of passes before turn → is_in turn.numbers turn.number ≡ true
still_in before turn own came =
    let P : List ℕ → Type 0 = λ ns. is_in ns turn.number ≡ true in
    let Q : ℕ → Type 0 = λ n. is_in before.numbers n ≡ true in
    subst P (sym came.numbers) (subst Q (sym came.number) own)

-- ## A call in a turn

module _ (before turn : Caller Traced) (found : HubStore) (own : is_in before.numbers before.number ≡ true) (has : HasTurn the_hub before turn found) where
  same_no : pass_no turn ≡ pass_no before
  same_no = ap (λ n. let p : PassNo = record { 0 = n } in p) has.came.number

  -- the pass is there
  is_there : turn.number < passes turn.seen
  is_there = let P : ℕ → Type 0 = λ n. n < passes turn.seen in All-contains P turn.numbers turn.number has.came.known (in_of turn.numbers turn.number (still_in before turn own has.came))

  found_stands : StandsFor found turn.seen
  found_stands = record { parts = has.stands.parts; instances = has.stands.instances; legal = has.came.is_legal }

  lent_stands : (lent : HubStore) → lent ≡ found → StandsFor lent turn.seen
  lent_stands lent same = let P : HubStore → Type 0 = λ hub. StandsFor hub turn.seen in subst P (sym same) found_stands

  -- ... and the hub knows it
  pub is_known : (lent : HubStore) → lent ≡ found → turn.number < lent.passes
  is_known lent same = let P : ℕ → Type 0 = λ n. turn.number < n in subst P (sym (lent_stands lent same).parts.parts.passes) is_there

  -- so the hub answers it as the machine does
  pub is_answered : (lent kept left : HubStore) (call : Call) (reply : Reply) (states : List (List ℤ)) → lent ≡ found → kept ≡ left → Meets lent kept (pass_no turn) call reply states → Answered left turn.seen (pass_no turn) call reply states
  is_answered lent kept left call reply states same is meets = let P : HubStore → Type 0 = λ hub. Answered hub turn.seen (pass_no turn) call reply states in subst P is (meets turn.seen (lent_stands lent same) is_there)

  -- ... and finds what the history has
  pub is_so : (P : List Traced → Type 0) (lent : HubStore) → lent ≡ found → ((history : List Traced) → StandsFor lent history → turn.number < passes history → P history) → P turn.seen
  is_so P lent same so = so turn.seen (lent_stands lent same) is_there

  machine_says : (left : HubStore) (call : Call) (reply : Reply) (states : List (List ℤ)) → Answered left turn.seen (pass_no turn) call reply states → machine_entry turn.seen (pass_no before) call states ≡ call_entry turn.seen (pass_no turn) call reply states
  machine_says left call reply states answered = sym (ap (λ r. call_entry turn.seen (pass_no turn) call r states) answered.answered ∙ ap (λ p. machine_entry turn.seen p call states) same_no)

  -- the hub stands for the history with the entry, which is the pass's
  pub adds_entry : (left : HubStore) (call : Call) (reply : Reply) (states : List (List ℤ)) → Answered left turn.seen (pass_no turn) call reply states → Adds the_hub turn left (machine_entry turn.seen (pass_no before) call states)
  adds_entry left call reply states answered =
      let entry = machine_says left call reply states answered in
      let after = extended_by turn.seen (pass_no turn) call reply states ∙ ap (λ es. turn.seen ++ es) (sym entry) in
      let stands = subst (StandsFor left) after answered.stands in
      record {
        stands = record { parts = stands.parts; instances = stands.instances };
        is_legal = stands.legal;
        own = subst (All (λ e. pass_of e ≡ turn.number)) (sym entry) (entry_own turn.seen (pass_no turn) call reply states);
      }

  -- ... and the pass has made the call
  pub has_made : (left : HubStore) (after : Caller Traced) (call : Call) (reply : Reply) (states : List (List ℤ)) → Answered left turn.seen (pass_no turn) call reply states → HasLeft the_hub turn after (machine_entry turn.seen (pass_no before) call states) → Called before call reply states after
  has_made left after call reply states answered leaves =
      called_since before turn after call reply states has.came has.entries (called_in turn after left call reply states answered (subst (HasLeft the_hub turn after) (machine_says left call reply states answered) leaves))

  -- a hub that keeps its history
  pub still_stands : (lent kept left : HubStore) → lent ≡ found → kept ≡ left → Keeps lent kept → AllStand left turn.seen
  still_stands lent kept left same is keeps =
      let P : HubStore → Type 0 = λ hub. StandsFor hub turn.seen in
      let stands = subst P is (keeps turn.seen (lent_stands lent same)) in
      record { parts = stands.parts; instances = stands.instances }

  -- a turn in which nothing was added
  pub adds_nothing : (lent kept left : HubStore) → lent ≡ found → kept ≡ lent → kept ≡ left → Adds the_hub turn left []
  adds_nothing lent kept left same still is =
      let P : HubStore → Type 0 = λ hub. AllStand hub turn.seen in
      let back = sym (append-nil turn.seen) in
      record { stands = subst (AllStand left) back (subst P (sym same ∙ (sym still ∙ is)) has.stands); is_legal = subst IsLegal back has.came.is_legal; own = All-nil _ }

  pub added_nothing : (after : Caller Traced) → after ≡ turn → AddedNothing before after
  added_nothing after is = let P : Caller Traced → Type 0 = λ c. AddedNothing before c in subst P (sym is) (record { came = has.came; entries = has.entries })

  pub has_left : (after : Caller Traced) → HasLeft the_hub turn after [] → after ≡ turn
  has_left after leaves = leaves.seen ∙ ap (λ h. record turn { seen = h }) (append-nil turn.seen)

  -- ... and taken a task
  pub has_taken : (lent kept left : HubStore) → lent ≡ found → kept ≡ left → (after : Caller Traced) (lane : Lane) (reply : Reply) (context : Option ContextId) (state : Option (List ℤ)) → Takes lent kept (pass_no turn) lane reply context state
      → HasLeft the_hub turn after (machine_entry turn.seen (pass_no before) (calls.Take lane) []) → Took before lane reply context state after
  unfolding has_made called_since called_in
  has_taken lent kept left same is after lane reply context state takes leaves = record {
    called = has_made left after (calls.Take lane) reply [] (is_answered lent kept left (calls.Take lane) reply [] same is takes.answered) leaves;
    on_context = is_so (λ history. context ≡ handler_in history reply) lent same takes.on_context;
    gives = is_so (λ history. state ≡ gives history (calls.Take lane) reply) lent same takes.gives;
  }
