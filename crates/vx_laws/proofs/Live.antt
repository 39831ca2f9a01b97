-- Messages that were not taken are for consumers that are live, and of a context.
use Rattle.std.proofs.Common.{◌≡◌, ℕ, List, [], ◌∷◌, ◌++◌, refl, ap, sym, ◌∙◌, subst}
use Rattle.std.specs.Prelude.{Bool, true, false, not, ◌&&◌, ◌||◌, cond, filter, find, Option, None, Some}
use Rattle.std.proofs.lemmas.Bool.{and_parts}
use Rattle.vx_data.specs.declared.ids.ConnId.{ConnId}
use Rattle.vx_data.specs.declared.ids.ConsumerId.{ConsumerId}
use Rattle.vx_data.specs.declared.ids.ContextId.{ContextId}
use Rattle.vx_data.specs.declared.ids.PassNo.{PassNo}
use Rattle.vx_data.specs.Ids.{same_consumer}
use Rattle.vx_data.specs.Tree.{Tree}
use Rattle.vx_message.specs.declared.Message.{Message}
use Rattle.vx_message.specs.declared.Owner.{Owner}
use Rattle.vx_message.specs.declared.frame.InFrame.{InFrame}
use Rattle.vx_message.specs.declared.frame.InFrame.TheVariants as frames
use Rattle.vx_call.specs.declared.call.Call.{Call}
use Rattle.vx_call.specs.declared.call.Call.TheVariants as calls
use Rattle.vx_call.specs.declared.reply.Reply.{Reply}
use Rattle.vx_call.specs.declared.reply.Task.{Task}
use Rattle.vx_call.specs.declared.reply.Task.TheVariants as tasks
use Rattle.vx_call.specs.declared.history.Consumer.{Consumer}
use Rattle.vx_call.specs.declared.history.Deed.{Deed}
use Rattle.vx_call.specs.declared.history.Deed.TheVariants as deeds
use Rattle.vx_call.specs.declared.history.Mark.{Mark}
use Rattle.vx_call.specs.declared.history.Traced.{Traced}
use Rattle.vx_call.specs.History.{is_accepted, no_mark, made_by, ended_by}
use Rattle.vx_call.specs.Connections.{connection_at, may_send, may_register}
use Rattle.vx_call.specs.Owners.{context_owning, is_owned_by}
use Rattle.vx_call.specs.Registered.{is_named}
use Rattle.vx_call.specs.Given.{context_of}
use Rattle.vx_call.specs.Held.{is_of_context}
use Rattle.vx_call.specs.Closings.{closing_by, closes}
use Rattle.vx_call.specs.Consumers.{unregisters, ends_by_name, closes_owner, ends, consumer_kind, consumers, live, is_at, registered_at}
use Rattle.vx_call.specs.Messages.{received}
use Rattle.vx_call.specs.Mailboxes.{accepting}
use Rattle.vx_call.specs.Requests.{Open}
use Rattle.vx_call.specs.Settled.{settled_made}
use Rattle.vx_call.specs.Items.{task_kind, task_made, closes_task, task_ended, untaken}
use Rattle.vx_call.specs.Deeds.{error, is_long, is_large, sends, sends_on, registering, unregistering, replied_to, deed_of_frame, deed_of}
use Rattle.vx_call.specs.Effects.{mark_of, marked}
use Rattle.vx_call.specs.Machine.{IsLegal, MayFollow}
use Rattle.vx_call.proofs.Lasting.{lasting-append, and_false}
use Rattle.vx_call.proofs.Each.{Each, Each-find, weaken, accepted, lasting_each}
use Rattle.vx_call.proofs.Found.{find_front, find_kept, find_passes}
use Rattle.vx_call.proofs.Consumers.{IsLive, consumers_live, live_found, live_named, same_consumer-self, same_consumer-true}
use Rattle.vx_call.proofs.Contexts.{same_context-swap}
use Rattle.vx_call.proofs.Homes.{context_owner}
use Rattle.vx_call.proofs.Registered.{live_registered, owned_task}
use Rattle.vx_call.proofs.Arrivals.{accepting_live}
use Rattle.vx_call.proofs.Legal.{legal_front}
use Rattle.vx_laws.proofs.Splits.{Each-any}
use Rattle.vx_laws.proofs.Made.{each_made}

-- the consumer is live, and of a context
pub record IsAtHome (history : List Traced) (id : ConsumerId) : Type 0 where
  pub consumer : Consumer
  pub is_live : live history id ≡ Some consumer
  pub context : ContextId
  pub owns : context_owning consumer.owner ≡ Some context

-- so is the one that a message is for
abbrev pub IsForLive : List Traced → Task → Type 0
IsForLive history (tasks.Deliver id message) = IsAtHome history id
IsForLive history _ = Unit {0}

-- a consumer is live until an entry ends it
stays_live : (history : List Traced) (new : Traced) (id : ConsumerId) (consumer : Consumer) → live history id ≡ Some consumer → ended_by consumer_kind history new consumer ≡ false →
    live (history ++ new ∷ []) id ≡ Some consumer
stays_live history new id consumer is_live stays =
    let kept = λ (c : Consumer). not (ended_by consumer_kind history new c) in
    ap (find (is_named id)) (lasting-append consumer_kind history new)
    ∙ find_front (is_named id) (filter kept (consumers history)) (made_by consumer_kind history new) consumer (find_kept (is_named id) kept (consumers history) consumer is_live (ap not stays))

-- ## No frame ends a consumer of a context

module _ (history : List Traced) (consumer : Consumer) (context : ContextId) (is_live : IsLive history consumer) (owns : context_owning consumer.owner ≡ Some context) where
  abbrev Keeps : Deed → Type 0
  Keeps deed = unregisters deed consumer.id ≡ false

  either_keeps : (b : Bool) (deed other : Deed) → Keeps deed → Keeps other → Keeps (cond b deed other)
  either_keeps true deed other one two = one
  either_keeps false deed other one two = two

  not_owned : (conn : ConnId) (c : Consumer) → c ≡ consumer → is_owned_by conn c.owner ≡ true → ⊥
  not_owned conn c same owned =
      let no : is_owned_by conn consumer.owner ≡ false = ap (is_owned_by conn) (context_owner consumer.owner context owns) in
      let yes : is_owned_by conn consumer.owner ≡ true = ap (λ (x : Consumer). is_owned_by conn x.owner) (sym same) ∙ owned in
      cc

  -- a connection's consumer is another one
  another : (conn : ConnId) (address : List ℕ) (c : Consumer) → registered_at history conn address ≡ Some c → same_consumer c.id consumer.id ≡ false
  another conn address c found =
      let test = λ (x : Consumer). is_owned_by conn x.owner && is_at address x in
      let also_live : IsLive history c = Each-find (IsLive history) test (consumers history) c (consumers_live history) found in
      elim (same_consumer c.id consumer.id) as (λ b. same_consumer c.id consumer.id ≡ b → b ≡ false) [
        | true ↦ λ same.
            (let one : Some c ≡ Some consumer = sym also_live ∙ ap (live history) (same_consumer-true c.id consumer.id same) ∙ is_live in
            let alike : c ≡ consumer = cc in
            absurd (not_owned conn c alike (and_parts (is_owned_by conn c.owner) (is_at address c) (find_passes test (consumers history) c found)).0))
        | false ↦ λ differs. refl
      ] refl

  keeps_unregistering : (conn : ConnId) (address : List ℕ) (o : Option Consumer) → registered_at history conn address ≡ o → Keeps (unregistering o)
  keeps_unregistering conn address None is = refl
  keeps_unregistering conn address (Some c) is = another conn address c is

  keeps_registering : (o : Option Consumer) (address : List ℕ) → Keeps (registering o address)
  keeps_registering None address = refl
  keeps_registering (Some c) address = refl

  keeps_sending : (address : List ℕ) (reply : Option (List ℕ)) (headers : List (List ℕ × List ℕ)) (body : Tree) → Keeps (sends address reply headers body)
  keeps_sending address None headers body = refl
  keeps_sending address (Some at) headers body = refl

  keeps_sends_on : (conn : ConnId) (o : Option Open) (address : List ℕ) (reply : Option (List ℕ)) (headers : List (List ℕ × List ℕ)) (body : Tree) → Keeps (sends_on history conn o address reply headers body)
  keeps_sends_on conn None address reply headers body =
      either_keeps (may_send (connection_at history conn) address) (sends address reply headers body) (error _) (keeps_sending address reply headers body) refl
  keeps_sends_on conn (Some request) address reply headers body = refl

  frame_keeps : (conn : ConnId) (frame : InFrame) → Keeps (deed_of_frame history conn frame)
  frame_keeps conn (frames.Register address) =
      either_keeps (may_register (connection_at history conn) address) (registering (registered_at history conn address) address) (error _) (keeps_registering (registered_at history conn address) address) refl
  frame_keeps conn (frames.Unregister address) =
      either_keeps (may_register (connection_at history conn) address) (unregistering (registered_at history conn address)) (error _) (keeps_unregistering conn address (registered_at history conn address) refl) refl
  frame_keeps conn (frames.Send message reply) =
      either_keeps (is_large message.headers message.body || is_long reply) (error _) (sends_on history conn (replied_to history conn message.address) message.address reply message.headers message.body) refl
      (keeps_sends_on conn (replied_to history conn message.address) message.address reply message.headers message.body)
  frame_keeps conn (frames.Publish message) =
      either_keeps (is_large message.headers message.body) (error _)
      (cond (may_send (connection_at history conn) message.address) (deeds.Publishes message.address message.headers message.body) (error _)) refl
      (either_keeps (may_send (connection_at history conn) message.address) (deeds.Publishes message.address message.headers message.body) (error _) refl refl)
  frame_keeps conn _ = refl

  call_keeps : (call : Call) → Keeps (deed_of history call)
  call_keeps (calls.FrameIn conn frame) = frame_keeps conn frame
  call_keeps _ = refl

  mark_keeps : (pass : PassNo) (call : Call) (reply : Reply) → unregisters (marked history pass call reply).deed consumer.id ≡ false
  mark_keeps pass call reply =
      elim (is_accepted reply) as (λ b. unregisters (cond b (mark_of history pass call) no_mark).deed consumer.id ≡ false) [ true ↦ call_keeps call | false ↦ refl ]

  -- ## An entry that ends no message of a consumer does not end the consumer

  same_closing : (closing : Option ContextId) (task : Task) → context_of history task ≡ Some context → closes_task history closing task ≡ false → is_of_context context closing ≡ false
  same_closing None task owned stays = refl
  same_closing (Some c) task owned stays = same_context-swap context c ∙ sym (ap (is_of_context c) owned) ∙ stays

  closes_less : (pass : PassNo) (call : Call) (reply : Reply) (task : Task) → context_of history task ≡ Some context → task_ended history pass call reply task ≡ false → closes history pass call context ≡ false
  closes_less pass calls.Close reply task owned stays = absurd cc
  closes_less pass (calls.StartDone result) reply task owned stays = same_closing (closing_by history pass (calls.StartDone result)) task owned stays
  closes_less pass calls.StopDone reply task owned stays = same_closing (closing_by history pass calls.StopDone) task owned stays
  closes_less pass (calls.Finish end) reply task owned stays = same_closing (closing_by history pass (calls.Finish end)) task owned stays
  closes_less pass _ reply task owned stays = refl

  names_less : (pass : PassNo) (call : Call) (reply : Reply) (deed : Deed) (message : Message) → Keeps deed → task_ended history pass call reply (tasks.Deliver consumer.id message) ≡ false → ends_by_name call deed consumer.id ≡ false
  names_less pass (calls.Unregister other) reply deed message keeps stays = stays
  names_less pass (calls.FrameIn conn frame) reply deed message keeps stays = keeps
  names_less pass _ reply deed message keeps stays = refl

  neither_ends : (pass : PassNo) (call : Call) (mark : Mark) → ends_by_name call mark.deed consumer.id ≡ false → closes history pass call context ≡ false → ends history pass call mark consumer ≡ false
  neither_ends pass call mark by_name closing =
      let P : Owner → Type 0 = λ owner. (ends_by_name call mark.deed consumer.id || closes_owner history pass call mark owner) ≡ false in
      subst P (sym (context_owner consumer.owner context owns)) (ap (λ b. b || closes history pass call context) by_name ∙ closing)

  pub ends_less : (new : Traced) (message : Message) → MayFollow history new → (is_accepted new.entry.reply && task_ended history new.entry.pass new.entry.call new.entry.reply (tasks.Deliver consumer.id message)) ≡ false →
      (is_accepted new.entry.reply && ends history new.entry.pass new.entry.call new.mark consumer) ≡ false
  ends_less new message may stays =
      let pass = new.entry.pass in
      let call = new.entry.call in
      let reply = new.entry.reply in
      let task = tasks.Deliver consumer.id message in
      let owned : context_of history task ≡ Some context = owned_task history consumer task (live_registered history consumer is_live) (same_consumer-self consumer.id) ∙ owns in
      let keeps : Keeps new.mark.deed = ap (λ (mark : Mark). unregisters mark.deed consumer.id) may.mark ∙ mark_keeps pass call reply in
      elim (is_accepted reply) as (λ b. (b && task_ended history pass call reply task) ≡ false → (b && ends history pass call new.mark consumer) ≡ false) [
        | true ↦ λ kept. neither_ends pass call new.mark (names_less pass call reply new.mark.deed message keeps kept) (closes_less pass call reply task owned kept)
        | false ↦ λ refused. refl
      ] stays

  -- an entry that makes a message ends no consumer of a context
  closes_none : (pass : PassNo) (call : Call) (deed : Deed) (message : Message) → received history call deed ≡ Some message → closes history pass call context ≡ false
  closes_none pass calls.Close deed message is_message = absurd cc
  closes_none pass (calls.StartDone result) deed message is_message = absurd cc
  closes_none pass calls.StopDone deed message is_message = absurd cc
  closes_none pass (calls.Finish end) deed message is_message = absurd cc
  closes_none pass _ deed message is_message = refl

  names_none : (call : Call) (deed : Deed) (message : Message) → Keeps deed → received history call deed ≡ Some message → ends_by_name call deed consumer.id ≡ false
  names_none (calls.Unregister other) deed message keeps is_message = absurd cc
  names_none (calls.FrameIn conn frame) deed message keeps is_message = keeps
  names_none _ deed message keeps is_message = refl

  pub ends_none : (new : Traced) (message : Message) → MayFollow history new → received history new.entry.call new.mark.deed ≡ Some message → ends history new.entry.pass new.entry.call new.mark consumer ≡ false
  ends_none new message may is_message =
      let keeps : Keeps new.mark.deed = ap (λ (mark : Mark). unregisters mark.deed consumer.id) may.mark ∙ mark_keeps new.entry.pass new.entry.call new.entry.reply in
      neither_ends new.entry.pass new.entry.call new.mark (names_none new.entry.call new.mark.deed message keeps is_message) (closes_none new.entry.pass new.entry.call new.mark.deed message is_message)

-- ## All that were not taken

keeps_home : (history : List Traced) (new : Traced) (id : ConsumerId) (message : Message) → MayFollow history new → ended_by task_kind history new (tasks.Deliver id message) ≡ false → IsAtHome history id → IsAtHome (history ++ new ∷ []) id
keeps_home history new id message may stays home =
    let consumer : Consumer = home.consumer in
    let named : id ≡ consumer.id = live_named history id consumer home.is_live in
    let b = is_accepted new.entry.reply in
    record {
      consumer = consumer;
      is_live =
          stays_live history new id consumer home.is_live
          (ends_less history consumer home.context (live_found history id consumer home.is_live) home.owns new message may
          (ap (λ i. b && task_ended history new.entry.pass new.entry.call new.entry.reply (tasks.Deliver i message)) (sym named) ∙ stays));
      context = home.context;
      owns = home.owns;
    }

keeps_live : (history : List Traced) (new : Traced) (task : Task) → MayFollow history new → ended_by task_kind history new task ≡ false → IsForLive history task → IsForLive (history ++ new ∷ []) task
keeps_live history new (tasks.Deliver id message) may stays home = keeps_home history new id message may stays home
keeps_live history new _ may stays home = tt

made_live : (history : List Traced) (new : Traced) → MayFollow history new → Each (IsForLive (history ++ new ∷ [])) (task_made history new.entry.pass new.entry.call new.mark.deed)
made_live history new may =
    let after = history ++ new ∷ [] in
    let call = new.entry.call in
    let deed = new.mark.deed in
    let b = is_accepted new.entry.reply in
    each_made (IsForLive after) history new.entry.pass call deed
    (λ message is_message.
    weaken (IsLive history) (λ (consumer : Consumer). (context : ContextId) → context_owning consumer.owner ≡ Some context → IsAtHome after consumer.id) (accepting history call deed)
    (λ consumer is_live context owns. record {
      consumer = consumer;
      is_live = stays_live history new consumer.id consumer is_live (ap (λ e. b && e) (ends_none history consumer context is_live owns new message may is_message) ∙ and_false b);
      context = context;
      owns = owns;
    })
    (accepting_live history call deed))
    (Each-any _ (settled_made history new.entry.pass call deed) (λ s. tt))

abbrev IsForLiveIn : List Traced → Task → Type 0
IsForLiveIn history task = IsLegal history → IsForLive history task

-- what follows for all follows for each
pub each_under : {A : Type 0} (H : Type 0) (P : A → Type 0) (xs : List A) → (H → Each P xs) → Each (λ x. H → P x) xs
each_under H P [] all = tt
each_under H P (x ∷ xs) all = (λ h. (all h).0, each_under H P xs (λ h. (all h).1))

untaken_so : (history : List Traced) → Each (IsForLiveIn history) (untaken history)
untaken_so =
    lasting_each task_kind IsForLiveIn (λ history new task stays before legal. keeps_live history new task (legal history new [] refl) stays (before (legal_front history (new ∷ []) legal)))
    (λ history new. accepted (IsForLiveIn (history ++ new ∷ [])) (is_accepted new.entry.reply) (task_made history new.entry.pass new.entry.call new.mark.deed)
    (λ ok. each_under (IsLegal (history ++ new ∷ [])) (IsForLive (history ++ new ∷ [])) (task_made history new.entry.pass new.entry.call new.mark.deed) (λ legal. made_live history new (legal history new [] refl))))

pub untaken_live : (history : List Traced) → IsLegal history → Each (IsForLive history) (untaken history)
untaken_live history legal = weaken (IsForLiveIn history) (IsForLive history) (untaken history) (λ task so. so legal) (untaken_so history)
