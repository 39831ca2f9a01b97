-- What the connections say is what the map and the queues have.
use Rattle.std.proofs.Common.{◌≡◌, refl, sym, ◌∙◌, ap, ℕ, ◌<◌, ◌≤◌, Bool, true, false, cond, nat_eq, List, [], ◌∷◌, length, get_or, set, is_some, Option, Some, None, arith, length-set, get_or-set_same, get_or-set_other, eqb-true, eq-eqb}
use Rattle.std.specs.Map.{lookup}
use Rattle.vx_data.specs.declared.ids.ConnId.{ConnId}
use Rattle.vx_data.specs.Ids.{same_conn}
use Rattle.vx_message.specs.declared.frame.OutFrame.{OutFrame}
use Rattle.vx_outs.specs.declared.outs.Conn.{Conn}
use Rattle.vx_outs.specs.Queues.{max_waiting}
use Rattle.vx_outs.specs.Outs.{is_there, frames_at, waiting_in, closed_at, closing_in, out_at, out_of, conns_of, conn_at, queue_of, closing_of, frames_of, IsQueued}

abbrev pub Conns : Type 0
Conns = List (ℕ × Conn)

abbrev pub Frames : Type 0
Frames = List (List OutFrame)

-- ## What contracts see of each connection

pub there_kept : (conn : ConnId) (conns : Conns) (queues : Frames) → is_there conn (conns_of conns queues) ≡ is_some (conn_at conn conns)
there_kept conn [] queues = refl
there_kept conn (entry ∷ conns) queues =
    elim (nat_eq conn.0.0 entry.0) as (λ b. is_some (cond b (Some (out_of queues entry.1)) (out_at conn (conns_of conns queues))) ≡ is_some (cond b (Some entry.1) (conn_at conn conns))) [
      | true ↦ refl
      | false ↦ there_kept conn conns queues
    ]

pub frames_kept : (conn : ConnId) (conns : Conns) (queues : Frames) → frames_at conn (conns_of conns queues) ≡ frames_of (conn_at conn conns) queues
frames_kept conn [] queues = refl
frames_kept conn (entry ∷ conns) queues =
    elim (nat_eq conn.0.0 entry.0) as (λ b. waiting_in (cond b (Some (out_of queues entry.1)) (out_at conn (conns_of conns queues))) ≡ frames_of (cond b (Some entry.1) (conn_at conn conns)) queues) [
      | true ↦ refl
      | false ↦ frames_kept conn conns queues
    ]

pub closed_kept : (conn : ConnId) (conns : Conns) (queues : Frames) → closed_at conn (conns_of conns queues) ≡ closing_of (conn_at conn conns)
closed_kept conn [] queues = refl
closed_kept conn (entry ∷ conns) queues =
    elim (nat_eq conn.0.0 entry.0) as (λ b. closing_in (cond b (Some (out_of queues entry.1)) (out_at conn (conns_of conns queues))) ≡ closing_of (cond b (Some entry.1) (conn_at conn conns))) [
      | true ↦ refl
      | false ↦ closed_kept conn conns queues
    ]

-- ## Connections of one number

pub same_number : (conn other : ConnId) → same_conn conn other ≡ true → conn.0.0 ≡ other.0.0
same_number conn other same = eqb-true conn.0.0 other.0.0 same

pub at_number : (conn other : ConnId) (conns : Conns) → conn.0.0 ≡ other.0.0 → conn_at other conns ≡ conn_at conn conns
at_number conn other conns same = ap (λ n. lookup (nat_eq n) conns) (sym same)

-- ## A queue is written

module _ (conns : Conns) (queues : Frames) (queued : IsQueued conns queues) (conn : ConnId) (found : Conn) (here : conn_at conn conns ≡ Some found) (frames : List OutFrame) where
  inside : found.queue < length queues
  inside = queued.within conn found.queue (ap queue_of here)

  other_frames : (other : ConnId) (kept : Option Conn) → conn_at other conns ≡ kept → (conn.0.0 ≡ other.0.0 → ⊥) → frames_of kept (set queues found.queue frames) ≡ frames_of kept queues
  other_frames other None is apart = refl
  other_frames other (Some kept) is apart =
      get_or-set_other queues found.queue kept.queue frames []
      (λ same. apart (queued.own conn other found.queue (ap queue_of here) (ap queue_of is ∙ ap Some same)))

  by_number : (other : ConnId) (b : Bool) → same_conn conn other ≡ b → frames_of (conn_at other conns) (set queues found.queue frames) ≡ cond b frames (frames_of (conn_at other conns) queues)
  by_number other true same =
      ap (λ c. frames_of c (set queues found.queue frames)) (at_number conn other conns (same_number conn other same) ∙ here)
      ∙ get_or-set_same queues found.queue frames [] inside
  by_number other false apart = other_frames other (conn_at other conns) refl (λ same. absurd (let both = eq-eqb conn.0.0 other.0.0 same in cc))

  pub written_frames : (other : ConnId) → frames_of (conn_at other conns) (set queues found.queue frames) ≡ cond (same_conn conn other) frames (frames_of (conn_at other conns) queues)
  written_frames other = by_number other (same_conn conn other) refl

  few_step : (b : Bool) (before : List OutFrame) → length frames ≤ max_waiting → length before ≤ max_waiting → length (cond b frames before) ≤ max_waiting
  few_step true before few old_few = few
  few_step false before few old_few = old_few

  pub written_queued : length frames ≤ max_waiting → IsQueued conns (set queues found.queue frames)
  written_queued few = record {
    within = λ other queue is. let less = queued.within other queue is in omega (arith, less, length-set queues found.queue frames);
    own = queued.own;
    few = λ other. let step = few_step (same_conn conn other) (frames_of (conn_at other conns) queues) few (queued.few other) in let same = ap length (written_frames other) in omega (arith, step, same);
  }

  -- the frames of the connection itself are changed by a function of them
  pub changed : (change : List OutFrame → List OutFrame) → frames ≡ change (get_or queues found.queue []) → (other : ConnId) →
      frames_of (conn_at other conns) (set queues found.queue frames) ≡ cond (same_conn conn other) (change (frames_of (conn_at other conns) queues)) (frames_of (conn_at other conns) queues)
  changed change is other = written_frames other ∙ changed_by (same_conn conn other) refl
    where
      changed_by : (b : Bool) → same_conn conn other ≡ b → cond b frames (frames_of (conn_at other conns) queues) ≡ cond b (change (frames_of (conn_at other conns) queues)) (frames_of (conn_at other conns) queues)
      changed_by true same = is ∙ ap change (sym (ap (λ c. frames_of c queues) (at_number conn other conns (same_number conn other same) ∙ here)))
      changed_by false apart = refl

-- ## An entry of closing is written

frames_by : (a b : Option Conn) (queues : Frames) → queue_of a ≡ queue_of b → frames_of a queues ≡ frames_of b queues
frames_by None None queues same = refl
frames_by None (Some b) queues same = absurd (cc)
frames_by (Some a) None queues same = absurd (cc)
frames_by (Some a) (Some b) queues same = let queue : a.queue ≡ b.queue = cc in ap (λ q. get_or queues q []) queue

there_by : (a b : Option Conn) → queue_of a ≡ queue_of b → is_some a ≡ is_some b
there_by None None same = refl
there_by None (Some b) same = absurd (cc)
there_by (Some a) None same = absurd (cc)
there_by (Some a) (Some b) same = refl

module _ (old new : Conns) (same : (conn : ConnId) → queue_of (conn_at conn new) ≡ queue_of (conn_at conn old)) where
  pub same_frames : (queues : Frames) (conn : ConnId) → frames_of (conn_at conn new) queues ≡ frames_of (conn_at conn old) queues
  same_frames queues conn = frames_by (conn_at conn new) (conn_at conn old) queues (same conn)

  pub same_there : (conn : ConnId) → is_some (conn_at conn new) ≡ is_some (conn_at conn old)
  same_there conn = there_by (conn_at conn new) (conn_at conn old) (same conn)

  pub same_queued : (queues : Frames) → IsQueued old queues → IsQueued new queues
  same_queued queues queued = record {
    within = λ conn queue is. queued.within conn queue (sym (same conn) ∙ is);
    own = λ conn other queue is is'. queued.own conn other queue (sym (same conn) ∙ is) (sym (same other) ∙ is');
    few = λ conn. let frames = ap length (same_frames queues conn) in let few = queued.few conn in omega (arith, frames, few);
  }
