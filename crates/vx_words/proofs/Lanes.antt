-- Lanes, and how tasks and starts end: what is read is spelled so, and what is spelled so is read.
use Rattle.std.proofs.Common.{◌≡◌, ℕ, List, refl, Option, Some, None, subst, inl, inr, codes}
use Rattle.std.specs.Str.{bytes_eq}
use Rattle.vx_message.specs.declared.DoneResult.{DoneResult}
use Rattle.vx_message.specs.declared.DoneResult.TheVariants as results
use Rattle.vx_message.specs.declared.Lane.{Lane}
use Rattle.vx_message.specs.declared.Lane.TheVariants as lanes
use Rattle.vx_call.specs.declared.call.End.{End}
use Rattle.vx_call.specs.declared.call.End.TheVariants as ends
use Rattle.vx_words.specs.Grammar.{NoMore, Next, AWord, ANumber, AContext, ASigned, SpellsLane, SpellsEnd, SpellsResult}
use Rattle.vx_words.specs.Reading.{word_at, end_at, lane_by, lane_at, by_word, task_end_by, task_end_at, result_by, result_at}
use Rattle.vx_words.proofs.Words.{IsTail, bind_some, guard_some, chosen, blank_tail}
use Rattle.vx_words.proofs.Nexts.{no_word, end_take, end_again, next_tail, named_take, alone_take, named_again, alone_again}

-- ## Lanes

lane_by_take : (tail : List ℕ) (w : List ℕ × List ℕ) (lane : Lane) → word_at tail ≡ Some w → lane_by w.0 w.1 ≡ Some lane → SpellsLane lane tail
lane_by_take tail w lane e h =
    elim (chosen (bytes_eq w.0 (codes "loop")) _ _ (Some lane) h) [
      | inl t ↦ (let k = named_take tail w (codes "loop") (ANumber 8) (λ (n : ℕ). lanes.Loop n) lane e t.0 t.1 in subst (λ (v : Lane). SpellsLane v tail) k.1 k.2)
      | inr h ↦ (elim (chosen (bytes_eq w.0 (codes "pool")) _ _ (Some lane) h.1) [
        | inl t ↦ (let k = alone_take tail w (codes "pool") lanes.Pool lane e t.0 t.1 in subst (λ (v : Lane). SpellsLane v tail) k.0 k.1)
        | inr h ↦ (elim (chosen (bytes_eq w.0 (codes "named")) _ _ (Some lane) h.1) [
          | inl t ↦ (let k = named_take tail w (codes "named") (ANumber 64) (λ (n : ℕ). lanes.Named (record { 0 = record { 0 = n } })) lane e t.0 t.1 in subst (λ (v : Lane). SpellsLane v tail) k.1 k.2)
          | inr h ↦
              (let g = guard_some (bytes_eq w.0 (codes "own")) _ lane h.1 in
              let k = named_take tail w (codes "own") AContext (λ c. lanes.Own c) lane e g.0 g.1 in
              subst (λ (v : Lane). SpellsLane v tail) k.1 k.2)
        ])
      ])
    ]

pub lane_take : (tail : List ℕ) (lane : Lane) → lane_at tail ≡ Some lane → SpellsLane lane tail
unfolding lane_at
lane_take tail lane h = let w = bind_some (word_at tail) _ lane h in lane_by_take tail w.0 lane w.1 w.2

pub lane_again : (lane : Lane) (tail : List ℕ) → SpellsLane lane tail → lane_at tail ≡ Some lane
unfolding lane_at
lane_again (lanes.Loop number) tail s = let k = named_again tail (codes "loop") (ANumber 8) number (λ (n : ℕ). lanes.Loop n) s in rw k.0 k.1
lane_again lanes.Pool tail s = let k = alone_again tail (codes "pool") lanes.Pool s in rw k.0 k.1
lane_again (lanes.Named pool) tail s = let k = named_again tail (codes "named") (ANumber 64) pool.0.0 (λ (n : ℕ). lanes.Named (record { 0 = record { 0 = n } })) s in rw k.0 k.1
lane_again (lanes.Own context) tail s = let k = named_again tail (codes "own") AContext context (λ c. lanes.Own c) s in rw k.0 k.1

pub lane_tail : (lane : Lane) (tail : List ℕ) → SpellsLane lane tail → IsTail tail
lane_tail (lanes.Loop number) tail s = next_tail (AWord (codes "loop")) tt (Next (ANumber 8) number NoMore) tail s
lane_tail lanes.Pool tail s = next_tail (AWord (codes "pool")) tt NoMore tail s
lane_tail (lanes.Named pool) tail s = next_tail (AWord (codes "named")) tt (Next (ANumber 64) pool.0.0 NoMore) tail s
lane_tail (lanes.Own context) tail s = next_tail (AWord (codes "own")) tt (Next AContext context NoMore) tail s

-- ## How a task ends

end_by_take : (tail : List ℕ) (w : List ℕ × List ℕ) (end : End) → word_at tail ≡ Some w → task_end_by w.0 w.1 ≡ Some end → SpellsEnd end tail
end_by_take tail w end e h =
    elim (chosen (bytes_eq w.0 (codes "later")) _ _ (Some end) h) [
      | inl t ↦ (let k = alone_take tail w (codes "later") ends.Later end e t.0 t.1 in subst (λ (v : End). SpellsEnd v tail) k.0 k.1)
      | inr h ↦ (elim (chosen (bytes_eq w.0 (codes "value")) _ _ (Some end) h.1) [
        | inl t ↦ (let k = named_take tail w (codes "value") (ASigned 63) (λ v. ends.Value v) end e t.0 t.1 in subst (λ (v : End). SpellsEnd v tail) k.1 k.2)
        | inr h ↦ (elim (chosen (bytes_eq w.0 (codes "fail")) _ _ (Some end) h.1) [
          | inl t ↦ (let k = named_take tail w (codes "fail") (ASigned 31) (λ v. ends.Fail v) end e t.0 t.1 in subst (λ (v : End). SpellsEnd v tail) k.1 k.2)
          | inr h ↦
              (let g = guard_some (bytes_eq w.0 (codes "nomemory")) _ end h.1 in
              let k = alone_take tail w (codes "nomemory") ends.NoMemory end e g.0 g.1 in
              subst (λ (v : End). SpellsEnd v tail) k.0 k.1)
        ])
      ])
    ]

pub task_end_take : (tail : List ℕ) (end : End) → task_end_at tail ≡ Some end → SpellsEnd end tail
unfolding task_end_at
task_end_take tail end h = by_next (word_at tail) refl h
  where
    by_next : (o : Option (List ℕ × List ℕ)) → word_at tail ≡ o → by_word ends.Done task_end_by tail o ≡ Some end → SpellsEnd end tail
    by_next None e h =
        let k = bind_some (end_at tail) (λ _. Some ends.Done) end h in
        let same : ends.Done ≡ end = cc in
        subst (λ (v : End). SpellsEnd v tail) same (end_take tail k.0 k.1)
    by_next (Some w) e h = end_by_take tail w end e h

pub task_end_again : (end : End) (tail : List ℕ) → SpellsEnd end tail → task_end_at tail ≡ Some end
unfolding task_end_at
task_end_again ends.Done tail s = rw (no_word tail s) (rw (end_again tail s) refl)
task_end_again ends.Later tail s = let k = alone_again tail (codes "later") ends.Later s in rw k.0 k.1
task_end_again (ends.Value value) tail s = let k = named_again tail (codes "value") (ASigned 63) value (λ v. ends.Value v) s in rw k.0 k.1
task_end_again (ends.Fail code) tail s = let k = named_again tail (codes "fail") (ASigned 31) code (λ v. ends.Fail v) s in rw k.0 k.1
task_end_again ends.NoMemory tail s = let k = alone_again tail (codes "nomemory") ends.NoMemory s in rw k.0 k.1

pub task_end_tail : (end : End) (tail : List ℕ) → SpellsEnd end tail → IsTail tail
task_end_tail ends.Done tail s = blank_tail tail s
task_end_tail ends.Later tail s = next_tail (AWord (codes "later")) tt NoMore tail s
task_end_tail (ends.Value value) tail s = next_tail (AWord (codes "value")) tt (Next (ASigned 63) value NoMore) tail s
task_end_tail (ends.Fail code) tail s = next_tail (AWord (codes "fail")) tt (Next (ASigned 31) code NoMore) tail s
task_end_tail ends.NoMemory tail s = next_tail (AWord (codes "nomemory")) tt NoMore tail s

-- ## How a start ends

result_by_take : (tail : List ℕ) (w : List ℕ × List ℕ) (result : DoneResult) → word_at tail ≡ Some w → result_by w.0 w.1 ≡ Some result → SpellsResult result tail
result_by_take tail w result e h =
    elim (chosen (bytes_eq w.0 (codes "fail")) _ _ (Some result) h) [
      | inl t ↦ (let k = named_take tail w (codes "fail") (ASigned 31) (λ v. results.Fail v) result e t.0 t.1 in subst (λ (v : DoneResult). SpellsResult v tail) k.1 k.2)
      | inr h ↦
          (let g = guard_some (bytes_eq w.0 (codes "nomemory")) _ result h.1 in
          let k = alone_take tail w (codes "nomemory") results.NoMemory result e g.0 g.1 in
          subst (λ (v : DoneResult). SpellsResult v tail) k.0 k.1)
    ]

pub result_take : (tail : List ℕ) (result : DoneResult) → result_at tail ≡ Some result → SpellsResult result tail
unfolding result_at
result_take tail result h = by_next (word_at tail) refl h
  where
    by_next : (o : Option (List ℕ × List ℕ)) → word_at tail ≡ o → by_word results.Ok result_by tail o ≡ Some result → SpellsResult result tail
    by_next None e h =
        let k = bind_some (end_at tail) (λ _. Some results.Ok) result h in
        let same : results.Ok ≡ result = cc in
        subst (λ (v : DoneResult). SpellsResult v tail) same (end_take tail k.0 k.1)
    by_next (Some w) e h = result_by_take tail w result e h

pub result_again : (result : DoneResult) (tail : List ℕ) → SpellsResult result tail → result_at tail ≡ Some result
unfolding result_at
result_again results.Ok tail s = rw (no_word tail s) (rw (end_again tail s) refl)
result_again (results.Fail code) tail s = let k = named_again tail (codes "fail") (ASigned 31) code (λ v. results.Fail v) s in rw k.0 k.1
result_again results.NoMemory tail s = let k = alone_again tail (codes "nomemory") results.NoMemory s in rw k.0 k.1

pub result_tail : (result : DoneResult) (tail : List ℕ) → SpellsResult result tail → IsTail tail
result_tail results.Ok tail s = blank_tail tail s
result_tail (results.Fail code) tail s = next_tail (AWord (codes "fail")) tt (Next (ASigned 31) code NoMore) tail s
result_tail results.NoMemory tail s = next_tail (AWord (codes "nomemory")) tt NoMore tail s
