-- The entries of passes, and the entries that open one.
use Rattle.std.specs.Prelude.{◌≡◌, ℕ, ◌+◌, ◌≤◌, List, [], ◌∷◌, ◌++◌, length, refl}
use Rattle.std.proofs.Common.{ap, ◌∙◌, arith, append_assoc}
use Rattle.std.specs.Prelude.{true, false, ◌&&◌}
use Rattle.std.proofs.lemmas.List.{append-nil, length-append, length_push}
use Rattle.vx_data.specs.declared.ids.EntryNo.{EntryNo}
use Rattle.vx_call.specs.declared.call.Call.TheVariants as calls
use Rattle.vx_call.specs.declared.reply.Reply.TheVariants as replies
use Rattle.vx_call.specs.declared.history.Traced.{Traced}
use Rattle.vx_call.specs.History.{is_accepted, made_by, ended_by, lasting, plain_entry, no_mark}
use Rattle.vx_call.specs.Passes.{pass_kind, passes}
use Rattle.vx_call.proofs.Lasting.{lasting_more, lasting_none}

-- the number of the pass whose call an entry is
abbrev pub pass_of : Traced → ℕ
pass_of entry = entry.entry.pass.0

-- the entry in which a pass makes one of this number
abbrev pub opens : ℕ → ℕ → Traced
opens pass number = plain_entry (record { 0 = pass }) calls.NewPass (replies.Pass (record { 0 = number })) no_mark

pub opened_by : (pass number : ℕ) → pass_of (opens pass number) ≡ pass
opened_by pass number = refl

-- pass 0 alone is there from the start
pub one_at_first : passes [] ≡ 1
one_at_first = ap (λ ps. length ps + 1) (lasting_none pass_kind)

never_gone : (history : List Traced) (new : Traced) (pass : EntryNo) → ended_by pass_kind history new pass ≡ false
never_gone history new pass = elim (is_accepted new.entry.reply) as (λ b. (b && false) ≡ false) [ true ↦ refl | false ↦ refl ]

passes_with : (history : List Traced) (new : Traced) → passes (history ++ new ∷ []) ≡ length (lasting pass_kind history ++ made_by pass_kind history new) + 1
passes_with history new = ap (λ ps. length ps + 1) (lasting_more pass_kind history new (never_gone history new))

one_rises : (history : List Traced) (new : Traced) → passes history ≤ passes (history ++ new ∷ [])
one_rises history new = let more = length-append (lasting pass_kind history) (made_by pass_kind history new) in rw (passes_with history new) (omega (arith, more))

-- no entry ends a pass
pub passes_rise : (history more : List Traced) → passes history ≤ passes (history ++ more)
passes_rise history [] = rw (append-nil history) (omega arith)
passes_rise history (new ∷ more) =
    let one = one_rises history new in
    let rest = passes_rise (history ++ new ∷ []) more in
    let same = ap passes (append_assoc history (new ∷ []) more) in
    omega (arith, one, rest, same)

-- a pass that is made is one more
pub one_more : (history : List Traced) (pass : ℕ) → passes (history ++ opens pass (passes history) ∷ []) ≡ passes history + 1
one_more history pass = passes_with history (opens pass (passes history)) ∙ ap (λ n. n + 1) (length_push (lasting pass_kind history) (record { 0 = length history }))
