-- Entries that close no context. Each call of the event bus makes such entries, whatever the history was.
use Rattle.std.proofs.Common.{◌≡◌, List, [], ◌∷◌, ◌++◌, refl, ap, ◌∙◌}
use Rattle.std.specs.Prelude.{true, false, cond, find, None}
use Rattle.std.specs.Option.{option_map, option_to_list}
use Rattle.vx_data.specs.declared.ids.ContextId.{ContextId}
use Rattle.vx_data.specs.declared.ids.PassNo.{PassNo}
use Rattle.vx_call.specs.declared.call.Call.{Call}
use Rattle.vx_call.specs.declared.call.Call.TheVariants as calls
use Rattle.vx_call.specs.declared.history.Traced.{Traced}
use Rattle.vx_call.specs.History.{made_by, is_accepted}
use Rattle.vx_call.specs.Built.{IsStored}
use Rattle.vx_call.specs.Closings.{Closing, closing, closing_by, closes, closing_made, closing_kind, is_closing_of, closed_at}
use Rattle.vx_call.proofs.Lasting.{lasting_same, and_false}
use Rattle.vx_call.proofs.Quiet.{IsQuiet, quiet_call, quiet_closing, quiet_closes, is_loud}

-- an entry whose effects the stores keep, and which closes no context
pub record KeepsOpen (history : List Traced) (new : Traced) : Type 0 where
  pub stored : IsStored new
  pub closing : closing_by history new.entry.pass new.entry.call ≡ None
  pub closes : (context : ContextId) → closes history new.entry.pass new.entry.call context ≡ false

-- as one is that ends no start and no stop
pub quiet_keeps : (history : List Traced) (new : Traced) → IsStored new → IsQuiet history new → KeepsOpen history new
quiet_keeps history new stored quiet = record { stored = stored; closing = quiet_closing history new quiet; closes = quiet_closes history new quiet }

-- ... whose call alone says so
pub call_keeps : (history : List Traced) (new : Traced) → IsStored new → is_loud new.entry.call ≡ false → KeepsOpen history new
call_keeps history new stored quiet = quiet_keeps history new stored (quiet_call history new.entry.pass new.entry.call quiet)

no_closing_made : (history : List Traced) (pass : PassNo) (call : Call) → closing_by history pass call ≡ None → ((context : ContextId) → closes history pass call context ≡ false) → closing_made history pass call ≡ []
no_closing_made history pass calls.Close none kept = let no : true ≡ false = kept (record { entry = record { 0 = 0 }; instance = 0 }) in absurd cc
no_closing_made history pass call none kept = ap (λ o. option_to_list (option_map (closing history) o)) none

pub made_no_closing : (history : List Traced) (new : Traced) → KeepsOpen history new → made_by closing_kind history new ≡ []
made_no_closing history new keeps =
    ap (λ xs. cond (is_accepted new.entry.reply) xs []) (no_closing_made history new.entry.pass new.entry.call keeps.closing keeps.closes)
    ∙ elim (is_accepted new.entry.reply) as (λ b. cond {A = List Closing} b [] [] ≡ []) [ true ↦ refl | false ↦ refl ]

-- an entry that closes none leaves what is closed, and so does a refused one
pub closed_left : (history : List Traced) (new : Traced) (id : ContextId) → made_by closing_kind history new ≡ [] → closed_at (history ++ new ∷ []) id ≡ closed_at history id
closed_left history new id none =
    ap (λ all. option_map (λ (closing : Closing). closing.at) (find (is_closing_of id) all)) (lasting_same closing_kind history new none (λ closing. and_false (is_accepted new.entry.reply)))

pub closed_kept : (history : List Traced) (new : Traced) (id : ContextId) → KeepsOpen history new → closed_at (history ++ new ∷ []) id ≡ closed_at history id
closed_kept history new id keeps = closed_left history new id (made_no_closing history new keeps)
