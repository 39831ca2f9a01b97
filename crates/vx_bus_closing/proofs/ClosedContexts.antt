-- Which contexts an entry closes that closes one.
use Rattle.std.proofs.Common.{◌≡◌, List, [], ◌∷◌, ap, ◌∙◌}
use Rattle.std.specs.Prelude.{true, cond, Some}
use Rattle.std.specs.Option.{option_map, option_to_list}
use Rattle.vx_data.specs.declared.ids.ContextId.{ContextId}
use Rattle.vx_data.specs.declared.ids.PassNo.{PassNo}
use Rattle.vx_call.specs.declared.call.Call.{Call}
use Rattle.vx_call.specs.declared.call.Call.TheVariants as calls
use Rattle.vx_call.specs.declared.history.Traced.{Traced}
use Rattle.vx_call.specs.History.{made_by}
use Rattle.vx_call.specs.Closings.{closing_by, closing, closing_made, closing_kind, ClosesOne}
use Rattle.vx_call.proofs.Closing.{may_close_one}
use Rattle.vx_call.proofs.ClosedWith.{one_call}

made_closing : (history : List Traced) (pass : PassNo) (call : Call) (context : ContextId) → may_close_one call ≡ true → closing_by history pass call ≡ Some context → closing_made history pass call ≡ closing history context ∷ []
made_closing history pass (calls.StartDone result) context may closes = ap (λ o. option_to_list (option_map (closing history) o)) closes
made_closing history pass calls.StopDone context may closes = ap (λ o. option_to_list (option_map (closing history) o)) closes
made_closing history pass (calls.Finish end) context may closes = ap (λ o. option_to_list (option_map (closing history) o)) closes
made_closing history pass _ context may closes = absurd cc

pub closing_now : (history : List Traced) (new : Traced) (context : ContextId) → ClosesOne history new context → made_by closing_kind history new ≡ closing history context ∷ []
closing_now history new context one =
    ap (λ b. cond b (closing_made history new.entry.pass new.entry.call) []) one.accepted
    ∙ made_closing history new.entry.pass new.entry.call context (one_call history new context one) one.closing
