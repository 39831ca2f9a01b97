-- Why a start or a stop is not ended.
use Rattle.std.proofs.Common.{◌≡◌, List, refl, ap, ◌∙◌}
use Rattle.std.specs.Prelude.{◌==◌, true, false, find, is_some, is_none, Option, None, Some}
use Rattle.std.specs.Option.{option_or, option_and_then}
use Rattle.vx_data.specs.declared.ids.ContextId.{ContextId}
use Rattle.vx_data.specs.declared.ids.DeploymentId.{DeploymentId}
use Rattle.vx_data.specs.declared.ids.PassNo.{PassNo}
use Rattle.vx_message.specs.declared.Held.{Held}
use Rattle.vx_call.specs.declared.reply.Refusal.TheVariants as refusals
use Rattle.vx_call.specs.declared.history.Traced.{Traced}
use Rattle.vx_call.specs.Deployments.{held_deployment}
use Rattle.vx_call.specs.Held.{context_held, held_context}
use Rattle.vx_call.specs.Refusals.{no_verticle}
use Rattle.vx_context.specs.Stores.{ContextStore}
use Rattle.vx_context.specs.Stands.{ContextsStand}
use Rattle.vx_bus_refusals.proofs.Chains.{none_refused}

-- the context whose handler a pass holds
pub held_same : (contexts : ContextStore) (history : List Traced) (pass : PassNo) (found : Option ContextId) → ContextsStand contexts history → found ≡ option_and_then context_held (find (λ (h : Held). h.pass.0 == pass.0) contexts.held) → found ≡ held_context history pass
held_same contexts history pass found stands is = is ∙ ap (λ (all : List Held). option_and_then context_held (find (λ (h : Held). h.pass.0 == pass.0) all)) stands.held

-- a cause counts where the ones before it are none
pub behind_none : {X : Type 0} (first second third a b : Option X) → (second ≡ None → a ≡ b) → option_or first (option_or second (option_or third a)) ≡ option_or first (option_or second (option_or third b))
behind_none (Some x) second third a b same = refl
behind_none None (Some x) third a b same = refl
behind_none None None third a b same = ap (option_or third) (same refl)

is_there : (o : Option DeploymentId) → is_none o ≡ false → is_some o ≡ true
is_there None away = absurd cc
is_there (Some id) there = refl

pub is_of_verticle : (history : List Traced) (pass : PassNo) → no_verticle history pass ≡ None → is_some (held_deployment history pass) ≡ true
is_of_verticle history pass none = is_there (held_deployment history pass) (none_refused (is_none (held_deployment history pass)) refusals.NoDeployment none)
