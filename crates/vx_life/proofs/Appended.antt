-- So many stops, and the next one.
use Rattle.std.proofs.Common.{◌≡◌, ℕ, ◌+◌, suc, [], ◌∷◌, ◌++◌, List, map, ap, sym, ◌∙◌, append_assoc, arith}
use Rattle.std.specs.Prelude.{Bool, true, cond}
use Rattle.std.proofs.lemmas.List.{map-append}
use Rattle.vx_data.specs.declared.ids.DeploymentId.{DeploymentId}
use Rattle.vx_tree.specs.Nodes.{contexts_of}
use Rattle.vx_tree.proofs.Added.{one_more_context}
use Rattle.vx_life.specs.declared.stop.Stop.{Stop}
use Rattle.vx_life.specs.Stores.{untaken, stops_of}

one_more_stop : (id : DeploymentId) (n : ℕ) → stops_of id 0 (n + 1) ≡ stops_of id 0 n ++ untaken (record { entry = id.0; instance = n }) ∷ []
one_more_stop id n =
    ap (stops_of id 0) (let e : n + 1 ≡ suc n = omega arith in e) ∙ ap (map untaken) (one_more_context id 0 n)
    ∙ map-append untaken (contexts_of id 0 n) (record { entry = id.0; instance = 0 + n } ∷ [])
    ∙ ap (λ m. stops_of id 0 n ++ untaken (record { entry = id.0; instance = m }) ∷ []) (let e : 0 + n ≡ n = omega arith in e)

-- the stops with the next one behind them
pub appended : (id : DeploymentId) (n : ℕ) (old now new : List Stop) (ok : Bool) → ok ≡ true → now ≡ old ++ stops_of id 0 n
    → new ≡ cond ok (now ++ untaken (record { entry = id.0; instance = n }) ∷ []) now → new ≡ old ++ stops_of id 0 (n + 1)
appended id n old now new ok is_ok so_far is_new =
    let next : Stop = untaken (record { entry = id.0; instance = n }) in
    is_new ∙ ap (λ b. cond b (now ++ next ∷ []) now) is_ok ∙ ap (λ cs. cs ++ next ∷ []) so_far ∙ append_assoc old (stops_of id 0 n) (next ∷ []) ∙ ap (λ cs. old ++ cs) (sym (one_more_stop id n))
