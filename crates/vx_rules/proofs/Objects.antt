-- The object of pairs whose keys are in order already.
use Rattle.std.proofs.Common.{◌≡◌, refl, sym, ◌∙◌, ap, ℕ, ◌≤◌, Bool, true, false, List, [], ◌∷◌, ◌++◌, cond, filter, arith, nat_cmp, Less, Greater, append_assoc, append-nil}
use Rattle.std.proofs.lemmas.Cmp.{nat_list_cmp_total}
use Rattle.std.specs.Cmp.Lexicographic.{slice_cmp}
use Rattle.std.specs.List.{AllByRecursion}
use Rattle.std.specs.Ordering.{match_ordering, ordering_reverse}
use Rattle.vx_data.specs.Tree.{Tree, member}
use Rattle.vx_data.specs.Bodies.{members, keys, put, put_all, gathered, deepest_member, IsInOrder}
use Rattle.vx_message.specs.Codecs.{members_with}

-- a key that is before another is not behind it
behind : (k l : List ℕ) → slice_cmp nat_cmp k l ≡ Less → slice_cmp nat_cmp l k ≡ Greater
behind k l less = nat_list_cmp_total.antisymm l k ∙ ap ordering_reverse less

-- a key before all of the keys is before one in the middle
before_middle : (k : List ℕ) (ps : List (List ℕ × Tree)) (p : List ℕ × Tree) (qs : List (List ℕ × Tree)) → AllByRecursion (λ l. slice_cmp nat_cmp k l ≡ Less) (keys (members (ps ++ p ∷ qs))) → slice_cmp nat_cmp k p.0 ≡ Less
before_middle k [] p qs all = all.0
before_middle k (o ∷ os) p qs all = before_middle k os p qs all.1

-- a pair whose key is behind all others goes last
put_last : (ps : List (List ℕ × Tree)) (p : List ℕ × Tree) (qs : List (List ℕ × Tree)) → IsInOrder (members (ps ++ p ∷ qs)) → put p.0 p.1 (members ps) ≡ members (ps ++ p ∷ [])
put_last [] p qs order = refl
put_last (o ∷ os) p qs order =
    ap (λ c. match_ordering c (member p.0 p.1 (member o.0 o.1 (members os))) (member p.0 p.1 (members os)) (member o.0 o.1 (put p.0 p.1 (members os)))) (behind o.0 p.0 (before_middle o.0 os p qs order.0))
    ∙ ap (member o.0 o.1) (put_last os p qs order.1)

put_in_order : (ps qs : List (List ℕ × Tree)) → IsInOrder (members (ps ++ qs)) → put_all qs (members ps) ≡ members (ps ++ qs)
put_in_order ps [] order = ap members (sym (append-nil ps))
put_in_order ps (q ∷ qs) order =
    ap (put_all qs) (put_last ps q qs order)
    ∙ put_in_order (ps ++ q ∷ []) qs (rw append_assoc order)
    ∙ ap members (append_assoc ps (q ∷ []) qs)

-- pairs in order make their members as they stand
pub gathered_in_order : (ps : List (List ℕ × Tree)) → IsInOrder (members ps) → gathered ps ≡ members ps
gathered_in_order ps order = put_in_order [] ps order

module _ (test : List ℕ → Bool) where
  abbrev kept : List (List ℕ × Tree) → List (List ℕ × Tree)
  kept ps = filter (λ (p : List ℕ × Tree). test p.0) ps

  pub members_kept : (ps : List (List ℕ × Tree)) → members (kept ps) ≡ members_with test (members ps)
  members_kept [] = refl
  members_kept (p ∷ ps) =
      elim (test p.0) as (λ b. members (cond b (p ∷ kept ps) (kept ps)) ≡ cond b (member p.0 p.1 (members_with test (members ps))) (members_with test (members ps))) [
        | true ↦ ap (member p.0 p.1) (members_kept ps)
        | false ↦ members_kept ps
      ]

  keys_kept : (P : List ℕ → Type 0) (ps : List (List ℕ × Tree)) → AllByRecursion P (keys (members ps)) → AllByRecursion P (keys (members (kept ps)))
  keys_kept P [] all = tt
  keys_kept P (p ∷ ps) all =
      elim (test p.0) as (λ b. AllByRecursion P (keys (members (cond b (p ∷ kept ps) (kept ps))))) [
        | true ↦ (all.0, keys_kept P ps all.1)
        | false ↦ keys_kept P ps all.1
      ]

  pub order_kept : (ps : List (List ℕ × Tree)) → IsInOrder (members ps) → IsInOrder (members (kept ps))
  order_kept [] order = tt
  order_kept (p ∷ ps) order =
      elim (test p.0) as (λ b. IsInOrder (members (cond b (p ∷ kept ps) (kept ps)))) [
        | true ↦ (keys_kept _ ps order.0, order_kept ps order.1)
        | false ↦ order_kept ps order.1
      ]

  pub depth_kept : (ps : List (List ℕ × Tree)) → deepest_member (members (kept ps)) ≤ deepest_member (members ps)
  depth_kept [] = omega arith
  depth_kept (p ∷ ps) =
      let rest = depth_kept ps in
      elim (test p.0) as (λ b. deepest_member (members (cond b (p ∷ kept ps) (kept ps))) ≤ deepest_member (members (p ∷ ps))) [
        | true ↦ omega arith
        | false ↦ omega arith
      ]
