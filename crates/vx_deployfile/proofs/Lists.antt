-- The items of a list, one after another.
use Rattle.std.proofs.Common.{◌≡◌, ◌∙◌, sym, ap, ℕ, suc, ◌<◌, ◌≤◌, List, [], ◌∷◌, ◌++◌, length, drop, get_or, drop-cons, Ok, Err, true, arith}
use Rattle.std.specs.Prelude.{if◌then◌else◌, nat_le}
use Rattle.std.proofs.lemmas.Bool.Decides.{nat_tests}
use Rattle.vx_data.specs.Tree.{Tree}
use Rattle.vx_data.specs.Bodies.{elements}
use Rattle.vx_deployfile.specs.declared.fault.FileWhy.TheVariants.{Range}
use Rattle.vx_deployfile.specs.declared.fault.Place.{Place}
use Rattle.vx_deployfile.specs.Fields.{misfit}
use Rattle.vx_deployfile.specs.Files.{each}
use Rattle.vx_deployfile.specs.Verdicts.{Verdict, ◌>>=◌}

-- the values in front of those that are read
abbrev pub onto : {A : Type 0} → List A → Verdict (List A) → Verdict (List A)
onto front more = more >>= λ values. Ok (front ++ values)

-- the next item
next : {A : Type 0} (xs : List A) (i : ℕ) (x : A) → i < length xs → x ≡ get_or xs i x → drop i xs ≡ x ∷ drop (suc i) xs
next xs i x within is = drop-cons xs i x within ∙ ap (λ y. y ∷ drop (suc i) xs) (sym is)

at_least : (m n : ℕ) → m ≤ n → nat_le m n ≡ true
at_least m n h = grind (arith, nat_tests)

-- an item past the most
pub each_over : {A : Type 0} (place : ℕ → Place) (most : ℕ) (read : Place → List A → Tree → Verdict A) (found : List A) (items : List Tree) (i : ℕ) (item : Tree) (all : Verdict (List A))
    → i < length items → item ≡ get_or items i item → length found ≡ most → each place most read found (elements (drop i items)) ≡ all → all ≡ Err (misfit (place most) Range)
each_over place most read found items i item all within is full h =
    sym h ∙ ap (λ rest. each place most read found (elements rest)) (next items i item within is)
    ∙ ap (λ b. if b then Err (misfit (place (length found)) Range) else (read (place (length found)) found item >>= λ x. each place most read (found ++ x ∷ []) (elements (drop (suc i) items)))) (at_least most (length found) (omega (arith, full)))
    ∙ ap (λ n. Err (misfit (place n) Range)) full
