-- Whole texts, and the answers to them.
use Rattle.std.proofs.Common.{◌≡◌, refl, sym, ◌∙◌, ap, ℕ, ◌<◌, ◌≤◌, ◌⊎◌, inl, inr, List, [], ◌∷◌, ◌++◌, Some, None, Ok, Err, option_and_then, arith, append-nil}
use Rattle.std.proofs.lemmas.Option.{option_and_then_some}
use Rattle.vx_data.specs.Tree.{Tree}
use Rattle.vx_data.specs.Bodies.{tree_depth}
use Rattle.vx_json.specs.Grammar.{settled, IsBlank, IsJson}
use Rattle.vx_json.specs.Reading.{skip, value_at, if_last, json_of}
use Rattle.vx_json.specs.Answers.{IsAnswer}
use Rattle.vx_json.specs.Gives.{Fails}
use Rattle.vx_json.specs.declared.fault.JsonFault.{JsonFault}
use Rattle.vx_json.specs.declared.fault.JsonFault.TheVariants.{BadJson, Deep, NoMemory}
use Rattle.vx_json.specs.Keeps.{Keeps}
use Rattle.vx_json.proofs.Keeping.{kept, keeps, within_or_deep}
use Rattle.vx_json.proofs.SoundValues.{value_sound, skip_sound}
use Rattle.vx_json.proofs.CompleteValues.{complete, skip_over, skip_value, starts, stops_at_blank}

pub record FoundJson (bs : List ℕ) (k : Tree) : Type 0 where
  pub tree : Tree
  pub is : IsJson tree bs
  pub same : k ≡ kept tree

nothing_left : (t k : Tree) (rest : List ℕ) → if_last t rest ≡ Some k → (rest ≡ []) × (t ≡ k)
nothing_left t k [] h = (refl, (cc))
nothing_left t k (b ∷ bs) h = absurd (cc)

pub json_sound : (bs : List ℕ) (k : Tree) → json_of bs ≡ Some k → FoundJson bs k
unfolding json_of
json_sound bs k h =
    option_and_then_some (λ p. if_last p.0 (skip p.1)) (value_at 127 (skip bs)) k h (λ p first g.
    let before = skip_sound bs in
    let found = value_sound 127 (skip bs) p.0 p.1 first in
    let behind = skip_sound p.1 in
    let last = nothing_left p.0 k (skip p.1) g in
    record {
      tree = found.tree;
      is = (
        record {
          before = before.blank;
          inner = found.front;
          after = behind.blank;
          spelled = before.spelled ∙ ap (λ (r : List ℕ). before.blank ++ r) (found.spelled ∙ ap (λ (r : List ℕ). found.front ++ r) (behind.spelled ∙ ap (λ (r : List ℕ). behind.blank ++ r) last.0 ∙ append-nil behind.blank));
          blank_before = before.is_blank;
          is_inner = found.is;
          blank_after = behind.is_blank;
        },
        found.nests,
      );
      same = sym last.1 ∙ found.same;
    })

skip_all : (blank : List ℕ) → IsBlank blank → skip (blank ++ []) ≡ []
unfolding skip
skip_all blank h = skip_over blank [] h

pub json_complete : (bs : List ℕ) (t : Tree) → IsJson t bs → json_of bs ≡ Some (kept t)
unfolding json_of
json_complete bs t is =
    let padded = is.0 in
    ap (λ (xs : List ℕ). option_and_then (λ p. if_last p.0 (skip p.1)) (value_at 127 (skip xs))) padded.spelled
    ∙ ap (λ (xs : List ℕ). option_and_then (λ p. if_last p.0 (skip p.1)) (value_at 127 xs)) (skip_value padded.before padded.inner padded.after padded.blank_before (starts t padded.inner padded.is_inner))
    ∙ ap (λ (xs : List ℕ). option_and_then (λ p. if_last p.0 (skip p.1)) (value_at 127 (padded.inner ++ xs))) (sym (append-nil padded.after))
    ∙ ap (option_and_then (λ p. if_last p.0 (skip p.1))) (complete t 127 padded.inner (padded.after ++ []) padded.is_inner is.1 (stops_at_blank padded.after [] padded.blank_after tt))
    ∙ ap (if_last (kept t)) (skip_all padded.after padded.blank_after)

-- ---- answers

answer_when : (t k : Tree) → k ≡ kept t → tree_depth k ≤ 100 → Keeps (kept t) (settled t) → (tree_depth (settled t) ≤ 100) ⊎ (100 < tree_depth (settled t)) → IsAnswer t (Ok k)
answer_when t k is small h (inl within) = let same = is ∙ h.exact within in (same, small)
answer_when t k is small h (inr deep) = absurd (omega (arith, h.deep deep, ap tree_depth is))

-- a body that is read, and is not too deep
pub answer_body : (t k : Tree) → k ≡ kept t → tree_depth k ≤ 100 → IsAnswer t (Ok k)
answer_body t k is small = answer_when t k is small (keeps t) (within_or_deep (tree_depth (settled t)))

deep_when : (t k : Tree) → k ≡ kept t → 100 < tree_depth k → Keeps (kept t) (settled t) → (tree_depth (settled t) ≤ 100) ⊎ (100 < tree_depth (settled t)) → 100 < tree_depth (settled t)
deep_when t k is large h (inl within) = absurd (omega (arith, ap tree_depth (is ∙ h.exact within)))
deep_when t k is large h (inr deep) = deep

-- one that is
pub answer_deep : (t k : Tree) → k ≡ kept t → 100 < tree_depth k → IsAnswer t (Err Deep)
answer_deep t k is large = deep_when t k is large (keeps t) (within_or_deep (tree_depth (settled t)))

same_some : (a b : Tree) → Some a ≡ Some b → a ≡ b
same_some a b h = cc

-- what was read is what any value of the text gives
pub same_value : (bs : List ℕ) (t k : Tree) → IsJson t bs → json_of bs ≡ Some k → k ≡ kept t
same_value bs t k is h = same_some k (kept t) (sym h ∙ json_complete bs t is)

pub no_value : (bs : List ℕ) (t : Tree) → json_of bs ≡ None → IsJson t bs → ⊥
no_value bs t h is = let some = json_complete bs t is in cc

-- a fault at a text that is a value
pub fails_only : (bs : List ℕ) (t : Tree) (e : JsonFault) → IsJson t bs → Fails e (json_of bs) → IsAnswer t (Err e)
fails_only bs t BadJson is h = no_value bs t h is
fails_only bs t Deep is h = absurd h
fails_only bs t NoMemory is h = tt
