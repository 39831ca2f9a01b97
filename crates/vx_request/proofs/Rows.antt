-- Which requests are found among some, and how many of them are lost or stay.
use Rattle.std.proofs.Common.{◌≡◌, refl, sym, ◌∙◌, ap, ℕ, zero, suc, ◌+◌, ◌≤◌, ◌<◌, Bool, true, false, not, List, [], ◌∷◌, ◌++◌, length, take, get_or, cond, filter, append-nil, arith, Option, None, Some}
use Rattle.std.specs.Prelude.{find}
use Rattle.std.specs.Option.{option_map, option_or}
use Rattle.std.proofs.lemmas.List.Elements.{filter_more}
use Rattle.std.proofs.lemmas.List.Filters.{length-filter_more, length-filter_both}
use Rattle.std.proofs.lemmas.List.Folds.{find-append}
use Rattle.vx_data.specs.declared.ids.EntryNo.{EntryNo}
use Rattle.vx_data.specs.declared.ids.MessageId.{MessageId}
use Rattle.vx_message.specs.declared.Owner.{Owner}
use Rattle.vx_request.specs.declared.requests.OpenRequest.{OpenRequest}
use Rattle.vx_request.specs.Stores.{is_request}

-- nobody asks where none is found, and one is found where somebody asks
pub none_found : (found : Option OpenRequest) → option_map (λ (row : OpenRequest). row.asker) found ≡ None → found ≡ None
none_found None none = refl
none_found (Some row) none = cc

pub one_found : (found : Option OpenRequest) (asker : Owner) → option_map (λ (row : OpenRequest). row.asker) found ≡ Some asker → (row : OpenRequest) × (found ≡ Some row)
one_found None asker one = cc
one_found (Some row) asker one = (row, refl)

-- the entry that a request has ended at, or else this one, where the request is found
abbrev pub ended_with : EntryNo → Option EntryNo → Option OpenRequest → Option EntryNo
ended_with at old found = option_or old (option_map (λ _. at) found)

one_more : (at : EntryNo) (old : Option EntryNo) (found : Option OpenRequest) (b : Bool) (row : OpenRequest) → option_or (ended_with at old found) (cond b (Some at) None) ≡ ended_with at old (option_or found (cond b (Some row) None))
one_more at (Some entry) found b row = refl
one_more at None (Some first) b row = refl
one_more at None None true row = refl
one_more at None None false row = refl

module _ (test : OpenRequest → Bool) where
  -- where none is found, all stay
  pub all_stay : (rows : List OpenRequest) → find test rows ≡ None → rows ≡ filter (λ row. not (test row)) rows
  all_stay [] none = refl
  all_stay (row ∷ rows) none =
      elim (test row) as (λ b. cond b (Some row) (find test rows) ≡ None → row ∷ rows ≡ cond (not b) (row ∷ filter (λ r. not (test r)) rows) (filter (λ r. not (test r)) rows)) [
        | true ↦ λ h. cc
        | false ↦ λ h. ap (λ rest. row ∷ rest) (all_stay rows h)
      ] none

  -- where one is found, one at least passes
  pub some_pass : (rows : List OpenRequest) (first : OpenRequest) → find test rows ≡ Some first → 0 < length (filter test rows)
  some_pass [] first found = cc
  some_pass (row ∷ rows) first found =
      elim (test row) as (λ b. cond b (Some row) (find test rows) ≡ Some first → 0 < length (cond b (row ∷ filter test rows) (filter test rows))) [
        | true ↦ λ h. omega arith
        | false ↦ λ h. some_pass rows first h
      ] found

  -- those that pass and the others are all
  pub all_counted : (rows : List OpenRequest) → length (filter test rows) + length (filter (λ row. not (test row)) rows) ≡ length rows
  all_counted rows = length-filter_both test (λ row. not (test row)) (λ _. refl) rows

  -- among the first n no more pass than among all
  pub fewer_before : (rows : List OpenRequest) (n : ℕ) → length (filter test (take n rows)) ≤ length (filter test rows)
  fewer_before rows zero = omega arith
  fewer_before [] (suc n) = omega arith
  fewer_before (row ∷ rows) (suc n) =
      let rest = fewer_before rows n in
      elim (test row) as (λ b. length (cond b (row ∷ filter test (take n rows)) (filter test (take n rows))) ≤ length (cond b (row ∷ filter test rows) (filter test rows))) [
        | true ↦ omega arith
        | false ↦ rest
      ]

  module _ (rows : List OpenRequest) (i : ℕ) (d : OpenRequest) (within : i < length rows) where
    -- one more row that passes goes last
    pub more_yes : test (get_or rows i d) ≡ true → filter test (take (i + 1) rows) ≡ filter test (take i rows) ++ get_or rows i d ∷ []
    more_yes passes = filter_more test rows i d within ∙ ap (λ b. filter test (take i rows) ++ cond b (get_or rows i d ∷ []) []) passes

    -- and one that fails changes nothing
    pub more_no : test (get_or rows i d) ≡ false → filter test (take (i + 1) rows) ≡ filter test (take i rows)
    more_no fails = filter_more test rows i d within ∙ ap (λ b. filter test (take i rows) ++ cond b (get_or rows i d ∷ []) []) fails ∙ append-nil (filter test (take i rows))

    pub passing_more : test (get_or rows i d) ≡ true → length (filter test (take (i + 1) rows)) ≡ length (filter test (take i rows)) + 1
    passing_more passes = length-filter_more test rows i d within ∙ ap (λ b. length (filter test (take i rows)) + cond b 1 0) passes

    pub failing_more : test (get_or rows i d) ≡ false → length (filter test (take (i + 1) rows)) ≡ length (filter test (take i rows))
    failing_more fails = ap length (more_no fails)

    module _ (id : MessageId) (at : EntryNo) (old now : Option EntryNo) (so_far : now ≡ ended_with at old (find (is_request id) (filter test (take i rows)))) where
      -- what a request has once one more row has ended
      pub ends_one : (new : Option EntryNo) → test (get_or rows i d) ≡ true → new ≡ option_or now (cond (is_request id (get_or rows i d)) (Some at) None) → new ≡ ended_with at old (find (is_request id) (filter test (take (i + 1) rows)))
      ends_one new passes step =
          step ∙ ap (λ o. option_or o (cond (is_request id (get_or rows i d)) (Some at) None)) so_far
          ∙ one_more at old (find (is_request id) (filter test (take i rows))) (is_request id (get_or rows i d)) (get_or rows i d)
          ∙ ap (ended_with at old) (sym (find-append (is_request id) (filter test (take i rows)) (get_or rows i d ∷ [])))
          ∙ ap (λ passed. ended_with at old (find (is_request id) passed)) (sym (more_yes passes))

      pub ends_none : test (get_or rows i d) ≡ false → now ≡ ended_with at old (find (is_request id) (filter test (take (i + 1) rows)))
      ends_none fails = so_far ∙ ap (λ passed. ended_with at old (find (is_request id) passed)) (sym (more_no fails))
