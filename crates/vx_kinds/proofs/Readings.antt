-- A state says what it was made of.
use Rattle.std.specs.Prelude.{◌≡◌, ℕ, ℤ, pos, List, [], ◌∷◌, ◌++◌, map, refl}
use Rattle.std.proofs.Common.{ap, ◌∙◌}
use Rattle.std.proofs.Math.Seq.{take-append_seam, drop-append_seam}
use Rattle.vx_verticle.specs.declared.verticle.Event.{Event}
use Rattle.vx_kinds.specs.declared.settings.Settings.{Settings}
use Rattle.vx_kinds.specs.States.{counted, natural, first_of, rest_of, state_of, settings_of, own_of}
use Rattle.vx_kinds.specs.Hosts.{due, due_from}

naturals : (numbers : List ℕ) → map natural (map pos numbers) ≡ numbers
naturals [] = refl
naturals (number ∷ numbers) = ap (λ xs. number ∷ xs) (naturals numbers)

first_of-counted : (numbers rest : List ℤ) → first_of (counted numbers ++ rest) ≡ numbers
first_of-counted numbers rest = take-append_seam numbers rest

rest_of-counted : (numbers rest : List ℤ) → rest_of (counted numbers ++ rest) ≡ rest
rest_of-counted numbers rest = drop-append_seam numbers rest

-- three lists, each with its count before it, and what stands behind them
module _ (one two three own : List ℤ) where
  abbrev all : List ℤ
  all = counted one ++ (counted two ++ (counted three ++ own))

  behind_one : rest_of all ≡ counted two ++ (counted three ++ own)
  behind_one = rest_of-counted one (counted two ++ (counted three ++ own))

  behind_two : rest_of (rest_of all) ≡ counted three ++ own
  behind_two = ap rest_of behind_one ∙ rest_of-counted two (counted three ++ own)

  behind_three : rest_of (rest_of (rest_of all)) ≡ own
  behind_three = ap rest_of behind_two ∙ rest_of-counted three own

  second_is : first_of (rest_of all) ≡ two
  second_is = ap first_of behind_one ∙ first_of-counted two (counted three ++ own)

  third_is : first_of (rest_of (rest_of all)) ≡ three
  third_is = ap first_of behind_two ∙ first_of-counted three own

pub settings-state : (kind : ℤ) (settings : Settings) (own : List ℤ) → settings_of (state_of kind settings own) ≡ settings
settings-state kind settings own =
    let address = map pos settings.address in
    let to = map pos settings.to in
    let all : List ℤ = counted address ++ (counted to ++ (counted settings.config ++ own)) in
    let made : List ℕ → List ℕ → List ℤ → Settings = λ a t c. record { address = a; to = t; config = c } in
    ap (λ xs. made (map natural xs) (map natural (first_of (rest_of all))) (first_of (rest_of (rest_of all)))) (first_of-counted address (counted to ++ (counted settings.config ++ own)))
    ∙ ap (λ xs. made (map natural address) (map natural xs) (first_of (rest_of (rest_of all)))) (second_is address to settings.config own)
    ∙ ap (λ xs. made (map natural address) (map natural to) xs) (third_is address to settings.config own)
    ∙ ap (λ xs. made xs (map natural to) settings.config) (naturals settings.address)
    ∙ ap (λ xs. made settings.address xs settings.config) (naturals settings.to)

pub own-state : (kind : ℤ) (settings : Settings) (own : List ℤ) → own_of (state_of kind settings own) ≡ own
own-state kind settings own = behind_three (map pos settings.address) (map pos settings.to) settings.config own

-- so what is due by the state is what is due by its parts
pub due-state : (kind : ℤ) (settings : Settings) (own : List ℤ) (event : Event) → due (state_of kind settings own) event ≡ due_from kind settings own event.task
due-state kind settings own event =
    ap (λ given. due_from kind given (own_of (state_of kind settings own)) event.task) (settings-state kind settings own)
    ∙ ap (λ kept. due_from kind settings kept event.task) (own-state kind settings own)
