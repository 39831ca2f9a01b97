-- The first of several causes, however they are grouped.
use Rattle.std.proofs.Common.{◌≡◌, ℕ, ◌≤◌, refl, ap, sym, ◌∙◌, arith}
use Rattle.std.specs.Prelude.{Option, None, Some, Bool, true, false, nat_lt}
use Rattle.std.specs.Option.{option_or}
use Rattle.std.proofs.lemmas.Bool.Decides.{nat_tests}
use Rattle.vx_call.specs.declared.reply.Refusal.{Refusal}
use Rattle.vx_call.specs.declared.reply.Refusal.TheVariants as refusals
use Rattle.vx_call.specs.Refusals.{refused_if, over}

grouped : {X : Type 0} (a b c : Option X) → option_or (option_or a b) c ≡ option_or a (option_or b c)
grouped None b c = refl
grouped (Some x) b c = refl

-- the causes so far: with the rest behind them they are these
pub record IsChain {X : Type 0} (so_far : Option X) (causes : Option X → Option X) : Type 0 where
  pub behind : (rest : Option X) → option_or so_far rest ≡ causes rest

pub first : {X : Type 0} {cause is : Option X} → cause ≡ is → IsChain cause (option_or is)
first same = record { behind = λ rest. ap (λ o. option_or o rest) same }

pub more : {X : Type 0} {so_far next cause is : Option X} {causes : Option X → Option X} → IsChain so_far causes → next ≡ option_or so_far cause → cause ≡ is → IsChain next (λ rest. causes (option_or is rest))
more {so_far = so_far} {cause = cause} {is = is} {causes = causes} chain or same =
    record { behind = λ rest. ap (λ o. option_or o rest) or ∙ grouped so_far cause rest ∙ chain.behind (option_or cause rest) ∙ ap (λ o. causes (option_or o rest)) same }

pub last : {X : Type 0} {so_far all cause is : Option X} {causes : Option X → Option X} → IsChain so_far causes → all ≡ option_or so_far cause → cause ≡ is → all ≡ causes is
last {cause = cause} {causes = causes} chain or same = or ∙ chain.behind cause ∙ ap causes same

-- where there is no cause, neither was one of two
pub none_of_first : {X : Type 0} (a b : Option X) → option_or a b ≡ None → a ≡ None
none_of_first None b none = refl
none_of_first (Some x) b none = cc

pub none_of_second : {X : Type 0} (a b : Option X) → option_or a b ≡ None → b ≡ None
none_of_second None b none = none
none_of_second (Some x) b none = cc

-- there is no cause where a test fails
pub none_refused : (test : Bool) (refusal : Refusal) → refused_if test refusal ≡ None → test ≡ false
none_refused true refusal none = cc
none_refused false refusal none = refl

pub none_over : (limit amount : ℕ) → over limit amount ≡ None → amount ≤ limit
none_over limit amount none = let fails = none_refused (nat_lt limit amount) (refusals.TooLarge limit) none in grind (arith, nat_tests)
