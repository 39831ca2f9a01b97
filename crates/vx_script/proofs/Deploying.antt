-- Verticles that are made, and calls that deploy them.
use Rattle.std.proofs.Common.{◌≡◌, ℕ, ◌+◌, List, [], ◌∷◌, ◌++◌, ap, sym, ◌∙◌, arith}
use Rattle.std.specs.Prelude.{ℤ, Bool, true, map, replicate, ◌==◌, Option}
use Rattle.std.proofs.lemmas.Bool.Decides.{nat_tests}
use Rattle.std.proofs.lemmas.List.{map-append, replicate_more}
use Rattle.vx_data.specs.declared.ids.ContextId.{ContextId}
use Rattle.vx_call.specs.declared.call.Call.{Call}
use Rattle.vx_call.specs.declared.call.Call.TheVariants as calls
use Rattle.vx_kinds.specs.declared.host.HostVerticle.{HostVerticle}
use Rattle.vx_kinds.specs.Hosts.{state_in}
use Rattle.vx_script.specs.Playing.{deploys_so_many}

same_count : (n m : ℕ) → (n == m) ≡ true → n ≡ m
same_count n m is = grind (arith, nat_tests)

-- a call that deploys so many is this one
pub so_many : (call : Call) (n : ℕ) (worker : Bool) (pool : Option (List ℕ)) (tell : Option ContextId) (count : ℕ) → call ≡ calls.Deploy worker pool tell count → deploys_so_many call n ≡ true → call ≡ calls.Deploy worker pool tell n
so_many call n worker pool tell count is so = is ∙ ap (λ m. calls.Deploy worker pool tell m) (same_count count n (sym (ap (λ c. deploys_so_many c n) is) ∙ so))

-- one more verticle is made
pub one_more : (verticles : List HostVerticle) (n : ℕ) (state : List ℤ) (verticle : HostVerticle) → map state_in verticles ≡ replicate n state → state_in verticle ≡ state → map state_in (verticles ++ verticle ∷ []) ≡ replicate (n + 1) state
one_more verticles n state verticle all one = map-append state_in verticles (verticle ∷ []) ∙ ap (λ (s : List ℤ). map state_in verticles ++ s ∷ []) one ∙ ap (λ (ss : List (List ℤ)). ss ++ state ∷ []) all ∙ replicate_more n state
