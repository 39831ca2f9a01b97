-- The words behind the first one, and the ending: what is read is spelled so, and what is spelled so is read.
use Rattle.std.proofs.Common.{◌≡◌, ℕ, List, [], ◌∷◌, ◌++◌, refl, Some, subst}
use Rattle.vx_words.specs.Grammar.{Token, Values, Ending, Follow}
use Rattle.vx_words.specs.Reading.{token_at, values_at}
use Rattle.vx_words.proofs.Words.{IsTail, bind_some, spaces_tail, word_again}
use Rattle.vx_words.proofs.Tokens.{token_again}
use Rattle.vx_words.proofs.Nexts.{value_take}
use Rattle.vx_words.proofs.Endings.{ends_take, ends_again, ends_tail}

pub values_take : (tokens : List Token) (ending : Ending) (tail : List ℕ) (values : Values tokens ending) → values_at tokens ending tail ≡ Some values → Follow tokens ending values tail
values_take [] ending tail values h = ends_take ending tail values h
values_take (token ∷ tokens) ending tail values h =
    let x = bind_some (token_at token tail) _ values h in
    let y = bind_some (values_at tokens ending x.0.1) _ values x.2 in
    let p = value_take token tail x.0 x.1 in
    let e : (x.0.0, y.0) ≡ values = cc in
    subst (λ (v : Values (token ∷ tokens) ending). Follow (token ∷ tokens) ending v tail) e (p.spaces, p.word, x.0.1, p.split, p.is, p.spells, values_take tokens ending x.0.1 y.0 y.1)

pub follows_tail : (tokens : List Token) (ending : Ending) (values : Values tokens ending) (rest : List ℕ) → Follow tokens ending values rest → IsTail rest
follows_tail [] ending values rest f = ends_tail ending values rest f
follows_tail (token ∷ tokens) ending values rest f = spaces_tail f.0 rest (f.1 ++ f.2) f.3

pub values_again : (tokens : List Token) (ending : Ending) (values : Values tokens ending) (tail : List ℕ) → Follow tokens ending values tail → values_at tokens ending tail ≡ Some values
values_again [] ending values tail f = ends_again ending values tail f
values_again (token ∷ tokens) ending values tail f =
    let q = follows_tail tokens ending values.1 f.2 f.6 in
    rw (f.3) (rw (word_again f.0 f.1 f.2 f.4 q) (rw (token_again token values.0 f.1 f.5) (rw (values_again tokens ending values.1 f.2 f.6) refl)))
