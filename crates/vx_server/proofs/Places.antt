-- The turns that are counted at places, as places begin to have servers and lose them.
use Rattle.std.proofs.Common.{◌≡◌, refl, sym, ◌∙◌, ap, ap₂, subst, ℕ, Bool, true, false, ◌&&◌, ◌||◌, cond, List, [], ◌∷◌, filter, is_some, Option, Some, None, eqb, eqb-true, eq-eqb}
use Rattle.std.specs.List.{list_any}
use Rattle.std.specs.Str.{bytes_eq}
use Rattle.std.proofs.lemmas.Slice.Eq.{bytes_eq-Decides}
use Rattle.vx_server.specs.declared.place.Place.{Place}
use Rattle.vx_server.specs.declared.servers.Server.{Server}
use Rattle.vx_server.specs.Servers.{same_place, listens_at, has_listener, count_at, count_of, turns_at, AreCounted}

-- ## Truth values

both : (a b : Bool) → (a && b) ≡ true → (a ≡ true) × (b ≡ true)
both true b holds = (refl, holds)
both false b holds = absurd (cc)

pub or_left : (a b : Bool) → a ≡ true → (a || b) ≡ true
or_left true b holds = refl
or_left false b holds = absurd (cc)

pub or_right : (a b : Bool) → b ≡ true → (a || b) ≡ true
or_right true b holds = refl
or_right false b holds = holds

or_more : (a b c : Bool) → (b ≡ true → c ≡ true) → (a || b) ≡ true → (a || c) ≡ true
or_more true b c more holds = refl
or_more false b c more holds = more holds

-- ## Places

abbrev place_at : List ℕ → ℕ → Place
place_at host port = record { host = host; port = port }

-- places that compare as the same are
pub same_is : (a b : Place) → same_place a b ≡ true → a ≡ b
same_is a b same =
    let parts = both (bytes_eq a.host b.host) (eqb a.port b.port) same in
    ap₂ place_at ((bytes_eq-Decides a.host b.host).0 parts.0) (eqb-true a.port b.port parts.1)

pub same_itself : (a : Place) → same_place a a ≡ true
same_itself a = ap₂ ◌&&◌ ((bytes_eq-Decides a.host a.host).1 refl) (eq-eqb a.port a.port refl)

-- ## Turns begin to be counted at a place

zero_same : (b : Bool) (old new : Option ℕ) → (b ≡ true → old ≡ None) → new ≡ cond b (Some 0) old → count_of new ≡ count_of old
zero_same true old new none put = ap count_of put ∙ sym (ap count_of (none refl))
zero_same false old new none put = ap count_of put

pub none_counted : (count : Option ℕ) → is_some count ≡ false → count ≡ None
none_counted None none = refl
none_counted (Some count) none = absurd (cc)

-- turns are counted there from 0
pub begun_turns : (place other : Place) (old new : List (Place × ℕ)) → count_at place old ≡ None → count_at other new ≡ cond (same_place place other) (Some 0) (count_at other old) →
    turns_at other new ≡ turns_at other old
begun_turns place other old new none put =
    let Uncounted : Place → Type 0 = λ p. count_at p old ≡ None in
    zero_same (same_place place other) (count_at other old) (count_at other new) (λ same. subst Uncounted (same_is place other same) none) put

-- ## Turns at places that have lost their servers are forgotten

abbrev no_count : Option ℕ
no_count = None

cond_none : (b : Bool) → no_count ≡ cond b no_count None
cond_none true = refl
cond_none false = refl

first_kept : (place : Place) (count : Place × ℕ) (kept : List (Place × ℕ)) (k : Bool) →
    count_at place (cond k (count ∷ kept) kept) ≡ cond k (cond (same_place place count.0) (Some count.1) (count_at place kept)) (count_at place kept)
first_kept place count kept true = refl
first_kept place count kept false = refl

one_more : (k there same : Bool) (first kept all : Option ℕ) → (same ≡ true → k ≡ there) → kept ≡ cond there all None → cond k (cond same first kept) kept ≡ cond there (cond same first all) None
one_more true true true first kept all agree rest = refl
one_more true true false first kept all agree rest = rest
one_more true false true first kept all agree rest = absurd (let no = agree refl in cc)
one_more true false false first kept all agree rest = rest
one_more false true true first kept all agree rest = absurd (let no = agree refl in cc)
one_more false true false first kept all agree rest = rest
one_more false false true first kept all agree rest = rest
one_more false false false first kept all agree rest = rest

left_at : (servers : List Server) (place : Place) (turns : List (Place × ℕ)) →
    count_at place (filter (λ count. has_listener count.0 servers) turns) ≡ cond (has_listener place servers) (count_at place turns) None
left_at servers place [] = cond_none (has_listener place servers)
left_at servers place (count ∷ turns) =
    let kept = filter (λ (c : Place × ℕ). has_listener c.0 servers) turns in
    first_kept place count kept (has_listener count.0 servers)
    ∙ one_more (has_listener count.0 servers) (has_listener place servers) (same_place place count.0) (Some count.1) (count_at place kept) (count_at place turns)
    (λ same. ap (λ p. has_listener p servers) (sym (same_is place count.0 same))) (left_at servers place turns)

count_if : (b : Bool) (count : Option ℕ) → count_of (cond b count None) ≡ cond b (count_of count) 0
count_if true count = refl
count_if false count = refl

some_if : (b : Bool) (count : Option ℕ) → (b ≡ true → is_some count ≡ true) → is_some (cond b count None) ≡ b
some_if true count some = some refl
some_if false count some = refl

pub turns_left : (servers : List Server) (old new : List (Place × ℕ)) → new ≡ filter (λ count. has_listener count.0 servers) old → (place : Place) →
    turns_at place new ≡ cond (has_listener place servers) (turns_at place old) 0
turns_left servers old new is place = ap (turns_at place) is ∙ ap count_of (left_at servers place old) ∙ count_if (has_listener place servers) (count_at place old)

any_kept : (test keep : Server → Bool) (servers : List Server) → list_any test (filter keep servers) ≡ true → list_any test servers ≡ true
any_kept test keep [] holds = holds
any_kept test keep (server ∷ servers) holds =
    let kept = filter keep servers in
    let rest = any_kept test keep servers in
    elim (keep server) as (λ k. list_any test (cond k (server ∷ kept) kept) ≡ true → (test server || list_any test servers) ≡ true) [
      | true ↦ or_more (test server) (list_any test kept) (list_any test servers) rest
      | false ↦ λ h. or_right (test server) (list_any test servers) (rest h)
    ] holds

pub counted_left : (keep : Server → Bool) (before servers : List Server) (old new : List (Place × ℕ)) → AreCounted before old → servers ≡ filter keep before →
    new ≡ filter (λ count. has_listener count.0 servers) old → AreCounted servers new
counted_left keep before servers old new counted left is = λ place.
    ap (λ turns. is_some (count_at place turns)) is ∙ ap is_some (left_at servers place old)
    ∙ some_if (has_listener place servers) (count_at place old)
    (λ there. counted place ∙ any_kept (listens_at place) keep before (sym (ap (has_listener place) left) ∙ there))

-- ## One turn more

some_written : (b there : Bool) (value : ℕ) (old : Option ℕ) → (b ≡ true → there ≡ true) → is_some old ≡ there → is_some (cond b (Some value) old) ≡ there
some_written true there value old here is = sym (here refl)
some_written false there value old here is = is

pub counted_again : (servers : List Server) (place : Place) (value : ℕ) (old new : List (Place × ℕ)) → AreCounted servers old → has_listener place servers ≡ true →
    ((other : Place) → count_at other new ≡ cond (same_place place other) (Some value) (count_at other old)) → AreCounted servers new
counted_again servers place value old new counted here written = λ other.
    let There : Place → Type 0 = λ p. has_listener p servers ≡ true in
    ap is_some (written other)
    ∙ some_written (same_place place other) (has_listener other servers) value (count_at other old) (λ same. subst There (same_is place other same) here) (counted other)

turn_written : (b : Bool) (next : ℕ → ℕ) (turn : ℕ) (old new : Option ℕ) → (b ≡ true → old ≡ Some turn) → new ≡ cond b (Some (next turn)) old → count_of new ≡ cond b (next (count_of old)) (count_of old)
turn_written true next turn old new is written = ap count_of written ∙ ap next (sym (ap count_of (is refl)))
turn_written false next turn old new is written = ap count_of written

pub turns_again : (place : Place) (next : ℕ → ℕ) (turn value : ℕ) (old new : List (Place × ℕ)) → Some turn ≡ count_at place old → value ≡ next turn →
    ((other : Place) → count_at other new ≡ cond (same_place place other) (Some value) (count_at other old)) →
    (other : Place) → turns_at other new ≡ cond (same_place place other) (next (turns_at other old)) (turns_at other old)
turns_again place next turn value old new here is written other =
    let Turn : Place → Type 0 = λ p. count_at p old ≡ Some turn in
    turn_written (same_place place other) next turn (count_at other old) (count_at other new) (λ same. subst Turn (same_is place other same) (sym here))
    (written other ∙ ap (λ n. cond (same_place place other) (Some n) (count_at other old)) is)
