-- The servers at a place, by their numbers there.
use Rattle.std.proofs.Common.{◌≡◌, refl, sym, ◌∙◌, ap, ℕ, zero, suc, ◌%◌, ◌<◌, ◌≤◌, Bool, true, false, ◌||◌, cond, List, [], ◌∷◌, length, take, get_or, filter, slice_get, find, is_some, option_map, Option, Some, None, arith}
use Rattle.std.specs.List.{list_any}
use Rattle.std.specs.Option.{option_and_then}
use Rattle.vx_data.specs.declared.ids.ServerId.{ServerId}
use Rattle.vx_server.specs.declared.place.Place.{Place}
use Rattle.vx_server.specs.declared.servers.Server.{Server}
use Rattle.vx_server.specs.Servers.{ServerStore, same_place, is_server, has_listener, listens_at, listeners, count_at, count_of, turns_at, turn, connecting, comes_in_at, AreCounted}
use Rattle.vx_server.proofs.Places.{or_left, or_right, same_itself}

any_found : (test other : Server → Bool) (servers : List Server) (server : Server) → find test servers ≡ Some server → other server ≡ true → list_any other servers ≡ true
any_found test other [] server found passes = absurd (cc)
any_found test other (first ∷ servers) server found passes =
    elim (test first) as (λ b. cond b (Some first) (find test servers) ≡ Some server → (other first || list_any other servers) ≡ true) [
      | true ↦ λ h. or_left (other first) (list_any other servers) (let same : first ≡ server = cc in ap other same ∙ passes)
      | false ↦ λ h. or_right (other first) (list_any other servers) (any_found test other servers server h passes)
    ] found

-- where a server listens there is one that does
pub found_there : (test : Server → Bool) (servers : List Server) (server : Server) → find test servers ≡ Some server → has_listener server.place servers ≡ true
found_there test servers server found = any_found test (listens_at server.place) servers server found (same_itself server.place)

module _ (test : Server → Bool) where
  -- one is found where one passes
  pub found_any : (servers : List Server) → is_some (option_map (λ (server : Server). server.context) (find test servers)) ≡ list_any test servers
  found_any [] = refl
  found_any (first ∷ servers) =
      let rest = found_any servers in
      elim (test first) as (λ b. is_some (option_map (λ (server : Server). server.context) (cond b (Some first) (find test servers))) ≡ (b || list_any test servers)) [
        | true ↦ refl
        | false ↦ rest
      ]

  -- a server that passes has as its number how many pass before it
  pub number_of : (servers : List Server) (i : ℕ) (d : Server) → i < length servers → test (get_or servers i d) ≡ true →
      slice_get (filter test servers) (length (filter test (take i servers))) ≡ Some (get_or servers i d)
  number_of [] i d within passes = absurd (omega (arith, within))
  number_of (first ∷ servers) zero d within passes = rw passes refl
  number_of (first ∷ servers) (suc i) d within passes =
      let rest = number_of servers i d (omega (arith, within)) passes in
      elim (test first) as (λ b. slice_get (cond b (first ∷ filter test servers) (filter test servers)) (length (cond b (first ∷ filter test (take i servers)) (filter test (take i servers)))) ≡ Some (get_or servers i d)) [
        | true ↦ rest
        | false ↦ rest
      ]

-- there is none past the last
pub none_past : (servers : List Server) (number : ℕ) → length servers ≤ number → slice_get servers number ≡ None
none_past [] number past = refl
none_past (first ∷ servers) zero past = absurd (omega (arith, past))
none_past (first ∷ servers) (suc number) past = none_past servers number (omega (arith, past))

-- ## The server that a connection goes to

abbrev id_of : Option Server → Option ServerId
id_of server = option_map (λ (s : Server). s.id) server

module _ (id : ServerId) (servers : List Server) (turns : List (Place × ℕ)) where
  abbrev store : ServerStore
  store = record { servers = servers; turns = turns }

  pub none_connecting : find (is_server id) servers ≡ None → None ≡ id_of (connecting id store)
  none_connecting none = sym (ap (λ found. id_of (option_and_then (λ (s : Server). turn s.place store) found)) none)

  pub no_turn : (next : ℕ → ℕ) → find (is_server id) servers ≡ None → (place : Place) →
      turns_at place turns ≡ cond (comes_in_at place (find (is_server id) servers)) (next (turns_at place turns)) (turns_at place turns)
  no_turn next none place = sym (ap (λ found. cond (comes_in_at place found) (next (turns_at place turns)) (turns_at place turns)) none)

  module _ (server : Server) (found : find (is_server id) servers ≡ Some server) where
    pub is_connecting : (count : ℕ) → Some count ≡ count_at server.place turns →
        id_of (slice_get (listeners server.place servers) (count % length (listeners server.place servers))) ≡ id_of (connecting id store)
    is_connecting count here =
        ap (λ n. id_of (slice_get (listeners server.place servers) (n % length (listeners server.place servers)))) (ap count_of here)
        ∙ sym (ap (λ f. id_of (option_and_then (λ (s : Server). turn s.place store) f)) found)

    pub one_turn : (next : ℕ → ℕ) (place : Place) →
        cond (same_place server.place place) (next (turns_at place turns)) (turns_at place turns) ≡ cond (comes_in_at place (find (is_server id) servers)) (next (turns_at place turns)) (turns_at place turns)
    one_turn next place = sym (ap (λ f. cond (comes_in_at place f) (next (turns_at place turns)) (turns_at place turns)) found)

    pub is_counted : AreCounted servers turns → count_at server.place turns ≡ None → ⊥
    is_counted counted none = let some = sym (ap is_some none) ∙ counted server.place ∙ found_there (is_server id) servers server found in absurd (cc)
