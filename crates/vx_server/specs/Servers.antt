-- Servers that listen, and the turns that they take at each place.
use Rattle.std.specs.Prelude.{◌≡◌, ℕ, ◌%◌, ◌==◌, Bool, false, ◌&&◌, List, length, filter, find, slice_get, is_some, Option, None, Some}
use Rattle.std.specs.List.{list_any}
use Rattle.std.specs.Map.{lookup}
use Rattle.std.specs.Option.{option_and_then}
use Rattle.std.specs.Str.{bytes_eq}
use Rattle.vx_data.specs.declared.ids.ContextId.{ContextId}
use Rattle.vx_data.specs.declared.ids.ServerId.{ServerId}
use Rattle.vx_data.specs.Ids.{same_context, same_server}
use Rattle.vx_server.specs.declared.place.Place.{Place}
use Rattle.vx_server.specs.declared.servers.Server.{Server}

-- the servers that listen, in the order of opening, and the turns that are counted at places
pub record ServerStore : Type 0 where
  pub servers : List Server
  pub turns : List (Place × ℕ)

abbrev pub same_place : Place → Place → Bool
same_place a b = bytes_eq a.host b.host && (a.port == b.port)

abbrev pub is_server : ServerId → Server → Bool
is_server id server = same_server id server.id

abbrev pub is_of : ContextId → Server → Bool
is_of context server = same_context context server.context

abbrev pub listens_at : Place → Server → Bool
listens_at place server = same_place server.place place

-- the servers at a place, in the order of opening
abbrev pub listeners : Place → List Server → List Server
listeners place servers = filter (listens_at place) servers

abbrev pub has_listener : Place → List Server → Bool
has_listener place servers = list_any (listens_at place) servers

-- the count of turns at a place, where they are counted
abbrev pub count_at : Place → List (Place × ℕ) → Option ℕ
count_at place turns = lookup (same_place place) turns

abbrev pub count_of : Option ℕ → ℕ
count_of None = 0
count_of (Some count) = count

-- how many connections came in at a place since it last had no server
abbrev pub turns_at : Place → List (Place × ℕ) → ℕ
turns_at place turns = count_of (count_at place turns)

-- the server whose number among those at a place is the count of turns there, modulo how many there are
abbrev pub turn : Place → ServerStore → Option Server
turn place store = slice_get (listeners place store.servers) (turns_at place store.turns % length (listeners place store.servers))

-- the server that gets a connection which comes in where this one listens
abbrev pub connecting : ServerId → ServerStore → Option Server
connecting id store = option_and_then (λ (server : Server). turn server.place store) (find (is_server id) store.servers)

-- whether a connection for a server, if it listens, comes in at a place
abbrev pub comes_in_at : Place → Option Server → Bool
comes_in_at place None = false
comes_in_at place (Some server) = listens_at place server

-- turns are counted at the places where a server listens, and at no other
abbrev pub AreCounted : List Server → List (Place × ℕ) → Type 0
AreCounted servers turns = (place : Place) → is_some (count_at place turns) ≡ has_listener place servers
