use Rattle.std.proofs.Common.{ℕ, ◌+◌, ◌-◌, ◌^◌, min, sym, ◌∙◌, ap, option_copied, rules}
use Rattle.vx_server.specs.Servers.{is_server}
use Rattle.vx_server.proofs.Places.{turns_again, counted_again}
use Rattle.vx_server.proofs.Listeners.{found_there, none_connecting, no_turn, is_connecting, one_turn, is_counted}
use Rattle.vx_server.proofs.servers.choose.Goals as goal

pub returns-in_err-server-clause-chosen : goal.returns-in_err-server-clause-chosen
returns-in_err-server-clause-chosen c =
    c.from_residual.ensures ∙ none_connecting c.args.id c.args.servers.now.items c.args.turns.now.entries (sym c.server_at.ensures ∙ ap option_copied c.in_err-server.was)

pub returns-in_err-server-clause-turns : goal.returns-in_err-server-clause-turns
returns-in_err-server-clause-turns c =
    no_turn c.args.id c.args.servers.now.items c.args.turns.now.entries (λ n. min (n + 1) (2 ^ 64 - 1)) (sym c.server_at.ensures ∙ ap option_copied c.in_err-server.was)

pub returns-in_err-turn-clause-chosen : goal.returns-in_err-turn-clause-chosen
returns-in_err-turn-clause-chosen c =
    absurd (is_counted c.args.id c.args.servers.now.items c.args.turns.now.entries c.in_ok-server.server.now (sym c.server_at.ensures ∙ ap option_copied c.in_ok-server.was) c.requires (sym c.in_err-turn.ensures.value))

pub returns-in_err-turn-clause-turns : goal.returns-in_err-turn-clause-turns
returns-in_err-turn-clause-turns c =
    absurd (is_counted c.args.id c.args.servers.now.items c.args.turns.now.entries c.in_ok-server.server.now (sym c.server_at.ensures ∙ ap option_copied c.in_ok-server.was) c.requires (sym c.in_err-turn.ensures.value))

pub returns-clause-chosen : goal.returns-clause-chosen
returns-clause-chosen c =
    c.whose_turn-chosen.ensures
    ∙ is_connecting c.args.id c.args.servers.now.items c.args.turns.now.entries c.in_ok-server.server.now (sym c.server_at.ensures ∙ ap option_copied c.in_ok-server.was) c.in_ok-turn.turn.now c.in_ok-turn.ensures.value

pub returns-clause-turns : goal.returns-clause-turns
returns-clause-turns c = λ place.
    let next : ℕ → ℕ = λ n. min (n + 1) (2 ^ 64 - 1) in
    turns_again c.in_ok-server.server.now.place next c.in_ok-turn.turn.now c.saturating_add.result c.args.turns.now.entries (c.get_mut.follows.lender c.saturating_add.result).entries
    c.in_ok-turn.ensures.value c.saturating_add.ensures ((c.get_mut.follows.holds c.saturating_add.result).3 (search rules)).0 place
    ∙ one_turn c.args.id c.args.servers.now.items c.args.turns.now.entries c.in_ok-server.server.now (sym c.server_at.ensures ∙ ap option_copied c.in_ok-server.was) next place

pub returns-clause-counted : goal.returns-clause-counted
returns-clause-counted c =
    counted_again c.args.servers.now.items c.in_ok-server.server.now.place c.saturating_add.result c.args.turns.now.entries _ c.requires
    (found_there (is_server c.args.id) c.args.servers.now.items c.in_ok-server.server.now (sym c.server_at.ensures ∙ ap option_copied c.in_ok-server.was))
    ((c.get_mut.follows.holds c.saturating_add.result).3 (search rules)).0
