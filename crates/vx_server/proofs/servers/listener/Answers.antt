use Rattle.std.proofs.Common.{◌≡◌, ◌≤◌, sym, ◌∙◌, ap, true, List, length, take, take_all, get_or, filter, slice_get, option_map, Some, arith}
use Rattle.vx_server.specs.declared.servers.Server.{Server}
use Rattle.vx_server.specs.Servers.{listens_at}
use Rattle.vx_server.proofs.Listeners.{number_of, none_past}
use Rattle.vx_server.proofs.servers.listener.Goals as goal

pub returns-then-before-eq0 : goal.returns-then-before-eq0
returns-then-before-eq0 c =
    let servers = c.args.servers.now in
    let test = listens_at c.args.place.now in
    let i = c.loop-server.server-index in
    let server = c.server-item.result in
    let passes : test (get_or servers i server) ≡ true = ap test (sym c.server-item.is) ∙ sym c.eq.ensures ∙ c.if-eq.true in
    let number : c.args.number ≡ length (filter test (take i servers)) = omega (arith, c.loop-server.invariant, c.if-before-eq0.true) in
    sym (ap (λ n. option_map (λ (s : Server). s.id) (slice_get (filter test servers) n)) number
    ∙ ap (option_map (λ (s : Server). s.id)) (number_of test servers i server c.loop-server-test.true passes ∙ ap Some (sym c.server-item.is)))

pub returns : goal.returns
returns c =
    let servers = c.args.servers.now in
    let test = listens_at c.args.place.now in
    let all = ap (λ (front : List Server). length (filter test front)) (take_all c.loop-server.server-index servers (omega (arith, c.loop-server-test.false))) in
    let past : length (filter test servers) ≤ c.args.number = omega (arith, c.loop-server.invariant, all) in
    sym (ap (option_map (λ (s : Server). s.id)) (none_past (filter test servers) c.args.number past))
