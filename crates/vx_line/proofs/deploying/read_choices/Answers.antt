use Rattle.std.proofs.Common.{refl, map}
use Rattle.std.proofs.lemmas.Result.{err_from_is_err_and}
use Rattle.vx_line.specs.Grammar.{name_of, deploy_options}
use Rattle.vx_line.specs.Reading.{behind_options, options_at}
use Rattle.vx_words.proofs.Sequences.{fails_with}
use Rattle.vx_line.proofs.Deploys.{flag, options_made}
use Rattle.vx_line.proofs.deploying.read_choices.Goals as goal

pub returns-in_err-rest : goal.returns-in_err-rest
returns-in_err-rest c =
    let p = err_from_is_err_and c.from_residual.result c.from_residual.ensures.1 in
    rw (p.1, p.2) (fails_with c.in_err-rest.field-0.0 (behind_options (map name_of deploy_options) c.args.tail.now) (options_at deploy_options c.args.tail.now) c.in_err-rest.ensures (λ none. rw none refl))

pub returns : goal.returns
returns c =
    options_made c.args.tail.now c.in_ok-rest.rest.now c.in_ok-tell.tell (flag c.in_ok-worker.worker) c.in_ok-pool.pool c.in_ok-to.to c.in_ok-config.config c.in_ok-rest.ensures c.in_ok-tell.ensures c.in_ok-worker.ensures c.in_ok-pool.ensures c.in_ok-to.ensures c.in_ok-config.ensures
