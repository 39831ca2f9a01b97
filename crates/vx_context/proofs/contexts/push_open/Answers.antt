use Rattle.std.proofs.Common.{arith, ◌++◌, map, take, ap, ◌∙◌}
use Rattle.std.proofs.lemmas.List.{map-append, take_all}
use Rattle.vx_context.specs.Stores.{context_of, kept_open, closed_in}
use Rattle.vx_context.proofs.Closings.{closed_with_more, made_more}
use Rattle.vx_context.proofs.contexts.push_open.Goals as goal

pub returns-clause-added : goal.returns-clause-added
returns-clause-added c =
    c.loop-context.invariant.0
    ∙ ap (λ more. c.args.contexts.now.items ++ map kept_open more) (take_all c.loop-context.context-index c.args.more.now (omega arith))

pub returns-clause-made : goal.returns-clause-made
returns-clause-made c =
    let more = take c.loop-context.context-index c.args.more.now in
    ap (map context_of) c.loop-context.invariant.0
    ∙ map-append context_of c.args.contexts.now.items (map kept_open more)
    ∙ ap (λ all. map context_of c.args.contexts.now.items ++ all) (made_more more ∙ take_all c.loop-context.context-index c.args.more.now (omega arith))

pub returns-clause-closed : goal.returns-clause-closed
returns-clause-closed c = λ id.
    ap (closed_in id) c.loop-context.invariant.0 ∙ closed_with_more id c.args.contexts.now.items (take c.loop-context.context-index c.args.more.now)
