use Rattle.std.proofs.Common.{arith, length, ◌<◌, map, refl, ap, sym, ◌∙◌}
use Rattle.vx_context.specs.Stores.{context_of, closed_then, closed_in}
use Rattle.vx_context.proofs.Changes.{changed_there, changed_all, written_back}
use Rattle.vx_context.proofs.Closings.{same_contexts, closed_each}
use Rattle.vx_context.proofs.contexts.close_each.Goals as goal

pub loop-kept-preserved : goal.loop-kept-preserved
loop-kept-preserved c =
    let xs = c.deref_mut-kept-items.result.now in
    let inside : c.loop-kept.kept-index < length xs = omega arith in
    changed_there (closed_then c.args.at) xs c.loop-kept.kept-items _ _ _ _ inside c.loop-kept.auto.kept-items c.loop-kept.invariant (sym c.close.ensures) refl

pub returns-clause-made : goal.returns-clause-made
returns-clause-made c =
    let xs = c.deref_mut-kept-items.result.now in
    ap (map context_of) (written_back c.loop-kept.kept-items c.args.contexts.now.items c.args.contexts.now.len (omega arith))
    ∙ ap (map context_of) (changed_all (closed_then c.args.at) xs c.loop-kept.kept-items c.loop-kept.kept-index c.loop-kept.invariant (omega arith))
    ∙ same_contexts (closed_then c.args.at) (λ kept. refl) xs
    ∙ ap (map context_of) c.deref_mut-kept-items.ensures.value

pub returns-clause-closed : goal.returns-clause-closed
returns-clause-closed c = λ other.
    let xs = c.deref_mut-kept-items.result.now in
    ap (closed_in other) (written_back c.loop-kept.kept-items c.args.contexts.now.items c.args.contexts.now.len (omega arith))
    ∙ ap (closed_in other) (changed_all (closed_then c.args.at) xs c.loop-kept.kept-items c.loop-kept.kept-index c.loop-kept.invariant (omega arith) ∙ ap (map (closed_then c.args.at)) c.deref_mut-kept-items.ensures.value)
    ∙ closed_each other c.args.at c.args.contexts.now.items
