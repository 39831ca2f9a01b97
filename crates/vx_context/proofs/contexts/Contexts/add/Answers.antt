use Rattle.std.proofs.Common.{ap, ◌∙◌, [], ◌∷◌}
use Rattle.vx_context.specs.Stores.{ContextStore, closed_in}
use Rattle.vx_context.proofs.Closings.{closed_with_more}
use Rattle.vx_context.proofs.contexts.Contexts.add.Goals as goal

pub returns-clause-closed : goal.returns-clause-closed
returns-clause-closed c = λ id.
    ap (closed_in id) c.in_ok-push.ensures.items ∙ closed_with_more id c.self.inside.contexts.items (c.args.context ∷ []) ∙ ap (λ (store : ContextStore). closed_in id store.closings) c.self.view_is
