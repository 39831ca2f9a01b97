use Rattle.std.proofs.Common.{[], ap, sym, ◌∙◌}
use Rattle.vx_call.specs.declared.reply.Reply.TheVariants as replies
use Rattle.vx_call.specs.Names.{next_context}
use Rattle.vx_call.specs.Refusals.{unless_refused}
use Rattle.vx_bus_store.proofs.Frames.{refused_contexts}
use Rattle.vx_hub.proofs.RowNewContext.{makes_context}
use Rattle.vx_hub.proofs.rows.new_context.new_context.Goals as goal

pub returns-in-Some-clause-ok : goal.returns-in-Some-clause-ok
returns-in-Some-clause-ok c = λ history stands stored named is_next. record {
  answered = ap (λ refusal. unless_refused refusal (replies.Context (next_context history))) (c.in-Some.ensures history stands);
  stands = refused_contexts c.args.contexts.now history c.args.pass _ c.in-Some.refusal [] stands;
}

pub returns-in-Ok-clause-ok : goal.returns-in-Ok-clause-ok
returns-in-Ok-clause-ok c = λ history stands stored named is_next.
    makes_context c.args.contexts.now c.add.new.self history c.args.at c.args.pass stands stored named is_next (sym (c.already_holding.ensures history stands) ∙ c.in_default.is) c.in-Ok.ensures.ok c.add.ensures.closed
