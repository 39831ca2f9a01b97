use Rattle.std.proofs.Common.{[], ◌∷◌, refl, inl, codes}
use Rattle.vx_call.specs.declared.call.End.TheVariants.{Done}
use Rattle.vx_call.specs.declared.reply.Reply.TheVariants as replies
use Rattle.vx_call.specs.declared.reply.Task.TheVariants as tasks
use Rattle.vx_call.specs.History.{lasting}
use Rattle.vx_verticle.specs.declared.acts.Act.TheVariants as acting
use Rattle.vx_verticle.specs.declared.plain.PlainAct.TheVariants as plain
use Rattle.vx_verticle.specs.declared.verticle.ActResult.TheVariants as outcomes
use Rattle.vx_played_examples.specs.Examples.{context, state, taken, registered, finished}
use Rattle.vx_played_examples.proofs.echo_starts.Goals as goal

pub returns-clause-taken : goal.returns-clause-taken
unfolding lasting
returns-clause-taken c = refl

pub returns-clause-registered : goal.returns-clause-registered
unfolding lasting
returns-clause-registered c = refl

pub returns-clause-finished : goal.returns-clause-finished
unfolding lasting
returns-clause-finished c = refl

pub returns-clause-is_played : goal.returns-clause-is_played
unfolding lasting
returns-clause-is_played c = record {
  task = tasks.Start context;
  context = context;
  acts = acting.Plain (plain.Register (codes "a") 1000) ∷ [];
  results = outcomes.Made (replies.Consumer (record { 0 = record { 0 = 2 } })) ∷ [];
  end = Done;
  back = state ∷ [];
  taken = taken;
  made = (2, registered) ∷ [];
  finish_at = 3;
  finished = finished;
  stretch_is = refl;
  takes = refl;
  on_context = refl;
  handles = (state, state, (refl, refl, refl), (state, refl, refl), refl);
  makes = inl ((2, registered) ∷ [], [], refl, (2, registered, refl, refl, (refl, refl), refl), refl);
  finishes = refl;
  gives_back = refl;
}
