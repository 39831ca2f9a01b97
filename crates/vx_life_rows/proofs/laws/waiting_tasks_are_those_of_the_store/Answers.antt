use Rattle.vx_life_rows.proofs.Results.{waiting_tasks, waiting_stops}
use Rattle.vx_life_rows.proofs.laws.waiting_tasks_are_those_of_the_store.Goals as goal

pub returns : goal.returns
returns c = record { tasks = waiting_tasks; stops = waiting_stops }
