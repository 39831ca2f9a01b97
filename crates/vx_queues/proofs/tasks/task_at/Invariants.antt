use Rattle.vx_queues.proofs.tasks.task_at.Given as goal

abbrev pub ghosts-looked_at : goal.ghosts-looked_at
ghosts-looked_at a = record { name = a.blank.name; parts = a.blank.parts }
