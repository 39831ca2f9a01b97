use Rattle.vx_items_tests.proofs.tests.look_and_remove.Given as goal

abbrev pub ghosts-value : goal.ghosts-value
ghosts-value a = record { name = a.blank.name; parts = a.blank.parts }
