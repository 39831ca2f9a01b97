use Rattle.vx_life_rows.proofs.Begins.{life_begins, few_instances}
use Rattle.vx_life_rows.proofs.laws.lives_begin.Goals as goal

pub returns : goal.returns
returns c = record { begins = life_begins; few = few_instances }
