use Rattle.vx_life_rows.proofs.RowDeploy.{life_deployed, later, above}
use Rattle.vx_life_rows.proofs.laws.deployments_are_added.Goals as goal

pub returns : goal.returns
returns c = record {
  deployed = λ history pass worker pool tell count reply states mark old life ok unasked step stands. life_deployed history pass worker pool tell count reply states mark ok old life unasked step stands;
  later = λ history life parts. later history life parts;
  above = λ history life pass parts unasked. above history life parts pass unasked;
}
