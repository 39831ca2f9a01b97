use Rattle.vx_life_rows.proofs.RowStill.{deploys_nothing}
use Rattle.vx_life_rows.proofs.RowComing.{deployed_come, gone_come, stops_come, life_settled}
use Rattle.vx_life_rows.proofs.laws.what_comes_is_said.Goals as goal

pub returns : goal.returns
returns c = record {
  deployed = λ history new life moves behind. deployed_come history new moves life behind;
  gone = λ history new life moves behind. gone_come history new moves life behind;
  stops = λ history new life moves behind. stops_come history new moves life behind;
  settled = λ history new life moves behind ok other. let nothing = deploys_nothing history new other in life_settled history new moves life behind ok nothing.ids nothing.instances;
}
