use Rattle.vx_data.specs.Ids.{same_context, same_deployment}
use Rattle.vx_tree.specs.Nodes.{may_stop}
use Rattle.vx_call.proofs.Contexts.{same_context-self, same_context-true}
use Rattle.vx_life.specs.Stores.{is_deployed, is_gone}
use Rattle.vx_life_rows.proofs.Bridge.{same_id}
use Rattle.vx_life_rows.proofs.Facts.{same_self}
use Rattle.vx_life_rows.proofs.RowComing.{deploying_apart, ending_apart, stops_apart, deploying_told, ending_told}
use Rattle.vx_life_rows.proofs.Said.{is_said, is_all_said}
use Rattle.vx_life_rows.proofs.laws.all_is_said_once.Goals as goal

pub returns : goal.returns
returns c = record {
  deployed = λ life id apart found. is_said same_deployment same_self same_id (is_deployed life) life.deploying id apart found;
  gone = λ life id apart found. is_said same_deployment same_self same_id (is_gone life) life.ending id apart found;
  stops = λ life context apart found. is_said same_context same_context-self same_context-true (may_stop life.tree) life.tree.to_stop context apart found;
  all_deployed = λ life none. is_all_said same_deployment same_self same_id (is_deployed life) life.deploying none;
  all_gone = λ life none. is_all_said same_deployment same_self same_id (is_gone life) life.ending none;
  all_stopped = λ life none. is_all_said same_context same_context-self same_context-true (may_stop life.tree) life.tree.to_stop none;
  apart = λ life before after coming. (deploying_apart life before after coming, (ending_apart life before after coming, stops_apart life before after coming));
  told = λ life history new behind. (deploying_told life history new behind, ending_told life history new behind);
}
