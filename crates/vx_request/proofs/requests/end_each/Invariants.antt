use Rattle.std.proofs.Common.{◌≡◌, ◌+◌, ◌≤◌, length, take, filter}
use Rattle.std.specs.Prelude.{find}
use Rattle.std.specs.Option.{option_map, option_or}
use Rattle.indexmap.specs.IndexMap.{spare}
use Rattle.vx_data.specs.declared.ids.MessageId.{MessageId}
use Rattle.vx_request.specs.Stores.{is_request, ended_at}
use Rattle.vx_request.specs.Leaving.{ends_with}
use Rattle.vx_request.proofs.requests.end_each.Given as goal

abbrev pub invariant-loop-row : goal.invariant-loop-row
invariant-loop-row l =
    let lost = filter (ends_with l.leaver l.given.given) (take l.row-index l.waiting) in
    record {
      ended : (m : MessageId) → ended_at m l.ended.entries ≡ option_or (ended_at m l.initial.ended.entries) (option_map (λ _. l.at) (find (is_request m) lost));
      room : spare l.initial.ended ≤ spare l.ended + length lost;
    }
