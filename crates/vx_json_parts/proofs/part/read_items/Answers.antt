use Rattle.vx_json_parts.proofs.TakeParts.{items_found, items_only}
use Rattle.vx_json_parts.proofs.part.read_items.Goals as goal

pub returns-clause-found : goal.returns-clause-found
returns-clause-found c = items_found (λ v. v.items) c.args.text.now c.items_of.result c.items_of.ensures

pub returns-clause-only : goal.returns-clause-only
returns-clause-only c = items_only (λ v. v.items) c.args.text.now c.items_of.result c.items_of.ensures
