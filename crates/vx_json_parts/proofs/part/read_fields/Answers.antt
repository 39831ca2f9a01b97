use Rattle.vx_json_parts.proofs.TakeParts.{fields_found, fields_only}
use Rattle.vx_json_parts.proofs.part.read_fields.Goals as goal

pub returns-clause-found : goal.returns-clause-found
returns-clause-found c = fields_found (λ v. v.items) c.args.text.now c.fields_of.result c.fields_of.ensures

pub returns-clause-only : goal.returns-clause-only
returns-clause-only c = fields_only (λ v. v.items) c.args.text.now c.fields_of.result c.fields_of.ensures
