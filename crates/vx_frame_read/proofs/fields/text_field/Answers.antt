use Rattle.std.proofs.Common.{◌∙◌, Some, None}
use Rattle.vx_frame_read.proofs.Members.{text_of_found}
use Rattle.vx_frame_read.proofs.fields.text_field.Goals as goal

pub returns-in-None : goal.returns-in-None
returns-in-None c = λ ms are. text_of_found c.args.name.now ms c.args.fields.now None are c.in-None.ensures

pub returns-in-Some : goal.returns-in-Some
returns-in-Some c = λ ms are. c.text_of.ensures ∙ text_of_found c.args.name.now ms c.args.fields.now (Some c.in-Some.part.now) are c.in-Some.ensures
