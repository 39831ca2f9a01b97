use Rattle.std.proofs.Common.{◌∙◌, sym, ap}
use Rattle.std.specs.List.{list_any}
use Rattle.std.specs.Str.{bytes_eq}
use Rattle.vx_line.proofs.Choices.{any_map}
use Rattle.vx_line.proofs.options.is_known.Goals as goal

pub returns : goal.returns
returns c = c.is_among.ensures ∙ ap (λ name. list_any (λ other. bytes_eq name other.now) c.args.names.now) c.split_name.ensures.name ∙ sym (any_map _ (λ name. name.now) c.args.names.now)
