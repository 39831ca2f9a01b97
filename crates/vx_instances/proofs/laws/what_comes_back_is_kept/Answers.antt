use Rattle.std.proofs.Common.{[], ◌∷◌}
use Rattle.vx_instances.proofs.Handing.{comes_back}
use Rattle.vx_instances.proofs.laws.what_comes_back_is_kept.Goals as goal

pub returns : goal.returns
returns c = λ history legal pass end state mark context is verticle. comes_back history legal pass end (state ∷ []) mark context is verticle
