use Rattle.std.proofs.Common.{◌+◌, ◌-◌, ◌/◌, refl}
use Rattle.vx_timer.proofs.timers.fires_again_past_now.Goals as goal

pub returns-clause-multiple : goal.returns-clause-multiple
returns-clause-multiple c = λ due period now. ((now - due) / period + 1, refl)
