use Rattle.vx_laws.proofs.Fires.{fires_in_time}
use Rattle.vx_laws.proofs.laws.timers_fire_in_time.Goals as goal

pub returns : goal.returns
returns c = fires_in_time
