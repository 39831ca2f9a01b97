use Rattle.vx_frame_tests.proofs.Short.{failed_short}
use Rattle.vx_frame_tests.proofs.written.failures_are_written.Goals as goal

pub is_written-requires : goal.is_written-requires
is_written-requires g c = failed_short c.constant.result c.constant-2.result c.constant.ensures c.constant-2.ensures
