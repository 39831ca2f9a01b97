use Rattle.std.proofs.Common.{ap, arith, length}
use Rattle.vx_frame_read.proofs.Adding.{by_bytes_alone}
use Rattle.vx_frame_read.proofs.headers.is_large_with.Goals as goal

pub returns-else-pairs-ge-MAX_PAIRS : goal.returns-else-pairs-ge-MAX_PAIRS
returns-else-pairs-ge-MAX_PAIRS c =
    by_bytes_alone c.args.headers.now c.args.name.now c.args.value.now c.saturating_add-bytes.result (omega (arith, ap length c.pairs.ensures)) (λ large. omega arith) (λ small. omega arith)
