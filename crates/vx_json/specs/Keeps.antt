-- What a reader keeps of a value.
use Rattle.std.specs.Prelude.{◌≡◌, ◌<◌, ◌≤◌}
use Rattle.vx_data.specs.Tree.{Tree}
use Rattle.vx_data.specs.Bodies.{tree_depth}
use Rattle.vx_json.specs.Grammar.{max_read_depth}

-- a body is that of the value, up to the depth of 100, and else as deep as a body may be
pub record Keeps (body value : Tree) : Type 0 where
  pub exact : tree_depth value ≤ max_read_depth → body ≡ value
  pub deep : max_read_depth < tree_depth value → tree_depth body ≡ 101
