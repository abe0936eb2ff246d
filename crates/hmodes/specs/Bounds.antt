-- The limits of a parse, and their range.
use Rattle.std.specs.Prelude.{ℕ, ◌≤◌}
use Rattle.htext.specs.declared.decoder.TheConstants.{MAX_INPUT}
use Rattle.hmodes.specs.Beginning.{Limits}

-- how many bytes an input may have, and how large its tree may become
pub record Bounds : Type 0 where
  pub input : ℕ
  pub tree : Limits

pub record AreLimits (b : Bounds) : Type 0 where
  pub most_input : b.input ≤ MAX_INPUT
  pub some_nodes : 16 ≤ b.tree.nodes
  pub most_nodes : b.tree.nodes ≤ 16777216
  pub some_depth : 16 ≤ b.tree.depth
  pub most_depth : b.tree.depth ≤ 1048576
