-- What a visit of a walk prints, and the depth after it.
use Rattle.std.specs.Prelude.{ℕ, zero, suc, List, [], length, Option, Some, None}
use Rattle.hnodes.specs.Forest.{What, element, Forest}
use Rattle.hnodes.specs.Mapped.{mapped_what}
use Rattle.hnodes.specs.Spots.{what_of}
use Rattle.hserialize.specs.Lines.{node_lines}
use Rattle.hserialize.specs.declared.walk.Visit.{Visit}
use Rattle.hserialize.specs.declared.walk.Visit.TheVariants.{Enter, Leave}

abbrev pub one_less : ℕ → ℕ
one_less zero = zero
one_less (suc depth) = depth

abbrev pub depth_after : Visit → ℕ → ℕ
depth_after (Enter n) depth = suc depth
depth_after (Leave n) depth = one_less depth

-- how many attributes a node has
abbrev pub attribute_count : Option (What ℕ) → ℕ
attribute_count (Some (element name attrs)) = length attrs
attribute_count _ = 0

module _ (texts : ℕ → List ℕ) where
  abbrev pub printed_lines : ℕ → Option (What ℕ) → List ℕ
  printed_lines depth None = []
  printed_lines depth (Some w) = node_lines depth (mapped_what texts w)

  abbrev pub visit_lines : Forest ℕ → ℕ → Visit → List ℕ
  visit_lines f depth (Enter n) = printed_lines depth (what_of n f)
  visit_lines f depth (Leave n) = []
