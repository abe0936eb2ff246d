-- What the steps of the adoption agency after its inner loop ask.
use Rattle.std.specs.Prelude.{◌≡◌, ℕ, ◌<◌, true, IsTrue, IfSome, Option}
use Rattle.std.specs.List.{list_any}
use Rattle.hnodes.specs.Forest.{IsOutside}
use Rattle.hnodes.specs.Edits.{place_node}
use Rattle.hopen.specs.Stack.{OpenNode, is_open}
use Rattle.hopen.specs.Formatting.{is_entry, has_bookmark}
use Rattle.hadopt.specs.Naming.{numbers}
use Rattle.hadopt.specs.Site.{stack, trees}
use Rattle.hadopt.specs.Places.{place_in}
use Rattle.hadopt.specs.Adopts.{InnerLoop, inner_loop}
use Rattle.hadopt.specs.Site.{SiteOf, Goes}
use Rattle.hadopt.specs.InnerLoops.{AreDifferent}
use Rattle.hnodes.specs.Nearest.{before}
use Rattle.hopen.specs.Stack.{is_node, above, current}
use Rattle.hopen.specs.declared.bookmark.Bookmark.TheVariants.{InPlace}

-- The place of the last node is outside of it. The formatting element is open and has an entry, and the bookmark is in the list.
pub record AfterInnerLoop (formatting_element furthest_block : ℕ) (common_ancestor : Option (OpenNode ℕ)) (c : InnerLoop ℕ) : Type 0 where
  pub begun : 0 < c.last_node
  pub last_in : c.last_node < c.site.nodes.made
  pub block_begun : 0 < furthest_block
  pub block_in : furthest_block < c.site.nodes.made
  pub ancestor_in : IfSome common_ancestor (λ x. x.node < c.site.nodes.made)
  pub place_outside : IsOutside (place_node (place_in numbers common_ancestor c.site)) c.last_node (trees c.site)
  pub formatting_open : is_open formatting_element (stack c.site) ≡ true
  pub entry : IsTrue (list_any (is_entry formatting_element) c.site.items)
  pub bookmark : IsTrue (has_bookmark formatting_element c.bookmark c.site.items)

-- a turn with a furthest block: wherever the inner loop leads, the steps after it can follow
pub record WithFurthestBlock (formatting_element furthest_block : ℕ) (s : SiteOf ℕ) : Type 0 where
  pub begun : 0 < furthest_block
  pub block_in : furthest_block < s.nodes.made
  pub different : AreDifferent s
  pub after : (at : ℕ) (c : InnerLoop ℕ)
      → inner_loop numbers at furthest_block 0 (before (is_node formatting_element) (above furthest_block (stack s)))
      (record { last_node = furthest_block; bookmark = InPlace; site = s }) ≡ Goes c
      → AfterInnerLoop formatting_element furthest_block (current (above formatting_element (stack s))) c
