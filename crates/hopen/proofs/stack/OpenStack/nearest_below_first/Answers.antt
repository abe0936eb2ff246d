use Rattle.hopen.proofs.Names.{length, sym, common_steps, ◌≡◌, ◌-◌, List, length-take-le, ◌∙◌, ap, arith, is_of, tag_of, holds_one, last_place, slots_of, KeptNode}
use Rattle.hopen.proofs.OpenLevels.{level-within, placed}
use Rattle.hopen.proofs.Searches.{below-found, topmost-found}
use Rattle.hopen.proofs.stack.OpenStack.nearest_below_first.Goals as goal
use Rattle.hopen.proofs.stack.OpenStack.nearest_below_first.Goals.{After-level_of-level}

level : (c : After-level_of-level) → c.level_of-level.result ≡ last_place (holds_one (is_of tag_of c.args.group)) (slots_of c.self.inside.items.items)
level c = c.level_of-level.ensures ∙ ap (λ (l : List KeptNode). last_place (holds_one (is_of tag_of c.args.group)) (slots_of l)) c.deref.ensures.value

pub slice_bounds-last_open-length : goal.slice_bounds-last_open-length
slice_bounds-last_open-length c = let at = level (goal.at.slice_bounds-last_open-length c).After-level_of-level in
    sym (length-take-le (c.level_of-level.result - 1) c.deref-2.result.now
    (omega (arith, level-within (is_of tag_of c.args.group) c.self.inside.items.items c.level_of-level.result at, ap length c.deref-2.ensures.value)))

pub returns-then-level-eq0 : goal.returns-then-level-eq0
returns-then-level-eq0 c = let at = level (goal.at.returns-then-level-eq0 c).After-level_of-level in grind (arith, common_steps, topmost-found)

pub index-requires : goal.index-requires
index-requires c = omega (
  arith,
  (placed (is_of tag_of c.args.group) c.self.inside.items.items c.level_of-level.result (level (goal.at.index-requires c).After-level_of-level)
      (omega arith)).sum,
)

pub returns-in_err-last_open : goal.returns-in_err-last_open
returns-in_err-last_open c = let at = level (goal.at.returns-in_err-last_open c).After-level_of-level in grind (arith, common_steps, topmost-found)

pub returns : goal.returns
returns c = let at = level (goal.at.returns c).After-level_of-level in
    let there = placed (is_of tag_of c.args.group) c.self.inside.items.items c.level_of-level.result at (omega arith) in
    grind (arith, common_steps, below-found)
