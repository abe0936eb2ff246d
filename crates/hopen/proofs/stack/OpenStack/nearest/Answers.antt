use Rattle.hopen.proofs.Names.{◌≡◌, ℕ, List, find, nat_eq, sym, ◌∙◌, ap, arith, Some, is_named, holds_one, last_place, open_of, slots_of, KeptNode, OpenNodes}
use Rattle.hopen.proofs.OpenLevels.{not-placed, placed}
use Rattle.hopen.proofs.stack.OpenStack.nearest.Goals as goal
use Rattle.hopen.proofs.stack.OpenStack.nearest.Goals.{After-level_of-level}

level : (c : After-level_of-level) → c.level_of-level.result ≡ last_place (holds_one (is_named nat_eq c.args.name)) (slots_of c.self.inside.items.items)
level c = c.level_of-level.ensures ∙ ap (λ (l : List KeptNode). last_place (holds_one (is_named nat_eq c.args.name)) (slots_of l)) c.deref.ensures.value

pub returns-then-level-eq0 : goal.returns-then-level-eq0
returns-then-level-eq0 c = sym (not-placed (is_named nat_eq c.args.name) c.self.inside.items.items c.level_of-level.result
    (level (goal.at.returns-then-level-eq0 c).After-level_of-level) c.if-level-eq0.true)
    ∙ ap (λ (n : OpenNodes ℕ). find (is_named nat_eq c.args.name) n.stack) c.self.view_is

pub index-requires : goal.index-requires
index-requires c = omega (
  arith,
  (placed (is_named nat_eq c.args.name) c.self.inside.items.items c.level_of-level.result (level (goal.at.index-requires c).After-level_of-level)
      (omega arith)).sum,
)

pub returns : goal.returns
returns c = ap (λ (x : KeptNode). Some (open_of x.opened)) c.index.ensures ∙ sym ((placed (is_named nat_eq c.args.name) c.self.inside.items.items
    c.level_of-level.result (level (goal.at.returns c).After-level_of-level) (omega arith)).find_is c.index.result.now)
    ∙ ap (λ (n : OpenNodes ℕ). find (is_named nat_eq c.args.name) n.stack) c.self.view_is
