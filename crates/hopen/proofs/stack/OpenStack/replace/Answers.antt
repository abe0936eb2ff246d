use Rattle.hopen.proofs.Names.{◌≡◌, ◌-◌, List, Some, None, length, map, get_or, set, ap, sym, ◌∙◌, arith, subst, with_items_is, with_items, changed, is_node, open_of, opened_by, stack_of, KeptNode, Rests}
use Rattle.hopen.proofs.ExchangedSlots.{level-of, node-placed, kept, length-changed, none-replaced, seen, stack-replaced}
use Rattle.hopen.proofs.stack.OpenStack.replace.Goals as goal
use Rattle.hopen.proofs.stack.OpenStack.replace.Goals.{After-replace}

pub replace-requires-clause-within : goal.replace-requires-clause-within
replace-requires-clause-within c = omega (
  arith,
  (node-placed _ _ c.self.invariant.rests.stands c.args.node c.of_node-level.result c.of_node-level.ensures (omega arith)).sum,
  ap length c.deref_mut.ensures.value,
)

pub replace-requires-clause-live : goal.replace-requires-clause-live
replace-requires-clause-live c =
    let live = (node-placed _ _ c.self.invariant.rests.stands c.args.node c.of_node-level.result c.of_node-level.ensures (omega arith)).live in
    λ e. live (ap (λ (l : List KeptNode). get_or (map opened_by l) (c.of_node-level.result - 1) None) (sym c.deref_mut.ensures.value) ∙ e)

-- the items with another node
module _ (c : After-replace) where
  back : (with_items c.self.inside.items c.replace.new.items).items ≡ c.replace.new.items
  back = with_items_is c.self.inside.items c.replace.new.items (c.replace.auto.items ∙ c.deref_mut.ensures.len)

  replaced : stack_of (with_items c.self.inside.items c.replace.new.items).items
      ≡ changed (is_node c.args.node) (λ _. open_of c.args.by) (stack_of c.self.inside.items.items)
  replaced = stack-replaced (is_node c.args.node) c.self.inside.items.items (c.of_node-level.result - 1)
      (node-placed _ _ c.self.invariant.rests.stands c.args.node c.of_node-level.result c.of_node-level.ensures (omega arith)) _ (open_of c.args.by)
      (ap (map opened_by) back ∙ c.replace.ensures.items
      ∙ ap (λ (l : List KeptNode). set (map opened_by l) (c.of_node-level.result - 1) (Some (open_of c.args.by))) c.deref_mut.ensures.value)

pub invariant_of-self-then-level-gt0 : goal.invariant_of-self-then-level-gt0
invariant_of-self-then-level-gt0 c = let s = (goal.at.invariant_of-self-then-level-gt0 c).After-replace in
    record {
      within = omega (
        arith,
        c.self.invariant.within,
        ap length (replaced s),
        length-changed (is_node c.args.node) (λ _. open_of c.args.by) (stack_of c.self.inside.items.items),
      );
      rests = subst (Rests c.replace.new.last) (sym (back s)) c.replace.ensures.rests;
    }

pub returns-in_ok-make_room-clause-ok : goal.returns-in_ok-make_room-clause-ok
returns-in_ok-make_room-clause-ok c = seen c.self.inside c.args.self.now (changed (is_node c.args.node) (λ _. open_of c.args.by))
    (with_items c.self.inside.items c.replace.new.items).items c.self.view_is (replaced (goal.at.returns-in_ok-make_room-clause-ok c).After-replace)

pub returns-else-level-gt0-clause-ok : goal.returns-else-level-gt0-clause-ok
returns-else-level-gt0-clause-ok c = let none : c.of_node-level.result ≡ 0 = omega (arith, c.if-level-gt0.false) in
    kept c.self.inside c.args.self.now (changed (is_node c.args.node) (λ _. open_of c.args.by)) c.self.view_is
    (none-replaced (is_node c.args.node) c.self.inside.items.items c.of_node-level.result
    (level-of _ _ c.self.invariant.rests.stands c.args.node c.of_node-level.result c.of_node-level.ensures) none (open_of c.args.by))
