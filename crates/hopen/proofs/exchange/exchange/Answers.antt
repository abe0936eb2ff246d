use Rattle.hopen.proofs.Names.{common_steps, ◌≡◌, ◌≢◌, ℕ, suc, ◌+◌, ◌-◌, List, None, length, map, reverse, get_or, set, drop, sym, ◌∙◌, ap, subst, arith, with_items_is, with_items, length-map, without, holds_one, is_node, last_place, open_of, opened_by, somes, stack_of, KeptNode, Rests}
use Rattle.hopen.proofs.ExchangedSlots.{put-sunk, left-is, level-le, level-of, open-here, open-level}
use Rattle.hopen.proofs.exchange.exchange.Goals as goal
use Rattle.hopen.proofs.exchange.exchange.Goals.{After-replace, After-sink-index}

pub overflow_sub-from : goal.overflow_sub-from
overflow_sub-from c = omega (arith, open-level _ _ c.requires.rests.stands _ _ c.of_node.ensures c.requires.live)

pub sink-index-requires-clause-from : goal.sink-index-requires-clause-from
sink-index-requires-clause-from c = omega (
  arith,
  open-level _ _ c.requires.rests.stands _ _ c.of_node.ensures c.requires.live,
  level-le _ _ c.requires.rests.stands _ _ c.of_node.ensures,
  ap length c.deref_mut.ensures.value,
)

pub sink-index-requires-clause-to : goal.sink-index-requires-clause-to
sink-index-requires-clause-to c = omega (
  arith,
  open-level _ _ c.requires.rests.stands _ _ c.of_node.ensures c.requires.live,
  level-le _ _ c.requires.rests.stands _ _ c.of_node.ensures,
  level-le _ _ c.requires.rests.stands _ _ c.of_node-2.ensures,
  c.saturating_sub-to.ensures,
  ap length c.deref_mut.ensures.value,
)

pub sink-index-requires-clause-live : goal.sink-index-requires-clause-live
sink-index-requires-clause-live c = rw c.deref_mut.ensures.value (open-here _ _ c.requires.rests.stands _ _ c.of_node.ensures c.requires.live)

pub sink-index-requires-clause-rests : goal.sink-index-requires-clause-rests
sink-index-requires-clause-rests c = subst (Rests c.args.last.now) (sym c.deref_mut.ensures.value) c.requires.rests

-- it has sunk
module _ (c : After-sink-index) where
  abbrev items : List KeptNode
  items = c.args.items.now.items

  abbrev sunk : List KeptNode
  sunk = c.sink-index.new.items

  abbrev from : ℕ
  from = c.of_node.result - 1

  abbrev i : ℕ
  i = c.sink-index.result

  back : (with_items c.args.items.now sunk).items ≡ sunk
  back = with_items_is c.args.items.now sunk (c.sink-index.auto.items ∙ c.deref_mut.ensures.len)

  sunk-live : get_or (map opened_by sunk) i None ≢ None
  sunk-live e = open-here _ _ c.requires.rests.stands _ _ c.of_node.ensures c.requires.live
      (ap (λ (xs : List KeptNode). get_or (map opened_by xs) from None) (sym c.deref_mut.ensures.value) ∙ sym c.sink-index.ensures.same ∙ e)

  left : somes (reverse (set (map opened_by sunk) i None)) ≡ without (is_node c.args.leaving) (stack_of items)
  left = grind (arith, c.sink-index.ensures.rest, c.deref_mut.ensures.value, left-is _ _ c.requires.rests.stands _ _ c.of_node.ensures c.requires.live)

pub replace-requires-clause-live : goal.replace-requires-clause-live
replace-requires-clause-live c = let s = (goal.at.replace-requires-clause-live c).After-sink-index in
    λ e.
    sunk-live s (ap (λ (xs : List KeptNode). get_or (map opened_by xs) c.sink-index.result None) (sym (c.deref_mut-then-index-to.ensures.value ∙ back s)) ∙ e)

pub replace-requires-clause-rests : goal.replace-requires-clause-rests
replace-requires-clause-rests c = let s = (goal.at.replace-requires-clause-rests c).After-sink-index in
    subst (Rests c.sink-index.new.last) (sym (c.deref_mut-then-index-to.ensures.value ∙ back s)) c.sink-index.ensures.rests

-- another has taken its place, right below the other
module _ (c : After-replace) where
  replaced : (with_items (with_items c.args.items.now c.sink-index.new.items) c.replace.new.items).items ≡ c.replace.new.items
  replaced =
      with_items_is (with_items c.args.items.now c.sink-index.new.items) c.replace.new.items (c.replace.auto.items ∙ c.deref_mut-then-index-to.ensures.len)

pub returns-then-index-to-clause-rests : goal.returns-then-index-to-clause-rests
returns-then-index-to-clause-rests c =
    subst (Rests c.replace.new.last) (sym (replaced (goal.at.returns-then-index-to-clause-rests c).After-replace)) c.replace.ensures.rests

pub returns-then-index-to-clause-items : goal.returns-then-index-to-clause-items
returns-then-index-to-clause-items c = let s = (goal.at.returns-then-index-to-clause-items c).After-sink-index in
    let old : List KeptNode = c.args.items.now.items in
    let sunk : List KeptNode = c.sink-index.new.items in
    let ys = map opened_by old in
    let zs = map opened_by sunk in
    let x = open_of c.args.new in
    let from = c.of_node.result - 1 in
    let to = c.saturating_sub-to.result in
    let at : c.sink-index.result ≡ to = c.if-index-to.true in
    let next : c.sink-index.result + 1 ≡ suc to = omega (arith, at) in
    let ordinal : last_place (holds_one (is_node c.args.above)) (reverse ys) ≡ suc to =
    sym (level-of _ _ c.requires.rests.stands _ _ c.of_node-2.ensures) ∙ (omega (arith, c.saturating_sub-to.ensures, c.if-from-to.true)) in
    let equal : length zs ≡ length ys =
    length-map sunk opened_by ∙ c.sink-index.auto.items ∙ ap length c.deref_mut.ensures.value ∙ sym (length-map old opened_by) in
    let below : drop (suc to) zs ≡ drop (suc to) ys =
    ap (λ k. drop k zs) (sym next) ∙ c.sink-index.ensures.below ∙ (λ t. drop (next t) (map opened_by (c.deref_mut.ensures.value t))) in
    grind (arith, common_steps, with_items_is, length-map, put-sunk, left-is, level-le, level-of, open-here, open-level)

pub move_below-requires-clause-rests : goal.move_below-requires-clause-rests
move_below-requires-clause-rests c =
    subst (Rests c.sink-index.new.last) (sym (back (goal.at.move_below-requires-clause-rests c).After-sink-index)) c.sink-index.ensures.rests

pub move_below-requires-clause-live : goal.move_below-requires-clause-live
move_below-requires-clause-live c = let s = (goal.at.move_below-requires-clause-live c).After-sink-index in
    λ e. sunk-live s (ap (λ (xs : List KeptNode). get_or (map opened_by xs) c.sink-index.result None) (sym (back s)) ∙ e)

pub returns-clause-items : goal.returns-clause-items
returns-clause-items c = let s = (goal.at.returns-clause-items c).After-sink-index in grind (arith, c.move_below.ensures.items, back s, left s)

pub move_below-requires-clause-within : goal.move_below-requires-clause-within
move_below-requires-clause-within c = grind (arith, common_steps)

pub move_below-requires-clause-levels : goal.move_below-requires-clause-levels
move_below-requires-clause-levels c = grind (arith, common_steps)
