use Rattle.hopen.proofs.Names.{common_steps, ◌≡◌, ◌+◌, ◌-◌, ◌<◌, suc, ◌∷◌, ◌++◌, [], Some, List, length, map, drop, set, get_or, get_or_push, refl, sym, ap, ◌∙◌, subst, arith, length-append, map-append, take-append-le, sum_by_push, opened_by, open_of, stack_of, closing, EndsOpen, HasRoom, LevelsStand, LevelsTo, Rests, KeptNode, LastLevels, current}
use Rattle.hopen.proofs.Projected.{held}
use Rattle.hopen.proofs.Standing.{levels-front, levels-in, levels-less, stack-more, stands-to, to-stands}
use Rattle.hopen.proofs.Trimmed.{ends-live, stack-holes}
use Rattle.hopen.proofs.leaving.take_last.Goals as goal

-- what was popped
module _ (items left : List KeptNode) (x : KeptNode) (is : items ≡ left ++ x ∷ []) (last : LastLevels) (r : Rests last items) where
  abbrev all : List KeptNode
  all = left ++ x ∷ []

  -- an open node
  live : opened_by x ≡ Some (open_of x.opened)
  live = held x (ends-live left x (subst (λ (xs : List KeptNode). EndsOpen (map opened_by xs)) is r.ends))

  popped : stack_of items ≡ open_of x.opened ∷ stack_of left
  popped = ap stack_of is ∙ stack-more left x (open_of x.opened) live

  -- the slots stand with it
  more : length all ≡ suc (length left)
  more = omega (arith, length-append left (x ∷ []))

  within : length left < length all
  within = omega (arith, more)

  here : x ≡ get_or all (length left) x
  here = sym (get_or_push left x x (length left) refl)

  whole : LevelsTo (suc (length left)) last all
  whole = subst (λ n. LevelsTo n last all) more (stands-to last all (subst (LevelsStand last) is r.stands))

  room : HasRoom last x.opened
  room = levels-in all (length left) within last x here whole live

  -- and without it
  stands : (next : LastLevels) → next.names.items ≡ set last.names.items x.opened.name x.same_name
      → next.nodes.items ≡ set last.nodes.items x.opened.node x.same_node → next.must_close ≡ last.must_close - closing x.kind → LevelsStand next left
  stands next names nodes closes = to-stands next left (length left) refl (levels-front (length left) next left all
      (sym (take-append-le (length left) left (x ∷ []) (omega arith))) (levels-less all (length left) within last x here whole live next names nodes closes))

pub take_back-requires-clause-room : goal.take_back-requires-clause-room
take_back-requires-clause-room c = room _ _ _ c.in_ok-item.ensures.items _ c.requires

pub returns-clause-stands : goal.returns-clause-stands
returns-clause-stands c =
    stands _ _ _ c.in_ok-item.ensures.items _ c.requires c.take_back.new.self c.take_back.ensures.names c.take_back.ensures.nodes c.take_back.ensures.closes

pub returns-clause-holes : goal.returns-clause-holes
returns-clause-holes c = grind (arith, common_steps, map-append, popped, stack-holes, sum_by_push)

pub returns-clause-popped : goal.returns-clause-popped
returns-clause-popped c = sym (ap current (popped _ _ _ c.in_ok-item.ensures.items _ c.requires))

pub returns-clause-rest : goal.returns-clause-rest
returns-clause-rest c = sym (ap (drop 1) (popped _ _ _ c.in_ok-item.ensures.items _ c.requires))

pub returns-clause-some : goal.returns-clause-some
returns-clause-some c = let known = room _ _ _ c.in_ok-item.ensures.items _ c.requires in let long = c.take_back.ensures.tables in
    grind (arith, common_steps, length-append)

pub take_back-requires-clause-counted : goal.take_back-requires-clause-counted
take_back-requires-clause-counted c = grind (arith, common_steps)
