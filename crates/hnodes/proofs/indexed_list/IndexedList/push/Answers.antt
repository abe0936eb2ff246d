use Rattle.hnodes.proofs.Names.{common_steps}
use Rattle.hnodes.proofs.IndexNames.{◌≡◌, ◌<◌, List, [], ◌∷◌, ◌++◌, suc, length, get_or, set, ap, sym, ◌∙◌, subst, arith, rules, with_items_is, length_push, get_or_default, IsIndexed, AreIndexed, Link, group_of}
use Rattle.hnodes.proofs.IndexSteps.{indexed-push, indexed-same, last-le}
use Rattle.hnodes.proofs.indexed_list.IndexedList.push.Goals as goal

pub hint_at-requires : goal.hint_at-requires
hint_at-requires c = let last = c.make_room.new.last.items in let links : List Link = c.make_room.new.links in
    let x : Link = record { number = c.args.number; before = c.index-before.result.now; hint = 0 } in
    let indexed : IsIndexed last links = c.in_ok-make_room.ensures.indexed in
    let wide : 0 < length last = c.in_ok-make_room.ensures.room in
    let pushed : c.push.new.self.items ≡ links ++ x ∷ [] =
    c.in_ok-push.ensures.items ∙ ap (λ ys. ys ++ x ∷ []) (with_items_is c.self.inside.links links (c.make_room.auto.links ∙ c.deref_mut.ensures.len)) in
    let is : x.before ≡ get_or last (group_of c.args.number (length last)) x.before = search rules in
    omega (arith, last-le indexed c.args.number x.before c.requires wide is, ap length c.deref_mut-2.ensures.value, ap length pushed, length_push links x)

pub invariant_of-self-2 : goal.invariant_of-self-2
invariant_of-self-2 c = let last = c.make_room.new.last.items in let links : List Link = c.make_room.new.links in let ordinal = c.in-Ok.ordinal in
    let x : Link = record { number = c.args.number; before = c.index-before.result.now; hint = 0 } in
    let len : c.len-2.result ≡ length last = search rules in let group = c.group_of-group.result in
    let is_group : group ≡ group_of c.args.number (length last) = c.group_of-group.ensures.group ∙ ap (group_of c.args.number) len in
    -- the list has the link, and then its hints change
    let pushed : c.push.new.self.items ≡ links ++ x ∷ [] =
    c.in_ok-push.ensures.items ∙ ap (λ ys. ys ++ x ∷ []) (with_items_is c.self.inside.links links (c.make_room.auto.links ∙ c.deref_mut.ensures.len)) in
    let passed : c.deref_mut-2.result.now ≡ links ++ x ∷ [] = c.deref_mut-2.ensures.value ∙ pushed in
    let whole = with_items_is c.push.new.self c.hint_at.new.links (c.hint_at.auto.links ∙ c.deref_mut-2.ensures.len) in
    -- what the table said is what the link keeps
    let before : x.before ≡ get_or last group 0 =
    c.index-before.ensures ∙ get_or_default last group x.before 0 (omega (arith, c.group_of-group.ensures.within, len)) in
    let is_ordinal : ordinal ≡ suc (length links) = omega arith in
    let more = indexed-push last links x ordinal is_ordinal c.in_ok-make_room.ensures.indexed group is_group c.requires c.in_ok-make_room.ensures.room before in
    let same = indexed-same (set last group ordinal) c.deref_mut-2.result.now c.hint_at.new.links c.hint_at.ensures.numbers c.hint_at.ensures.befores
    (rw passed more) in
    subst (AreIndexed (set last group ordinal)) (sym whole) (record { indexed = same; fits = omega (arith, ap length passed, length_push links x) })

pub invariant_of-self-in_err-push : goal.invariant_of-self-in_err-push
invariant_of-self-in_err-push c = grind (arith, common_steps)

pub invariant_of-self : goal.invariant_of-self
invariant_of-self c = grind (arith, common_steps)

pub returns-in_err-push-clause-err : goal.returns-in_err-push-clause-err
returns-in_err-push-clause-err c = grind (arith, common_steps)

pub returns-clause-ok : goal.returns-clause-ok
returns-clause-ok c = grind (arith, common_steps)

pub returns-in_err-make_room-clause-err : goal.returns-in_err-make_room-clause-err
returns-in_err-make_room-clause-err c = grind (arith, common_steps)
