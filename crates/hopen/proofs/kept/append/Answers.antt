use Rattle.hopen.proofs.Projected.{held, below-held, some≢none}
use Rattle.hopen.proofs.Names.{[], ◌≡◌, ℕ, ◌+◌, List, Some, None, ◌∷◌, ◌++◌, length, map, take, get_or, get_or_append_left, get_or_push, subst, sym, ap, ◌∙◌, arith, take-append-le, length-map, map-append, length-append, sum_by, sum_by_push, gap, Rests, LevelsTo, LastLevels, opened_by, KeptNode, Open, open_of, IsBelow, common_steps}
use Rattle.hopen.proofs.Standing.{below-front, levels-front, stack-more, stands-to, to-stands}
use Rattle.hopen.proofs.Trimmed.{stack-holes, written_back}
use Rattle.hopen.proofs.kept.append.Goals as goal

-- what is known of the lent slots is so of the vector's first ones
below-of : (last : LastLevels) (items lent : List KeptNode) (n : ℕ) (new : Open) (x : KeptNode) → lent ≡ items → length items ≡ n
    → IsBelow last (map opened_by lent) (length lent) new x → IsBelow last (map opened_by items) n new x
below-of last items lent n new x value long b = rw (value, long) at b

pub enter-requires-clause-stands : goal.enter-requires-clause-stands
enter-requires-clause-stands c = let items : List KeptNode = c.args.items.now.items in let x = c.slot_below-slot.result in let n = c.len-index.result in
    let long : length items ≡ n = omega arith in
    let pushed : c.deref_mut.result.now ≡ items ++ x ∷ [] = c.deref_mut.ensures.value ∙ c.in_ok-push.ensures.items in
    levels-front n c.args.last.now c.deref_mut.result.now items (ap (take n) pushed ∙ take-append-le n items (x ∷ []) (omega (arith, long)))
    (subst (λ k. LevelsTo k c.args.last.now items) long (stands-to c.args.last.now items c.requires.rests.stands))

pub enter-requires-clause-below : goal.enter-requires-clause-below
enter-requires-clause-below c = let items : List KeptNode = c.args.items.now.items in let x = c.slot_below-slot.result in let n = c.len-index.result in
    let long : length items ≡ n = omega arith in
    let pushed : map opened_by c.deref_mut.result.now ≡ map opened_by items ++ opened_by x ∷ [] =
    ap (map opened_by) (c.deref_mut.ensures.value ∙ c.in_ok-push.ensures.items) ∙ map-append opened_by items (x ∷ []) in
    below-front c.args.last.now (map opened_by items) (map opened_by c.deref_mut.result.now) n c.args.opened x
    (below-of c.args.last.now items c.deref.result.now n c.args.opened x c.deref.ensures.value long
    (c.slot_below-slot.ensures c.deref.result.now (length c.deref.result.now) c.sets_at_end.ensures)) (λ j h.
    ap (λ ys. get_or ys j None) pushed ∙ get_or_append_left (map opened_by items) (opened_by x ∷ []) None j (omega (arith, long, length-map items opened_by)))

pub returns-clause-rests : goal.returns-clause-rests
returns-clause-rests c = let items : List KeptNode = c.args.items.now.items in let x = c.slot_below-slot.result in let n = c.len-index.result in
    let new : List KeptNode = c.enter.new.items in
    let last = c.enter.new.last in
    let held : opened_by x ≡ Some (open_of x.opened) = below-held c.args.last.now (map opened_by c.deref.result.now) (length c.deref.result.now)
    c.args.opened x (c.slot_below-slot.ensures c.deref.result.now (length c.deref.result.now) c.sets_at_end.ensures) in
    let pushed : c.deref_mut.result.now ≡ items ++ x ∷ [] = c.deref_mut.ensures.value ∙ c.in_ok-push.ensures.items in
    let same : map opened_by new ≡ map opened_by (items ++ x ∷ []) = c.enter.ensures.same ∙ ap (map opened_by) pushed in
    let before : length items ≡ n = omega arith in
    let grown : length (items ++ x ∷ []) ≡ n + 1 = grind (arith, length-append, before) in
    let long : length new ≡ n + 1 = grind (arith, length-map, same, grown) in
    let over : length (map opened_by items) ≡ n = grind (arith, length-map, before) in
    let ys : map opened_by new ≡ map opened_by items ++ opened_by x ∷ [] = same ∙ map-append opened_by items (x ∷ []) in
    subst (Rests last) (sym (written_back new _ _ _ c.enter.ensures.same c.deref_mut.ensures.value c.deref_mut.ensures.len)) (record {
      stands = to-stands last new (n + 1) (sym long) c.enter.ensures.stands;
      ends = λ k is. some≢none (open_of x.opened) (get_or (map opened_by new) k None) (ap (λ zs. get_or zs k None) ys
          ∙ get_or_push (map opened_by items) (opened_by x) None k (over ∙ omega (arith, is, long, length-map new opened_by)) ∙ held);
      holes = omega (
        arith,
        c.requires.rests.holes,
        c.enter.ensures.tables.holes,
        ap (sum_by gap) ys,
        sum_by_push gap (map opened_by items) (opened_by x),
        ap gap held,
        stack-holes items,
        stack-holes new,
        long,
        before,
      );
      levels = omega (arith, long, before, c.requires.levels);
    })

pub returns-clause-ok : goal.returns-clause-ok
returns-clause-ok c = let items : List KeptNode = c.args.items.now.items in let x = c.slot_below-slot.result in let lent = c.deref.result.now in
    let below = c.slot_below-slot.ensures lent (length lent) c.sets_at_end.ensures in
    let back = written_back c.enter.new.items _ _ _ c.enter.ensures.same c.deref_mut.ensures.value c.deref_mut.ensures.len in
    let held = below-held c.args.last.now (map opened_by lent) (length lent) c.args.opened x below in let more = stack-more items x (open_of x.opened) held in
    grind (arith, back, c.enter.ensures.same, c.deref_mut.ensures.value, c.in_ok-push.ensures.items, more, below.opened)

pub returns-clause-len : goal.returns-clause-len
returns-clause-len c = grind (arith, common_steps)
