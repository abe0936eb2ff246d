use Rattle.hnodes.proofs.IndexNames.{◌≡◌, ℕ, ◌+◌, ◌-◌, ◌≤◌, ◌==◌, not, List, length, take, drop, ◌++◌, ap, sym, ◌∙◌, subst, arith, with_items_is, Bool, [], ◌∷◌, refl, take-append-le, map-append, take-map, length-take-le, length-drop, length-map, filter, none, link_number, numbers_of, Link, map, IndexedTo}
use Rattle.hnodes.proofs.Names.{Vec, Global, length-take, take_rest, drop-map, length-append, with_items, take-append-add, take-take, common_steps, elements}
use borrow.Rule.Slice.PartMut.{post_of}
use Rattle.hnodes.proofs.IndexSteps.{indexed-front}
use Rattle.hnodes.proofs.indexed_list.IndexedList.compact.Goals as goal

-- what is left of a list whose tail begins anew
take-anew : {X : Type 0} (a k : ℕ) (xs ys zs : List X) → a ≤ length xs → k ≤ length ys → take (a + k) (take a xs ++ (ys ++ zs)) ≡ take a xs ++ take k ys
take-anew a k xs ys zs in_xs in_ys = ap (λ n. take (n + k) (take a xs ++ (ys ++ zs))) (sym (length-take-le a xs in_xs))
    ∙ take-append-add (take a xs) (ys ++ zs) k ∙ ap (λ m. take a xs ++ m) (take-append-le k ys zs in_ys)

-- a test of what the members are seen as
module _ {X Y : Type 0} (f : X → Y) (p : Y → Bool) where
  map-filter : (xs : List X) → map f (filter (λ x. p (f x)) xs) ≡ filter p (map f xs)
  map-filter [] = refl
  map-filter (x ∷ xs) = grind (arith, map-filter xs)

-- the links without those from an index on that are none
abbrev rest : List Link → List Link
rest = filter (λ x. not (x.number == none))

left : (v : Vec Link Global) (from kept : ℕ) (all tail new : List Link) → all ≡ v.items → from ≤ length all → kept ≤ length tail
    → length tail ≡ length (take (length all - from) (drop from all)) → take kept tail ≡ rest (take (length all - from) (drop from all))
    → new ≡ take (from + kept) (with_items v (take from all ++ (tail ++ post_of from (length all - from) all))).items
    → new ≡ take from v.items ++ rest (drop from v.items)
left v from kept all tail new same within few many front is = let end : List Link = post_of from (length all - from) all in
    let end_len : length end ≡ 0 = omega (arith, length-drop (length all - from) (drop from all), length-drop from all) in
    let a = length-append (take from all) (tail ++ end) in let b = length-append tail end in let d = length-drop from all in
    let e = length-take (length all - from) (drop from all) in
    let whole : length (take from all ++ (tail ++ end)) ≡ v.len = omega (arith, many, length-take-le from all within, ap length same) in
    is ∙ ap (take (from + kept)) (with_items_is v (take from all ++ (tail ++ end)) whole) ∙ take-anew from kept all tail end within few
    ∙ ap (λ ys. take from all ++ ys) (front ∙ ap rest (take_rest all from)) ∙ ap (λ ys. take from ys ++ rest (drop from ys)) same

pub returns : goal.returns
returns c = let links : List Link = c.self.inside.links.items in let from = c.args.from in let same = c.deref_mut-2.ensures.value in
    let within : from ≤ length c.deref_mut-2.result.now = omega (arith, ap length same, ap length c.self.view_is, length-map links link_number) in
    let items = left c.self.inside.links from c.squeeze-kept.result _ _ _ same within (omega arith) c.squeeze-kept.auto.links c.squeeze-kept.ensures.front
    c.truncate.ensures.items in
    ap numbers_of (with_items_is c.truncate.new.self c.rewind.new.links (c.rewind.auto.links ∙ c.deref_mut-4.ensures.len)) ∙ c.rewind.ensures.same
    ∙ ap numbers_of (c.deref_mut-4.ensures.value ∙ items) ∙ map-append link_number (take from links) (rest (drop from links))
    ∙ (λ t. sym (take-map link_number from links) t
    ++ (map-filter link_number (λ n. not (n == none)) (drop from links) ∙ ap (filter (λ n. not (n == none))) (sym (drop-map link_number from links))) t)
    ∙ ap (λ ns. take from ns ++ filter (λ n. not (n == none)) (drop from ns)) c.self.view_is

pub rewind-requires-clause-indexed : goal.rewind-requires-clause-indexed
rewind-requires-clause-indexed c = let links : List Link = c.self.inside.links.items in let from = c.args.from in let same = c.deref_mut-2.ensures.value in
    let within : from ≤ length c.deref_mut-2.result.now = omega (arith, ap length same, ap length c.self.view_is, length-map links link_number) in
    let items = left c.self.inside.links from c.squeeze-kept.result _ _ _ same within (omega arith) c.squeeze-kept.auto.links c.squeeze-kept.ensures.front
    c.truncate.ensures.items in
    let last = c.deref_mut-3.ensures.value ∙ with_items_is c.self.inside.last c.unwind.new.last (c.unwind.auto.last ∙ c.deref_mut.ensures.len) in
    let front : take from c.deref_mut-4.result.now ≡ take from c.deref.result.now = ap (take from) (c.deref_mut-4.ensures.value ∙ items)
    ∙ take-append-le from (take from links) (rest (drop from links)) (omega (arith, length-take-le from links (omega (arith, within, ap length same))))
    ∙ take-take from from links (omega arith) ∙ ap (take from) (sym c.deref.ensures.value) in
    let in_old : from ≤ length c.deref.result.now = omega (arith, within, ap length same, ap length c.deref.ensures.value) in
    let in_new : from ≤ length c.deref_mut-4.result.now = omega
    (arith, ap length front, length-take-le from c.deref.result.now in_old, length-take from c.deref_mut-4.result.now) in
    subst (λ (xs : List ℕ). IndexedTo xs c.deref_mut-4.result.now from) (sym last)
    (indexed-front from c.deref.result.now c.deref_mut-4.result.now (sym front) in_old in_new c.unwind.new.last c.unwind.ensures)

pub invariant_of-self : goal.invariant_of-self
invariant_of-self c = grind (arith, common_steps)

pub rewind-requires-clause-within : goal.rewind-requires-clause-within
rewind-requires-clause-within c = grind (arith, elements)

pub offset_bounds-deref_mut-from : goal.offset_bounds-deref_mut-from
offset_bounds-deref_mut-from c = grind (arith, common_steps)

pub slice_bounds-squeeze-count : goal.slice_bounds-squeeze-count
slice_bounds-squeeze-count c = grind (arith, common_steps)

pub slice_bounds-squeeze-start : goal.slice_bounds-squeeze-start
slice_bounds-squeeze-start c = grind (arith, common_steps)

pub rewind-requires-clause-wide : goal.rewind-requires-clause-wide
rewind-requires-clause-wide c = grind (arith, common_steps)
