use Rattle.hopen.proofs.Names.{◌≡◌, ℕ, suc, ◌+◌, ◌<◌, List, length, map, get_or, set, None, refl, sym, ◌∙◌, ap, transport, get_or_default, arith, length-map, map-set, with_items_is, exchanged, kept_kind_at, slot_names, open_of, opened_by, same_name_of, same_node_of, sets_at, IsLinked, KeepSets, KeptNode, common_steps}
use Rattle.hopen.specs.declared.kept.Kind.TheVariants as kind
use Rattle.hopen.proofs.Passed.{sets-exchanged, stands-passed}
use Rattle.hopen.proofs.Projected.{opened-at, part-at, two-same, two-upper}
use Rattle.hopen.proofs.exchange.swap.Goals as goal

-- two items are written, in a vector that keeps the same of each, where each has what the other one had
module _ (items alike : List KeptNode) (i j : ℕ) (a b x y : KeptNode) (less : i < j) (within : j < length items) (first : x ≡ get_or items i x)
    (second : y ≡ get_or items j y) where
  moved : {Y : Type 0} (f : KeptNode → Y) (d : Y) → map f alike ≡ map f items → f a ≡ f y → f b ≡ f x
      → map f (set (set alike i a) j b) ≡ exchanged i j d (map f items)
  moved f d same e g = grind (arith, map-set, same, part-at f d items j y within second, part-at f d items i x (omega arith) first, e, g)

pub returns-clause-opened : goal.returns-clause-opened
returns-clause-opened c = let p = c.requires.can_pass in
    moved c.args.items.now c.swap_names.new.items c.args.index c.args.below _ _ c.index-items-index-2.result c.index-items-below-2.result p.order p.within
    c.index-items-index-2.is c.index-items-below-2.is opened_by None c.swap_names.ensures.rest.opened refl refl

pub returns-clause-stands : goal.returns-clause-stands
returns-clause-stands c = let items : List KeptNode = c.args.items.now in let alike : List KeptNode = c.swap_names.new.items in let i = c.args.index in
    let j = c.args.below in
    let x : KeptNode = c.index-items-index-2.result in
    let y : KeptNode = c.index-items-below-2.result in
    let first = c.index-items-index-2.is in
    let second = c.index-items-below-2.is in
    let risen : KeptNode = c.index-items-index-3.result in
    let sunk : KeptNode = c.index-items-below-3.result in
    let a : KeptNode = record risen { opened = y.opened; same_node = y.same_node; sets = y.sets; kind = y.kind } in
    let b : KeptNode = record sunk { opened = x.opened; same_node = x.same_node; kind = x.kind } in
    let new : List KeptNode = set (set alike i a) j b in
    let last = c.args.last.now in
    let p = c.requires.can_pass in
    let rest = c.swap_names.ensures.rest in
    let front : i < length items = omega (arith, p.order, p.within) in
    let many = length-map items opened_by in
    let up : i + 1 ≡ suc i = omega arith in
    let down : j + 1 ≡ suc j = omega arith in
    let opened = moved items alike i j a b x y p.order p.within first second opened_by None rest.opened refl refl in
    let names : map same_name_of new ≡ map same_name_of alike = two-same same_name_of alike i j a b risen p.order (ap same_name_of c.index-items-index-3.is)
    (ap same_name_of (c.index-items-below-3.is ∙ get_or_default alike j sunk risen (omega (arith, p.within, c.swap_names.auto.items)))) in
    let sets : map sets_at new ≡ set (map sets_at items) i y.sets =
    two-upper sets_at alike i j a b sunk p.order (ap sets_at c.index-items-below-3.is) ∙ ap (λ l. set l i y.sets) rest.sets in
    stands-passed last items i j c.requires.stands p c.index-items-index.result c.index-items-below.result c.index-items-index.is c.index-items-below.is _ new
    opened (moved items alike i j a b x y p.order p.within first second same_node_of 0 rest.same_nodes refl refl)
    (transport (λ t. IsLinked (sym (with_items_is last.names c.swap_names.new.names (c.swap_names.auto.names ∙ c.deref_mut.ensures.len)) t)
    (exchanged i j 0 (slot_names (map opened_by items))) (sym names t)) c.swap_names.ensures.linked)
    (λ t. set (set last.nodes.items ((c.index.ensures ∙ ap (λ (z : KeptNode). z.opened.node) (sym c.index-items-index.is)) t) (down t))
    ((c.index-2.ensures ∙ ap (λ (z : KeptNode). z.opened.node) (sym c.index-items-below.is)) t) (up t)) (transport (λ t. KeepSets (sym opened t) (sym sets t))
    (sets-exchanged (map opened_by items) i j (open_of x.opened) (open_of y.opened) p.order (omega (arith, p.within, many)) p.holes
    (opened-at items i x front first (p.upper x first).0) (opened-at items j y p.within second (p.lower y second).0) (p.upper x first).1 (map sets_at items)
    y.sets (length-map items sets_at ∙ sym many) c.requires.stands.sets (sym (part-at sets_at y.sets items j y p.within second))))
    (moved items alike i j a b x y p.order p.within first second kept_kind_at kind.Hole rest.kinds refl refl) refl

pub returns-clause-tables : goal.returns-clause-tables
returns-clause-tables c = grind (arith, common_steps)

pub index_mut-requires-2 : goal.index_mut-requires-2
index_mut-requires-2 c = grind (arith, common_steps)

pub index_mut-requires : goal.index_mut-requires
index_mut-requires c = grind (arith, common_steps)

pub bounds-items-below-5 : goal.bounds-items-below-5
bounds-items-below-5 c = grind (arith, common_steps)

pub swap_names-requires-clause-holes : goal.swap_names-requires-clause-holes
swap_names-requires-clause-holes c = grind (arith, common_steps)

pub swap_names-requires-clause-linked : goal.swap_names-requires-clause-linked
swap_names-requires-clause-linked c = grind (arith, common_steps)
