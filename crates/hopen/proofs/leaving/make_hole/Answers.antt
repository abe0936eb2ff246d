use Rattle.hopen.proofs.Names.{arith, common_steps, ◌≡◌, ℕ, List, ◌<◌, ◌-◌, ◌+◌, ◌&&◌, eqb, cond, suc, length, map, set, get_or, sym, ◌∙◌, ap, subst, map-set, length-map, get_or_default, get_or-set_same, get_or-set_other, with_items_is, opened_by, same_name_of, same_node_of, sets_at, set_node, kept_kind_at, closing, is_hole_kind, false, KeptNode, IsAlone, IsHeldLevel, IsLinked, slot_names}
use Rattle.hopen.proofs.Passed.{kind-counted, stands-left}
use Rattle.hopen.proofs.Projected.{no-node, held-within, length-names, name-in, same_name-at}
use Rattle.hopen.proofs.Swapped.{linked-left}
use Rattle.hopen.proofs.leaving.make_hole.Goals as goal

pub overflow_sub-last : goal.overflow_sub-last
overflow_sub-last c = grind (arith, common_steps, get_or_default, kind-counted)

pub keep-requires-clause-name_in : goal.keep-requires-clause-name_in
keep-requires-clause-name_in c = grind (arith, common_steps, name-in)

pub keep-requires-clause-within : goal.keep-requires-clause-within
keep-requires-clause-within c = grind (arith, common_steps, held-within, length-map)

pub returns-clause-opened : goal.returns-clause-opened
returns-clause-opened c = grind (arith, common_steps, map-set, no-node)

-- the other nodes of its name, once it has left
unlinked : (t u : List ℕ) (items left : List KeptNode) (i n : ℕ) (x : KeptNode) → IsLinked t (slot_names (map opened_by items)) (map same_name_of items)
    → i < length items → x ≡ get_or items i x → IsHeldLevel t (map same_name_of items) x.opened.name (i + 1) n
    → ((k : ℕ) → get_or u k 0 ≡ cond (eqb n 0 && eqb k x.opened.name) x.same_name (get_or t k 0))
    → ((m : ℕ) → get_or (map same_name_of left) m 0 ≡ cond (eqb n (suc m)) x.same_name (get_or (map same_name_of items) m 0)) → length left ≡ length items
    → IsLinked u (set (slot_names (map opened_by items)) i 0) (set (map same_name_of left) i 0)
unlinked t u items left i n x linked within is there table befores many = let bs = map same_name_of items in let new = map same_name_of left in
    let level : x.same_name ≡ get_or bs i 0 = sym (same_name-at items i x within is) in
    let next : i + 1 ≡ suc i = omega arith in
    let held : IsHeldLevel t bs x.opened.name (suc i) n = subst (λ p. IsHeldLevel t bs x.opened.name p n) next there in
    linked-left t (slot_names (map opened_by items)) bs linked i x.opened.name n (omega (arith, within, length-names items)) held u (set new i 0)
    (λ k. table k ∙ ap (λ b. cond (eqb n 0 && eqb k x.opened.name) b (get_or t k 0)) level)
    (λ m ne. get_or-set_other new i m 0 0 ne ∙ befores m ∙ ap (λ b. cond (eqb n (suc m)) b (get_or bs m 0)) level)
    (get_or-set_same new i 0 0 (omega (arith, within, many, length-map left same_name_of)))

pub returns-clause-stands : goal.returns-clause-stands
returns-clause-stands c = let items = c.args.items.now in let i = c.args.index in let last = c.args.last.now in let left = c.hint.new.items in
    let h = c.hole-2.result in
    let x = c.index-items-index.result in
    let is = c.index-items-index.is in
    let within = c.requires.within in
    let next : i + 1 ≡ suc i = omega arith in
    let alone : IsAlone last x (suc i) = subst (λ n. IsAlone last x n) next (subst (λ (z : KeptNode). IsAlone last z (i + 1))
    (get_or_default items i c.index-items-index-2.result x within ∙ sym is) (c.is_alone.ensures c.if-not-is_alone.false)) in
    let names = last.names.items in
    let held : IsHeldLevel names (map same_name_of items) x.opened.name (i + 1) c.next_of_name-next.result =
    subst (λ (t : List ℕ). IsHeldLevel t (map same_name_of items) x.opened.name (i + 1) c.next_of_name-next.result) c.deref.ensures.value
    (c.next_of_name-next.ensures x is) in
    let linked = unlinked names c.keep.new.names items left i c.next_of_name-next.result x c.requires.stands.names within is held (λ k. c.keep.ensures.table k
    ∙ ap (λ (t : List ℕ). cond (eqb c.next_of_name-next.result 0 && eqb k x.opened.name) x.same_name (get_or t k 0)) c.deref_mut.ensures.value)
    (λ m. ap (λ (l : List ℕ). get_or l m 0) c.hint.ensures.same_names ∙ c.keep.ensures.befores m) (c.hint.auto.items ∙ c.keep.auto.items) in
    let opened = c.hint.ensures.rest.opened ∙ c.keep.ensures.rest.opened in
    let same_nodes = c.hint.ensures.rest.same_nodes ∙ c.keep.ensures.rest.same_nodes in
    let sets = c.hint.ensures.rest.sets ∙ c.keep.ensures.rest.sets in
    let kinds = c.hint.ensures.rest.kinds ∙ c.keep.ensures.rest.kinds in
    stands-left last items i x c.requires.stands within is alone left (set left i h) _
    (map-set opened_by left i h ∙ (λ t. set (opened t) i (no-node h (ap is_hole_kind c.hole-2.ensures.hole) t)))
    (map-set same_name_of left i h ∙ ap (set (map same_name_of left) i) c.hole-2.ensures.levels.0)
    (map-set same_node_of left i h ∙ (λ t. set (same_nodes t) i (c.hole-2.ensures.levels.1 t))) (λ group m ne.
    ap (λ l. get_or (map (set_node group) l) m 0) (map-set sets_at left i h) ∙ ap (λ l. get_or l m 0) (map-set (set_node group) (map sets_at left) i h.sets)
    ∙ get_or-set_other (map (set_node group) (map sets_at left)) i m (set_node group h.sets) 0 ne ∙ ap (λ l. get_or (map (set_node group) l) m 0) sets)
    (map-set kept_kind_at left i h ∙ (λ t. set (kinds t) i (c.hole-2.ensures.hole t)))
    (subst (λ l. IsLinked l (set (slot_names (map opened_by items)) i 0) (set (map same_name_of left) i 0))
    (sym (with_items_is last.names c.keep.new.names (c.keep.auto.names ∙ c.deref_mut.ensures.len))) linked)
    (ap (λ k. set last.nodes.items k 0) c.index.ensures) (ap (λ k. last.must_close - k) c.closing.ensures)

pub returns-clause-tables : goal.returns-clause-tables
returns-clause-tables c = grind (arith, common_steps)

pub index_mut-requires : goal.index_mut-requires
index_mut-requires c = grind (arith, common_steps)
