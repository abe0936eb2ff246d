use Rattle.hopen.proofs.Names.{common_steps, ◌≡◌, ◌∙◌, suc, ◌+◌, List, map, get_or, set, refl, ap, subst, arith, eqb-true, sym, map-set, get_or_default, opened_by, open_of, IsAlone, KeptNode}
use Rattle.hopen.proofs.Projected.{held}
use Rattle.hopen.proofs.Passed.{stands-renamed}
use Rattle.hopen.proofs.ExchangedSlots.{rests-replaced}
use Rattle.hopen.proofs.kept.replace.Goals as goal

pub returns-then-of_node-eq0-clause-items : goal.returns-then-of_node-eq0-clause-items
returns-then-of_node-eq0-clause-items c = grind (arith, common_steps, get_or_default, held, map-set)

pub returns-then-of_node-eq0-clause-rests : goal.returns-then-of_node-eq0-clause-rests
returns-then-of_node-eq0-clause-rests c = let items : List KeptNode = c.args.items.now in let i = c.args.index in let last = c.args.last.now in
    let d : KeptNode = c.index-items-index-then-of_node-eq0.result in
    let x : KeptNode = get_or items i d in
    let within = c.requires.within in
    let same : get_or items i c.index-items-index-then-eq.result ≡ x = get_or_default items i c.index-items-index-then-eq.result d within in
    let old : get_or items i c.index-items-index.result ≡ x = get_or_default items i c.index-items-index.result d within in
    let next : i + 1 ≡ suc i = omega arith in
    let alone : IsAlone last x (suc i) =
    subst (λ p. IsAlone last x p) next (subst (λ (y : KeptNode). IsAlone last y (i + 1)) same (c.is_alone.ensures c.if-is_alone.true)) in
    let name : x.opened.name ≡ c.args.new.name = ap (λ (y : KeptNode). y.opened.name) (sym old) ∙ eqb-true _ _ (sym c.eq.ensures ∙ c.if-eq.true) in
    let fresh : get_or last.nodes.items c.args.new.node 0 ≡ 0 = sym c.of_node.ensures ∙ c.if-of_node-eq0.true in
    rests-replaced items _ i (open_of c.args.new) last _ c.requires.rests within c.requires.live (returns-then-of_node-eq0-clause-items c)
    (stands-renamed last items i x c.requires.rests.stands within (get_or_default items i d x within) alone _ _ c.args.new name fresh c.requires.new_in.1
    refl refl refl refl refl refl
    (λ t. set (set last.nodes.items ((c.index.ensures ∙ ap (λ (y : KeptNode). y.opened.node) old) t) 0) (c.index-then-of_node-eq0.ensures t) (next t))
    refl) refl

pub returns-else-eq-clause-rests : goal.returns-else-eq-clause-rests
returns-else-eq-clause-rests c = rests-replaced _ _ c.args.index (open_of c.args.new) _ _ c.requires.rests c.requires.within c.requires.live
    (c.rewrite.ensures.items ∙ ap (set (map opened_by c.args.items.now) c.args.index) c.new.ensures) c.rewrite.ensures.stands c.rewrite.ensures.tables.holes

pub index_mut-requires : goal.index_mut-requires
index_mut-requires c = grind (arith, common_steps)

pub is_alone-requires : goal.is_alone-requires
is_alone-requires c = grind (arith, common_steps)
