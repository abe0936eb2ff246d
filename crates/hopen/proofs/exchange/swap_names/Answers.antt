use Rattle.hopen.proofs.Names.{common_steps, ◌≡◌, ◌≢◌, ℕ, suc, ◌+◌, ◌<◌, ◌&&◌, eqb, cond, List, length, map, get_or, set, sym, ◌∙◌, ap, arith, eqb-true, eqb-false, get_or-set_same, get_or-set_other, length-map, length-set, IsHeldLevel, slot_names, opened_by, same_name_of, level_exchanged, KeptNode}
use Rattle.hopen.proofs.Projected.{held-within, length-names, name-at, name-in, same_name-at}
use Rattle.hopen.proofs.Swapped.{exchanged-same, linked-swapped, moved-list, moved-table}
use Rattle.hopen.proofs.exchange.swap_names.Goals as goal

pub keep-requires-clause-name_in : goal.keep-requires-clause-name_in
keep-requires-clause-name_in c = grind (arith, common_steps, name-in)

pub keep-requires-2-clause-name_in : goal.keep-requires-2-clause-name_in
keep-requires-2-clause-name_in c = grind (arith, common_steps, name-in)

pub keep-requires-clause-within : goal.keep-requires-clause-within
keep-requires-clause-within c = grind (arith, common_steps, held-within, length-map)

pub keep-requires-2-clause-within : goal.keep-requires-2-clause-within
keep-requires-2-clause-within c = grind (arith, common_steps, held-within, length-map)

pub returns-then-eq-clause-linked : goal.returns-then-eq-clause-linked
returns-then-eq-clause-linked c = grind (arith, common_steps, eqb-true, exchanged-same, name-at)

pub returns-clause-linked : goal.returns-clause-linked
returns-clause-linked c = let items : List KeptNode = c.args.items.now in let i : ℕ = c.args.index in let j : ℕ = c.args.below in
    let t : List ℕ = c.args.names.now in
    let ns : List ℕ = slot_names (map opened_by items) in
    let bs : List ℕ = map same_name_of items in
    let x : KeptNode = c.index-items-index.result in
    let y : KeptNode = c.index-items-below.result in
    let first = c.index-items-index.is in
    let second = c.index-items-below.is in
    let m : ℕ = c.next_of_name-upper_next.result in
    let n : ℕ = c.next_of_name-lower_next.result in
    let a : ℕ = x.opened.name in
    let b : ℕ = y.opened.name in
    let ks : List ℕ = map same_name_of c.keep-2.new.items in
    let cs : List ℕ = map same_name_of c.hint-2.new.items in
    let within : j < length items = c.requires.within in
    let above : i < length items = omega (arith, c.requires.order) in
    let apart : i ≢ j = λ e. absurd (omega (arith, c.requires.order)) in
    let long : length ks ≡ length items = omega (arith, length-map c.keep-2.new.items same_name_of, c.keep-2.auto.items, c.keep.auto.items) in
    let up : i + 1 ≡ suc i = omega arith in
    let down : j + 1 ≡ suc j = omega arith in
    let differ : a ≢ b = eqb-false _ _ (sym c.eq.ensures ∙ c.if-eq.false) in
    let held-upper : IsHeldLevel t bs a (i + 1) m = c.next_of_name-upper_next.ensures x first in
    let held-lower : IsHeldLevel t bs b (j + 1) n = c.next_of_name-lower_next.ensures y second in
    let table : (k : ℕ) → get_or c.keep-2.new.names k 0 ≡ level_exchanged i j (get_or t k 0) =
    λ k. c.keep-2.ensures.table k ∙ ap (λ v. cond (eqb n 0 && eqb k b) (i + 1) v) (c.keep.ensures.table k)
    ∙ moved-table t bs i j a b m n (i + 1) (j + 1) c.requires.order up down held-upper held-lower k in
    let list : (k : ℕ) → get_or ks k 0 ≡ level_exchanged i j (get_or bs k 0) =
    λ k. c.keep-2.ensures.befores k ∙ ap (λ v. cond (eqb n (suc k)) (i + 1) v) (c.keep.ensures.befores k)
    ∙ moved-list t bs i j a b m n (i + 1) (j + 1) c.requires.order up down held-upper held-lower k in
    let written : cs ≡ set (set ks i y.same_name) j x.same_name = c.hint-2.ensures.same_names ∙ c.hint.ensures.same_names ∙ c.link-2.ensures.same_names
    ∙ ap (λ (l : List ℕ). set l j x.same_name) c.link.ensures.same_names in
    let upper : get_or cs i 0 ≡ get_or bs j 0 = ap (λ (l : List ℕ). get_or l i 0) written ∙ get_or-set_other (set ks i y.same_name) j i x.same_name 0 apart
    ∙ get_or-set_same ks i y.same_name 0 (omega (arith, above, long)) ∙ sym (same_name-at items j y within second) in
    let lower : get_or cs j 0 ≡ get_or bs i 0 = ap (λ (l : List ℕ). get_or l j 0) written
    ∙ get_or-set_same (set ks i y.same_name) j x.same_name 0 (omega (arith, within, long, length-set ks i y.same_name))
    ∙ sym (same_name-at items i x above first) in
    let rest : (k : ℕ) → k ≢ i → k ≢ j → get_or cs k 0 ≡ level_exchanged i j (get_or bs k 0) = λ k ne nf. ap (λ (l : List ℕ). get_or l k 0) written
    ∙ get_or-set_other (set ks i y.same_name) j k x.same_name 0 nf ∙ get_or-set_other ks i k y.same_name 0 ne ∙ list k in
    linked-swapped t ns bs c.requires.linked i j a b c.requires.order (omega (arith, within, length-names items))
    (name-at items i x above first (c.requires.upper x first)) (name-at items j y within second (c.requires.lower y second)) differ c.requires.holes
    c.keep-2.new.names cs table upper lower rest
