use Rattle.charref.proofs.Names.{arith, ◌∷◌, take, drop, length, refl, sym, ap, ◌∙◌, subst, take-append-drop, take_more, SearchHasRead, ℕ, List, ◌+◌, ◌-◌, ◌++◌, longest}
use Rattle.charref.proofs.Searching.{read_past, text_of}
use Rattle.charref.proofs.search.search_for.Goals as goal

pub loop-byte-preserved : goal.loop-byte-preserved
loop-byte-preserved c = subst (λ bs. SearchHasRead c.in-Some.next c.args.table.now (38 ∷ bs)) (sym (take_more _ c.loop-byte.byte-index 0 c.loop-byte-test.true))
    (rw c.from.ensures at (c.in-Some.ensures.read _ c.loop-byte.invariant))

pub returns-in-None-clause-best : goal.returns-in-None-clause-best
returns-in-None-clause-best c = let text = c.args.text.now in let name : List ℕ = take (length text - 1) (drop 1 text) in let i = c.loop-byte.byte-index in
    let none = rw c.from.ensures at (c.in-None.ensures.none refl (take i name) c.loop-byte.invariant) in
    read_past c.args.table.now c.loop-byte.search (38 ∷ take i name) (drop (i + 1) name) _ c.loop-byte.invariant none
    ∙ ap (λ (xs : List ℕ). longest c.args.table.now (38 ∷ xs ++ drop (i + 1) name)) (sym (take_more name i 0 c.loop-byte-test.true))
    ∙ ap (λ (xs : List ℕ). longest c.args.table.now (38 ∷ xs)) (take-append-drop (i + 1) name)
    ∙ ap (longest c.args.table.now) (sym (text_of text c.in-38.len_at_least (omega arith)))
