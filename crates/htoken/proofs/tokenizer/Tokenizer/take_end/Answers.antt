use Rattle.htoken.proofs.Names.{false, is_ascii, [], ◌∷◌, ◌<◌, ◌+◌, ◌++◌, List, ℕ, length, drop, take, refl, sym, ◌∙◌, subst, arith, Err, chars, Placed, placed, IsCut, cut_more, first_placed, gives_item, Reads, Takes, err_is, is_text_byte, slice_index, get_or-drop, ap, ◌≡◌, common_steps}
use Rattle.htoken.proofs.Fronts.{cut_refused, placed_same}
use Rattle.htoken.proofs.InText.{all_taken, length_left, then_refused, then_taken}
use Rattle.htoken.proofs.WithReferences.{whole_of, ascii_first, ascii_next, mark_ascii, whole_cut}
use Rattle.htoken.proofs.tokenizer.Tokenizer.take_end.Goals as goal

-- the `<` or the `&` after a front of a run
first_same : {part text : List ℕ} {there at : ℕ} → part ≡ text → there ≡ at → first_placed there part ≡ first_placed at text
first_same {part = part} {at = at} same here = ap (λ (a : ℕ). first_placed a part) here ∙ ap (first_placed at) same

first_here : (run : List ℕ) (at count : ℕ) (p : Placed) → IsCut count run → count < length run → p ≡ record { ch = slice_index run count; at = at + count }
    → is_text_byte (slice_index run count) ≡ false
    → (first_placed (at + count) (drop count run) ≡ p ∷ []) × (placed (at + count) (chars (take 1 (drop count run))) ≡ p ∷ []) × IsCut 1 (drop count run)
first_here run at count p cut less is ends = let same : count + 0 ≡ count = omega arith in
    let here : slice_index (drop count run) 0 ≡ slice_index run count = get_or-drop count run 0 0 ∙ ap (slice_index run) same in
    let first = ascii_first (drop count run) (at + count) (slice_index run count) cut.back (omega (arith, less, length_left count run cut.within)) (sym here)
    (ap is_ascii here ∙ mark_ascii _ ends) in
    let only = ap (λ (x : Placed). x ∷ []) (sym is) in
    (first.0 ∙ only, first.1 ∙ only, first.2)

pub returns-then-count-run-clause-takes : goal.returns-then-count-run-clause-takes
returns-then-count-run-clause-takes g c =
    λ table start names text taken old front. all_taken front c.requires.ends.cut c.if-count-run.true _ refl (c.end-self.ensures text)

pub returns-in-Some-clause-takes : goal.returns-in-Some-clause-takes
returns-in-Some-clause-takes g c = let run = c.args.run.now.text.now in let count = c.args.front.now.count in
    let less : count < length run = omega (arith, c.if-count-run.false, c.requires.ends.cut.within) in
    let size = c.in-Some.whole.size in
    let cut = whole_cut c.requires.ends.cut.back (whole_of _ _ _ _ _ c.in-Some.is c.requires.ends.whole) in
    λ table start names text taken old front.
    let part : List Placed = placed c.args.run.now.at (chars (take count run)) in let new = record c.args.self.now { next = c.after-self.result } in
    let reads = front.reads new refl
    (c.after-self.ensures ∙ ascii_next (text ++ part) c.args.run.now.at count run c.requires.ends.cut less (mark_ascii _ (c.requires.ends.ends less))) in
    then_taken front c.requires.ends.cut (size + 1) _ _ cut (rw (← (placed_same (ap (take (size + 1)) c.after.ensures.text) c.after.ensures.at))
    (c.in_ok-take_whole.ensures table start names (text ++ part) (taken ++ front.events) (rw (first_same c.after.ensures.text c.after.ensures.at) reads)))

pub returns-in_err-take_whole-clause-takes : goal.returns-in_err-take_whole-clause-takes
returns-in_err-take_whole-clause-takes g c = let run = c.args.run.now.text.now in let count = c.args.front.now.count in
    let less : count < length run = omega (arith, c.if-count-run.false, c.requires.ends.cut.within) in
    let size = c.in-Some.whole.size in
    let cut = whole_cut c.requires.ends.cut.back (whole_of _ _ _ _ _ c.in-Some.is c.requires.ends.whole) in
    rw (err_is c.from_residual.result _ c.from_residual.ensures.1) (λ table start names text taken old front.
    let part : List Placed = placed c.args.run.now.at (chars (take count run)) in let new = record c.args.self.now { next = c.after-self.result } in
    let reads = front.reads new refl
    (c.after-self.ensures ∙ ascii_next (text ++ part) c.args.run.now.at count run c.requires.ends.cut less (mark_ascii _ (c.requires.ends.ends less))) in
    then_refused front c.requires.ends.cut _ _ _
    (cut_refused (c.args.run.now.at + count) cut (subst (λ (ps : List Placed). Takes (gives_item g.S.ErrorSink.gives g.S.TokenSink.gives_token) table start
    (text ++ part) ps (taken ++ front.events) names c.args.sink.now (Err c.in_err-take_whole.field-0.0) c.take_whole.new.sink c.take_whole.new.self)
    (placed_same (ap (take (size + 1)) c.after.ensures.text) c.after.ensures.at) (c.in_err-take_whole.ensures table start names (text ++ part)
    (taken ++ front.events) (subst (λ (ps : List Placed). Reads table start new names (text ++ part) ps (taken ++ front.events))
    (sym (first_same c.after.ensures.text c.after.ensures.at)) reads)))))

pub returns-in-Some-clause-few : goal.returns-in-Some-clause-few
returns-in-Some-clause-few g c = let cut = whole_cut c.requires.ends.cut.back (whole_of _ _ _ _ _ c.in-Some.is c.requires.ends.whole) in
    (omega arith, cut_more c.args.front.now.count (c.in-Some.whole.size + 1) c.args.run.now.text.now c.requires.ends.cut cut)

pub returns-in_err-in_text-clause-takes : goal.returns-in_err-in_text-clause-takes
returns-in_err-in_text-clause-takes g c = let run = c.args.run.now.text.now in let count = c.args.front.now.count in
    let less : count < length run = omega (arith, c.if-count-run.false, c.requires.ends.cut.within) in
    let first = first_here run c.args.run.now.at count c.at_byte.result c.requires.ends.cut less c.at_byte.ensures (c.requires.ends.ends less) in
    rw (err_is c.from_residual-in_err-in_text.result _ c.from_residual-in_err-in_text.ensures.1) (λ table start names text taken old front.
    let part : List Placed = placed c.args.run.now.at (chars (take count run)) in let new = record c.args.self.now { next = c.after-self.result } in
    let reads = front.reads new refl
    (c.after-self.ensures ∙ ascii_next (text ++ part) c.args.run.now.at count run c.requires.ends.cut less (mark_ascii _ (c.requires.ends.ends less))) in
    then_refused front c.requires.ends.cut _ _ _ (cut_refused (c.args.run.now.at + count) first.2
    (subst (λ (x : List Placed). Takes (gives_item g.S.ErrorSink.gives g.S.TokenSink.gives_token) table start (text ++ part) x (taken ++ front.events) names
    c.args.sink.now (Err c.in_err-in_text.field-0.0) c.in_text.new.sink c.in_text.new.self) (sym first.1) (c.in_err-in_text.ensures table start names
    (text ++ part) (taken ++ front.events) (subst (λ (x : List Placed). Reads table start new names (text ++ part) x (taken ++ front.events)) first.0 reads)))))

pub returns-clause-takes : goal.returns-clause-takes
returns-clause-takes g c = let run = c.args.run.now.text.now in let count = c.args.front.now.count in
    let less : count < length run = omega (arith, c.if-count-run.false, c.requires.ends.cut.within) in
    let first = first_here run c.args.run.now.at count c.at_byte.result c.requires.ends.cut less c.at_byte.ensures (c.requires.ends.ends less) in
    λ table start names text taken old front.
    let part : List Placed = placed c.args.run.now.at (chars (take count run)) in let new = record c.args.self.now { next = c.after-self.result } in
    let reads = front.reads new refl
    (c.after-self.ensures ∙ ascii_next (text ++ part) c.args.run.now.at count run c.requires.ends.cut less (mark_ascii _ (c.requires.ends.ends less))) in
    then_taken front c.requires.ends.cut 1 _ _ first.2
    (rw first.1 (c.in_ok-in_text.ensures table start names (text ++ part) (taken ++ front.events) (rw (← first.0) reads)))

pub returns-clause-few : goal.returns-clause-few
returns-clause-few g c = let run = c.args.run.now.text.now in let count = c.args.front.now.count in
    let less : count < length run = omega (arith, c.if-count-run.false, c.requires.ends.cut.within) in
    let first = first_here run c.args.run.now.at count c.at_byte.result c.requires.ends.cut less c.at_byte.ensures (c.requires.ends.ends less) in
    (omega arith, cut_more count 1 run c.requires.ends.cut first.2)

pub overflow_add-result-in-Some : goal.overflow_add-result-in-Some
overflow_add-result-in-Some g c = grind (arith, common_steps)

pub overflow_add-result : goal.overflow_add-result
overflow_add-result g c = grind (arith, common_steps)
