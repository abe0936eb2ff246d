use Rattle.charref.proofs.Names.{arith, Search, ◌≡◌, ◌-◌, [], ◌∷◌, ◌++◌, List, true, length, ap, ◌∙◌, length-map, Placed, characters, Name, Sign, Number, longest, key_bytes, IsRead, number_reference, alone, refl}
use Rattle.charref.proofs.Telling.{read_text, nothing_read, Snoc, some_snoc, settled_at_end, last_letter}
use Rattle.charref.proofs.Numbers.{no_digits_at_end, number_at_end, held_name, held_sign, own, by_own}
use Rattle.charref.proofs.walk.Walk.end.Goals as goal

pub returns-in-Name-clause-read : goal.returns-in-Name-clause-read
returns-in-Name-clause-read c = λ table in_value text taken.
    let parts = held_name c.args.self.now.table.now c.args.self.now.in_value c.in-Name.search text
    (own c.args.self.now table in_value text (Name c.in-Name.search) taken c.in-Name.is) in
    let none : text ≡ [] = nothing_read text (omega (arith, parts.0.depth)) in
    rw (c.as_text.ensures, none) (read_text table in_value [] [] _ refl refl (λ amp amp-is. alone amp amp-is refl refl))

pub returns-in-Name-2-clause-read : goal.returns-in-Name-2-clause-read
returns-in-Name-2-clause-read c = λ table in_value text taken.
    let walk = c.args.self.now in let search = c.in-Name-2.search in
    let held = held_name walk.table.now walk.in_value search text (own walk table in_value text (Name search) taken c.in-Name-2.is) in
    let depth : search.depth ≡ length (key_bytes text) = held.0.depth in
    let same : c.in-Name.search ≡ search = (let one = c.in-Name.is in let two = c.in-Name-2.is in cc) in
    let parts : Snoc text = some_snoc text held.1 (omega (arith, c.if-search-le1.false, ap (λ (s : Search). s.depth) same)) in
    let count : length (characters text) ≡ length text = length-map text (λ q. q.ch) in
    let size : search.depth - 1 ≡ length (parts.front ++ parts.last ∷ []) = (let h : search.depth - 1 ≡ length text = omega arith in h ∙ ap length parts.is) in
    let best = held.0.best ∙ ap (λ (xs : List Placed). longest walk.table.now (key_bytes xs)) parts.is in
    by_own walk table in_value text taken (λ t b. IsRead t b text [] c.decided.result) (rw parts.is (c.decided.ensures parts.front parts.last [] parts.run
    (λ none. parts.letter) size (last_letter parts.last.ch parts.letter) best (settled_at_end walk.table.now walk.in_value (parts.front ++ parts.last ∷ []))))

pub returns-in-Sign-clause-read : goal.returns-in-Sign-clause-read
returns-in-Sign-clause-read c = λ table in_value text taken. rw c.no_digits.ensures (no_digits_at_end table in_value c.in-Sign.base text (held_sign
    c.args.self.now.table.now c.args.self.now.in_value c.in-Sign.base text (own c.args.self.now table in_value text (Sign c.in-Sign.base) taken c.in-Sign.is)))

pub returns-in-Number-clause-read : goal.returns-in-Number-clause-read
returns-in-Number-clause-read c = λ table in_value text taken. rw c.number.ensures (by_own c.args.self.now table in_value text taken
    (λ t b. IsRead t b text [] (number_reference c.in-Number.value 0 true)) (number_at_end c.args.self.now.table.now c.args.self.now.in_value
    c.in-Number.field-0 c.in-Number.value text (own c.args.self.now table in_value text (Number c.in-Number.field-0 c.in-Number.value) taken c.in-Number.is)))
