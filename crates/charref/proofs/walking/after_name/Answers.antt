use Rattle.charref.proofs.Names.{arith, nat_tests, nat_eq, Decimal, Sign, IsRead, ◌≡◌, [], ◌∷◌, ◌++◌, true, false, true≢false, ◌&&◌, refl, sym, ap, ◌∙◌, subst, all-one, characters, is_alphanumeric, Entities, has_read_key, SearchHasRead, HasNone, IsOver, key_bytes, in_name, last_of, is_letter_or_digit, NextIs, after_sign, number_sign, and-false, Goes, common_steps}
use Rattle.charref.proofs.Telling.{key_bytes-more, held_longer, best_before, settled_before, best_after, settled_after, letter_of, nothing_read, something_read, count_read}
use Rattle.charref.proofs.Numbers.{alone_before}
use Rattle.charref.proofs.walking.after_name.Goals as goal
use Rattle.charref.proofs.walking.after_name.Goals.{else-in_value-via-then-in_value+then-is_alphanumeric+else-has_read_key, else-in_value-via-then-in_value+else-is_alphanumeric, else-in_value-via-else-in_value, else-search-eq1-via-then-search-eq1+else-not-is_alphanumeric, else-search-eq1-via-else-search-eq1}

pub returns-then-ch-eq35-clause-next : goal.returns-then-ch-eq35-clause-next
returns-then-ch-eq35-clause-next c = λ text p read run is. subst (λ xs. NextIs c.args.table.now c.args.in_value (xs ++ p ∷ []) (Goes (Sign Decimal)))
    (sym (nothing_read text (sym read.depth ∙ c.if-search-eq1.true))) (after_sign (p ∷ []) (number_sign p (is ∙ c.if-ch-eq35.true)))

pub returns-then-not-is_alphanumeric-clause-next : goal.returns-then-not-is_alphanumeric-clause-next
returns-then-not-is_alphanumeric-clause-next c = λ text p read run is after.
    let other : nat_eq p.ch 35 ≡ false = (let no = c.if-ch-eq35.false in grind (arith, nat_tests)) in
    rw (nothing_read text (sym read.depth ∙ c.if-search-eq1.true)) (subst (λ r. IsRead c.args.table.now c.args.in_value (p ∷ []) after r)
    (sym c.as_text.ensures) (alone_before c.args.table.now c.args.in_value p after (ap is_alphanumeric is ∙ sym (letter_of c.args.ch)
    ∙ ap is_letter_or_digit (sym c.of-last.ensures) ∙ sym c.is_alphanumeric.ensures ∙ c.if-not-is_alphanumeric.true) other))

pub returns-in_default-clause-next : goal.returns-in_default-clause-next
returns-in_default-clause-next c = λ text p read run is after.
    let table = c.args.table.now in let none : HasNone table (key_bytes text ++ c.args.ch ∷ []) = c.in_default.ensures.none refl (characters text) read in
    let none' : HasNone table (key_bytes text ++ p.ch ∷ []) = subst (λ x. HasNone table (key_bytes text ++ x ∷ [])) (sym is) none in
    c.decided.ensures text p after run (something_read text (is_alphanumeric p.ch ≡ true) (λ one. elim c.else-search-eq1.branch [
      | else-search-eq1-via-then-search-eq1+else-not-is_alphanumeric w ↦ ap is_alphanumeric is ∙ sym (letter_of c.args.ch)
          ∙ ap is_letter_or_digit (sym c.of-last.ensures) ∙ sym w.is_alphanumeric.ensures ∙ w.if-not-is_alphanumeric.false
      | else-search-eq1-via-else-search-eq1 w ↦ absurd (w.if-search-eq1.false (read.depth ∙ one))
    ])) (count_read text p c.args.search.depth read.depth) (c.of-last.ensures ∙ ap last_of (sym is))
    (best_before table c.args.in_value text after p c.args.search read none') (settled_before table c.args.in_value text after p c.args.search read none')

pub returns-then-goes_on-clause-next : goal.returns-then-goes_on-clause-next
returns-then-goes_on-clause-next c = λ text p read run is. held_longer c.args.table.now c.args.in_value c.in-Some.next text p c.args.ch c.goes_on.ensures.table
    is (c.in-Some.ensures.read (characters text) read) (λ bytes now. c.goes_on.ensures.open bytes now c.if-goes_on.true)

pub returns-then-has_read_key-clause-next : goal.returns-then-has_read_key-clause-next
returns-then-has_read_key-clause-next c = λ text p read run is.
    let next : SearchHasRead c.in-Some.next c.args.table.now (key_bytes (text ++ p ∷ [])) = subst (SearchHasRead c.in-Some.next c.args.table.now)
    (ap (λ x. key_bytes text ++ x ∷ []) (sym is) ∙ sym (key_bytes-more text p)) (c.in-Some.ensures.read (characters text) read) in
    in_name c.in-Some.next (text ++ p ∷ []) next (all-one is_alphanumeric text p run (ap is_alphanumeric is ∙ sym (letter_of c.args.ch)
    ∙ ap is_letter_or_digit (sym c.of-last.ensures) ∙ sym c.is_alphanumeric-then-in_value.ensures ∙ c.if-is_alphanumeric.true))
    (λ outside some. absurd (true≢false (sym c.if-in_value.true ∙ outside)))

pub returns-clause-next : goal.returns-clause-next
returns-clause-next c = λ text p read run is after.
    let table : Entities = c.args.table.now in
    let next = subst (λ x. SearchHasRead c.in-Some.next table (key_bytes text ++ x ∷ [])) (sym is) (c.in-Some.ensures.read (characters text) read) in
    let over : IsOver table (key_bytes text ++ p.ch ∷ []) = c.goes_on.ensures.over _ next c.if-goes_on.false in
    let letter = ap is_letter_or_digit c.of-last.ensures ∙ letter_of c.args.ch ∙ ap is_alphanumeric (sym is) in
    let waits : (c.args.in_value && is_alphanumeric p.ch && has_read_key table c.in-Some.next) ≡ false = elim c.else-in_value.branch [
      | else-in_value-via-then-in_value+then-is_alphanumeric+else-has_read_key w ↦
          ap (λ b. c.args.in_value && is_alphanumeric p.ch && b) (sym w.has_read_key.ensures ∙ w.if-has_read_key.false) ∙ and-false _
      | else-in_value-via-then-in_value+else-is_alphanumeric w ↦ ap (λ b. c.args.in_value && b && has_read_key table c.in-Some.next)
          (sym letter ∙ sym w.is_alphanumeric-then-in_value.ensures ∙ w.if-is_alphanumeric.false)
          ∙ ap (λ b. b && has_read_key table c.in-Some.next) (and-false _)
      | else-in_value-via-else-in_value w ↦ ap (λ b. b && is_alphanumeric p.ch && has_read_key table c.in-Some.next) w.if-in_value.false
    ] in
    c.decided-2.ensures text p after run (something_read text (is_alphanumeric p.ch ≡ true) (λ one. elim c.else-search-eq1.branch [
      | else-search-eq1-via-then-search-eq1+else-not-is_alphanumeric w ↦ ap is_alphanumeric is ∙ sym (letter_of c.args.ch)
          ∙ ap is_letter_or_digit (sym c.of-last.ensures) ∙ sym w.is_alphanumeric.ensures ∙ w.if-not-is_alphanumeric.false
      | else-search-eq1-via-else-search-eq1 w ↦ absurd (w.if-search-eq1.false (read.depth ∙ one))
    ])) (count_read text p c.args.search.depth read.depth) (c.of-last.ensures ∙ ap last_of (sym is))
    (best_after table c.args.in_value text after p c.goes_on.ensures.table c.in-Some.next next over waits)
    (settled_after table c.args.in_value text after p c.goes_on.ensures.table c.in-Some.next next over waits)

pub has_read_key-requires : goal.has_read_key-requires
has_read_key-requires c = grind (arith, common_steps)
