use Rattle.names.proofs.Vocabulary.{ap, sym, ◌∙◌, arith, subst, ◌≡◌, Bool, true, false, ℕ, List, length, Some, bytes_eq, list_any, slice_get, known, tags, type_name, A, then_some, MatchOption, letter_of, common_steps}
use Rattle.names.proofs.KnownTexts.{IsNoneOf, tag_within, known_tag, none_known, passed_more}
use Rattle.names.proofs.TableLemmas.{bytes_eq-true}
use Rattle.names.proofs.known.known_number.Goals as goal

pub bounds-index : goal.bounds-index
bounds-index c = tag_within c.in_ok-letter.letter c.loop-index.index c.in_ok-letter.ensures.few c.loop-index-test.true

pub returns-then-eq : goal.returns-then-eq
returns-then-eq c = known_tag c.loop-index.index A (tag_within c.in_ok-letter.letter c.loop-index.index c.in_ok-letter.ensures.few c.loop-index-test.true)
    ∙ ap Some (sym c.text.ensures ∙ bytes_eq-true _ _ (sym c.eq.ensures ∙ c.if-eq.true))

pub loop-index-preserved : goal.loop-index-preserved
loop-index-preserved c = passed_more c.in_ok-letter.letter c.loop-index.index c.args.text.now
    (tag_within c.in_ok-letter.letter c.loop-index.index c.in_ok-letter.ensures.few c.loop-index-test.true) c.loop-index.invariant
    (ap (λ (x : List ℕ). bytes_eq x c.args.text.now) (sym c.text.ensures) ∙ sym c.eq.ensures ∙ c.if-eq.false)

-- none of those with its first letter, a text may be the last of the known ones
last : (text : List ℕ) (same : Bool) → same ≡ bytes_eq text type_name → IsNoneOf (letter_of text) text
    → MatchOption (then_some same (length tags)) (list_any (bytes_eq text) known ≡ false) (λ n. slice_get known n ≡ Some text)
last text true e h = ap Some (sym (bytes_eq-true text type_name (sym e)))
last text false e h = none_known text h (sym e)

pub returns : goal.returns
returns c = rw c.then_some.ensures (last c.args.text.now c.eq-2.result c.eq-2.ensures (subst (λ o. IsNoneOf o c.args.text.now) c.in_ok-letter.ensures.letter
    (λ i from to. c.loop-index.invariant i from (let past = c.loop-index-test.false in omega (arith, to, past)))))

pub returns-in_err-letter : goal.returns-in_err-letter
returns-in_err-letter c = grind (arith, common_steps)
