use Rattle.htag.proofs.Vocabulary.{◌∙◌, ℕ, List, sym, ap, arith, slice_get, slice_index, err_from_is_err_and, grows_not, chars}
use Rattle.htag.proofs.InRun.{after_none, begins_end, begins_with, first_front, first_refused}
use Rattle.htag.proofs.walk.TagWalk.take_part.Goals as goal

pub returns-then-ends_name-clause-front : goal.returns-then-ends_name-clause-front
returns-then-ends_name-clause-front c = let run = c.args.run.now in let ch = c.from-first.result in
    let begins = begins_end run ch c.requires.some (c.from-first.ensures ∙ ap (λ (bs : List ℕ). slice_index bs 0) c.as_bytes.ensures.value)
    (sym c.ends_name.ensures ∙ c.if-ends_name.true) c.utf8.run in
    after_none c.in_ok-count.ensures (omega (arith, c.if-count-gt0.false))
    (first_front begins.0 begins.1 c.utf8.run (grows_not _) c.in_ok-ended.ensures.kind (c.in_ok-ended.ensures.takes _ _))

pub returns-in_err-ended-clause-front : goal.returns-in_err-ended-clause-front
returns-in_err-ended-clause-front c = let e = err_from_is_err_and c.from_residual-in_err-ended.result c.from_residual-in_err-ended.ensures.1 in
    let run = c.args.run.now in
    let ch = c.from-first.result in
    let begins = begins_end run ch c.requires.some (c.from-first.ensures ∙ ap (λ (bs : List ℕ). slice_index bs 0) c.as_bytes.ensures.value)
    (sym c.ends_name.ensures ∙ c.if-ends_name.true) c.utf8.run in
    rw (e.1, e.2)
    (after_none c.in_ok-count.ensures (omega (arith, c.if-count-gt0.false)) (first_refused begins.0 (grows_not _) (c.in_err-ended.ensures.takes _ _)))

pub returns-in_err-ended-2-clause-front : goal.returns-in_err-ended-2-clause-front
returns-in_err-ended-2-clause-front c = let e = err_from_is_err_and c.from_residual-in_err-ended-2.result c.from_residual-in_err-ended-2.ensures.1 in
    let run = c.args.run.now in
    let ch = c.unwrap-ch.result in
    let first =
    begins_with (chars run) ch (ap (λ (bs : List ℕ). slice_get (chars bs) 0) (sym c.chars.ensures.rest) ∙ sym c.next.ensures.steps.2 ∙ c.unwrap-ch.ensures) in
    rw (e.1, e.2)
    (after_none c.in_ok-count.ensures (omega (arith, c.if-count-gt0.false)) (first_refused first.1 c.take_char.ensures.grows c.in_err-ended-2.ensures.takes))

pub returns-clause-front : goal.returns-clause-front
returns-clause-front c = let run = c.args.run.now in let ch = c.unwrap-ch.result in
    let first =
    begins_with (chars run) ch (ap (λ (bs : List ℕ). slice_get (chars bs) 0) (sym c.chars.ensures.rest) ∙ sym c.next.ensures.steps.2 ∙ c.unwrap-ch.ensures) in
    after_none c.in_ok-count.ensures (omega (arith, c.if-count-gt0.false))
    (first_front first.1 c.len_utf8.ensures.value c.utf8.run c.take_char.ensures.grows c.in_ok-ended-2.ensures.kind c.in_ok-ended-2.ensures.takes)
