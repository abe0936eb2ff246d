use Rattle.charref.proofs.Names.{arith, ◌≡◌, ℕ, ◌+◌, true, false≢true, ends_in_semicolon, subst, List, slice_get, Some, sym, ap, ◌∙◌, slice_get_within, some_same, Entry, Entities}
use Rattle.charref.proofs.AtOnce.{closed_alone}
use Rattle.charref.proofs.Searching.{one_begins, more_begin, range_ends, ends_later}
use Rattle.charref.proofs.open_keys.end_of.Goals as goal

same_key : (table : Entities) (k : ℕ) (d e : Entry) (key : List ℕ) → slice_get table k ≡ Some d → key ≡ d.key → slice_get table k ≡ Some e → e.key ≡ key
same_key table k d e key stands is at = ap (λ (y : Entry). y.key) (some_same e d (sym at ∙ stands)) ∙ sym is

pub returns-then-ends_in_semicolon : goal.returns-then-ends_in_semicolon
returns-then-ends_in_semicolon c = λ e stands.
    let table = c.args.flat.now in let at : ℕ = c.args.index in
    let closed : ends_in_semicolon e.key ≡ true = subst (λ xs. ends_in_semicolon xs ≡ true)
    (sym (same_key table at c.key-key.ensures.0 e c.key-key.result.now c.key-key.ensures.1 c.key-key.ensures.2 stands))
    (sym c.ends_in_semicolon.ensures ∙ c.if-ends_in_semicolon.true) in
    range_ends table at (at + 1) e c.requires.sorted stands (omega arith) (omega (arith, c.requires.within)) (one_begins table at e stands)
    (λ f got opens. closed_alone table at e f c.requires.sorted stands got closed opens)

pub loop-end-init : goal.loop-end-init
loop-end-init c = (omega arith, omega arith, one_begins c.args.flat.now c.args.index)

pub loop-end-smaller : goal.loop-end-smaller
loop-end-smaller c = let range = c.requires.later.at c.loop-end.end c.key.ensures.0 (omega (arith, c.loop-end.invariant.0)) c.key.ensures.1 in
    omega (arith, ends_later c.args.flat.now c.loop-end.end _ c.key.ensures.0 c.key.ensures.1 range, range.within)

pub loop-end-preserved : goal.loop-end-preserved
loop-end-preserved c = let table = c.args.flat.now in let at : ℕ = c.loop-end.end in let f : Entry = c.key.ensures.0 in
    let range = c.requires.later.at at f (omega (arith, c.loop-end.invariant.0)) c.key.ensures.1 in (
      omega (arith, c.loop-end.invariant.0, ends_later table at _ f c.key.ensures.1 range),
      range.within,
      λ e stands. more_begin table e.key c.args.index at _ f (c.loop-end.invariant.2 e stands)
          (rw (sym c.key.ensures.2, same_key table c.args.index c.key-key.ensures.0 e c.key-key.result.now c.key-key.ensures.1 c.key-key.ensures.2 stands)
          (sym c.starts_with.ensures.value ∙ c.if-starts_with.true)) range,
    )

pub returns-else-starts_with : goal.returns-else-starts_with
returns-else-starts_with c = λ e stands.
    let key-is = same_key c.args.flat.now c.args.index c.key-key.ensures.0 e c.key-key.result.now c.key-key.ensures.1 c.key-key.ensures.2 stands in
    range_ends c.args.flat.now c.args.index c.loop-end.end e c.requires.sorted stands c.loop-end.invariant.0 c.loop-end.invariant.1
    (c.loop-end.invariant.2 e stands) (λ f got opens. false≢true (sym c.if-starts_with.false ∙ c.starts_with.ensures.value
    ∙ (rw (same_key c.args.flat.now c.loop-end.end c.key.ensures.0 f c.key.result.now c.key.ensures.1 c.key.ensures.2 got, key-is) at opens)))

pub returns-after-loop-end : goal.returns-after-loop-end
returns-after-loop-end c =
    λ e stands.
    range_ends c.args.flat.now c.args.index c.loop-end.end e c.requires.sorted stands c.loop-end.invariant.0 c.loop-end.invariant.1
    (c.loop-end.invariant.2 e stands) (λ f got opens. omega (arith, slice_get_within c.args.flat.now c.loop-end.end f got))
