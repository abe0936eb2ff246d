use Rattle.charref.proofs.Names.{arith, ◌≡◌, [], ◌∷◌, Some, None, length, sym, ap, ◌∙◌, true≢false, bytes_eq, bytes_eq-Decides, nat_tests, Entry, longest}
use Rattle.charref.proofs.Core.{has_true, has_found, has_only}
use Rattle.charref.proofs.table.Table.has.Goals as goal

pub returns-then-found-key-clause-has : goal.returns-then-found-key-clause-has
returns-then-found-key-clause-has c = let e : Entry = c.in-Some.ensures.found.0 in
    let test = c.is_only.ensures ∙ ap (λ xs. bytes_eq xs (c.args.character ∷ [])) c.in-Some.ensures.found.3 in (
      (λ is. has_true c.args.self.now c.args.key.now (c.args.character ∷ []) e c.in-Some.ensures.found.1 (sym c.in-Some.ensures.found.2 ∙ c.if-found-key.true)
          ((bytes_eq-Decides e.stands_for (c.args.character ∷ [])).0 (sym test ∙ is))),
      (λ contains. test ∙ (bytes_eq-Decides e.stands_for (c.args.character ∷ [])).1
          (has_only c.args.self.now c.args.key.now (c.args.character ∷ []) e c.in-Some.ensures.table c.in-Some.ensures.found.1 contains).1),
    )

pub returns-else-found-key-clause-has : goal.returns-else-found-key-clause-has
returns-else-found-key-clause-has c = (
  (λ is. absurd (let same : c.in-Some.found.length ≡ length c.args.key.now = grind (arith, nat_tests, is) in c.if-found-key.false same)),
  (λ contains. absurd (c.if-found-key.false (c.in-Some.ensures.found.2 ∙ ap length (has_only c.args.self.now c.args.key.now (c.args.character ∷ [])
      c.in-Some.ensures.found.0 c.in-Some.ensures.table c.in-Some.ensures.found.1 contains).0))),
)

pub returns-in-None-clause-has : goal.returns-in-None-clause-has
returns-in-None-clause-has c = let made : Entry = record { key = c.args.key.now; stands_for = c.args.character ∷ [] } in (
  (λ is. absurd (true≢false (sym is))),
  λ contains. absurd
      (let found : longest c.args.self.now c.args.key.now ≡ Some made = has_found c.args.self.now made c.in-None.ensures.table contains in
      let none : longest c.args.self.now c.args.key.now ≡ None = c.in-None.ensures.found in
      cc),
)
