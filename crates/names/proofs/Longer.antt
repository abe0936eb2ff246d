-- A table with one text more spells the numbers of the table as it did, and all others differently.
use Rattle.names.proofs.Vocabulary.{◌≡◌, ℕ, ◌+◌, ◌<◌, List, [], ◌∷◌, ◌++◌, length, sym, ap, ◌∙◌, arith, inl, inr, replicate, length-replicate, length-append, cases_lt, Texts, AreNames, known, text_total, spelling, get_or_push, get_or_head, get_or_append_left, take-append-le}
use Rattle.names.proofs.TableLemmas.{joined}
use Rattle.names.proofs.AllTexts.{length-text_of, spelled_within, length-beyond}
-- under the name by which the crates above cite it
pub use Rattle.names.proofs.AllTexts.{known-within}

total-last : (names : Texts) (x : List ℕ) → text_total (names ++ x ∷ []) ≡ text_total names + length x
total-last [] x = omega arith
total-last (text ∷ names) x = let rest = total-last names x in omega (arith, rest)

-- a text that is longer than all of a table
abbrev pub fresh : Texts → List ℕ
fresh names = replicate (2 + (text_total names + length names)) 0

fresh-length : (names : Texts) → length (fresh names) ≡ 2 + (text_total names + length names)
fresh-length names = length-replicate (2 + (text_total names + length names)) 0

abbrev pub longer : Texts → Texts
longer names = names ++ fresh names ∷ []

longer-length : (names : Texts) → length (longer names) ≡ length names + 1
longer-length names = length-append names (fresh names ∷ [])

pub longer-names : (names : Texts) → AreNames names → AreNames (longer names)
longer-names names h = record {
  known_first = take-append-le (length known) names (fresh names ∷ []) (known-within names h) ∙ h.known_first;
  distinct = joined names (fresh names ∷ []) h.distinct (λ i j p q e. omega (arith, p, q))
      (λ i j p q e. let same = ap length (e ∙ get_or_head (fresh names) [] j [] (omega (arith, q))) in
      omega (arith, length-text_of names i p, same, fresh-length names));
}

-- the numbers of the table are spelled alike
pub spelled-alike : (names : Texts) (id : ℕ) → id < length names → spelling names id ≡ spelling (longer names) id
spelled-alike names id within = let more : id < length (longer names) = omega (arith, within, longer-length names) in
    spelled_within names id within ∙ sym (get_or_append_left names (fresh names ∷ []) [] id within) ∙ sym (spelled_within (longer names) id more)

-- and no others
pub alike-within : (names : Texts) (id : ℕ) → spelling names id ≡ spelling (longer names) id → id < length names
alike-within names id e = elim (cases_lt id (length names)) [
  | inl within ↦ within
  | inr past ↦ elim (cases_lt id (length (longer names))) [
    | inl within ↦ let last : length names ≡ id = omega (arith, past, within, longer-length names) in
        let same = ap length (e ∙ spelled_within (longer names) id within ∙ get_or_push names (fresh names) [] id last) in
        absurd (omega (arith, same, length-beyond names id past, fresh-length names, last))
    | inr both ↦ let there = length-beyond (longer names) id both in
        absurd (omega (arith, ap length e, length-beyond names id past, there, total-last names (fresh names), fresh-length names))
  ]
]
