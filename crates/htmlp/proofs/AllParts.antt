-- The parts of a text, written one after another.
use Rattle.htmlp.proofs.Names.{◌≡◌, ◌∙◌, ◌<◌, ◌+◌, ℕ, List, [], ◌∷◌, ◌++◌, Option, Result, Ok, Err, ap, sym, length, drop, take, get_or, refl, Bor, IsErrAnd, Refusal, WritesAll, WritesAll-stops, WritesAll-then, zero, suc, flat_map, flat_map_more, take_more, append_assoc}

abbrev pub all_parts : List (Bor (List ℕ)) → List ℕ
all_parts parts = flat_map (λ (p : Bor (List ℕ)). p.now) parts

-- those so far, and the next
one_more : (parts : List (Bor (List ℕ))) (i : ℕ) (d : Bor (List ℕ)) → i < length parts
    → all_parts (take i parts) ++ (get_or parts i d).now ≡ all_parts (take (i + 1) parts)
one_more parts i d h = flat_map_more (λ (p : Bor (List ℕ)). p.now) [] (take i parts) (get_or parts i d) ∙ ap all_parts (sym (take_more parts i d h))

-- those so far, and those to come
halves : (parts : List (Bor (List ℕ))) (i : ℕ) → all_parts (take i parts) ++ all_parts (drop i parts) ≡ all_parts parts
halves parts zero = refl
halves [] (suc i) = refl
halves (part ∷ parts) (suc i) = append_assoc part.now (all_parts (take i parts)) (all_parts (drop i parts)) ∙ ap (λ l. part.now ++ l) (halves parts i)

module _ (old mid new : Option (List ℕ)) (before between after : ℕ) (parts : List (Bor (List ℕ))) (i : ℕ) (d : Bor (List ℕ)) (bytes : List ℕ)
    (within : i < length parts) (is : bytes ≡ (get_or parts i d).now) (so_far : WritesAll old before mid between (all_parts (take i parts)) (Ok tt)) where
  with_next : all_parts (take i parts) ++ bytes ≡ all_parts (take (i + 1) parts)
  with_next = ap (λ l. all_parts (take i parts) ++ l) is ∙ one_more parts i d within

  pub next_written : WritesAll mid between new after bytes (Ok tt) → WritesAll old before new after (all_parts (take (i + 1) parts)) (Ok tt)
  next_written h = WritesAll-then old mid new before between after _ bytes _ (Ok tt) with_next so_far h

  pub next_failed : (e : Refusal) (r : Result (Unit {0}) Refusal) → IsErrAnd r (λ y. y ≡ e) → WritesAll mid between new after bytes (Err e)
      → WritesAll old before new after (all_parts parts) r
  next_failed e r failed h = WritesAll-stops old new before after (all_parts (take (i + 1) parts)) (all_parts (drop (i + 1) parts)) _ e r (halves parts (i + 1))
      failed (WritesAll-then old mid new before between after _ bytes _ (Err e) with_next so_far h)
