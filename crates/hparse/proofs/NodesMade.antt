-- How the nodes were made that a list has not yet, and which were made again.
use Rattle.hparse.proofs.Names.{◌≡◌, ℕ, false, suc, ◌+◌, ◌-◌, ◌<◌, ◌≤◌, List, [], ◌∷◌, ◌++◌, length, map, refl, sym, ap, ◌∙◌, append-nil, append_assoc, arith, Option, Some, get_or, length-append, slice_get-get_or, slice_get_past, option_map_or, slice_set, Tag, range_with_len, Nodes, Naming, element_name, making, noted, with_made, Origin}
use Rattle.names.specs.declared.tag.Tag.TheVariants as tag

module _ {N : Type 0} (n : Naming N) (at first : ℕ) (own : Option N) (nodes : Nodes N) where
  -- one more
  pub one_more : (list : List Origin) → length list < nodes.made
      → with_made n at first own nodes (list ++ making n at first own nodes (length list) ∷ []) ≡ with_made n at first own nodes list
  one_more list few = let made : ℕ → Origin = making n at first own nodes in
      let longer : length (list ++ made (length list) ∷ []) ≡ length list + 1 = length-append list (made (length list) ∷ []) in
      let left : nodes.made - length list ≡ suc (nodes.made - (length list + 1)) = omega arith in
      append_assoc list (made (length list) ∷ [])
      (map made (range_with_len (length (list ++ made (length list) ∷ [])) (nodes.made - length (list ++ made (length list) ∷ []))))
      ∙ ap (λ (l : ℕ). list ++ made (length list) ∷ map made (range_with_len l (nodes.made - l))) longer
      ∙ ap (λ (k : ℕ). list ++ map made (range_with_len (length list) k)) (sym left)

  -- none is left
  pub none_left : (list : List Origin) → nodes.made ≤ length list → with_made n at first own nodes list ≡ list
  none_left list all = let none : nodes.made - length list ≡ 0 = omega arith in
      ap (λ (k : ℕ). list ++ map (making n at first own nodes) (range_with_len (length list) k)) none ∙ append-nil list

-- an element that is no image has its own name
pub other_element : {N : Type 0} (n : Naming N) (t : Tag) (x : N) → (t ≡ tag.Image → ⊥) → element_name n t x ≡ x
other_element n tag.Image x not = absurd (not refl)
other_element n _ x not = refl

-- what is noted of an element of the list, and of another
pub noted_in : (x : ℕ × ℕ) (list : List Origin) (d : Origin) → x.0 < length list
    → noted x list ≡ slice_set list x.0 (record (get_or list x.0 d) { in_source = false; again_of = Some x.1 })
noted_in x list d within = ap (λ (o : Option Origin). option_map_or (λ m. slice_set list x.0 (record m { in_source = false; again_of = Some x.1 })) o list)
    (slice_get-get_or list x.0 d within)

pub noted_out : (x : ℕ × ℕ) (list : List Origin) → length list ≤ x.0 → noted x list ≡ list
noted_out x list past = ap (λ (o : Option Origin). option_map_or (λ m. slice_set list x.0 (record m { in_source = false; again_of = Some x.1 })) o list)
    (slice_get_past list x.0 past)
