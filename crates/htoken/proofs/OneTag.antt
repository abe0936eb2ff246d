-- One tag at most is at the front of a text.
use Rattle.htoken.proofs.Names.{◌≡◌, inl, inr, ℕ, Bool, true, false, not, List, [], ◌∷◌, ◌++◌, sym, refl, ◌∙◌, codes, append_assoc, false≢true, Placed, characters, place, error, name_bytes, first_is, Entities, Span, Start, End, Part, IsPart, AreParts, parts_text, IsTagFront, tag_close, tag_errors, end_tag_errors, attributes_after, ends_name, IsTag, start_tag, end_tag, unfinished, EofInTag}
use Rattle.htoken.proofs.Words.{heads, same_mark, one_run, goes_no_further}
use Rattle.htoken.proofs.OnePart.{one_part, none_at_end, none_at_greater, none_at_close}

-- PARTS

abbrev NoPart : Entities → ℕ → List Placed → Type 0
NoPart table end text = (part : Part) (rest : List Placed) → IsPart table end rest part → text ≡ part.text ++ rest → ⊥

module _ (table : Entities) (end : ℕ) where
  one_list : (parts parts' : List Part) (rest rest' : List Placed) → AreParts table end parts rest → AreParts table end parts' rest' → NoPart table end rest
      → NoPart table end rest' → parts_text parts ++ rest ≡ parts_text parts' ++ rest' → (parts ≡ parts') × (rest ≡ rest')
  one_list [] [] rest rest' h h' n n' e = (refl, e)
  one_list [] (q ∷ qs) rest rest' h h' n n' e = absurd (n q (parts_text qs ++ rest') h'.0 (e ∙ append_assoc q.text (parts_text qs) rest'))
  one_list (p ∷ ps) [] rest rest' h h' n n' e = absurd (n' p (parts_text ps ++ rest) h.0 (sym e ∙ append_assoc p.text (parts_text ps) rest))
  one_list (p ∷ ps) (q ∷ qs) rest rest' h h' n n' e =
      let same = one_part table end (parts_text ps ++ rest) (parts_text qs ++ rest') p q h.0 h'.0
      (sym (append_assoc p.text (parts_text ps) rest) ∙ e ∙ append_assoc q.text (parts_text qs) rest') in
      let others = one_list ps qs rest rest' h.1 h'.1 n n' same.1 in
      (λ i. same.0 i ∷ others.0 i, others.1)

-- TAGS OF EITHER SIDE

pub data Side : Type 0 where
  Opens : Side
  Ends : Side

abbrev pub mark_of : Side → List ℕ
mark_of Opens = codes "<"
mark_of Ends = codes "</"

abbrev pub tag_span : ℕ → Side → List Placed → List Placed → List Part → List Placed → Bool → Span
tag_span end Opens opening name parts close closing = record {
  text = opening ++ name ++ parts_text parts ++ close;
  tokens = Start (name_bytes name) (attributes_after [] parts) closing (place end opening) ∷ [];
  errors = tag_errors name parts;
}
tag_span end Ends opening name parts close closing = record {
  text = opening ++ name ++ parts_text parts ++ close;
  tokens = End (name_bytes name) (place end opening) ∷ [];
  errors = tag_errors name parts ++ end_tag_errors parts closing (place end opening);
}

abbrev pub cut_span : ℕ → List Placed → List Placed → List Part → Span
cut_span end opening name parts = record { text = opening ++ name ++ parts_text parts; tokens = []; errors = tag_errors name parts ++ error EofInTag end ∷ [] }

pub data IsEnding (end : ℕ) (side : Side) (opening name : List Placed) (parts : List Part) (after rest : List Placed) (span : Span) : Type 0 where
  closed : (close : List Placed) (closing : Bool) → characters close ≡ tag_close closing → after ≡ close ++ rest
      → span ≡ tag_span end side opening name parts close closing → IsEnding end side opening name parts after rest span
  cut_off : after ≡ [] → rest ≡ [] → span ≡ cut_span end opening name parts → IsEnding end side opening name parts after rest span

pub record IsTagOf (table : Entities) (end : ℕ) (side : Side) (rest : List Placed) (span : Span) : Type 0 where
  pub opening : List Placed
  pub name : List Placed
  pub parts : List Part
  pub after : List Placed
  pub front : IsTagFront table end (mark_of side) opening name parts after
  pub ends : IsEnding end side opening name parts after rest span

pub tag_text : (end : ℕ) (side : Side) (opening name : List Placed) (parts : List Part) (close : List Placed) (closing : Bool)
    → (tag_span end side opening name parts close closing).text ≡ opening ++ name ++ parts_text parts ++ close
tag_text end Opens opening name parts close closing = refl
tag_text end Ends opening name parts close closing = refl

pub tag_whole : (end : ℕ) (side : Side) (opening name : List Placed) (parts : List Part) (after rest : List Placed) {span : Span}
    → IsEnding end side opening name parts after rest span → span.text ++ rest ≡ opening ++ (name ++ (parts_text parts ++ after))
tag_whole end side opening name parts after rest (closed close closing c a is) = cc (
  tag_text end side opening name parts close closing,
  append_assoc (opening ++ name ++ parts_text parts) close rest,
  append_assoc (opening ++ name) (parts_text parts) after,
  append_assoc opening name (parts_text parts ++ after),
)
tag_whole end side opening name parts after rest (cut_off a r is) = cc
    (append_assoc (opening ++ name) (parts_text parts) after, append_assoc opening name (parts_text parts ++ after))

-- no part is where a tag closes
no_part : (table : Entities) (end : ℕ) {side : Side} {opening name : List Placed} {parts : List Part} {after : List Placed} (rest : List Placed) {span : Span}
    → IsEnding end side opening name parts after rest span → NoPart table end after
no_part table end rest (closed close closing c a is) part more h e = by closing close c (sym a ∙ e) where
  by : (closing : Bool) (close : List Placed) → characters close ≡ tag_close closing → close ++ rest ≡ part.text ++ more → ⊥
  by false close c e = none_at_greater table end close rest more part c h e
  by true [] c e = absurd cc
  by true (q ∷ []) c e = absurd cc
  by true (q ∷ r ∷ []) c e = let s : q.ch ≡ 47 = cc in let g : r.ch ≡ 62 = cc in none_at_close table end q r rest more part s g h e
  by true (q ∷ r ∷ x ∷ xs) c e = absurd cc
no_part table end rest (cut_off a r is) part more h e = none_at_end table end more more part h (sym a ∙ e)

-- one closing
no_clash : (close close' rest rest' : List Placed) → characters close ≡ codes "/>" → characters close' ≡ codes ">" → close ++ rest ≡ close' ++ rest' → ⊥
no_clash (q ∷ qs) (r ∷ rs) rest rest' c c' e = false≢true (cc (first_is q qs 47 (62 ∷ []) c, heads q r (qs ++ rest) (rs ++ rest') e, first_is r rs 62 [] c'))
no_clash _ _ rest rest' c c' e = absurd cc

one_close : (closing closing' : Bool) (close close' rest rest' : List Placed) → characters close ≡ tag_close closing → characters close' ≡ tag_close closing'
    → close ++ rest ≡ close' ++ rest' → (closing ≡ closing') × (close ≡ close') × (rest ≡ rest')
one_close true true close close' rest rest' c c' e = let same = same_mark (codes "/>") close rest close' rest' c c' e in (refl, same.0, same.1)
one_close false false close close' rest rest' c c' e = let same = same_mark (codes ">") close rest close' rest' c c' e in (refl, same.0, same.1)
one_close true false close close' rest rest' c c' e = absurd (no_clash close close' rest rest' c c' e)
one_close false true close close' rest rest' c c' e = absurd (no_clash close' close rest' rest c' c (sym e))

not_closed : (closing : Bool) (close rest : List Placed) → characters close ≡ tag_close closing → [] ≡ close ++ rest → ⊥
not_closed true [] rest c e = absurd cc
not_closed false [] rest c e = absurd cc
not_closed closing (q ∷ qs) rest c e = absurd cc

module _ {end : ℕ} {side : Side} {rest rest' : List Placed} {span span' : Span} {o n : List Placed} {ps : List Part} where
  one_ending : {after after' : List Placed} → after ≡ after' → IsEnding end side o n ps after rest span → IsEnding end side o n ps after' rest' span'
      → (span ≡ span') × (rest ≡ rest')
  one_ending e (closed close closing c a is) (closed close' closing' c' a' is') =
      let same = one_close closing closing' close close' rest rest' c c' (sym a ∙ e ∙ a') in (cc (same.1, same.0), same.2)
  one_ending e (closed close closing c a is) (cut_off a' r' is') = absurd (not_closed closing close rest c (sym (sym a ∙ e ∙ a')))
  one_ending e (cut_off a r is) (closed close' closing' c' a' is') = absurd (not_closed closing' close' rest' c' (sym a ∙ e ∙ a'))
  one_ending e (cut_off a r is) (cut_off a' r' is') = (is ∙ sym is', r ∙ sym r')

module _ (table : Entities) {end : ℕ} {side : Side} {rest : List Placed} (rest' : List Placed) {span : Span} (span' : Span) where
  moved : {o : List Placed} (o' n n' : List Placed) (ps ps' : List Part) (after : List Placed) → o ≡ o' → n ≡ n' → ps ≡ ps'
      → IsEnding end side o n ps after rest span → IsEnding end side o' n' ps' after rest span
  moved o' n n' ps ps' after a b c h = rw (← c) (rw (← b) (rw (← a) h))

  pub one_of_side : IsTagOf table end side rest span → IsTagOf table end side rest' span' → span.text ++ rest ≡ span'.text ++ rest'
      → (span ≡ span') × (rest ≡ rest')
  one_of_side h k e =
      let whole : h.opening ++ (h.name ++ (parts_text h.parts ++ h.after)) ≡ k.opening ++ (k.name ++ (parts_text k.parts ++ k.after)) =
      sym (tag_whole end side h.opening h.name h.parts h.after rest h.ends) ∙ e ∙ tag_whole end side k.opening k.name k.parts k.after rest' k.ends in
      let marks = same_mark (mark_of side) h.opening (h.name ++ (parts_text h.parts ++ h.after)) k.opening (k.name ++ (parts_text k.parts ++ k.after))
      h.front.opens k.front.opens whole in
      let names = one_run (λ c. not (ends_name c)) h.name (parts_text h.parts ++ h.after) k.name (parts_text k.parts ++ k.after) h.front.runs.passes_none
      (goes_no_further ends_name (parts_text h.parts ++ h.after) h.front.runs.stops_after) k.front.runs.passes_none
      (goes_no_further ends_name (parts_text k.parts ++ k.after) k.front.runs.stops_after) marks.1 in
      let same = one_list table end h.parts k.parts h.after k.after h.front.in_parts k.front.in_parts (no_part table end rest h.ends)
      (no_part table end rest' k.ends) names.1 in
      one_ending same.1 (moved k.opening h.name k.name h.parts k.parts h.after marks.0 names.0 same.0 h.ends) k.ends

-- which side a tag is of
pub data IsOfSide (table : Entities) (end : ℕ) (rest : List Placed) (span : Span) : Type 0 where
  of_side : (side : Side) → IsTagOf table end side rest span → IsOfSide table end rest span

pub side_of : (table : Entities) (end : ℕ) (rest : List Placed) {span : Span} → IsTag table end rest span → IsOfSide table end rest span
side_of table end rest (start_tag opening name parts close closing front c is) =
    of_side Opens (record { opening = opening; name = name; parts = parts; after = close ++ rest; front = front; ends = closed close closing c refl is })
side_of table end rest (end_tag opening name parts close closing front c is) =
    of_side Ends (record { opening = opening; name = name; parts = parts; after = close ++ rest; front = front; ends = closed close closing c refl is })
side_of table end rest (unfinished mark opening name parts (inl m) front r is) =
    of_side Opens (record { opening = opening; name = name; parts = parts; after = []; front = rw (← m) front; ends = cut_off refl r is })
side_of table end rest (unfinished mark opening name parts (inr m) front r is) =
    of_side Ends (record { opening = opening; name = name; parts = parts; after = []; front = rw (← m) front; ends = cut_off refl r is })
