use Rattle.htext.proofs.Names.{◌≡◌, ◌<◌, length, sym, ap, ◌∙◌, arith, Ok, Err, nat_tests, ℕ, ◌≤◌, ◌+◌, ◌-◌, Bool, true, false, List, [], ◌∷◌, ◌++◌, take, drop, refl, subst, append-nil, None, Some, Result, length-drop, take-append-drop, take_all, utf8_valid_len, utf8_error_len, Hands, Refusal, NotUtf8, Bom, BadBytes, Refuse, Replace, Front, NextBad, Waits, Refused, next_front, Read, Bad, normalized, ends_in_return, reads, text_of, valid_len, fitting_within, fitting, front_len, refusal_of, decoded, settled, reads_at, CharItem, items, DecoderHasRead, IsReading, IsUndecided, HandsOn, EndsDecoding, end_refused, end_reached, answer_at_end, common_steps}
use Rattle.htext.proofs.decoder.Decoder.finish.Goals as goal
use Rattle.htext.proofs.Valid.{refusal_past, error_bounds}
use Rattle.htext.proofs.Parts.{reads_nil, reads_after_bad}
use Rattle.htext.proofs.Fronts.{front_le, front_past}
use Rattle.htext.proofs.Texts.{read_past}
use Rattle.htext.proofs.Refusals.{replaced, all_read}
use Rattle.htext.proofs.Handing.{HandsOn-none}
use Rattle.htext.proofs.Stopping.{WhatWaits, what_waits, what_is_bad}
use Rattle.htext.proofs.Advancing.{policy, reading_on, front_here, len_front, within_here, bad_reading, refused_here}

-- The end of an input.
stuck_by : (bad : BadBytes) (room : ℕ) (rest : List ℕ) → front_len false bad room rest ≡ 0 → valid_len room rest ≡ 0
unfolding fitting_within
stuck_by Refuse room rest unread = unread
stuck_by Replace room rest unread = omega (arith, unread)

module _ (bom : Bom) (bad : BadBytes) (limit read : ℕ) (after_return : Bool) (fed : List ℕ) (h : DecoderHasRead (policy bom bad limit) read after_return fed)
    (u : IsUndecided (policy bom bad limit) fed) where
  reading : IsReading (policy bom bad limit) read after_return fed
  reading = subst (IsReading (policy bom bad limit) read after_return) (append-nil fed) (reading_on bom bad limit read after_return fed [] h)

  len : length (take read fed) ≡ read
  len = len_front bom bad limit read after_return fed reading

  past : (e : Bool) → front_len e bad limit fed ≡ read + front_len e bad (limit - read) (drop read fed)
  past e = let here = front_here bom bad limit read after_return fed reading in let within = within_here bom bad limit read after_return fed reading in
      grind (arith, front_past e bad limit (take read fed) (drop read fed) here within, take-append-drop read fed, len)

  unread : front_len false bad (limit - read) (drop read fed) ≡ 0
  unread = omega (arith, past false, h.length_is)

  stuck : valid_len (limit - read) (drop read fed) ≡ 0
  stuck = stuck_by bad (limit - read) (drop read fed) unread

  -- what is held waits
  waits_by : (next : Front) → next_front bad (drop read fed) (limit - read) read ≡ next → WhatWaits bad (drop read fed) (limit - read)
  waits_by (NextBad parts n) e = let w = (what_is_bad bad _ _ _ parts n e).1 in let more = bad_reading bom bad limit read after_return fed reading n w in
      let front = front_past false bad limit (take (read + n) fed) (drop (read + n) fed) (front_here bom bad limit (read + n) false fed more)
      (within_here bom bad limit (read + n) false fed more) in
      absurd (omega (
        arith,
        error_bounds _ n w.is_bad,
        len_front bom bad limit (read + n) false fed more,
        ap (front_len false bad limit) (take-append-drop (read + n) fed),
        front,
        h.length_is,
      ))
  waits_by Waits e = what_waits bad _ _ _ e
  waits_by (Refused r) e = absurd (u r (λ more. (refused_here bom bad limit read after_return fed reading stuck r e more).0))

  held : WhatWaits bad (drop read fed) (limit - read)
  held = waits_by (next_front bad (drop read fed) (limit - read) read) refl

  read_all : length (drop read fed) ≡ 0 → read ≡ length fed
  read_all none = omega (arith, none, length-drop read fed, h.length_is, front_le false bad limit fed)

  module _ {S : Type 0} (gives : S → CharItem → Result (Unit {0}) Refusal → S → Type 0) (old : S) where
    -- nothing is held
    ends_at_once : length (drop read fed) ≡ 0 → EndsDecoding gives (policy bom bad limit) fed old (Ok tt) old
    ends_at_once nothing = let all : front_len true bad limit fed ≡ length fed = omega (arith, past true, read_all nothing, front_le true bad limit fed) in
        let same : front_len true bad limit fed ≡ front_len false bad limit fed = omega (arith, all, read_all nothing, h.length_is) in
        let none : refusal_of (policy bom bad limit) fed ≡ None = grind (arith, nat_tests) in
        end_reached (rw same (HandsOn-none gives (settled (policy bom bad limit) fed) old)) (rw none refl)

-- what is held is no UTF-8
not_utf8_at_end : (bom : Bom) (limit read : ℕ) (after_return : Bool) (fed : List ℕ) → DecoderHasRead (policy bom Refuse limit) read after_return fed
    → IsUndecided (policy bom Refuse limit) fed → 0 < length (drop read fed) → refusal_of (policy bom Refuse limit) fed ≡ Some (NotUtf8 read)
not_utf8_at_end bom limit read after_return fed h u some = let now = reading bom Refuse limit read after_return fed h u in let front : List ℕ = take read fed in
    let same : length front ≡ read = len bom Refuse limit read after_return fed h u in let none = (held bom Refuse limit read after_return fed h u).none in
    let no_room = stuck bom Refuse limit read after_return fed h u in
    let past = refusal_past limit front (drop read fed) (front_here bom Refuse limit read after_return fed now) in
    grind (arith, nat_tests, take-append-drop read fed, past, within_here bom Refuse limit read after_return fed now, no_room, some, none, same)

-- or is replaced as one bad part
held_read : (at : ℕ) (rest : List ℕ) → utf8_valid_len rest ≡ 0 → utf8_error_len rest ≡ None → 0 < length rest → reads_at at rest ≡ Bad at ∷ []
held_read at rest none open' some = grind (arith, append-nil rest, reads_after_bad at rest [], none, open', reads_nil (at + length rest))

module _ (bom : Bom) (limit read : ℕ) (after_return : Bool) (fed : List ℕ) (h : DecoderHasRead (policy bom Replace limit) read after_return fed)
    (u : IsUndecided (policy bom Replace limit) fed) where
  held_fits : read + length (drop read fed) ≤ limit
  held_fits = omega (arith, (held bom Replace limit read after_return fed h u).fits refl, (reading bom Replace limit read after_return fed h u).within)

  replaced_text : 0 < length (drop read fed) → decoded (policy bom Replace limit) fed ≡ settled (policy bom Replace limit) fed ++ Bad read ∷ []
  replaced_text some = let now = reading bom Replace limit read after_return fed h u in let front : List ℕ = take read fed in
      let rest : List ℕ = drop read fed in
      let same : length front ≡ read = len bom Replace limit read after_return fed h u in
      let w = held bom Replace limit read after_return fed h u in
      let all : take (fitting true (limit - length front) rest) rest ≡ rest =
      ap (λ (n : ℕ). take n rest) (all_read (limit - length front) rest (omega (arith, same, held_fits))) ∙ take_all (length rest) rest (omega arith) in
      ap (decoded (policy bom Replace limit)) (sym (take-append-drop read fed)) ∙ read_past true bom Replace limit front rest
      (front_here bom Replace limit read after_return fed now) (within_here bom Replace limit read after_return fed now)
      ∙ ap (λ (x : List ℕ). text_of bom front ++ normalized bom (ends_in_return false (reads front)) (reads_at (length front) x)) all
      ∙ ap (λ (x : List Read). text_of bom front ++ normalized bom (ends_in_return false (reads front)) x) (held_read (length front) rest w.none w.is_open some)
      ∙ ap (λ (n : ℕ). text_of bom front ++ Bad n ∷ []) same ∙ ap (λ (n : ℕ). text_of bom (take n fed) ++ Bad read ∷ []) h.length_is

  module _ {S : Type 0} (gives : S → CharItem → Result (Unit {0}) Refusal → S → Type 0) (old new : S) where
    replaced_ends : (answer : Result (Unit {0}) Refusal) → 0 < length (drop read fed) → Hands gives old (items (Bad read ∷ [])) answer new
        → EndsDecoding gives (policy bom Replace limit) fed old answer new
    replaced_ends (Ok tt) some handed =
        let none : refusal_of (policy bom Replace limit) fed ≡ None = (replaced bom limit fed).1 (omega (arith, held_fits, length-drop read fed)) in
        end_reached (Bad read ∷ [], replaced_text some, handed) (sym (ap answer_at_end none))
    replaced_ends (Err e) some handed = end_refused e refl (Bad read ∷ [], replaced_text some, handed)

ends_held : {S : Type 0} (gives : S → CharItem → Result (Unit {0}) Refusal → S → Type 0) (old new : S) (answer : Result (Unit {0}) Refusal) (bom : Bom)
    (bad : BadBytes) (limit read : ℕ) (after_return : Bool) (fed left : List ℕ) → DecoderHasRead (policy bom bad limit) read after_return fed
    → IsUndecided (policy bom bad limit) fed → left ≡ drop read fed → 0 < length left → (bad ≡ Refuse → (answer ≡ Err (NotUtf8 read)) × (new ≡ old))
    → (bad ≡ Replace → read + length left ≤ limit → Hands gives old (items (Bad read ∷ [])) answer new)
    → EndsDecoding gives (policy bom bad limit) fed old answer new
ends_held gives old new answer bom Refuse limit read after_return fed left h u is some refused replaced' =
    let some' : 0 < length (drop read fed) = omega (arith, ap length is) in
    let end : answer ≡ answer_at_end (refusal_of (policy bom Refuse limit) fed) =
    (refused refl).0 ∙ sym (ap answer_at_end (not_utf8_at_end bom limit read after_return fed h u some')) in
    end_reached (subst (λ x. HandsOn gives (settled (policy bom Refuse limit) fed) (settled (policy bom Refuse limit) fed) old (Ok tt) x) (sym (refused refl).1)
    (HandsOn-none gives (settled (policy bom Refuse limit) fed) old)) end
ends_held gives old new answer bom Replace limit read after_return fed left h u is some refused replaced' = replaced_ends bom limit read after_return fed h u
    gives old new answer (omega (arith, ap length is)) (replaced' refl (omega (arith, held_fits bom limit read after_return fed h u, ap length is)))

pub returns-then-is_empty-clause-ends : goal.returns-then-is_empty-clause-ends
returns-then-is_empty-clause-ends g c = rw (← c.self.view_is) (λ fed h.
    let test = sym c.is_empty.ensures ∙ c.if-is_empty.true in let none : length c.self.inside.undecoded.items ≡ 0 = grind (arith, nat_tests) in
    ends_at_once _ _ _ _ _ fed h.front h.undecided g.S.CharSink.gives _ (omega (arith, none, ap length h.undecoded)))

pub returns-then-is_empty-clause-whole : goal.returns-then-is_empty-clause-whole
returns-then-is_empty-clause-whole g c = rw (← c.self.view_is) (λ fed h.
    let test = sym c.is_empty.ensures ∙ c.if-is_empty.true in let none : length c.self.inside.undecoded.items ≡ 0 = grind (arith, nat_tests) in
    read_all _ _ _ _ _ fed h.front h.undecided (omega (arith, none, ap length h.undecoded)))

pub returns-in-Err-clause-ends : goal.returns-in-Err-clause-ends
returns-in-Err-clause-ends g c = rw (← c.self.view_is) (λ fed h.
    let test = sym c.is_empty.ensures ∙ c.if-is_empty.false in let some : 0 < length c.self.inside.undecoded.items = grind (arith, nat_tests) in
    ends_held g.S.CharSink.gives _ _ (Err c.in-Err.refusal) _ _ _ _ _ fed c.deref.result.now h.front h.undecided (c.deref.ensures.value ∙ h.undecoded)
    (omega (arith, some, ap length c.deref.ensures.value)) c.in-Err.ensures.refused c.in-Err.ensures.replaced)

pub returns-clause-ends : goal.returns-clause-ends
returns-clause-ends g c = rw (← c.self.view_is) (λ fed h.
    let test = sym c.is_empty.ensures ∙ c.if-is_empty.false in let some : 0 < length c.self.inside.undecoded.items = grind (arith, nat_tests) in
    ends_held g.S.CharSink.gives _ _ (Ok tt) _ _ _ _ _ fed c.deref.result.now h.front h.undecided (c.deref.ensures.value ∙ h.undecoded)
    (omega (arith, some, ap length c.deref.ensures.value)) c.in_default-end.ensures.refused c.in_default-end.ensures.replaced)

pub returns-clause-whole : goal.returns-clause-whole
returns-clause-whole g c = grind (arith, common_steps)
