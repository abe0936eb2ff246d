-- How a front of bytes is read, and the bytes after it.
use Rattle.htext.proofs.Names.{nat_tests, ◌≡◌, ℕ, zero, suc, ◌<◌, ◌≤◌, ◌+◌, ◌-◌, Bool, true, false, List, [], ◌∷◌, ◌++◌, length, map, take, drop, sym, refl, ap, ◌∙◌, subst, arith, append_assoc, append-nil, Option, Some, Result, Ok, Err, drop_at, take_at, take-take, take-append-le, length-append, length-take-le, take-append-drop, length-drop, drop-drop, IsUtf8-nil, chars, IsUtf8, utf8_valid_len, utf8_error_len, placed, Hands, Refusal, Bom, BadBytes, Refuse, Replace, NextBad, Waits, Refused, next_front, IsAhead, inl, inr, Policy, Read, Whole, Bad, reads, normalized, ends_in_return, text_of, valid_len, front_len, decoded, settled, reads_at, CharItem, items, bad_each, DecoderHasRead, IsReading, DecodingIsRefusedFrom, IsUndecided, HandsOn, Feeds, HasFed, ReadsOn, sink_refused, took_all, drop-append-le, take_rest, AreReplaced, Memory, DecoderState, Stops, by_sink, by_bytes}
use Rattle.std.proofs.Common.{add-zero}
use Rattle.htext.proofs.Valid.{valid_front, valid_len_le, valid_front_utf8, length-valid_front, valid_len-append, error_bounds, error_cut}
use Rattle.htext.proofs.Parts.{reads_nil, reads_of_text, reads_after_bad}
use Rattle.htext.proofs.Fronts.{IsFront, front_more, front_is, front_past, front_le, reads_past, cut_none, text_more, part_more, undecided_bad}
use Rattle.htext.proofs.Texts.{normalized-append, ends_in_return-append, read_past}
use Rattle.htext.proofs.Refusals.{accepted, replaced}
use Rattle.htext.proofs.Handing.{HandsOn-append, HandsOn-goes_on, ran_out_after}
use Rattle.htext.proofs.Stopping.{WhatWaits, WhatIsBad, what_waits, what_is_bad, waits_unread, waits_undecided, refused_from, stuck_by}

abbrev pub policy : Bom → BadBytes → ℕ → Policy
policy bom bad limit = record { bom = bom; bad = bad; limit = limit }

-- what was read of bytes is a front of them where more follow
module _ (bom : Bom) (bad : BadBytes) (limit read : ℕ) (after_return : Bool) (fed piece : List ℕ)
    (h : DecoderHasRead (policy bom bad limit) read after_return fed) where
  read_le : (read ≤ limit) × (read ≤ length fed)
  read_le = (omega (arith, h.length_is, front_le false bad limit fed), omega (arith, h.length_is, front_le false bad limit fed))

  front_of_fed : take read (fed ++ piece) ≡ take (front_len false bad limit fed) fed
  front_of_fed = take-append-le read fed piece read_le.1 ∙ ap (λ (n : ℕ). take n fed) h.length_is

  pub reading_on : IsReading (policy bom bad limit) read after_return (fed ++ piece)
  reading_on = let front : List ℕ = take read fed in let rest : List ℕ = drop read fed in let len : length front ≡ read = length-take-le read fed read_le.1 in
      let is_front : IsFront bad front (rest ++ piece) = front_more bad front rest piece (rw (← h.length_is) at (front_is bad limit fed)) in
      let whole : fed ++ piece ≡ front ++ (rest ++ piece) = grind (arith, append_assoc, take-append-drop read fed) in
      let past = front_past false bad read front (rest ++ piece) is_front (omega (arith, len)) in
      let end = h.end_is ∙ ap (λ (x : List ℕ). ends_in_return false (reads x)) (sym front_of_fed) in
      record { within = read_le.0; parts = grind (arith, whole, len, past, front_le false bad (read - length front) (rest ++ piece)); end_is = end }

  pub text_on : text_of bom (take read (fed ++ piece)) ≡ settled (policy bom bad limit) fed
  text_on = ap (text_of bom) front_of_fed

  pub left_on : drop read (fed ++ piece) ≡ drop read fed ++ piece
  left_on = drop-append-le read fed piece read_le.1

-- `read` bytes have been read.
module _ (bom : Bom) (bad : BadBytes) (limit read : ℕ) (after_return : Bool) (all : List ℕ) (h : IsReading (policy bom bad limit) read after_return all) where
  pub le : read ≤ length all
  le = omega (arith, h.parts, front_le false bad read all)

  pub front_here : IsFront bad (take read all) (drop read all)
  front_here = subst (λ (n : ℕ). IsFront bad (take n all) (drop n all)) h.parts (front_is bad read all)

  pub len_front : length (take read all) ≡ read
  len_front = length-take-le read all le

  pub within_here : length (take read all) ≤ limit
  within_here = omega (arith, len_front, h.within)

  -- `piece` is read next, as `what`.
  module _ (piece rest : List ℕ) (what : List Read) (left : drop read all ≡ piece ++ rest) (reads_as : reads_at read piece ≡ what)
      (both : IsFront bad (take read all ++ piece) rest) (fits : read + length piece ≤ limit) where
    split : all ≡ (take read all ++ piece) ++ rest
    split = sym (take-append-drop read all) ∙ ap (λ (x : List ℕ). take read all ++ x) left ∙ sym (append_assoc (take read all) piece rest)

    len_both : length (take read all ++ piece) ≡ read + length piece
    len_both = omega (arith, length-append (take read all) piece, len_front)

    front_next : take (read + length piece) all ≡ take read all ++ piece
    front_next = ap (take (read + length piece)) split ∙ take_at (take read all ++ piece) rest (read + length piece) len_both

    rest_next : drop (read + length piece) all ≡ rest
    rest_next = ap (drop (read + length piece)) split ∙ drop_at (take read all ++ piece) rest (read + length piece) len_both

    reads_next : reads (take read all ++ piece) ≡ reads (take read all) ++ what
    reads_next = let past = reads_past bad (take read all) (drop read all) (length piece) front_here in
        grind (arith, left, take_at piece rest (length piece) refl, past, len_front, reads_as)

    text_next : text_of bom (take (read + length piece) all) ≡ text_of bom (take read all) ++ normalized bom after_return what
    text_next = grind (arith, front_next, reads_next, normalized-append bom false (reads (take read all)) what, h.end_is)

    reading_next : IsReading (policy bom bad limit) (read + length piece) (ends_in_return after_return what) all
    reading_next = let front : List ℕ = take read all ++ piece in
        let past = front_past false bad (read + length piece) front rest both (omega (arith, len_both)) in
        let end = ends_in_return-append false (reads (take read all)) what in let none = front_le false bad (read + length piece - length front) rest in
        record { within = fits; parts = grind (arith, split, len_both, past, none); end_is = grind (arith, h.end_is, end, reads_next, front_next) }

  -- a text is read next
  module _ (text : List ℕ) (is : text ≡ valid_front (limit - read) (drop read all)) where
    text_utf8 : IsUtf8 text
    text_utf8 = subst IsUtf8 (sym is) (valid_front_utf8 (limit - read) (drop read all))

    text_len : length text ≡ valid_len (limit - read) (drop read all)
    text_len = ap length is ∙ length-valid_front (limit - read) (drop read all)

    text_rest : List ℕ
    text_rest = drop (length text) (drop read all)

    text_left : drop read all ≡ text ++ text_rest
    unfolding text_rest
    text_left = grind (arith, take-append-drop (valid_len (limit - read) (drop read all)) (drop read all), is, text_len)

    text_front : IsFront bad (take read all ++ text) text_rest
    text_front = text_more bad (take read all) text text_rest (subst (IsFront bad (take read all)) text_left front_here) text_utf8

    text_fits : read + length text ≤ limit
    text_fits = omega (arith, h.within, text_len, valid_len_le (limit - read) (drop read all))

    abbrev text_reads : List Read
    text_reads = map Whole (placed read (chars text))

    pub text_reading : IsReading (policy bom bad limit) (read + length text) (ends_in_return after_return (map Whole (placed read (chars text)))) all
    text_reading = reading_next text text_rest _ text_left (reads_of_text read text text_utf8) text_front text_fits

    pub text_text : text_of bom (take (read + length text) all)
        ≡ text_of bom (take read all) ++ normalized bom after_return (map Whole (placed read (chars text)))
    text_text = text_next text text_rest _ text_left (reads_of_text read text text_utf8) text_front text_fits

    pub text_after : drop (read + length text) all ≡ drop (length text) (drop read all)
    unfolding text_rest
    text_after = rest_next text (drop (length text) (drop read all)) _ text_left (reads_of_text read text text_utf8) text_front text_fits

    pub text_stuck : valid_len (limit - (read + length text)) (drop (read + length text) all) ≡ 0
    unfolding text_rest
    text_stuck = let more = valid_len-append (limit - read) text text_rest text_utf8 in grind (arith, text_fits, text_left, text_after, more, text_len)

  -- a bad part is replaced next
  module _ (n : ℕ) (w : WhatIsBad bad (drop read all) (limit - read) n) where
    part : List ℕ
    part = take n (drop read all)

    part_len : length part ≡ n
    unfolding part
    part_len = length-take-le n (drop read all) (error_bounds (drop read all) n w.is_bad).1

    part_left : drop read all ≡ part ++ drop n (drop read all)
    unfolding part
    part_left = sym (take-append-drop n (drop read all))

    part_none : utf8_valid_len (part ++ drop n (drop read all)) ≡ 0
    part_none = ap utf8_valid_len (sym part_left) ∙ w.none

    part_bad : utf8_error_len (part ++ drop n (drop read all)) ≡ Some (length part)
    part_bad = ap utf8_error_len (sym part_left) ∙ w.is_bad ∙ ap Some (sym part_len)

    part_reads : reads_at read part ≡ Bad read ∷ []
    part_reads = let rest : List ℕ = drop n (drop read all) in let alone : part ++ [] ≡ part = append-nil part in
        let bad = error_cut part rest (length part) part_bad (omega arith) in let bounds = error_bounds (part ++ rest) (length part) part_bad in
        grind (arith, alone, reads_after_bad read part [], cut_none part rest part_none, bad, bounds, reads_nil (read + length part))

    part_front : IsFront bad (take read all ++ part) (drop n (drop read all))
    part_front = part_more bad (take read all) part (drop n (drop read all)) w.how (subst (IsFront bad (take read all)) part_left front_here) part_none part_bad

    part_fits : read + length part ≤ limit
    part_fits = omega (arith, h.within, part_len, w.fits)

    pub bad_reading : IsReading (policy bom bad limit) (read + n) false all
    bad_reading = rw part_len at (reading_next part _ _ part_left part_reads part_front part_fits)

    pub bad_text : text_of bom (take (read + n) all) ≡ text_of bom (take read all) ++ Bad read ∷ []
    bad_text = rw part_len at (text_next part _ _ part_left part_reads part_front part_fits)

  -- nothing more is read whatever follows
  module _ (unread : front_len false bad (limit - read) (drop read all) ≡ 0) where
    settled_is : front_len false bad limit all ≡ read
    settled_is = let past = front_past false bad limit (take read all) (drop read all) front_here within_here in
        grind (arith, past, take-append-drop read all, unread, len_front)

    pub has_read : DecoderHasRead (policy bom bad limit) read after_return all
    has_read = record { length_is = sym settled_is; end_is = h.end_is ∙ ap (λ (n : ℕ). ends_in_return false (reads (take n all))) (sym settled_is) }

    pub settled_text : settled (policy bom bad limit) all ≡ text_of bom (take read all)
    settled_text = ap (λ (n : ℕ). text_of bom (take n all)) settled_is

  pub goes_on_here : (more : List ℕ) → (rest : List Read) × (decoded (policy bom bad limit) (all ++ more) ≡ text_of bom (take read all) ++ rest)
  goes_on_here more = let front : List ℕ = take read all in let rest : List ℕ = drop read all ++ more in
      let whole : front ++ rest ≡ all ++ more = grind (arith, append_assoc, take-append-drop read all) in
      (_, rw whole at (read_past true bom bad limit front rest (front_more bad front (drop read all) more front_here) within_here))

  module _ (stuck : valid_len (limit - read) (drop read all) ≡ 0) where
    stuck_here : valid_len (limit - length (take read all)) (drop read all) ≡ 0
    stuck_here = ap (λ (n : ℕ). valid_len (limit - n) (drop read all)) len_front ∙ stuck

    -- what is left waits
    pub unread_here : WhatWaits bad (drop read all) (limit - read) → front_len false bad (limit - read) (drop read all) ≡ 0
    unread_here w = waits_unread bad (drop read all) (limit - read) stuck w

    pub undecided_here : WhatWaits bad (drop read all) (limit - read) → IsUndecided (policy bom bad limit) all
    undecided_here w = subst (IsUndecided (policy bom bad limit)) (take-append-drop read all) (waits_undecided bom bad limit (take read all) (drop read all)
        front_here within_here stuck_here (subst (λ (n : ℕ). WhatWaits bad (drop read all) (limit - n)) (sym len_front) w))

    -- what is left is refused
    module _ (r : Refusal) (is : next_front bad (drop read all) (limit - read) read ≡ Refused r) where
      next_here : next_front bad (drop read all) (limit - length (take read all)) (length (take read all)) ≡ Refused r
      next_here = ap (λ (n : ℕ). next_front bad (drop read all) (limit - n) n) len_front ∙ is

      pub refused_here : DecodingIsRefusedFrom (policy bom bad limit) all r
      refused_here = rw (take-append-drop read all) at (refused_from bom bad limit _ (drop read all) front_here within_here stuck_here r next_here)

      pub settled_here : settled (policy bom bad limit) all ≡ text_of bom (take read all)
      settled_here = settled_text (rw (append-nil (drop read all)) at (stuck_by bad (drop read all) (limit - read) read stuck r is false []))

-- BYTES THAT ARE BAD PARTS BY THEMSELVES

module _ (bom : Bom) (bad : BadBytes) (limit : ℕ) (all : List ℕ) where
  abbrev IsAfter : ℕ → ℕ → Type 0
  IsAfter read n = IsReading (policy bom bad limit) (read + n) false all × (text_of bom (take (read + n) all) ≡ text_of bom (take read all) ++ bad_each read n)

  after_none : (read : ℕ) → IsReading (policy bom bad limit) read false all → IsAfter read 0
  after_none read h = rw (add-zero read) (h, sym (append-nil (text_of bom (take read all))))

  -- one of them, and those after it
  one_more : (read n : ℕ) (after_return : Bool) → IsReading (policy bom bad limit) read after_return all
      → AreReplaced bad (drop read all) (limit - read) (suc n)
      → (IsReading (policy bom bad limit) (read + 1) false all → AreReplaced bad (drop (read + 1) all) (limit - (read + 1)) n → IsAfter (read + 1) n)
      → IsAfter read (suc n)
  one_more read n after_return h are more = let (none, wrong) = undecided_bad (drop read all) 1 are.are_bad.0 in let one = are.how (omega arith) in
      let w : WhatIsBad bad (drop read all) (limit - read) 1 = record { how = one; none = none; is_bad = wrong; fits = omega (arith, are.fits) } in
      let within : n ≤ length (drop (read + 1) all) = omega (arith, are.within, length-drop read all, length-drop (read + 1) all) in
      let fits : n ≤ limit - (read + 1) = omega (arith, are.fits) in let left = rw (drop-drop 1 read all) at are.are_bad.1 in
      let rest = more (bad_reading bom bad limit read after_return all h 1 w) (record { how = λ some. one; are_bad = left; within = within; fits = fits }) in
      let same : (read + 1) + n ≡ read + suc n = omega arith in
      (rw same at rest.0, grind (arith, same, rest.1, bad_text bom bad limit read after_return all h 1 w, append_assoc))

  after_more : (n read : ℕ) → IsReading (policy bom bad limit) read false all → AreReplaced bad (drop read all) (limit - read) n → IsAfter read n
  after_more zero read h are = after_none read h
  after_more (suc n) read h are = one_more read n false h are (after_more n (read + 1))

  pub after_each : (n read : ℕ) (after_return : Bool) → IsReading (policy bom bad limit) read after_return all
      → AreReplaced bad (drop read all) (limit - read) n → 0 < n → IsAfter read n
  after_each zero read after_return h are some = absurd (omega (arith, some))
  after_each (suc n) read after_return h are some = one_more read n after_return h are (after_more n (read + 1))

-- NOTHING

module _ (bom : Bom) (bad : BadBytes) (limit : ℕ) where
  no_front : front_len false bad limit [] ≡ 0
  no_front = omega (arith, front_le false bad limit [])

  pub nothing_read : DecoderHasRead (policy bom bad limit) 0 false []
  nothing_read = record { length_is = sym no_front; end_is = grind (arith, reads_nil 0, no_front) }

  pub nothing_settled : settled (policy bom bad limit) [] ≡ []
  nothing_settled = ap (λ (n : ℕ). text_of bom (take n [])) no_front ∙ ap (normalized bom false) (reads_nil 0)

pub nothing_decided : (bom : Bom) (bad : BadBytes) (limit : ℕ) → IsUndecided (policy bom bad limit) []
nothing_decided bom Refuse limit refusal stays = grind (arith, nat_tests, stays [], (accepted limit []).1 (IsUtf8-nil, omega arith))
nothing_decided bom Replace limit refusal stays = grind (arith, nat_tests, stays [], (replaced bom limit []).1 (omega arith))

-- ONE TURN OF THE LOOP

-- the valid front, as it is found in what fits
pub text_is : (n count : ℕ) (bytes fit text : List ℕ) → fit ≡ take n (take (length bytes - count) (drop count bytes)) → text ≡ take (utf8_valid_len fit) fit
    → text ≡ valid_front n (drop count bytes)
text_is n count bytes fit text e is = let left : List ℕ = drop count bytes in
    is ∙ ap (λ (x : List ℕ). take (utf8_valid_len x) x) (e ∙ ap (take n) (take_rest bytes count)) ∙ take-take (valid_len n left) n left (valid_len_le n left).0

-- it is within the bytes, and so is what is found after it
pub within_all : (n count k : ℕ) (bytes fit text : List ℕ) → fit ≡ take n (take (length bytes - count) (drop count bytes))
    → text ≡ take (utf8_valid_len fit) fit → count ≤ length bytes → k ≤ length (take (length bytes - (count + length text)) (drop (count + length text) bytes))
    → count + length text + k ≤ length bytes
within_all n count k bytes fit text e is within fits = let rest : List ℕ = drop count bytes in
    let short : length text ≤ length rest = omega (arith, ap length (text_is n count bytes fit text e is), length-valid_front n rest, valid_len_le n rest) in
    omega (arith, fits, within, short, length-drop count bytes, ap length (take_rest bytes (count + length text)), length-drop (count + length text) bytes)

-- Of the bytes that are left of all, the first `count` were read and handed over.
pub record HasTurned {S : Type 0} (gives : S → CharItem → Result (Unit {0}) Refusal → S → Type 0) (how : Policy) (before : List Read) (all bytes : List ℕ)
    (count read : ℕ) (after_return : Bool) (old new : S) : Type 0 where
  pub reading : IsReading how read after_return all
  pub handed : HandsOn gives before (text_of how.bom (take read all)) old (Ok tt) new
  pub left : drop count bytes ≡ drop read all

module _ {S : Type 0} (gives : S → CharItem → Result (Unit {0}) Refusal → S → Type 0) (bom : Bom) (bad : BadBytes) (limit : ℕ) (before : List Read)
    (all bytes : List ℕ) (count read : ℕ) (after_return : Bool) (old now : S)
    (turned : HasTurned gives (policy bom bad limit) before all bytes count read after_return old now) where
  -- the next `n` bytes are read as this text
  abbrev IsNext : ℕ → List Read → Bool → Type 0
  IsNext n text end = IsReading (policy bom bad limit) (read + n) end all × (text_of bom (take (read + n) all) ≡ text_of bom (take read all) ++ text)

  module _ (n : ℕ) (text : List Read) (end : Bool) (next : IsNext n text end) (new : S) where
    handed_next : (answer : Result (Unit {0}) Refusal) → Hands gives now (items text) answer new
        → HandsOn gives before (text_of bom (take (read + n) all)) old answer new
    handed_next answer handed = HandsOn-append gives before (text_of bom (take read all)) _ old now answer new turned.handed (text, next.1, handed)

    pub turn_stops : (e : Refusal) → Hands gives now (items text) (Err e) new → Stops gives (policy bom bad limit) before all old e new
    turn_stops e handed = by_sink (λ more. let on = goes_on_here bom bad limit _ _ all next.0 more in
        HandsOn-goes_on gives before (text_of bom (take (read + n) all)) _ on.0 old e new on.1 (handed_next (Err e) handed))

    pub turn_more : Hands gives now (items text) (Ok tt) new → HasTurned gives (policy bom bad limit) before all bytes (count + n) (read + n) end old new
    turn_more handed = let left = sym (drop-drop n count bytes) ∙ ap (drop n) turned.left ∙ drop-drop n read all in
        record { reading = next.0; handed = handed_next (Ok tt) handed; left = left }

  -- a text is at the front, and none after it
  module _ (text : List ℕ) (is : text ≡ valid_front (limit - read) (drop count bytes)) where
    front_text : text ≡ valid_front (limit - read) (drop read all)
    front_text = is ∙ ap (valid_front (limit - read)) turned.left

    pub next_text : IsNext (length text) (normalized bom after_return (map Whole (placed read (chars text))))
        (ends_in_return after_return (map Whole (placed read (chars text))))
    next_text = (text_reading _ _ _ _ _ all turned.reading text front_text, text_text _ _ _ _ _ all turned.reading text front_text)

    pub stuck_next : valid_len (limit - (read + length text)) (drop (read + length text) all) ≡ 0
    stuck_next = text_stuck bom bad limit read after_return all turned.reading text front_text

  -- bad parts are
  pub next_bad : (parts n : ℕ) → IsAhead bad (drop count bytes) (limit - read) read (NextBad parts n) → IsNext n (bad_each read parts) false
  next_bad parts n is = by (subst (λ (x : List ℕ). IsAhead bad x (limit - read) read (NextBad parts n)) turned.left is) where
    by : IsAhead bad (drop read all) (limit - read) read (NextBad parts n) → IsNext n (bad_each read parts) false
    by (inl e) = let (one, w) = what_is_bad bad _ _ _ parts n (sym e) in
        (bad_reading bom bad limit _ _ all turned.reading n w, rw one (bad_text bom bad limit _ _ all turned.reading n w))
    by (inr (k, e, some, are)) = (let p : parts ≡ k = cc in let q : n ≡ k = cc in rw (p, q) (after_each bom bad limit all k _ _ turned.reading are some))

  -- what is left is refused, or waits
  module _ (stuck : valid_len (limit - read) (drop read all) ≡ 0) where
    pub refused_stops : (r : Refusal) → next_front bad (drop count bytes) (limit - read) read ≡ Refused r
        → Stops gives (policy bom bad limit) before all old r now
    refused_stops r e = let is = rw turned.left at e in
        by_bytes (rw (settled_here _ _ _ _ _ all turned.reading stuck r is) turned.handed) (refused_here _ _ _ _ _ all turned.reading stuck r is)

    pub waits_now : next_front bad (drop count bytes) (limit - read) read ≡ Waits → HandsOn gives before (settled (policy bom bad limit) all) old (Ok tt) now
        × DecoderHasRead (policy bom bad limit) read after_return all × (drop count bytes ≡ drop read all) × IsUndecided (policy bom bad limit) all
    waits_now e = let w = what_waits bad _ _ _ (rw turned.left at e) in let k = turned.reading in let unread = unread_here bom bad limit _ _ all k stuck w in
        (rw (settled_text _ _ _ _ _ all k unread) turned.handed, has_read _ _ _ _ _ all k unread, turned.left, undecided_here _ _ _ _ _ all k stuck w)

-- ONE PIECE MORE

-- A decoder holds what is left of the bytes that were read, and joins the piece to it.
module _ {S : Type 0} (gives : S → CharItem → Result (Unit {0}) Refusal → S → Type 0) (bom : Bom) (bad : BadBytes) (limit read : ℕ) (after_return : Bool)
    (left : List ℕ) (refused : Option Refusal) (piece joined : List ℕ) (j : joined ≡ left ++ piece) (old new : S) where
  abbrev decoder : ℕ → Bool → List ℕ → DecoderState
  decoder read after_return left = record { how = policy bom bad limit; read = read; after_return = after_return; undecoded = left; refused = refused }

  -- what is done with all bytes of which those joined are left
  abbrev OfJoined : (List ℕ → Type 0) → Type 0
  OfJoined P = (all : List ℕ) → IsReading (policy bom bad limit) read after_return all → joined ≡ drop read all → P all

  of_fed : (P : List ℕ → Type 0) → OfJoined P → (fed : List ℕ) → HasFed (decoder read after_return left) fed → P (fed ++ piece)
  of_fed P done fed h = done (fed ++ piece) (reading_on bom bad limit read after_return fed piece h.front)
      (j ∙ ap (λ (x : List ℕ). x ++ piece) h.undecoded ∙ sym (left_on bom bad limit read after_return fed piece h.front))

  handed_on : (text : List Read) (answer : Result (Unit {0}) Refusal) (fed : List ℕ) → HasFed (decoder read after_return left) fed
      → HandsOn gives (text_of bom (take read (fed ++ piece))) text old answer new → HandsOn gives (settled (policy bom bad limit) fed) text old answer new
  handed_on text answer fed h handed = rw (← text_on bom bad limit read after_return fed piece h.front) handed

  abbrev StopsAt : Refusal → List ℕ → Type 0
  StopsAt e all = Stops gives (policy bom bad limit) (text_of bom (take read all)) all old e new

  stops_feeding : (e : Refusal) (fed : List ℕ) → HasFed (decoder read after_return left) fed → StopsAt e (fed ++ piece)
      → Feeds gives (policy bom bad limit) fed piece old (Err e) new
  stops_feeding e fed h (by_sink stops) = sink_refused e refl (λ more. handed_on _ (Err e) fed h (stops more))
  stops_feeding e fed h (by_bytes handed stays) = took_all (handed_on _ (Ok tt) fed h handed) stays

  pub piece_stops : (e : Refusal) (after : DecoderState) → after.how ≡ policy bom bad limit → OfJoined (StopsAt e)
      → ReadsOn gives (decoder read after_return left) piece old (Err e) after new
  piece_stops e after same stops = record { feeds = λ fed h. stops_feeding e fed h (of_fed (StopsAt e) stops fed h); fed = tt; how = same }

  -- all was read that is read whatever follows
  module _ (count next : ℕ) (end : Bool) where
    abbrev IsTaken : List ℕ → Type 0
    IsTaken all = HandsOn gives (text_of bom (take read all)) (settled (policy bom bad limit) all) old (Ok tt) new
        × DecoderHasRead (policy bom bad limit) next end all × (drop count joined ≡ drop next all) × IsUndecided (policy bom bad limit) all

    pub piece_taken : (rest : List ℕ) → rest ≡ drop count joined → length rest ≤ 3 → OfJoined IsTaken
        → ReadsOn gives (decoder read after_return left) piece old (Ok tt) (decoder next end rest) new
    piece_taken rest is few taken = record {
      feeds = λ fed h. took_all (handed_on _ (Ok tt) fed h (of_fed IsTaken taken fed h).0) tt;
      fed = λ fed h.
          let now = of_fed IsTaken taken fed h in record { front = now.1; undecoded = is ∙ now.2; few = few; undecided = now.3; accepts = h.accepts };
      how = refl;
    }

    pub piece_lost : (after : DecoderState) → after.how ≡ policy bom bad limit → OfJoined IsTaken
        → ReadsOn gives (decoder read after_return left) piece old (Err Memory) after new
    piece_lost after same taken = record {
      feeds = λ fed h. ran_out_after gives (policy bom bad limit) fed piece old new (handed_on _ (Ok tt) fed h (of_fed IsTaken taken fed h).0);
      fed = tt;
      how = same;
    }
