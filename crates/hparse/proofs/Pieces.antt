-- What one piece more does to a reading, and what the input's end does.
use Rattle.hparse.proofs.Names.{◌≡◌, ℕ, ◌-◌, Bool, true, false, cond, eqb, List, [], ◌∷◌, ◌++◌, length, map, Option, None, Some, sym, refl, ap, ◌∙◌, subst, Result, Ok, Err, append-nil, append_assoc, inl, inr, ◌⊎◌, AreNames, Placed, Refusal, Memory, Hands, BadBytes, Policy, Read, CharItem, items, characters_among, errors_among, HasFed, start_kind, Item, AreFront, Reading, Manner, Began, settled_in, reads_in, IsRefusedFor, by_bytes, by_memory, Comes, Intake, HoldsItems, TakesItems, items_stopped, items_taken, Proceeds, EndsText, text_stopped, text_taken, Refuses, HasRead, FeedsPiece, piece_refused, piece_read, EndsInput, characters_among-items, utf8_valid_len, eqb-true, map-append, NotUtf8, TooLarge, character_of, read_len, refusal_of, refusal_with, Feeds, sink_refused, took_all, EndsDecoding, end_refused, end_reached, HandsOn, answer_at_end, Tokens, how_of, input_text, end_in, items-append, errors_among-items, goes_on}
use Rattle.htext.specs.declared.BadBytes.TheVariants as bad
use Rattle.htext.specs.Decoding.{ran_out}
use Rattle.hparse.proofs.Held.{characters_among-append, taken_front}

-- bytes are refused where what is read of them ends
refusal_place : (b : Bool) (of : BadBytes) (more v at : ℕ) (r : Refusal) → cond b None (Some (refusal_with of more v)) ≡ Some r
    → (r ≡ NotUtf8 at) ⊎ (r ≡ TooLarge at) → at ≡ v
refusal_place true of more v at r e h = absurd cc
refusal_place false bad.Replace more v at r e (inl h) = absurd cc
refusal_place false bad.Replace more v at r e (inr h) = cc
refusal_place false bad.Refuse more v at r e h = go (eqb more 0) e h where
  go : (c : Bool) → Some (cond c (NotUtf8 v) (TooLarge v)) ≡ Some r → (r ≡ NotUtf8 at) ⊎ (r ≡ TooLarge at) → at ≡ v
  go true is (inl h) = cc
  go true is (inr h) = absurd cc
  go false is (inl h) = absurd cc
  go false is (inr h) = cc

place_of : (how : Policy) (at : ℕ) (bytes : List ℕ) (r : Refusal) → refusal_of how bytes ≡ Some r → (r ≡ NotUtf8 at) ⊎ (r ≡ TooLarge at)
    → at ≡ read_len how bytes
place_of how at bytes r e h =
    refusal_place (eqb (read_len how bytes) (length bytes)) how.bad (utf8_valid_len bytes - read_len how bytes) (read_len how bytes) at r e h

-- what is answered at the input's end, where it is refused there
none_at_end : (o : Option Refusal) → Ok tt ≡ answer_at_end o → o ≡ None
none_at_end None e = refl
none_at_end (Some r) e = absurd cc

some_at_end : (o : Option Refusal) (r : Refusal) → Err r ≡ answer_at_end o → o ≡ Some r
some_at_end None r e = absurd cc
some_at_end (Some x) r e = cc

-- whether it is want of memory
is_memory : (e : Refusal) → (e ≡ Memory) ⊎ ((e ≡ Memory) → ⊥)
is_memory Memory = inl refl
is_memory other = inr (λ e. cc)

-- what holds but for want of memory, whatever comes after, holds of all or none
pub all_or_memory : {X : Type 0} (e : Refusal) (P : X → Type 0) → ((x : X) → (e ≡ Memory) ⊎ P x) → (e ≡ Memory) ⊎ ((x : X) → P x)
all_or_memory e P h = elim (is_memory e) [ inl why ↦ inl why | inr differs ↦ inr (λ x. elim (h x) [ inl why ↦ absurd (differs why) | inr p ↦ p ]) ]

-- nothing follows what is read where nothing is refused
whole_from : (a b : ℕ) (r : Refusal) (t : Bool) → eqb a b ≡ t → cond t None (Some r) ≡ None → a ≡ b
whole_from a b r true e h = eqb-true a b e
whole_from a b r false e h = absurd cc

module _ {S : Type 0} (gives : S → Item → Result (Unit {0}) Refusal → S → Type 0) (m : Manner) (began : Began S) where
  -- an item that was handed over
  was_taken : (before : List CharItem) (x : CharItem) (new : Intake S) → TakesItems gives m began before (x ∷ []) (Ok tt) new
      → HoldsItems gives m began new (before ++ x ∷ [])
  was_taken before x new (items_stopped r is noted refused) = absurd cc
  was_taken before x new (items_taken e held) = held

  -- an input of this text is refused
  abbrev Stops : Refusal → Intake S → List CharItem → Type 0
  Stops e new xs = (new.stopped ≡ true) × ((bytes : List ℕ) → characters_among xs ≡ input_text m bytes → IsRefusedFor gives m began bytes new.names new.sink e)

  was_refused : (before : List CharItem) (x : CharItem) (more : List CharItem) (new : Intake S) (e : Refusal)
      → TakesItems gives m began before (x ∷ []) (Err e) new → Stops e new (before ++ x ∷ more)
  was_refused before x more new e (items_stopped r is noted refused) = let same : r ≡ e = cc in
      (noted, λ bytes text. subst (IsRefusedFor gives m began bytes new.names new.sink) same (refused more bytes text))
  was_refused before x more new e (items_taken is held) = absurd cc

  -- items that were handed over, one after another
  held_all : (s t : Intake S) (before xs : List CharItem) → Hands (Proceeds gives) s xs (Ok tt) t → HoldsItems gives m began s before
      → HoldsItems gives m began t (before ++ xs)
  held_all s t before [] h k =
      subst (λ (x : Intake S). HoldsItems gives m began x (before ++ [])) h.1 (subst (HoldsItems gives m began s) (sym (append-nil before)) k)
  held_all s t before (x ∷ xs) (Err e, mid, given, rest) k = let never = rest.0 in absurd cc
  held_all s t before (x ∷ xs) (Ok u, mid, given, rest) k = subst (HoldsItems gives m began t) (append_assoc before (x ∷ []) xs)
      (held_all mid t (before ++ x ∷ []) xs rest (was_taken before x mid (given m began before k)))

  held_stop : (s t : Intake S) (before xs : List CharItem) (e : Refusal) → Hands (Proceeds gives) s xs (Err e) t → HoldsItems gives m began s before
      → Stops e t (before ++ xs)
  held_stop s t before [] e h k = let never = h.0 in absurd cc
  held_stop s t before (x ∷ xs) e (Err y, mid, given, rest) k = let same : y ≡ e = let is = rest.0 in cc in
      subst (λ (z : Intake S). Stops e z (before ++ x ∷ xs)) rest.1
      (was_refused before x xs mid e (subst (λ (z : Refusal). TakesItems gives m began before (x ∷ []) (Err z) mid) same (given m began before k)))
  held_stop s t before (x ∷ xs) e (Ok u, mid, given, rest) k =
      subst (Stops e t) (append_assoc before (x ∷ []) xs) (held_stop mid t (before ++ x ∷ []) xs e rest (was_taken before x mid (given m began before k)))

  -- the items of a longer text
  longer : (before text more : List Read) → text ≡ before ++ more → items before ++ items more ≡ items text
  longer before text more is = sym (items-append before more) ∙ ap items (sym is)

  took_new : (before text : List Read) (s t : Intake S) → HandsOn (Proceeds gives) before text s (Ok tt) t → HoldsItems gives m began s (items before)
      → HoldsItems gives m began t (items text)
  took_new before text s t (more, is, given) k =
      subst (HoldsItems gives m began t) (longer before text more is) (held_all s t (items before) (items more) given k)

  refused_new : (before text : List Read) (s t : Intake S) (e : Refusal) → HandsOn (Proceeds gives) before text s (Err e) t
      → HoldsItems gives m began s (items before) → Stops e t (items text)
  refused_new before text s t e (more, is, given) k = subst (Stops e t) (longer before text more is) (held_stop s t (items before) (items more) e given k)

  -- so the input is refused
  stops_input : (bytes : List ℕ) (e : Refusal) (t : Intake S) → Stops e t (items (reads_in m bytes))
      → (t.stopped ≡ true) × IsRefusedFor gives m began bytes t.names t.sink e
  stops_input bytes e t (noted, refused) = (noted, refused bytes (characters_among-items (reads_in m bytes)))

  -- memory ran out once this was held
  pub ran_out_after : (bytes more : List ℕ) (feeding : Intake S) → HoldsItems gives m began feeding (items (settled_in m bytes))
      → IsRefusedFor gives m began (bytes ++ more) feeding.names feeding.sink Memory
  ran_out_after bytes more feeding h = let on = goes_on true (how_of m).bom m.bad m.limit bytes more in
      let text : characters_among h.fed ++ (characters_among feeding.unfed ++ map character_of on.0) ≡ input_text m (bytes ++ more) = sym
      (append_assoc (characters_among h.fed) (characters_among feeding.unfed) (map character_of on.0)) ∙ ap (λ (x : List Placed). x ++ map character_of on.0)
      (sym (characters_among-append h.fed feeding.unfed) ∙ ap characters_among h.items_are ∙ characters_among-items (settled_in m bytes))
      ∙ sym (map-append character_of (settled_in m bytes) on.0) ∙ ap (map character_of) (sym on.1) in
      by_memory h.was_fed.taken _ h.was_fed.handed
      (subst (λ (x : List Placed). AreFront m.table (start_kind m.start) x (end_in m (bytes ++ more)) h.was_fed.taken) text
      (taken_front m.table (start_kind m.start) feeding.tokenizer feeding.names (characters_among h.fed) h.was_fed.taken h.was_fed.has_taken
      (characters_among feeding.unfed ++ map character_of on.0) (end_in m (bytes ++ more))))

text_of : (m : Manner) {held : List CharItem} (bytes : List ℕ) → held ≡ items (reads_in m bytes) → characters_among held ≡ input_text m bytes
text_of m bytes is = ap characters_among is ∙ characters_among-items (reads_in m bytes)

module _ {S : Type 0} {gives : S → Item → Result (Unit {0}) Refusal → S → Type 0} {m : Manner} {began : Began S} {held : List CharItem} {at : ℕ}
    {refusal : Refusal} {new : Intake S} (here : (refusal ≡ NotUtf8 at) ⊎ (refusal ≡ TooLarge at)) where
  -- the text before the bytes that are refused is read
  pub refuses_bytes : EndsText gives m began held at (Ok tt) new → Refuses gives m began held refusal refusal new
  refuses_bytes (text_stopped r is refused) = absurd cc
  refuses_bytes (text_taken tokens errors e t handed) = λ bytes is r. by_bytes refusal tokens errors (errors_among held ++ errors) handed
      (subst (λ (n : ℕ). Tokens m.table (start_kind m.start) (input_text m bytes) n tokens errors) (place_of (how_of m) at bytes refusal r here)
      (subst (λ (x : List Placed). Tokens m.table (start_kind m.start) x at tokens errors) (text_of m bytes is) t)) r

  -- it is refused
  pub refuses_text : {earlier : Refusal} → EndsText gives m began held at (Err earlier) new → Refuses gives m began held refusal earlier new
  refuses_text {earlier} (text_stopped x why refused) = let same : x ≡ earlier = cc in
      λ bytes is r.
      subst (IsRefusedFor gives m began bytes new.names new.sink) same (refused bytes (text_of m bytes is) (place_of (how_of m) at bytes refusal r here))
  refuses_text (text_taken tokens errors e t handed) = absurd cc

module _ {S : Type 0} {gives : S → Item → Result (Unit {0}) Refusal → S → Type 0} {m : Manner} {began : Began S} {bytes : List ℕ} (piece : List ℕ)
    {old : Reading S} (h : HasRead gives m began old bytes) where
  abbrev pub HasFedPiece : Result (Unit {0}) Refusal → Intake S → Type 0
  HasFedPiece answer feeding = Feeds (Proceeds gives) old.decoder.how bytes piece old.feeding answer feeding

  as_begun : (answer : Result (Unit {0}) Refusal) (feeding : Intake S) → HasFedPiece answer feeding
      → Feeds (Proceeds gives) (how_of m) bytes piece old.feeding answer feeding
  as_begun answer feeding f = rw h.how_is at f

  took : (feeding : Intake S) → Feeds (Proceeds gives) (how_of m) bytes piece old.feeding (Ok tt) feeding
      → HoldsItems gives m began feeding (items (settled_in m (bytes ++ piece)))
  took feeding (ran_out front rest e split handed) = absurd cc
  took feeding (sink_refused e is handed) = absurd cc
  took feeding (took_all handed answered) = took_new gives m began (settled_in m bytes) (settled_in m (bytes ++ piece)) old.feeding feeding handed h.holds

  -- the piece was read
  pub reads_piece : (new : Reading S) → HasFedPiece (Ok tt) new.feeding → HasFed new.decoder (bytes ++ piece) → new.decoder.how ≡ old.decoder.how
      → new.feeding.unfed ≡ [] → AreNames new.feeding.names → FeedsPiece gives m began (bytes ++ piece) (Ok tt) new
  reads_piece new f fed how_is all are = piece_read refl (record {
    fits = h.fits;
    how_is = how_is ∙ h.how_is;
    fed = fed;
    holds = took new.feeding (as_begun (Ok tt) new.feeding f);
    all_fed = all;
    is_table = h.is_table;
    are_names = are;
  })

  -- it was refused, and so is the input; `feeding` is as the refusal left it, and `new` as the end of its text did
  module _ (e answer : Refusal) (feeding : Intake S) (new : Reading S)
      (answered : (held : List CharItem) → HoldsItems gives m began feeding held → Refuses gives m began held e answer new.feeding)
      (stopped : feeding.stopped ≡ true → (answer ≡ e) × (new.feeding ≡ feeding)) (memory : e ≡ Memory → (answer ≡ Memory) × (new.feeding ≡ feeding)) where
    -- as it is answered
    as_answered : (all : List ℕ) (r : Refusal) → (answer ≡ r) × (new.feeding ≡ feeding) → IsRefusedFor gives m began all feeding.names feeding.sink r
        → IsRefusedFor gives m began all new.feeding.names new.feeding.sink answer
    as_answered all r is refused = rw (is.1, is.0) refused

    refused_by : Feeds (Proceeds gives) (how_of m) bytes piece old.feeding (Err e) feeding → FeedsPiece gives m began (bytes ++ piece) (Err answer) new
    refused_by (ran_out front rest is split handed) = piece_refused answer refl (λ more. as_answered ((bytes ++ piece) ++ more) Memory (memory cc)
        (subst (λ (all : List ℕ). IsRefusedFor gives m began all feeding.names feeding.sink Memory) (append_assoc bytes front (rest ++ more)
        ∙ ap (λ (x : List ℕ). bytes ++ x) (sym (append_assoc front rest more) ∙ ap (λ (x : List ℕ). x ++ more) (sym split))
        ∙ sym (append_assoc bytes piece more)) (ran_out_after gives m began (bytes ++ front) (rest ++ more) feeding
        (took_new gives m began (settled_in m bytes) (settled_in m (bytes ++ front)) old.feeding feeding handed h.holds))))
    refused_by (sink_refused x is handed) = let same : x ≡ e = cc in
        piece_refused answer refl (λ more.
        let r = stops_input gives m began ((bytes ++ piece) ++ more) e feeding
        (refused_new gives m began (settled_in m bytes) (reads_in m ((bytes ++ piece) ++ more)) old.feeding feeding e
        (subst (λ (y : Refusal). HandsOn (Proceeds gives) (settled_in m bytes) (reads_in m ((bytes ++ piece) ++ more)) old.feeding (Err y) feeding) same
        (handed more)) h.holds) in
        as_answered ((bytes ++ piece) ++ more) e (stopped r.0) r.1)
    refused_by (took_all handed j) = piece_refused answer refl (λ more. answered (items (settled_in m (bytes ++ piece)))
        (took_new gives m began (settled_in m bytes) (settled_in m (bytes ++ piece)) old.feeding feeding handed h.holds) ((bytes ++ piece) ++ more)
        (ap items (sym (j more).1)) (j more).0)

    pub refuses_piece : HasFedPiece (Err e) feeding → FeedsPiece gives m began (bytes ++ piece) (Err answer) new
    refuses_piece f = refused_by (as_begun (Err e) feeding f)

module _ {S : Type 0} {gives : S → Item → Result (Unit {0}) Refusal → S → Type 0} {m : Manner} {began : Began S} {bytes : List ℕ} {old : Reading S}
    (h : HasRead gives m began old bytes) where
  abbrev pub HasEnded : Result (Unit {0}) Refusal → Intake S → Type 0
  HasEnded answer feeding = EndsDecoding (Proceeds gives) old.decoder.how bytes old.feeding answer feeding

  as_ended : (answer : Result (Unit {0}) Refusal) (feeding : Intake S) → HasEnded answer feeding
      → EndsDecoding (Proceeds gives) (how_of m) bytes old.feeding answer feeding
  as_ended answer feeding f = rw h.how_is at f

  -- all that is read is held
  all_held : (feeding : Intake S) → HandsOn (Proceeds gives) (settled_in m bytes) (reads_in m bytes) old.feeding (Ok tt) feeding
      → HoldsItems gives m began feeding (items (reads_in m bytes))
  all_held feeding handed = took_new gives m began (settled_in m bytes) (reads_in m bytes) old.feeding feeding handed h.holds

  -- a refusal at the end; `feeding` is as it left it, and `new` as the end of its text did
  module _ (e answer : Refusal) (feeding : Intake S) (new : Reading S)
      (answered : (held : List CharItem) → HoldsItems gives m began feeding held → Refuses gives m began held e answer new.feeding)
      (stopped : feeding.stopped ≡ true → (answer ≡ e) × (new.feeding ≡ feeding)) where
    by_stop : (feeding.stopped ≡ true) × IsRefusedFor gives m began bytes feeding.names feeding.sink e → EndsInput gives m began bytes (Err answer) new
    by_stop (noted, r) = rw ((stopped noted).1, (stopped noted).0) r

    refused_at_end : EndsDecoding (Proceeds gives) (how_of m) bytes old.feeding (Err e) feeding → EndsInput gives m began bytes (Err answer) new
    refused_at_end (end_refused x is handed) = let same : x ≡ e = cc in
        by_stop (stops_input gives m began bytes e feeding (refused_new gives m began (settled_in m bytes) (reads_in m bytes) old.feeding feeding e
        (subst (λ (y : Refusal). HandsOn (Proceeds gives) (settled_in m bytes) (reads_in m bytes) old.feeding (Err y) feeding) same handed) h.holds))
    refused_at_end (end_reached handed is) =
        answered (items (reads_in m bytes)) (all_held feeding handed) bytes refl (some_at_end (refusal_of (how_of m) bytes) e is)

    pub ends_refused : HasEnded (Err e) feeding → EndsInput gives m began bytes (Err answer) new
    ends_refused f = refused_at_end (as_ended (Err e) feeding f)

  -- the end of the text
  module _ (feeding : Intake S) where
    taken_at_end : EndsDecoding (Proceeds gives) (how_of m) bytes old.feeding (Ok tt) feeding
        → HoldsItems gives m began feeding (items (reads_in m bytes)) × (refusal_of (how_of m) bytes ≡ None)
    taken_at_end (end_refused x is handed) = absurd cc
    taken_at_end (end_reached handed is) = (all_held feeding handed, none_at_end (refusal_of (how_of m) bytes) is)

    pub holds_all : HasEnded (Ok tt) feeding → HoldsItems gives m began feeding (items (reads_in m bytes))
    holds_all f = (taken_at_end (as_ended (Ok tt) feeding f)).0

    module _ (new : Reading S) (end : ℕ) (end_is : end ≡ length bytes) (unrefused : refusal_of (how_of m) bytes ≡ None) where
      end_of : end ≡ end_in m bytes
      end_of = end_is ∙ sym (whole_from (end_in m bytes) (length bytes) (refusal_with m.bad (utf8_valid_len bytes - end_in m bytes) (end_in m bytes))
          (eqb (end_in m bytes) (length bytes)) refl unrefused)

      by_text : (answer : Result (Unit {0}) Refusal) → EndsText gives m began (items (reads_in m bytes)) end answer new.feeding
          → EndsInput gives m began bytes answer new
      by_text answer (text_stopped e is refused) =
          subst (Comes gives m began bytes new.feeding.names new.feeding.sink) (sym is) (refused bytes (characters_among-items (reads_in m bytes)) end_of)
      by_text answer (text_taken tokens errors is t handed) = subst (Comes gives m began bytes new.feeding.names new.feeding.sink) (sym is) (record {
        tokens = tokens;
        errors = errors;
        read = subst (λ (n : ℕ). Tokens m.table (start_kind m.start) (input_text m bytes) n tokens errors) end_is
            (subst (λ (x : List Placed). Tokens m.table (start_kind m.start) x end tokens errors) (characters_among-items (reads_in m bytes)) t);
        handed = rw errors_among-items at handed;
        whole = unrefused;
      })

    pub ends_input : (new : Reading S) (end : ℕ) → end ≡ length bytes → HasEnded (Ok tt) feeding → (answer : Result (Unit {0}) Refusal)
        → EndsText gives m began (items (reads_in m bytes)) end answer new.feeding → EndsInput gives m began bytes answer new
    ends_input new end end_is f = by_text new end end_is (taken_at_end (as_ended (Ok tt) feeding f)).1

-- bytes that were read
pub has_read : {S : Type 0} {gives : S → Item → Result (Unit {0}) Refusal → S → Type 0} {m : Manner} {began : Began S} {bytes : List ℕ} {new : Reading S}
    → FeedsPiece gives m began bytes (Ok tt) new → HasRead gives m began new bytes
has_read (piece_refused refusal is refused) = absurd cc
has_read (piece_read is h) = h
