-- How items are handed to a sink.
use Rattle.htext.proofs.Names.{◌≡◌, ℕ, ◌+◌, ◌-◌, ◌<◌, Bool, eqb, List, [], ◌∷◌, ◌++◌, sym, refl, ap, ◌∙◌, subst, Result, Ok, Err, append_assoc, append-nil, map, true, false, length, arith, length-append, nil_from_length, chars_past_char, chars-nil, chars, IsUtf8, encode_utf8, len_utf8, placed, Hands, Continues, Refusal, Bom, Policy, Read, Whole, Bad, read_as, normalized, settled, CharItem, Character, InputError, items, bad_each, HandsOn, Feeds, HasFed, ReadsOn, DecodingIsRefusedFrom, sink_refused, took_all, error, ReplacedBytes, Hands-append, Memory, on_ok_weaker, DecoderState, ran_out}
use Rattle.htext.proofs.Texts.{items-append, goes_on}

-- where the sink refused, whatever would have come after
pub Hands-front : {S X E : Type 0} (gives : S → X → Result (Unit {0}) E → S → Type 0) (old : S) (xs ys : List X) (e : E) (new : S)
    → Hands gives old xs (Err e) new → Hands gives old (xs ++ ys) (Err e) new
Hands-front gives old [] ys e new (differs, same) = absurd cc
Hands-front gives old (x ∷ xs) ys e new (Ok u, next, given, rest) = (Ok u, next, given, Hands-front gives next xs ys e new rest)
Hands-front gives old (x ∷ xs) ys e new (Err d, next, given, rest) = (Err d, next, given, rest)

-- no more is read of what is refused whatever follows
nothing_more : (xs ys zs whole : List Read) → whole ≡ (xs ++ ys) ++ zs → whole ≡ xs → ys ≡ []
nothing_more xs ys zs whole e same = nil_from_length ys (omega (arith, ap length e, ap length same, length-append (xs ++ ys) zs, length-append xs ys))

stays_same : (how : Policy) (bytes more : List ℕ) (e : Refusal) → DecodingIsRefusedFrom how bytes e → settled how (bytes ++ more) ≡ settled how bytes
stays_same how bytes more e refused = let on = goes_on false how.bom how.bad how.limit bytes more in
    let later = goes_on true how.bom how.bad how.limit (bytes ++ more) [] in
    grind (arith, on.1, later.1, append-nil (bytes ++ more), append-nil (settled how bytes), (refused more).1, nothing_more (settled how bytes) on.0 later.0)

module _ {S : Type 0} (gives : S → CharItem → Result (Unit {0}) Refusal → S → Type 0) where
  pub HandsOn-none : (text : List Read) (sink : S) → HandsOn gives text text sink (Ok tt) sink
  HandsOn-none text sink = ([], sym (append-nil text), (refl, refl))

  -- one text after another
  pub HandsOn-append : (before middle after : List Read) (old between : S) (answer : Result (Unit {0}) Refusal) (new : S)
      → HandsOn gives before middle old (Ok tt) between → HandsOn gives middle after between answer new → HandsOn gives before after old answer new
  HandsOn-append before middle after old between answer new (xs, to_middle, first) (ys, to_after, second) =
      (xs ++ ys, grind (arith, to_after, to_middle, append_assoc), rw (items-append xs ys) (Hands-append gives old between new _ _ answer first second))

  -- where the sink refused, whatever comes after
  pub HandsOn-goes_on : (before text after rest : List Read) (old : S) (e : Refusal) (new : S) → after ≡ text ++ rest
      → HandsOn gives before text old (Err e) new → HandsOn gives before after old (Err e) new
  HandsOn-goes_on before text after rest old e new on (xs, is, handed) =
      (xs ++ rest, grind (arith, on, is, append_assoc), rw (items-append xs rest) (Hands-front gives old _ _ e new handed))

  module _ (how : Policy) where
    -- nothing of a piece was read
    pub ran_out_before : (fed piece : List ℕ) (sink : S) → Feeds gives how fed piece sink (Err Memory) sink
    ran_out_before fed piece sink = ran_out [] piece refl refl (rw (append-nil fed) (HandsOn-none (settled how fed) sink))

    -- all of it was
    pub ran_out_after : (fed piece : List ℕ) (old new : S) → HandsOn gives (settled how fed) (settled how (fed ++ piece)) old (Ok tt) new
        → Feeds gives how fed piece old (Err Memory) new
    ran_out_after fed piece old new took = ran_out piece [] refl (sym (append-nil piece)) took

    -- one piece after another
    pub Feeds-append : (fed first second : List ℕ) (old between : S) (answer : Result (Unit {0}) Refusal) (new : S)
        → HandsOn gives (settled how fed) (settled how (fed ++ first)) old (Ok tt) between → Feeds gives how (fed ++ first) second between answer new
        → Feeds gives how fed (first ++ second) old answer new
    Feeds-append fed first second old between answer new handed (ran_out front rest is split took) =
        ran_out (first ++ front) rest is (grind (arith, append_assoc, split)) (rw (← append_assoc fed first front)
        (HandsOn-append _ (settled how (fed ++ first)) _ old between (Ok tt) new handed took))
    Feeds-append fed first second old between answer new handed (sink_refused e is refused) =
        sink_refused e is (λ more. rw (← append_assoc fed first second)
        (HandsOn-append _ (settled how (fed ++ first)) _ old between (Err e) new handed (refused more)))
    Feeds-append fed first second old between answer new handed (took_all took answered) = took_all (rw (← append_assoc fed first second)
        (HandsOn-append _ (settled how (fed ++ first)) _ old between (Ok tt) new handed took)) (rw (← append_assoc fed first second) answered)

    -- what is refused stays so
    pub Feeds-more : (fed piece : List ℕ) (old : S) (e : Refusal) (new : S) → Feeds gives how fed piece old (Err e) new → (rest : List ℕ)
        → Feeds gives how fed (piece ++ rest) old (Err e) new
    Feeds-more fed piece old e new (ran_out front others is split took) rest = ran_out front (others ++ rest) is (grind (arith, append_assoc, split)) took
    Feeds-more fed piece old e new (sink_refused d is refused) rest = sink_refused d is (λ more. let whole : ((fed ++ piece) ++ rest) ++ more
        ≡ (fed ++ (piece ++ rest)) ++ more = grind (arith, append_assoc) in rw (← whole, append_assoc) (refused (rest ++ more)))
    Feeds-more fed piece old e new (took_all took refused) rest =
        let same : settled how (fed ++ (piece ++ rest)) ≡ settled how (fed ++ piece) = grind
        (arith, append_assoc, stays_same how (fed ++ piece) rest e refused) in
        took_all (rw same took) (λ more. grind (arith, append_assoc, refused (rest ++ more), same))

    -- what is accepted was handed over
    pub handed_all : (fed piece : List ℕ) (old new : S) → Feeds gives how fed piece old (Ok tt) new
        → HandsOn gives (settled how fed) (settled how (fed ++ piece)) old (Ok tt) new
    handed_all fed piece old new (ran_out front rest is split took) = absurd cc
    handed_all fed piece old new (sink_refused e is refused) = absurd cc
    handed_all fed piece old new (took_all took answered) = took

-- A DECODER THAT READS ON

module _ {S : Type 0} (gives : S → CharItem → Result (Unit {0}) Refusal → S → Type 0) where
  pub reads_append : (before middle after : DecoderState) (first second : List ℕ) (old between new : S) (answer : Result (Unit {0}) Refusal)
      → ReadsOn gives before first old (Ok tt) middle between → ReadsOn gives middle second between answer after new
      → ReadsOn gives before (first ++ second) old answer after new
  reads_append before middle after first second old between new answer one two = record {
    feeds = λ fed h. Feeds-append gives before.how fed first second old between answer new (handed_all gives before.how fed first old between (one.feeds fed h))
        (rw (one.how) at (two.feeds (fed ++ first) (one.fed fed h)));
    fed = on_ok_weaker answer (λ on fed h. subst (HasFed after) (append_assoc fed first second) (on (fed ++ first) (one.fed fed h))) two.fed;
    how = two.how ∙ one.how;
  }

  pub reads_more : (before after : DecoderState) (piece rest : List ℕ) (old new : S) (e : Refusal) → ReadsOn gives before piece old (Err e) after new
      → ReadsOn gives before (piece ++ rest) old (Err e) after new
  reads_more before after piece rest old new e one = record
      { feeds = λ fed h. Feeds-more gives before.how fed piece old e new (one.feeds fed h) rest; fed = tt; how = one.how }

-- A loop that hands over the characters of bytes, one by one: `bytes` are left, at the place `at`.
module _ {S : Type 0} (gives : S → CharItem → Result (Unit {0}) Refusal → S → Type 0) (bom : Bom) (old : S) (all : List CharItem) (now : S)
    (after_return : Bool) (at : ℕ) (bytes : List ℕ)
    (continues : Continues gives old all now (items (normalized bom after_return (map Whole (placed at (chars bytes)))))) where
  hand_on : (c : ℕ) (others : List ℕ) → IsUtf8 bytes → bytes ≡ encode_utf8 c ++ others
      → Continues gives old all now (items (map Whole (read_as bom after_return (record { ch = c; at = at })))
      ++ items (normalized bom (eqb c 13) (map Whole (placed (at + len_utf8 c) (chars others)))))
  hand_on c others u is =
      rw (chars_past_char bytes others c u is, items-append (map Whole (read_as bom after_return (record { ch = c; at = at })))) at continues

  -- the next character was taken
  pub hand_more : (c : ℕ) (others : List ℕ) (next : S) → IsUtf8 bytes → bytes ≡ encode_utf8 c ++ others
      → Hands gives now (items (map Whole (read_as bom after_return (record { ch = c; at = at })))) (Ok tt) next
      → Continues gives old all next (items (normalized bom (eqb c 13) (map Whole (placed (at + len_utf8 c) (chars others)))))
  hand_more c others next u is handed = λ answer new h. hand_on c others u is answer new (Hands-append gives now next new _ _ answer handed h)

  -- it was refused
  pub hand_refused : (c : ℕ) (others : List ℕ) (next : S) (e : Refusal) → IsUtf8 bytes → bytes ≡ encode_utf8 c ++ others
      → Hands gives now (items (map Whole (read_as bom after_return (record { ch = c; at = at })))) (Err e) next → Hands gives old all (Err e) next
  hand_refused c others next e u is handed = hand_on c others u is (Err e) next (Hands-front gives now _ _ e next handed)

  -- none is left
  pub hand_all : bytes ≡ [] → Hands gives old all (Ok tt) now
  hand_all is = continues (Ok tt) now (rw (is, chars-nil) (refl, refl))

-- BAD PARTS OF ONE BYTE EACH

pub next_bad : (at count taken : ℕ) → taken < count
    → bad_each (at + taken) (count - taken) ≡ Bad (at + taken) ∷ bad_each (at + (taken + 1)) (count - (taken + 1))
next_bad at count taken less = grind (arith, less)

module _ {S : Type 0} (gives : S → CharItem → Result (Unit {0}) Refusal → S → Type 0) (old now : S) (at count taken : ℕ)
    (takes : Continues gives old (items (bad_each at count)) now (items (bad_each (at + taken) (count - taken)))) where
  -- the next of them
  bad_first : taken < count → Continues gives old (items (bad_each at count)) now (items (Bad (at + taken) ∷ bad_each (at + (taken + 1)) (count - (taken + 1))))
  bad_first less = λ answer new h. takes answer new (subst (λ (rs : List Read). Hands gives now (items rs) answer new) (sym (next_bad at count taken less)) h)

  pub bad_goes_on : (mid then : S) → taken < count → gives now (InputError (error ReplacedBytes (at + taken))) (Ok tt) mid
      → gives mid (Character (record { ch = 0xFFFD; at = at + taken })) (Ok tt) then
      → Continues gives old (items (bad_each at count)) then (items (bad_each (at + (taken + 1)) (count - (taken + 1))))
  bad_goes_on mid then less told given = λ answer new h. bad_first less answer new (Ok tt, mid, told, (Ok tt, then, given, h))

  pub bad_untold : (e : Refusal) (new : S) → taken < count → gives now (InputError (error ReplacedBytes (at + taken))) (Err e) new
      → Hands gives old (items (bad_each at count)) (Err e) new
  bad_untold e new less told = bad_first less (Err e) new (Err e, new, told, (refl, refl))

  pub bad_ungiven : (mid new : S) (e : Refusal) → taken < count → gives now (InputError (error ReplacedBytes (at + taken))) (Ok tt) mid
      → gives mid (Character (record { ch = 0xFFFD; at = at + taken })) (Err e) new → Hands gives old (items (bad_each at count)) (Err e) new
  bad_ungiven mid new e less told given = bad_first less (Err e) new (Ok tt, mid, told, (Err e, new, given, (refl, refl)))
