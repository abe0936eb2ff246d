-- What a reader's input has become, turn by turn.
use Rattle.hparse.proofs.Names.{false, ◌≡◌, ℕ, ◌+◌, ◌-◌, ◌<◌, ◌≤◌, List, [], ◌++◌, length, take, refl, sym, ap, subst, ◌∙◌, append-nil, append_assoc, arith, Option, Result, Ok, Err, inl, inr, ◌⊎◌, Consumes, Refusal, Memory, Policy, HasFed, Item, Reading, Manner, Began, IsRefusedFor, Comes, HasRead, WasRead, FeedsPiece, piece_refused, piece_read, EndsInput, length-append, length-drop, IsAtEnd, Keeps, take-append_seam, length-take-le, Consumes-nil, Consumes-trans, Consumes-kept, settled_len, DecoderState, front_le, counted, IsRefusedFrom, ReadsInput, ReadsTo, reading_ran_out, reading_failed, reading_stopped, read_to_end}
use Rattle.names.specs.declared.refusal.Refusal.TheVariants.{Read}
use Rattle.hparse.proofs.Pieces.{all_or_memory, has_read, ran_out_after}

-- The bytes that the reader gave have been read after those before, at least one a turn, and no read has failed.
pub record HasTurned {S R : Type 0} (left : R → Option (List ℕ)) (failed : R → ℕ) (gives : S → Item → Result (Unit {0}) Refusal → S → Type 0) (m : Manner)
    (began : Began S) (before : List ℕ) (turn : ℕ) (old now : R) (reading : Reading S) : Type 0 where
  pub fed : List ℕ
  pub has_read : HasRead gives m began reading (before ++ fed)
  pub given : Consumes (left old) (left now) fed
  pub unfailed : failed now ≡ failed old
  pub each_turn : turn ≤ length fed

-- what was read into a buffer is a front of it
pub front_of_buffer : (count n : ℕ) (xs ys zs : List ℕ) → zs ≡ take n (xs ++ ys) → length xs ≡ n → take count zs ≡ take count xs
front_of_buffer count n xs ys zs is same = ap (take count) (is ∙ ap (λ (m : ℕ). take m (xs ++ ys)) (sym same) ∙ take-append_seam xs ys)

pub some_of_buffer : (count : ℕ) (xs zs : List ℕ) → take count zs ≡ take count xs → (count ≡ 0 → ⊥) → count ≤ length xs → 0 < length (take count zs)
some_of_buffer count xs zs same some fits = omega (arith, length-take-le count xs fits, ap length same)

-- no more is read than the buffer holds
pub few_of_buffer : (count most : ℕ) (xs : List ℕ) → length xs ≡ most → count ≤ length xs → length (take count xs) ≤ most
few_of_buffer count most xs is fits = omega (arith, length-take-le count xs fits)

-- what reading to the end does to a reading, and where a read fails it holds what it was fed
abbrev pub Turns : {S R : Type 0} → (R → Option (List ℕ)) → (R → ℕ) → (S → Item → Result (Unit {0}) Refusal → S → Type 0) → Manner → Began S → Reading S → ℕ
    → List ℕ → R → R → Result (Unit {0}) Refusal → Type 0
Turns left failed gives m began reading most before old new answer =
    ReadsTo left failed (λ bytes. Comes gives m began bytes reading.feeding.names reading.feeding.sink) (WasRead gives m began) (HasRead gives m began reading)
    ⊥ most before old new answer

-- an input of which no more than three bytes are held back is at most this long
long : (decoder : DecoderState) (fed : List ℕ) → HasFed decoder fed → length fed ≤ decoder.how.limit + 3
long decoder fed h = let held : length decoder.undecoded ≡ length fed - decoder.read = ap length h.undecoded ∙ length-drop decoder.read fed in
    let front : decoder.read ≡ settled_len decoder.how fed = h.front.length_is in
    let most : settled_len decoder.how fed ≤ decoder.how.limit = (front_le false decoder.how.bad decoder.how.limit fed).0 in
    omega arith

module _ {S R : Type 0} {left : R → Option (List ℕ)} {failed : R → ℕ} {gives : S → Item → Result (Unit {0}) Refusal → S → Type 0} {m : Manner} {began : Began S}
    {before : List ℕ} where
  -- nothing has been read yet
  pub not_turned : {now : R} {reading : Reading S} → HasRead gives m began reading before → HasTurned left failed gives m began before 0 now now reading
  not_turned {now} {reading} h = record {
    fed = [];
    has_read = subst (HasRead gives m began reading) (sym (append-nil before)) h;
    given = Consumes-nil (left now);
    unfailed = refl;
    each_turn = omega arith;
  }

  -- memory ran out before anything was read
  pub no_buffer : {now : R} {reading : Reading S} {most : ℕ} → HasRead gives m began reading before
      → Turns left failed gives m began reading most before now now (Err Memory)
  no_buffer {now} {reading} h = reading_stopped Memory [] [] refl (subst (WasRead gives m began) (sym (append-nil before)) (reading, h))
      (record { given = Consumes-nil (left now); unfailed = refl })
      (λ more. subst (λ (x : List ℕ). IsRefusedFor gives m began (x ++ more) reading.feeding.names reading.feeding.sink Memory) (sym (append-nil before))
      (ran_out_after gives m began before more reading.feeding h.holds)) (omega arith)

module _ {S R : Type 0} {left : R → Option (List ℕ)} {failed : R → ℕ} {gives : S → Item → Result (Unit {0}) Refusal → S → Type 0} {m : Manner} {began : Began S}
    {before : List ℕ} {turn : ℕ} {old now : R} {reading : Reading S} (h : HasTurned left failed gives m began before turn old now reading) where
  -- there are fewer turns than bytes
  few_turns : turn ≤ m.limit + 3
  few_turns = let most : length (before ++ h.fed) ≤ reading.decoder.how.limit + 3 = long reading.decoder (before ++ h.fed) h.has_read.fed in
      let limit_is : reading.decoder.how.limit ≡ m.limit = ap (λ (how : Policy). how.limit) h.has_read.how_is in
      let each : turn ≤ length h.fed = h.each_turn in
      omega (arith, length-append before h.fed)

  -- so none comes after more than that
  pub no_turn : (most : ℕ) (answer : Result (Unit {0}) Refusal) → m.limit + 3 < turn → Turns left failed gives m began reading most before old now answer
  no_turn most answer many = let few : turn ≤ m.limit + 3 = few_turns in let never : ⊥ = omega arith in absurd never

  was_read : WasRead gives m began (before ++ h.fed)
  was_read = (reading, h.has_read)

  module _ (new : R) (piece : List ℕ) (given : Consumes (left now) (left new) piece) (count : failed new ≡ failed now) where
    given_more : Consumes (left old) (left new) (h.fed ++ piece)
    given_more = Consumes-trans (left old) (left now) (left new) h.fed piece h.given given

    unfailed : failed new ≡ failed old
    unfailed = count ∙ h.unfailed

    joined : (before ++ h.fed) ++ piece ≡ before ++ (h.fed ++ piece)
    joined = append_assoc before h.fed piece

    -- one more piece was read
    pub turned : (next : Reading S) → 0 < length piece → FeedsPiece gives m began ((before ++ h.fed) ++ piece) (Ok tt) next
        → HasTurned left failed gives m began before (turn + 1) old new next
    turned next some f = record {
      fed = h.fed ++ piece;
      has_read = subst (HasRead gives m began next) joined (has_read f);
      given = given_more;
      unfailed = unfailed;
      each_turn = let each : turn ≤ length h.fed = h.each_turn in omega (arith, length-append h.fed piece);
    }

    module _ (most : ℕ) (next : Reading S) where
      abbrev come : List ℕ → Result (Unit {0}) Refusal → Type 0
      come bytes = Comes gives m began bytes next.feeding.names next.feeding.sink

      -- it was refused
      pub refused_turn : (e : Refusal) → length piece ≤ most → FeedsPiece gives m began ((before ++ h.fed) ++ piece) (Err e) next
          → Turns left failed gives m began next most before old new (Err e)
      refused_turn e few (piece_refused refusal is refused) = let same : refusal ≡ e = cc in
          reading_stopped e h.fed piece refl was_read (record { given = given_more; unfailed = unfailed })
          (subst (λ (x : List ℕ). IsRefusedFrom come x e) joined (subst (IsRefusedFrom come ((before ++ h.fed) ++ piece)) same refused)) few
      refused_turn e few (piece_read is k) = absurd cc

      -- nothing was left
      pub ended : (answer : Result (Unit {0}) Refusal) → piece ≡ [] → IsAtEnd (left new) → EndsInput gives m began (before ++ h.fed) answer next
          → Turns left failed gives m began next most before old new answer
      ended answer none end comes = read_to_end h.fed was_read
          (record { given = subst (Consumes (left old) (left new)) (ap (λ (x : List ℕ). h.fed ++ x) none ∙ append-nil h.fed) given_more; unfailed = unfailed })
          end comes

  -- the read failed
  pub failed_turn : (new : R) (most : ℕ) → Keeps (left now) (left new) → failed new ≡ counted (failed now)
      → Turns left failed gives m began reading most before old new (Err Read)
  failed_turn new most kept count =
      reading_failed h.fed refl h.has_read (Consumes-kept (left old) (left now) (left new) h.fed h.given kept) (count ∙ ap counted h.unfailed)

-- What an input becomes is shown as an answer of another kind.
module _ {R A B : Type 0} (left : R → Option (List ℕ)) (failed : R → ℕ) (come : List ℕ → Result A Refusal → Type 0)
    (answers : List ℕ → Result B Refusal → Type 0) (held stands holds shown : List ℕ → Type 0) (kept : (bytes : List ℕ) → held bytes → stands bytes)
    (left_so : (bytes : List ℕ) → holds bytes → shown bytes) (piece : ℕ) (before : List ℕ) (old new : R) (a : Result A Refusal) (b : Result B Refusal)
    (fails : (e : Refusal) → a ≡ Err e → b ≡ Err e) (refused : (bytes : List ℕ) (e : Refusal) → a ≡ Err e → come bytes (Err e) → answers bytes (Err e))
    (shows : (bytes : List ℕ) → come bytes a → answers bytes b) where
  pub shown_as : ReadsTo left failed come held holds ⊥ piece before old new a → ReadsTo left failed answers stands shown ⊥ piece before old new b
  shown_as (reading_ran_out never count) = absurd never
  shown_as (reading_failed bytes is so given count) = reading_failed bytes (fails Read is) (left_so (before ++ bytes) so) given count
  shown_as (reading_stopped refusal front last is un gave from few) = reading_stopped refusal front last (fails refusal is) (kept (before ++ front) un) gave
      (λ more. refused ((before ++ (front ++ last)) ++ more) refusal is (from more)) few
  shown_as (read_to_end bytes un gave end c) = read_to_end bytes (kept (before ++ bytes) un) gave end (shows (before ++ bytes) c)

-- the answers, or memory ran out
abbrev pub or_memory : {B : Type 0} → (List ℕ → Result B Refusal → Type 0) → List ℕ → Result B Refusal → Type 0
or_memory answers bytes answer = (answer ≡ Err Memory) ⊎ answers bytes answer

module _ {R B : Type 0} (left : R → Option (List ℕ)) (failed : R → ℕ) (answers : List ℕ → Result B Refusal → Type 0) (stands : List ℕ → Type 0) (piece : ℕ)
    (before : List ℕ) (old new : R) (answer : Result B Refusal) where
  memory_is : (e : Refusal) (bytes : List ℕ) → or_memory answers bytes (Err e) → (e ≡ Memory) ⊎ answers bytes (Err e)
  memory_is e bytes (inl is) = inl cc
  memory_is e bytes (inr a) = inr a

  -- where no more is said of memory that ran out than that it did
  pub but_for_memory : ReadsTo left failed (or_memory answers) stands stands ⊥ piece before old new answer
      → ReadsInput left failed answers stands piece before old new answer
  but_for_memory (reading_ran_out never count) = absurd never
  but_for_memory (reading_failed bytes is so given count) = reading_failed bytes is so given count
  but_for_memory (reading_stopped refusal front last is un gave from few) =
      elim (all_or_memory refusal (λ (more : List ℕ). answers ((before ++ (front ++ last)) ++ more) (Err refusal))
      (λ more. memory_is refusal ((before ++ (front ++ last)) ++ more) (from more)))
      [ inl why ↦ reading_ran_out (is ∙ ap (λ (x : Refusal). Err x) why) gave.unfailed | inr all ↦ reading_stopped refusal front last is un gave all few ]
  but_for_memory (read_to_end bytes un gave end c) = elim c [ inl why ↦ reading_ran_out why gave.unfailed | inr a ↦ read_to_end bytes un gave end a ]
