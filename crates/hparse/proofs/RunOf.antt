-- What a collection of a document's tokens has been handed, and the answer that it shows.
use Rattle.hparse.proofs.Names.{◌≡◌, ℕ, List, [], ◌++◌, sym, refl, ap, subst, Result, Ok, Err, inl, inr, ◌⊎◌, MatchResult, IsPermutation-trans, ParseError, Refusal, Memory, Texts, BadBytes, input_errors, Policy, decoded, Entities, Token, Collected, Reading, TokenRun, of_document, Answers, accepted, FeedsPiece, piece_refused, piece_read, EndsInput, Began, IsRefusedFor, IsTaken, as_document, ShowsRun, HasReadTokens, TokensMean, IsRunOf, ◌∷◌, ◌∙◌, append-nil, append_assoc, IsPermutation, Hands, Tok, Item, ItemToken, ItemError, gives_item, WasHanded, tokens_handed, errors_handed, KeepsError, KeepsToken, ◌+◌, ◌<◌, length, take, drop, Bor, get_or, take-append-drop, flat_map, take_more, flat_map-append}
use Rattle.hparse.specs.Shown as shown
use Rattle.hparse.proofs.Refusing.{answers_refused, RefusesForMemory}
use Rattle.hparse.proofs.Pieces.{has_read}
use Rattle.hparse.proofs.Handing.{tokens_mean}

-- a step of the collection
abbrev pub collects : Collected → Item → Result (Unit {0}) Refusal → Collected → Type 0
collects = gives_item KeepsError KeepsToken

gathers : (s t : Collected) (items : List Item) → Hands collects s items (Ok tt) t
    → (t.tokens.items ≡ s.tokens.items ++ tokens_handed items) × (t.errors.items ≡ s.errors.items ++ errors_handed items)
gathers s t [] h = (rw (← h.1) (sym (append-nil s.tokens.items)), rw (← h.1) (sym (append-nil s.errors.items)))
gathers s t (ItemToken k ∷ items) (Ok u, next, given, rest) = let g = gathers next t items rest in (g.0 ∙ rw given.0 (simp append_assoc), g.1 ∙ rw given.1 refl)
gathers s t (ItemError e ∷ items) (Ok u, next, given, rest) = let g = gathers next t items rest in (g.0 ∙ rw given.0 refl, g.1 ∙ rw given.1 (simp append_assoc))
gathers s t (x ∷ items) (Err e, next, given, rest) = let never = rest.0 in absurd cc

-- it refuses for want of memory alone
pub collects-refuses : RefusesForMemory collects
collects-refuses old (ItemToken k) e new h = h
collects-refuses old (ItemError x) e new h = h

-- what an empty collection has then
module _ {names : Texts} {began : Began Collected} {now : Collected} {tokens : List Tok} {errors : List ParseError}
    (h : WasHanded collects names began tokens errors (Ok tt) now) where
  pub tokens_gathered : began.sink.tokens.items ≡ [] → TokensMean names now.tokens.items tokens
  tokens_gathered none = subst (λ (ts : List Token). TokensMean names ts tokens)
      (ap (λ (x : List Token). x ++ tokens_handed h.items) (sym none) ∙ sym (gathers began.sink now h.items h.hands).0)
      (tokens_mean names h.items tokens h.items_mean)

  pub errors_gathered : began.sink.errors.items ≡ [] → IsPermutation errors now.errors.items
  errors_gathered none = subst (IsPermutation errors)
      (ap (λ (x : List ParseError). x ++ errors_handed h.items) (sym none) ∙ sym (gathers began.sink now h.items h.hands).1) h.errors_are

-- AN ANSWER

module _ (table : Entities) (of : BadBytes) (limit : ℕ) where
  abbrev how : Policy
  how = of_document of limit

  module _ (bytes : List ℕ) where
    -- an answer is shown
    pub shows_refused : (e : Refusal) → (e ≡ Memory) ⊎ Answers table how bytes (Err e) → ShowsRun table how bytes (Err e)
    shows_refused e (inl why) = shown.ran_out (ap (λ (x : Refusal). Err x) why)
    shows_refused e (inr answers) = shown.refuses e refl answers

    -- what was taken
    shows_taken : (began : Began Collected) (names : Texts) (now : Collected) → began.sink.tokens.items ≡ [] → began.sink.errors.items ≡ [] → (run : TokenRun)
        → IsTaken collects (as_document table of limit) began bytes names now → IsRunOf names now run → ShowsRun table how bytes (Ok run)
    shows_taken began names now no_tokens no_errors run t r = let all : List ParseError = input_errors (decoded how bytes) ++ t.errors in
        shown.accepts run t.tokens refl (subst (λ (n : Texts). TokensMean n run.tokens.items t.tokens) (sym r.names_are)
        (subst (λ (ts : List Token). TokensMean names ts t.tokens) (sym r.tokens_are) (tokens_gathered t.handed no_tokens))) (accepted t.tokens t.errors
        run.errors.items t.read (IsPermutation-trans all now.errors.items run.errors.items (errors_gathered t.handed no_errors) r.errors_are) r.sorted t.whole)

module _ {table : Entities} {of : BadBytes} {limit : ℕ} {bytes : List ℕ} {old : Reading Collected} (new : Reading Collected)
    (h : HasReadTokens table of limit old bytes) where
  -- the end of a document
  pub shows_end : (e : Refusal) → EndsInput collects (as_document table of limit) h.began bytes (Err e) new
      → ShowsRun table (of_document of limit) bytes (Err e)
  shows_end e r =
      shows_refused table of limit bytes e (answers_refused collects table of limit h.began bytes new.feeding.names new.feeding.sink collects-refuses e r)

  pub shows_all : (result : Result TokenRun Refusal) → EndsInput collects (as_document table of limit) h.began bytes (Ok tt) new
      → MatchResult result (IsRunOf new.feeding.names new.feeding.sink) (λ refusal. refusal ≡ Memory) → ShowsRun table (of_document of limit) bytes result
  shows_all (Ok run) t r = shows_taken table of limit bytes h.began new.feeding.names new.feeding.sink h.no_tokens h.no_errors run t r
  shows_all (Err e) t r = shown.ran_out (ap (λ (x : Refusal). Err x) r)

module _ {table : Entities} {of : BadBytes} {limit : ℕ} {fed : List ℕ} {old new : Reading Collected} (h : HasReadTokens table of limit old fed)
    (piece : List ℕ) where
  -- a piece that is refused, whatever comes after
  pub shows_piece : (more : List ℕ) {all : List ℕ} {e : Refusal} → FeedsPiece collects (as_document table of limit) h.began (fed ++ piece) (Err e) new
      → (fed ++ piece) ++ more ≡ all → ShowsRun table (of_document of limit) all (Err e)
  shows_piece more {e = e} (piece_refused refusal is refused) whole = let same : refusal ≡ e = cc in
      subst (λ (x : List ℕ). ShowsRun table (of_document of limit) x (Err e)) whole (shows_refused table of limit ((fed ++ piece) ++ more) e
      (answers_refused collects table of limit h.began ((fed ++ piece) ++ more) new.feeding.names new.feeding.sink collects-refuses e
      (subst (IsRefusedFor collects (as_document table of limit) h.began ((fed ++ piece) ++ more) new.feeding.names new.feeding.sink) same (refused more))))
  shows_piece more (piece_read is k) whole = absurd cc

  -- a piece that was read
  pub has_read_tokens : FeedsPiece collects (as_document table of limit) h.began (fed ++ piece) (Ok tt) new → HasReadTokens table of limit new (fed ++ piece)
  has_read_tokens f = record { began = h.began; no_tokens = h.no_tokens; no_errors = h.no_errors; has_read = has_read f }

-- PIECES, one after another

abbrev pub joined : List (Bor (List ℕ)) → List ℕ
joined pieces = flat_map (λ p. p.now) pieces

-- one piece more
pub joined_more : (ps : List (Bor (List ℕ))) (i : ℕ) (d : Bor (List ℕ)) → i < length ps → joined (take (i + 1) ps) ≡ joined (take i ps) ++ (get_or ps i d).now
joined_more ps i d h = ap joined (take_more ps i d h) ∙ flat_map-append (λ (p : Bor (List ℕ)). p.now) (take i ps) (get_or ps i d ∷ [])
    ∙ ap (λ (x : List ℕ). joined (take i ps) ++ x) (append-nil (get_or ps i d).now)

-- and those after it
pub joined_all : (ps : List (Bor (List ℕ))) (i : ℕ) (d : Bor (List ℕ)) → i < length ps
    → (joined (take i ps) ++ (get_or ps i d).now) ++ joined (drop (i + 1) ps) ≡ joined ps
joined_all ps i d h = ap (λ (x : List ℕ). x ++ joined (drop (i + 1) ps)) (sym (joined_more ps i d h))
    ∙ sym (flat_map-append (λ (p : Bor (List ℕ)). p.now) (take (i + 1) ps) (drop (i + 1) ps)) ∙ ap joined (take-append-drop (i + 1) ps)
