-- What is printed of a document whose tokens a draft was handed.
use Rattle.hwrite.proofs.Vocabulary.{◌≡◌, ◌∙◌, ℕ, List, [], ◌∷◌, sym, ap, subst, Option, Result, Ok, Err, inl, inr, flat_map, Refusal, Memory, Texts, Tok, of_document, IsUnrefusedText, as_document, ReadsInput, Answers, Prints, printed, not_printed, tokens_text, drafted, joined, Line, line_of, line_text, lines_of, Hands, BadBytes, Entities, Item, ItemToken, ItemError, gives_item, IsTaken, ItemsMean, began_with, ComesInto, HasSettled, ReadsInto, RefusesForMemory, answers_refused, answers_taken, errors_taken, in_order, shown_as, or_memory, but_for_memory, Draft, DraftsToken, PassesError}
use Rattle.hwrite.proofs.Drafting.{handed_is}

-- a step of a draft
abbrev pub drafts : Draft → Item → Result (Unit {0}) Refusal → Draft → Type 0
drafts = gives_item PassesError DraftsToken

refuses : RefusesForMemory drafts
refuses old (ItemToken token) e new h = h
refuses old (ItemError error) e new h = let never = h.0 in absurd cc

-- all tokens were drafted
all_drafted : (names : Texts) (s t : Draft) (items : List Item) (tokens : List Tok) → ItemsMean names items tokens → Hands drafts s items (Ok tt) t
    → drafted t [] ≡ drafted s (lines_of tokens)
all_drafted names s t [] [] means h = ap (λ (d : Draft). drafted d []) (sym h.1)
all_drafted names s t (ItemToken k ∷ items) (tok ∷ tokens) means (Ok u, next, given, rest) = all_drafted names next t items tokens means.1 rest
    ∙ given (lines_of tokens) ∙ ap (λ (x : Tok). drafted s (joined (line_of x) (lines_of tokens))) (handed_is names k tok means.0)
all_drafted names s t (ItemError error ∷ items) tokens means (Ok u, next, given, rest) =
    all_drafted names next t items tokens means rest ∙ ap (λ (d : Draft). drafted d (lines_of tokens)) given.1
all_drafted names s t (ItemToken k ∷ items) (tok ∷ tokens) means (Err e, next, given, rest) = let never = rest.0 in absurd cc
all_drafted names s t (ItemError error ∷ items) tokens means (Err e, next, given, rest) = let never = rest.0 in absurd cc
all_drafted names s t [] (tok ∷ tokens) means h = absurd means
all_drafted names s t (ItemToken k ∷ items) [] means h = absurd means

module _ {R : Type 0} (left : R → Option (List ℕ)) (failed : R → ℕ) (table : Entities) (of : BadBytes) (limit : ℕ) (draft : Draft)
    (none : (lines : List Line) → drafted draft lines ≡ flat_map line_text lines) (piece : ℕ) (old new : R) (now : Draft) where
  abbrev pub IsInto : Result Texts Refusal → Type 0
  IsInto = ReadsInto drafts (as_document table of limit) left failed draft piece old new now

  abbrev prints : List ℕ → Result (List ℕ) Refusal → Type 0
  prints = Prints (Answers table (of_document of limit)) tokens_text

  abbrev pub IsRead : Result (List ℕ) Refusal → Type 0
  IsRead = ReadsInput left failed prints (IsUnrefusedText (as_document table of limit)) piece [] old new

  refused : (e : Refusal) (bytes : List ℕ) → ComesInto drafts (as_document table of limit) draft now bytes (Err e) → or_memory prints bytes (Err e)
  refused e bytes r = elim (answers_refused drafts table of limit (began_with draft) bytes r.0 now refuses e r.1)
      [ inl why ↦ inl (ap (λ (x : Refusal). Err x) why) | inr a ↦ inr (not_printed e a) ]

  draft_shown : (a : Result Texts Refusal) (b : Result (List ℕ) Refusal) → ((e : Refusal) → a ≡ Err e → b ≡ Err e)
      → ((bytes : List ℕ) → ComesInto drafts (as_document table of limit) draft now bytes a → or_memory prints bytes b) → IsInto a → IsRead b
  draft_shown a b fails shows h = but_for_memory left failed prints (IsUnrefusedText (as_document table of limit)) piece [] old new b
      (shown_as left failed (ComesInto drafts (as_document table of limit) draft now) (or_memory prints) (IsUnrefusedText (as_document table of limit))
      (IsUnrefusedText (as_document table of limit))
      (λ bytes. (names : Texts) × HasSettled drafts (as_document table of limit) (began_with draft) bytes names now)
      (IsUnrefusedText (as_document table of limit)) (λ bytes u. u) (λ bytes so. so.1.unrefused) piece [] old new a b fails (λ bytes e same. refused e bytes)
      shows h)

  -- the lines of a document that was taken
  lines_shown : (names : Texts) (text : List ℕ) → text ≡ drafted now [] → (bytes : List ℕ)
      → IsTaken drafts (as_document table of limit) (began_with draft) bytes names now → prints bytes (Ok text)
  lines_shown names text is bytes t =
      let all = is ∙ all_drafted names draft now t.handed.items t.tokens t.handed.items_mean t.handed.hands ∙ none (lines_of t.tokens) in
      subst (λ (l : List ℕ). prints bytes (Ok l)) (sym all)
      (printed (t.tokens, in_order (errors_taken drafts table of limit (began_with draft) bytes names now t))
      (answers_taken drafts table of limit (began_with draft) bytes names now t))

  -- what reading a document into a draft gives: its lines, or memory ran out for them, or it was refused
  pub lines_read : (a : Result Texts Refusal) (names : Texts) → a ≡ Ok names → (text : List ℕ) → text ≡ drafted now [] → IsInto a → IsRead (Ok text)
  lines_read a names same text lines h =
      draft_shown (Ok names) (Ok text) (λ e differs. absurd cc) (λ bytes t. inr (lines_shown names text lines bytes t)) (subst IsInto same h)

  pub lines_lost : (a : Result Texts Refusal) (names : Texts) → a ≡ Ok names → (e : Refusal) → e ≡ Memory → IsInto a → IsRead (Err e)
  lines_lost a names same e why h =
      draft_shown (Ok names) (Err e) (λ x differs. absurd cc) (λ bytes t. inl (ap (λ (x : Refusal). Err x) why)) (subst IsInto same h)

  pub lines_refused : (a : Result Texts Refusal) (e : Refusal) → a ≡ Err e → IsInto a → IsRead (Err e)
  lines_refused a e same h = draft_shown (Err e) (Err e) (λ x which. cc) (refused e) (subst IsInto same h)
