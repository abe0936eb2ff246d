-- A document that is read into a sink that refuses for want of memory alone.
use Rattle.hparse.proofs.Names.{◌≡◌, ℕ, List, [], ◌∷◌, ◌++◌, refl, Result, Ok, Err, inl, inr, ◌⊎◌, ParseError, Refusal, Memory, Texts, Hands, BadBytes, input_errors, decoded, Entities, Item, of_document, Answers, accepted, Began, IsRefusedFor, by_sink, by_tag, by_bytes, by_memory, IsTaken, as_document, refused_text, refused_bytes}
use Rattle.hparse.proofs.Sorting.{in_order, order-permutes, order-sorted}

-- it refuses for want of memory alone
abbrev pub RefusesForMemory : {S : Type 0} → (S → Item → Result (Unit {0}) Refusal → S → Type 0) → Type 0
RefusesForMemory {S} gives = (old : S) (item : Item) (e : Refusal) (new : S) → gives old item (Err e) new → e ≡ Memory

module _ {S : Type 0} (gives : S → Item → Result (Unit {0}) Refusal → S → Type 0) where
  module _ (only : RefusesForMemory gives) where
    stops : (s t : S) (items : List Item) (e : Refusal) → Hands gives s items (Err e) t → e ≡ Memory
    stops s t [] e h = let never = h.0 in absurd cc
    stops s t (x ∷ items) e (Err y, m, g, rest) = let is = rest.0 in let why : y ≡ Memory = only s x y m g in cc
    stops s t (x ∷ items) e (Ok u, m, g, rest) = stops m t items e rest

  module _ (table : Entities) (of : BadBytes) (limit : ℕ) (began : Began S) (bytes : List ℕ) (names : Texts) (now : S) where
    -- what a document is refused for, but for want of memory
    pub answers_refused : RefusesForMemory gives → (e : Refusal) → IsRefusedFor gives (as_document table of limit) began bytes names now e
        → (e ≡ Memory) ⊎ Answers table (of_document of limit) bytes (Err e)
    answers_refused only e (by_sink refusal events errors handed front) = inl (stops only began.sink now handed.items e handed.hands)
    answers_refused only e (by_tag name at tokens errors handed refused) =
        inr (refused_text e (record { tokens = tokens; name = name; at = at; refused = refused; refusal_is = refl }))
    answers_refused only e (by_memory events errors handed front) = inl refl
    answers_refused only e (by_bytes refusal tokens errors handed given read is) = inr (refused_bytes e tokens errors read is)

    -- the errors of a document that was taken
    abbrev pub errors_taken : IsTaken gives (as_document table of limit) began bytes names now → List ParseError
    errors_taken t = input_errors (decoded (of_document of limit) bytes) ++ t.errors

    -- its answer, whatever the sink did with them
    pub answers_taken : (t : IsTaken gives (as_document table of limit) began bytes names now)
        → Answers table (of_document of limit) bytes (Ok (t.tokens, in_order (errors_taken t)))
    answers_taken t = accepted t.tokens t.errors (in_order (errors_taken t)) t.read (order-permutes (errors_taken t)) (order-sorted (errors_taken t)) t.whole
