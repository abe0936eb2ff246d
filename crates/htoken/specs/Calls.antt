-- What calls of the tokenizer's own functions do, whatever was taken before: their contracts, and no public clause's.
use Rattle.std.specs.Prelude.{ℕ, List, [], ◌∷◌, Result}
use Rattle.names.specs.declared.placed.Placed.{Placed}
use Rattle.names.specs.declared.raw.RawKind.{RawKind}
use Rattle.names.specs.declared.refusal.Refusal.{Refusal}
use Rattle.names.specs.Names.{Texts, Grows}
use Rattle.charref.specs.Reference.{Entities}
use Rattle.htoken.specs.declared.tokenizer.Tokenizer.{Tokenizer}
use Rattle.htoken.specs.Token.{Item, Event}
use Rattle.htoken.specs.Steps.{TakesPart}
use Rattle.htoken.specs.Tokenizing.{HasTaken, Reads, Takes}

-- A character is taken that is known to come next.
abbrev pub TakesNext : {S : Type 0} → (S → Item → Result (Unit {0}) Refusal → S → Type 0) → Tokenizer → Placed
    → S → Result (Unit {0}) Refusal → S → Tokenizer → Type 0
TakesNext gives t p old answer new next = (table : Entities) (start : RawKind) (names : Texts) (text : List Placed) (taken : List Event)
    → Reads table start t names text (p ∷ []) taken → Takes gives table start text (p ∷ []) taken names old answer new next

-- The same where the table of names may grow, as it may have before.
abbrev pub TakesNextNamed : {S : Type 0} → (S → Item → Result (Unit {0}) Refusal → S → Type 0) → Tokenizer → Texts → Placed → Texts
    → S → Result (Unit {0}) Refusal → S → Tokenizer → Type 0
TakesNextNamed gives t now p names old answer new next = (table : Entities) (start : RawKind) (before : Texts) (text : List Placed) (taken : List Event)
    → Grows before now → Reads table start t before text (p ∷ []) taken → Takes gives table start text (p ∷ []) taken names old answer new next

-- What is so of every text that the tokenizer was fed and all events that were taken of it; the table of names may have grown since.
abbrev pub FromWhatWasTaken : Tokenizer → Texts → (Entities → RawKind → List Placed → List Event → Type 0) → Type 0
FromWhatWasTaken t names Then = (table : Entities) (start : RawKind) (before : Texts) (text : List Placed) (taken : List Event) → Grows before names
    → HasTaken table start t before text taken → Then table start text taken

-- These characters are taken; a part of a run.
abbrev pub FeedsText : {S : Type 0} → (S → Item → Result (Unit {0}) Refusal → S → Type 0) → Tokenizer → Texts → List Placed → Texts
    → S → Result (Unit {0}) Refusal → S → Tokenizer → Type 0
FeedsText gives t before fed names old answer new next =
    FromWhatWasTaken t before (λ table start text taken. Takes gives table start text fed taken names old answer new next)

abbrev pub FeedsRun : {S : Type 0} → (S → Item → Result (Unit {0}) Refusal → S → Type 0) → Tokenizer → Texts → ℕ → List ℕ → Texts → S → Result ℕ Refusal
    → S → Tokenizer → Type 0
FeedsRun gives t before at run names old answer new next =
    FromWhatWasTaken t before (λ table start text taken. TakesPart gives table start text at run taken names old answer new next)
