-- What was gathered is the text that was written.
use Rattle.hserialize.proofs.Names.{◌≡◌, List, ℕ, [], Some, Ok, Err, Result, refl, sym, subst, Appends, Refusal, WritesText, no_buffer, text_cut, text_written, gathered, gathered_failures, Vec, HoldsBytes, text_if, Gathered}

-- all of a text that was written is held
all_written : (text : List ℕ) (old new : Gathered) → gathered old ≡ Some [] → WritesText gathered gathered_failures text old new (Ok tt) → new.text.items ≡ text
all_written text old new none (no_buffer is kept count) = absurd cc
all_written text old new none (text_cut beginning rest is split appended count) = absurd cc
all_written text old new none (text_written is appended count) = subst (λ it. Appends it (gathered new) text) none appended

pub held : (old it : Gathered) (text : List ℕ) (answer : Result (Unit {0}) Refusal) (result : Result (Vec ℕ) Refusal) → result ≡ text_if it answer
    → gathered old ≡ Some [] → WritesText gathered gathered_failures text old it answer → HoldsBytes result text
held old it text (Ok _) result is none writes = subst (λ r. HoldsBytes r text) (sym is) (all_written text old it none writes)
held old it text (Err _) result is none writes = subst (λ r. HoldsBytes r text) (sym is) refl
