-- Calls one after another.
use Rattle.hwrite.proofs.Vocabulary.{◌≡◌, ℕ, List, [], ◌∷◌, ◌++◌, Option, Result, Ok, Err, refl, sym, ap, subst, ◌∙◌, append_assoc, ◌≢◌, Appends, Refusal, counted, AppendsBeginning, IsErrAnd, Appends-nil, Appends-trans, WritesAll}

not_nil : (xs ys : List ℕ) → xs ≢ [] → xs ++ ys ≢ []
not_nil [] ys h e = h refl
not_nil (x ∷ xs) ys h e = cc

beginning_more : (old new : Option (List ℕ)) (bytes more : List ℕ) → AppendsBeginning old new bytes → AppendsBeginning old new (bytes ++ more)
beginning_more old new bytes more (done, rest, split, left, appended) =
    (done, rest ++ more, ap (λ l. l ++ more) split ∙ append_assoc done rest more, not_nil rest more left, appended)

beginning_after : (old mid new : Option (List ℕ)) (first bytes : List ℕ) → Appends old mid first → AppendsBeginning mid new bytes
    → AppendsBeginning old new (first ++ bytes)
beginning_after old mid new first bytes appended (done, rest, split, left, more) =
    (first ++ done, rest, ap (λ l. first ++ l) split ∙ sym (append_assoc first done rest), left, Appends-trans old mid new first done appended more)

-- nothing was to be written
pub WritesAll-nil : (old : Option (List ℕ)) (before : ℕ) → WritesAll old before old before [] (Ok tt)
WritesAll-nil old before = (Appends-nil old, refl)

-- the first bytes were written, and then come the others
pub WritesAll-then : (old mid new : Option (List ℕ)) (before between after : ℕ) (first bytes line : List ℕ) (r : Result (Unit {0}) Refusal)
    → first ++ bytes ≡ line → WritesAll old before mid between first (Ok tt) → WritesAll mid between new after bytes r → WritesAll old before new after line r
WritesAll-then old mid new before between after first bytes line (Ok _) whole (appended, same) (more, still) =
    (subst (Appends old new) whole (Appends-trans old mid new first bytes appended more), still ∙ same)
WritesAll-then old mid new before between after first bytes line (Err refusal) whole (appended, same) (cause, beginning, count) =
    (cause, subst (AppendsBeginning old new) whole (beginning_after old mid new first bytes appended beginning), count ∙ ap counted same)

-- a call failed, and what was to come after it was not written
pub WritesAll-stops : (old new : Option (List ℕ)) (before after : ℕ) (bytes more line : List ℕ) (e : Refusal) (r : Result (Unit {0}) Refusal)
    → bytes ++ more ≡ line → IsErrAnd r (λ y. y ≡ e) → WritesAll old before new after bytes (Err e) → WritesAll old before new after line r
WritesAll-stops old new before after bytes more line e (Ok _) whole is h = absurd is
WritesAll-stops old new before after bytes more line e (Err y) whole is (cause, beginning, count) =
    (is ∙ cause, subst (AppendsBeginning old new) whole (beginning_more old new bytes more beginning), count)
