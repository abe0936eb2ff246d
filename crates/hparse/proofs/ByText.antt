-- The numbers that stand for a text, and values of attributes that no number of a name finds.
use Rattle.hparse.proofs.Names.{Attribute, value_in, stands_for, Texts, nat_lt, option_and_then, ◌≡◌, ℕ, ◌<◌, Bool, true, false, cond, nat_eq, List, [], ◌∷◌, length, get_or, Option, Some, None, refl, sym, ◌∙◌, ap, subst, arith, Decides-eqb, Decides-like, same_from_decides, nat_tests, false_from_ne_true, position-Some, fails_before_first, get_or_from_slice_get, slice_get-get_or, slice_get_within, bytes_eq-Decides, Decides, position, position_or_len, option_eq, bytes_eq, slice_get}
use Rattle.names.specs.Names.{AreNames}

stands-Decides : (names : Texts) (text : List ℕ) (id : ℕ) → Decides (stands_for names text id) (slice_get names id ≡ Some text)
stands-Decides names text id = grind (arith, bytes_eq-Decides)

module _ (names : Texts) (text : List ℕ) where
  -- the number that a table has for a text stands for it, and no other does
  pub stands-found : (i : ℕ) → AreNames names → position (bytes_eq text) names ≡ Some i → (id : ℕ) → nat_eq i id ≡ stands_for names text id
  stands-found i are is id =
      let at : (i < length names) × (text ≡ get_or names i []) = let found = position-Some (bytes_eq text) names i [] is in
      (found.0, (bytes_eq-Decides text (get_or names i [])).0 found.1) in
      let only : slice_get names id ≡ Some text → i ≡ id =
      λ s. are.distinct i id at.0 (slice_get_within names id text s) (sym at.1 ∙ sym (get_or_from_slice_get names id text [] s)) in
      let itself : i ≡ id → slice_get names id ≡ Some text =
      λ e. subst (λ (k : ℕ). slice_get names k ≡ Some text) e (slice_get-get_or names i [] at.0 ∙ ap Some (sym at.1)) in
      same_from_decides (nat_eq i id) (stands_for names text id) (Decides-eqb i id)
      (Decides-like (stands_for names text id) only itself (stands-Decides names text id))

  -- where a table has none for it, none stands for it
  pub stands-missing : position (bytes_eq text) names ≡ None → (id : ℕ) → stands_for names text id ≡ false
  stands-missing is id = false_from_ne_true (stands_for names text id) (λ e. none-there ((stands-Decides names text id).0 e)) where
    first : ℕ
    first = position_or_len (bytes_eq text) names

    past : (b : Bool) → cond b (Some first) None ≡ None → b ≡ false
    past true e = cc
    past false e = refl

    none-there : slice_get names id ≡ Some text → ⊥
    none-there s = let less = slice_get_within names id text s in let all : nat_lt first (length names) ≡ false = past (nat_lt first (length names)) is in
        let before : id < first = grind (arith, nat_tests) in
        let no : bytes_eq text (get_or names id []) ≡ false = fails_before_first (bytes_eq text) names id [] before in
        let yes : bytes_eq text (get_or names id []) ≡ true = (bytes_eq-Decides text (get_or names id [])).1 (sym (get_or_from_slice_get names id text [] s)) in
        cc

  -- the number that a table has for a text, if any, is this one exactly where this one stands for it
  pub stands-is : (own : ℕ) → AreNames names → option_eq nat_eq (position (bytes_eq text) names) (Some own) ≡ stands_for names text own
  stands-is own are = go (position (bytes_eq text) names) refl where
    go : (o : Option ℕ) → position (bytes_eq text) names ≡ o → option_eq nat_eq o (Some own) ≡ stands_for names text own
    go None e = sym (stands-missing e own)
    go (Some i) e = stands-found i are e own

-- no attribute has a name that passes no test
pub no-value : (is : ℕ → Bool) → ((id : ℕ) → is id ≡ false) → (o : Option (List (Attribute ℕ))) → None ≡ option_and_then (value_in is) o
no-value is h None = refl
no-value is h (Some []) = refl
no-value is h (Some (a ∷ attrs)) = no-value is h (Some attrs) ∙ ap (λ b. cond b (Some a.1) (value_in is attrs)) (sym (h a.0))
