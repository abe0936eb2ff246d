-- The lists that the words name, and the empty quirks list.
use Rattle.htmlp.proofs.Names.{◌≡◌, Option, Some, Result, Ok, Err, [], ◌∷◌, ◌++◌, List, ℕ, inr, option_map, refl, subst, sym, Bor, Refusal, ReadsQuirks, Fault, Memory, no_memory, bad_line, read_all, Refused, FindsFile, World}

some_line : (before after : List (List ℕ)) (line : List ℕ) → [] ≡ before ++ line ∷ after → ⊥
some_line [] after line is = absurd cc
some_line (first ∷ before) after line is = absurd cc

-- no line of the empty text is bad
pub no_line_is_bad : (e : Refusal) → ReadsQuirks [] (Err e) → e ≡ Memory
no_line_is_bad e (no_memory is) = cc
no_line_is_bad e (bad_line before after line quirks lines listed bad is) = absurd (some_line before after line lines)
no_line_is_bad e (read_all quirks listed is) = absurd cc

-- what is read of the file of a name
module _ {R F A : Type 0} (world : World R F) (default : A) (reads : List ℕ → Result A Refusal → Type 0) (surroundings : R) {name : Option (Bor (List ℕ))}
    {file : Bor (List ℕ)} (is : name ≡ Some file) {read text : List ℕ} (same : read ≡ text) (has : world.has_text surroundings file.now text) where
  abbrev FindsIn : Option (Bor (List ℕ)) → Result A Fault → Type 0
  FindsIn its = FindsFile world default reads surroundings (option_map (λ s. s.now) its)

  has_read : world.has_text surroundings file.now read
  has_read = subst (world.has_text surroundings file.now) (sym same) has

  pub list_read : (list : A) → reads read (Ok list) → FindsIn name (Ok list)
  list_read list h = subst (λ its. FindsIn its (Ok list)) (sym is) (read, has_read, h)

  pub list_refused : (refusal : Refusal) → reads read (Err refusal) → FindsIn name (Err (Refused refusal name))
  list_refused refusal h = subst (λ its. FindsIn its (Err (Refused refusal its))) (sym is) (inr (read, refusal, has_read, h, (refl, refl)))
