-- What is known of the program's surroundings.
use Rattle.std.specs.Prelude.{ℕ, Bool, List}
use Rattle.htmlp.specs.declared.fault.Fault.{Fault}

-- What calls of surroundings of type R, whose open files are of type F, have returned.
pub record World (R F : Type 0) : Type 1 where
  -- the words are these; or there are no words, or no keys, for this reason
  pub has_words : R → List (List ℕ) → Type 0
  pub cannot_begin : R → Fault → Type 0
  -- a file of this name was opened, or cannot be
  pub opens : R → List ℕ → F → Type 0
  pub cannot_open : R → List ℕ → Type 0
  -- a file of this name has this text, or none that can be read, for this reason
  pub has_text : R → List ℕ → List ℕ → Type 0
  pub lacks_text : R → List ℕ → Fault → Type 0
  -- standard error is a terminal, or is none
  pub is_terminal : R → Bool → Type 0
