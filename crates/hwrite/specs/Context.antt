-- The element in which an input is.
use Rattle.std.specs.Prelude.{◌≡◌, ℕ, ⊤, true, List, Option, None, Some}
use Rattle.hparse.specs.Parse.{ParseCase, document, fragment, is_context}

-- what an input is that is in an element of this name, if there is one
abbrev pub case_in : Option (List ℕ) → ParseCase
case_in None = document
case_in (Some context) = fragment context

-- it may be there
abbrev pub AllowsContext : Option (List ℕ) → Type 0
AllowsContext None = ⊤
AllowsContext (Some context) = is_context context ≡ true
