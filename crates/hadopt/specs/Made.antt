-- What the code knows of the open nodes in every state.
use Rattle.std.specs.Prelude.{ℕ, ◌<◌, List}
use Rattle.hopen.specs.Stack.{OpenNode}
use Rattle.hadopt.specs.Soundness.{Each}

-- each open node was made, and none is the document
abbrev pub AreMade : ℕ → List (OpenNode ℕ) → Type 0
AreMade made stack = Each (λ x. (0 < x.node) × (x.node < made)) stack
