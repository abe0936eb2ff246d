-- What is left of an input in memory.
use Rattle.std.specs.Prelude.{ℕ, List}
use Rattle.html_c.specs.declared.input.Input.{Input}

abbrev pub left_in : Input → List ℕ
left_in input = input.rest.now
