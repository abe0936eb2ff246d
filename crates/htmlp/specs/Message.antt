-- The lines that the program says of a fault.
use Rattle.std.specs.Prelude.{List, ℕ, ◌++◌, option_map}
use Rattle.std.specs.List.{flat_map}
use Rattle.names.specs.RefusalText.{number_text}
use Rattle.htmlp.specs.declared.fault.Message.{Message}

-- its words, one after another, and its number
abbrev pub message_text : Message → List ℕ
message_text message = flat_map (λ w. w.now) message.words ++ number_text (option_map (λ p. (p.0.now, p.1)) message.number)
