use Rattle.names.proofs.Vocabulary.{◌≡◌, [], ◌++◌, map, get_or, refl, ErrorCode, TreeText, code_text, input_codes, token_codes, tree_codes}
use denote.Enum.Declared as enum
use Rattle.names.specs.contracts.error.ErrorCode as contract
use Rattle.names.proofs.TextTables.{text-at}
use Rattle.names.proofs.error.ErrorCode.text.Goals as goal

-- the text at the place of a variant among the variants
text-is : (code : ErrorCode) → get_or (map code_text (input_codes ++ token_codes ++ tree_codes)) (enum.tag_of contract.the_type code) [] ≡ code_text code
text-is TreeText = refl
text-is _ = refl

pub returns : goal.returns
returns c = rw text-at (text-is c.args.self)
