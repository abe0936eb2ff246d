-- The order of the error codes, as closed rows: input before tokens before tree, and each group by the bytes of its texts.
use Rattle.std.specs.Prelude.{◌≡◌, ℕ, Bool, true, ◌&&◌, List, [], ◌∷◌, ◌++◌, map, refl}
use Rattle.std.specs.Ordering.{nat_cmp, is_lt}
use Rattle.std.specs.List.{range_with_len}
use Rattle.std.specs.Cmp.Lexicographic.{slice_cmp}
use Rattle.names.specs.declared.error.ErrorCode.{ErrorCode}
use Rattle.names.specs.declared.error.ErrorCode.TheVariants as code
use Rattle.names.specs.Codes.{code_text, code_rank}

abbrev pub input_codes : List ErrorCode
input_codes =
    code.ControlCharacterInInputStream ∷ code.NoncharacterInInputStream ∷ code.ReplacedBytes ∷ []

abbrev pub token_codes : List ErrorCode
token_codes =
    code.AbruptClosingOfEmptyComment ∷ code.AbruptDoctypePublicIdentifier ∷ code.AbruptDoctypeSystemIdentifier ∷
    code.AbsenceOfDigitsInNumericCharacterReference ∷ code.CdataInHtmlContent ∷ code.CharacterReferenceOutsideUnicodeRange ∷
    code.ControlCharacterReference ∷ code.DuplicateAttribute ∷ code.EndTagWithAttributes ∷ code.EndTagWithTrailingSolidus ∷ code.EofBeforeTagName ∷
    code.EofInComment ∷ code.EofInDoctype ∷ code.EofInScriptHtmlCommentLikeText ∷ code.EofInTag ∷ code.IncorrectlyClosedComment ∷
    code.IncorrectlyOpenedComment ∷ code.InvalidCharacterSequenceAfterDoctypeName ∷ code.InvalidFirstCharacterOfTagName ∷ code.MissingAttributeValue ∷
    code.MissingDoctypeName ∷ code.MissingDoctypePublicIdentifier ∷ code.MissingDoctypeSystemIdentifier ∷ code.MissingEndTagName ∷
    code.MissingQuoteBeforeDoctypePublicIdentifier ∷ code.MissingQuoteBeforeDoctypeSystemIdentifier ∷ code.MissingSemicolonAfterCharacterReference ∷
    code.MissingWhitespaceAfterDoctypePublicKeyword ∷ code.MissingWhitespaceAfterDoctypeSystemKeyword ∷ code.MissingWhitespaceBeforeDoctypeName ∷
    code.MissingWhitespaceBetweenAttributes ∷ code.MissingWhitespaceBetweenDoctypePublicAndSystemIdentifiers ∷ code.NestedComment ∷
    code.NoncharacterCharacterReference ∷ code.NullCharacterReference ∷ code.SurrogateCharacterReference ∷
    code.UnexpectedCharacterAfterDoctypeSystemIdentifier ∷ code.UnexpectedCharacterInAttributeName ∷
    code.UnexpectedCharacterInUnquotedAttributeValue ∷ code.UnexpectedEqualsSignBeforeAttributeName ∷ code.UnexpectedNullCharacter ∷
    code.UnexpectedQuestionMarkInsteadOfTagName ∷ code.UnexpectedSolidusInTag ∷ code.UnknownNamedCharacterReference ∷ []

abbrev pub tree_codes : List ErrorCode
tree_codes =
    code.NonVoidHtmlElementStartTagWithTrailingSolidus ∷ code.TreeAfterAfterBody ∷ code.TreeAfterBody ∷ code.TreeAfterHead ∷ code.TreeBeforeHead ∷
    code.TreeBeforeHtml ∷ code.TreeInBody ∷ code.TreeInCaption ∷ code.TreeInCell ∷ code.TreeInColumnGroup ∷ code.TreeInHead ∷
    code.TreeInHeadNoscript ∷ code.TreeInRow ∷ code.TreeInTable ∷ code.TreeInTableBody ∷ code.TreeInTableText ∷ code.TreeInitial ∷ code.TreeText ∷ []

-- each text is less than the next, by their bytes
abbrev rises : List (List ℕ) → Bool
rises [] = true
rises (text ∷ []) = true
rises (text ∷ next ∷ texts) = is_lt (slice_cmp nat_cmp text next) && rises (next ∷ texts)

row_ranks : map code_rank (input_codes ++ token_codes ++ tree_codes) ≡ range_with_len 0 65
row_ranks = refl

row_input : rises (map code_text input_codes) ≡ true
row_input = refl

row_tokens : rises (map code_text token_codes) ≡ true
row_tokens = refl

row_tree : rises (map code_text tree_codes) ≡ true
row_tree = refl
