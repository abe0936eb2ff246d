-- Worked rows: what follows `<!--`, or the `<` of a bogus comment, in the text shown above each.
use Rattle.std.specs.Prelude.{[], ◌∷◌, refl, codes}
use lib.Utf8.{encode}
use Rattle.names.specs.Placed.{placed, error}
use Rattle.names.specs.declared.error.ErrorCode.TheVariants.{AbruptClosingOfEmptyComment, EofInComment, IncorrectlyClosedComment, NestedComment}
use Rattle.names.specs.declared.error.ErrorCode.TheVariants.{UnexpectedNullCharacter}
use Rattle.hmarkup.specs.Comment.{IsComment, closed_at_once, closed, closed_with_bang, unclosed, IsBogus, closed_bogus, unclosed_bogus}

-- `<!-->`, `<!--->`
at_once : IsComment 5 [] (placed 4 (codes ">")) [] (error AbruptClosingOfEmptyComment 4 ∷ [])
at_once = closed_at_once [] (placed 4 (codes ">")) refl refl refl refl refl

at_once_after_dash : IsComment 6 [] (placed 4 (codes "->")) [] (error AbruptClosingOfEmptyComment 5 ∷ [])
at_once_after_dash = closed_at_once (placed 4 (codes "-")) (placed 5 (codes ">")) refl refl refl refl refl

-- `<!---->`
of_nothing : IsComment 7 [] (placed 4 (codes "-->")) [] []
of_nothing = closed [] (placed 4 (codes "-->")) refl refl refl refl refl refl

-- `<!--a-->b`
one_letter : IsComment 9 (placed 8 (codes "b")) (placed 4 (codes "a-->")) (codes "a") []
unfolding encode
one_letter = closed (placed 4 (codes "a")) (placed 5 (codes "-->")) refl refl refl refl refl refl

-- `<!--a--!>b`
by_bang : IsComment 10 (placed 9 (codes "b")) (placed 4 (codes "a--!>")) (codes "a") (error IncorrectlyClosedComment 8 ∷ [])
unfolding encode
by_bang = closed_with_bang (placed 4 (codes "a")) (placed 5 (codes "--!")) (placed 8 (codes ">")) refl refl refl refl refl refl refl

-- `<!--<!--a-->`: the error is at the character after the inner `<!--`
nested : IsComment 12 [] (placed 4 (codes "<!--a-->")) (codes "<!--a") (error NestedComment 8 ∷ [])
unfolding encode
nested = closed (placed 4 (codes "<!--a")) (placed 9 (codes "-->")) refl refl refl refl refl refl

-- `<!--a<!-->`
not_nested : IsComment 10 [] (placed 4 (codes "a<!-->")) (codes "a<!") []
unfolding encode
not_nested = closed (placed 4 (codes "a<!")) (placed 7 (codes "-->")) refl refl refl refl refl refl

-- `<!--<!--!>`: the error is at a character of the closing mark
nested_by_bang : IsComment 10 [] (placed 4 (codes "<!--!>")) (codes "<!") (error NestedComment 8 ∷ error IncorrectlyClosedComment 9 ∷ [])
unfolding encode
nested_by_bang = closed_with_bang (placed 4 (codes "<!")) (placed 6 (codes "--!")) (placed 9 (codes ">")) refl refl refl refl refl refl refl

-- `<!--a--`, `<!--a--!`, `<!--a---`, and then the input ends
ends_in_two_dashes : IsComment 7 [] (placed 4 (codes "a--")) (codes "a") (error EofInComment 7 ∷ [])
unfolding encode
ends_in_two_dashes = unclosed refl refl refl refl refl

ends_in_bang : IsComment 8 [] (placed 4 (codes "a--!")) (codes "a") (error EofInComment 8 ∷ [])
unfolding encode
ends_in_bang = unclosed refl refl refl refl refl

ends_in_three_dashes : IsComment 8 [] (placed 4 (codes "a---")) (codes "a-") (error EofInComment 8 ∷ [])
unfolding encode
ends_in_three_dashes = unclosed refl refl refl refl refl

-- NUL
null : IsComment 8 [] (placed 4 (0 ∷ codes "-->")) (0xEF ∷ 0xBF ∷ 0xBD ∷ []) (error UnexpectedNullCharacter 4 ∷ [])
unfolding encode
null = closed (placed 4 (0 ∷ [])) (placed 5 (codes "-->")) refl refl refl refl refl refl

-- `<?a>b`, and `<?a` where the input ends
question : IsBogus (placed 4 (codes "b")) (placed 1 (codes "?a>")) (codes "?a") []
unfolding encode
question = closed_bogus (placed 1 (codes "?a")) (placed 3 (codes ">")) refl refl refl refl refl

question_unclosed : IsBogus [] (placed 1 (codes "?a")) (codes "?a") []
unfolding encode
question_unclosed = unclosed_bogus refl refl refl refl
