-- Worked rows.
use Rattle.std.specs.Prelude.{◌≡◌, None, Some, [], ◌∷◌, true, false, refl, codes}
use Rattle.std.specs.Char.{encode_utf8}
use Rattle.std.specs.Fmt.{digits}
use Rattle.std.specs.Str.{encode_utf8_all}
use Rattle.htoken.specs.Token.{Doctype, Start, End, Comment, Char, Eof}
use Rattle.hwrite.specs.TokenLines.{token_lines}

-- `<p>a<!--b--></p>`
row_markup : token_lines (Start (codes "p") [] false 0 ∷ Char 97 3 ∷ Comment (codes "b") 4 ∷ End (codes "p") 12 ∷ Eof 16 ∷ [])
    ≡ codes "0 start \"p\"\n3 chars \"a\"\n4 comment \"b\"\n12 end \"p\"\n16 eof\n"
unfolding encode_utf8 digits
row_markup = refl

-- `a`, LF, `b`, where a CR was before the LF
row_line_feed : token_lines (Char 97 0 ∷ Char 10 1 ∷ Char 98 3 ∷ Eof 4 ∷ []) ≡ codes "0 chars \"a\\nb\"\n4 eof\n"
unfolding encode_utf8 digits
row_line_feed = refl

-- `<p a=1 A=2 =x/ b>`
row_attributes : token_lines (Start (codes "p") ((codes "a", codes "1") ∷ (codes "=x", []) ∷ (codes "b", []) ∷ []) false 0 ∷ Eof 17 ∷ [])
    ≡ codes "0 start \"p\" \"a\"=\"1\" \"=x\"=\"\" \"b\"=\"\"\n17 eof\n"
unfolding encode_utf8 digits
row_attributes = refl

-- `<br/>`, U+00E9, NUL, U+001F, a quote, a backslash
row_escapes : token_lines (Start (codes "br") [] true 0 ∷ Char 0xE9 5 ∷ Char 0 7 ∷ Char 0x1F 8 ∷ Char 34 9 ∷ Char 92 10 ∷ Eof 11 ∷ [])
    ≡ encode_utf8_all (codes "0 start \"br\" /\n5 chars \"é\\x00\\x1f\\\"\\\\\"\n11 eof\n")
unfolding encode_utf8 digits
row_escapes = refl

-- `<!DOCTYPE html SYSTEM"a>`
row_doctype : token_lines (Doctype (Some (codes "html")) None (Some (codes "a")) true 0 ∷ Eof 24 ∷ []) ≡ codes "0 doctype \"html\" - \"a\" quirks\n24 eof\n"
unfolding encode_utf8 digits
row_doctype = refl

-- `<!doctype>`
row_doctype_of_nothing : token_lines (Doctype None None None true 0 ∷ Eof 10 ∷ []) ≡ codes "0 doctype - - - quirks\n10 eof\n"
unfolding encode_utf8 digits
row_doctype_of_nothing = refl
