-- Worked rows: what follows `<!DOCTYPE` in the text shown above each.
use Rattle.hmarkup.proofs.Names.{ℕ, Bool, List, Option, ParseError, encode, placed, error, EofInDoctype, InvalidCharacterSequenceAfterDoctypeName, MissingDoctypeName, MissingWhitespaceBeforeDoctypeName, MissingWhitespaceBetweenDoctypePublicAndSystemIdentifiers, UnexpectedCharacterAfterDoctypeSystemIdentifier, UnexpectedNullCharacter, Placed, Found, IsDoctype, AbruptDoctypePublicIdentifier, AbruptDoctypeSystemIdentifier, MissingDoctypePublicIdentifier, MissingDoctypeSystemIdentifier, MissingQuoteBeforeDoctypePublicIdentifier, MissingQuoteBeforeDoctypeSystemIdentifier, MissingWhitespaceAfterDoctypePublicKeyword, MissingWhitespaceAfterDoctypeSystemKeyword}
use Rattle.std.specs.Prelude.{true, false, [], ◌∷◌, ◌++◌, codes, Some, None}
use Rattle.hmarkup.proofs.SomeSpan.{some_doctype}

-- the end of the input, what follows the doctype, its text, what is found (the name, both identifiers, whether quirks mode is forced), and the errors
record Row : Type 0 where
  end : ℕ
  rest : List Placed
  span : List Placed
  found : Found
  errors : List ParseError

abbrev row : ℕ → List ℕ → Option (List ℕ) → Option (List ℕ) → Option (List ℕ) → Bool → List ParseError → Row
row end text name public system forced errors = record
    { end = end; rest = []; span = placed 9 text; found = record { name = name; public = public; system = system; forced = forced }; errors = errors }

abbrev AreRows : List Row → Type 0
AreRows [] = Unit {0}
AreRows (r ∷ rs) = IsDoctype r.end r.rest r.span r.found r.errors × AreRows rs

-- the rows as the doctypes at the front of their texts are
abbrev read : List Row → List Row
read [] = []
read (r ∷ rs) = let s = some_doctype r.end r.span in record { end = r.end; rest = s.rest; span = s.span; found = s.value; errors = s.errors } ∷ read rs

are_read : (rs : List Row) → AreRows (read rs)
are_read [] = tt
are_read (r ∷ rs) = ((some_doctype r.end r.span).is_span, are_read rs)

abbrev table : List Row
table =
    -- `<!DOCTYPEhtml>`
    row 14 (codes "html>") (Some (codes "html")) None None false (error MissingWhitespaceBeforeDoctypeName 9 ∷ [])
    -- `<!doctype>`
    ∷ row 10 (codes ">") None None None true (error MissingDoctypeName 9 ∷ [])
    -- `<!DOCTYPE HtMl >`
    ∷ row 16 (codes " HtMl >") (Some (codes "html")) None None false []
    -- `<!DOCTYPE html SYSTEM"a>`
    ∷ row 24 (codes " html SYSTEM" ++ (34 ∷ codes "a>")) (Some (codes "html")) None (Some (codes "a")) true
    (error MissingWhitespaceAfterDoctypeSystemKeyword 21 ∷ error AbruptDoctypeSystemIdentifier 23 ∷ [])
    -- `<!DOCTYPE html PUBLIC "-//X//">`
    ∷ row 31 (codes " html PUBLIC " ++ (34 ∷ (codes "-//X//" ++ (34 ∷ codes ">")))) (Some (codes "html")) (Some (codes "-//X//")) None false []
    -- `<!DOCTYPE a public 'b' 'c'>`: no error
    ∷ row 27 (codes " a public 'b' 'c'>") (Some (codes "a")) (Some (codes "b")) (Some (codes "c")) false []
    -- `<!DOCTYPE a public '' ''>`: identifiers that are present but empty
    ∷ row 25 (codes " a public '' ''>") (Some (codes "a")) (Some []) (Some []) false []
    -- `<!DOCTYPE a public'b'>`: a quote at once after the keyword
    ∷ row 22 (codes " a public'b'>") (Some (codes "a")) (Some (codes "b")) None false (error MissingWhitespaceAfterDoctypePublicKeyword 18 ∷ [])
    -- `<!DOCTYPE a public >`: `>` instead of an identifier
    ∷ row 20 (codes " a public >") (Some (codes "a")) None None true (error MissingDoctypePublicIdentifier 19 ∷ [])
    -- `<!DOCTYPE a system>`
    ∷ row 19 (codes " a system>") (Some (codes "a")) None None true (error MissingDoctypeSystemIdentifier 18 ∷ [])
    -- `<!DOCTYPE a public b>`: another character there
    ∷ row 21 (codes " a public b>") (Some (codes "a")) None None true (error MissingQuoteBeforeDoctypePublicIdentifier 19 ∷ [])
    -- `<!DOCTYPE a SyStEm b`
    ∷ row 20 (codes " a SyStEm b") (Some (codes "a")) None None true (error MissingQuoteBeforeDoctypeSystemIdentifier 19 ∷ [])
    -- `<!DOCTYPE a public 'b>`: `>` inside an identifier
    ∷ row 22 (codes " a public 'b>") (Some (codes "a")) (Some (codes "b")) None true (error AbruptDoctypePublicIdentifier 21 ∷ [])
    -- `<!DOCTYPE a system '>`
    ∷ row 21 (codes " a system '>") (Some (codes "a")) None (Some []) true (error AbruptDoctypeSystemIdentifier 20 ∷ [])
    -- `<!DOCTYPE a public 'b''c'>`: a quote at once after the public one
    ∷ row 26 (codes " a public 'b''c'>") (Some (codes "a")) (Some (codes "b")) (Some (codes "c")) false
    (error MissingWhitespaceBetweenDoctypePublicAndSystemIdentifiers 22 ∷ [])
    -- `<!DOCTYPE a public 'b' c'>`: neither a quote nor `>` after the public one
    ∷ row 26 (codes " a public 'b' c'>") (Some (codes "a")) (Some (codes "b")) None true (error MissingQuoteBeforeDoctypeSystemIdentifier 23 ∷ [])
    -- `<!DOCTYPE a system 'b' c>`: neither white space nor `>` after the system one
    ∷ row 25 (codes " a system 'b' c>") (Some (codes "a")) None (Some (codes "b")) false (error UnexpectedCharacterAfterDoctypeSystemIdentifier 23 ∷ [])
    -- `<!DOCTYPE a b>`: no keyword
    ∷ row 14 (codes " a b>") (Some (codes "a")) None None true (error InvalidCharacterSequenceAfterDoctypeName 12 ∷ [])
    -- `<!DOCTYPE a publi>`
    ∷ row 18 (codes " a publi>") (Some (codes "a")) None None true (error InvalidCharacterSequenceAfterDoctypeName 12 ∷ [])
    -- `<!DOCTYPE a syste`, and the input ends: the only error is that of the keyword
    ∷ row 17 (codes " a syste") (Some (codes "a")) None None true (error InvalidCharacterSequenceAfterDoctypeName 12 ∷ [])
    -- a skipped rest that begins with NUL: both errors are at the same place
    ∷ row 16 (codes " a " ++ (0 ∷ (codes "b" ++ (0 ∷ codes ">")))) (Some (codes "a")) None None true
    (error InvalidCharacterSequenceAfterDoctypeName 12 ∷ error UnexpectedNullCharacter 12 ∷ error UnexpectedNullCharacter 14 ∷ [])
    -- NUL in a name, right after `<!DOCTYPE`
    ∷ row 11 (0 ∷ codes ">") (Some (239 ∷ 191 ∷ 189 ∷ [])) None None false (error MissingWhitespaceBeforeDoctypeName 9 ∷ error UnexpectedNullCharacter 9 ∷ [])
    -- NUL in an identifier
    ∷ row 23 (codes " a system '" ++ (0 ∷ codes "'>")) (Some (codes "a")) None (Some (239 ∷ 191 ∷ 189 ∷ [])) false (error UnexpectedNullCharacter 20 ∷ [])
    -- the input ends after `<!DOCTYPE`, in the name, after it, after a keyword, in an identifier, and after either
    ∷ row 9 [] None None None true (error EofInDoctype 9 ∷ [])
    ∷ row 11 (codes " a") (Some (codes "a")) None None true (error EofInDoctype 11 ∷ [])
    ∷ row 12 (codes " a ") (Some (codes "a")) None None true (error EofInDoctype 12 ∷ [])
    ∷ row 18 (codes " a public") (Some (codes "a")) None None true (error EofInDoctype 18 ∷ [])
    ∷ row 21 (codes " a system 'b") (Some (codes "a")) None (Some (codes "b")) true (error EofInDoctype 21 ∷ [])
    ∷ row 22 (codes " a public 'b'") (Some (codes "a")) (Some (codes "b")) None true (error EofInDoctype 22 ∷ [])
    ∷ row 23 (codes " a system 'b' ") (Some (codes "a")) None (Some (codes "b")) true (error EofInDoctype 23 ∷ [])
    -- and in a skipped rest, where the end does not force quirks mode
    ∷ row 24 (codes " a system 'b' c") (Some (codes "a")) None (Some (codes "b")) false (error UnexpectedCharacterAfterDoctypeSystemIdentifier 23 ∷ [])
    ∷ []

rows : AreRows table
unfolding encode
rows = are_read table
