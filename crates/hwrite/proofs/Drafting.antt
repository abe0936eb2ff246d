-- What tokens do to a draft, and what they are that it is handed.
use Rattle.hwrite.proofs.Vocabulary.{◌≡◌, ℕ, ◌+◌, ◌<◌, Bool, true, false, List, [], ◌∷◌, ◌++◌, refl, sym, ap, ap₂, ◌∙◌, append_assoc, append-nil, codes, decimal, encode_utf8, drop, flat_map, get_or, length, map, string_bytes, Texts, Token, Tok, TokensMean, drafted, to_write, quote_escaped, Line, Characters, joined, line_of, line_text, lines_of, draft_attribute, tok_of, tok_handed, at_drop_more, flat_map-append, get_or_from_slice_get, Attr, AttrsMean, Alone, End, Handed, HandedMeans, TokenMeans, WithNames, is_tag, Draft, AddsText, Drafts, after_characters, beginning_of_characters, end_of_characters, Words}
use Rattle.htoken.specs.declared.token.Token.TheVariants as code
use Rattle.htoken.specs.Token.{Char, Start}

-- characters that are right after others
after_characters-joined : (text : List ℕ) (at : ℕ) (lines : List Line)
    → after_characters (joined (Characters at text) lines) ≡ quote_escaped text ++ after_characters lines
after_characters-joined text at [] = refl
after_characters-joined text at (Words later words ∷ lines) = refl
after_characters-joined text at (Characters later more ∷ lines) = simp (flat_map-append, append_assoc) refl

-- characters that begin a line
begun : (text : List ℕ) (at : ℕ) (lines : List Line)
    → flat_map line_text (joined (Characters at text) lines) ≡ decimal at ++ codes " " ++ codes "chars \"" ++ quote_escaped text ++ after_characters lines
begun text at [] = simp append_assoc refl
begun text at (Words later words ∷ lines) = simp append_assoc refl
begun text at (Characters later more ∷ lines) = simp (flat_map-append, append_assoc) refl

characters_come : (v : Bool) (at : ℕ) (text old mid new : List ℕ) (lines : List Line) → mid ≡ old ++ beginning_of_characters v at
    → new ≡ mid ++ quote_escaped text → new ++ to_write true lines ≡ old ++ to_write v (joined (Characters at text) lines)
characters_come true at text old mid new lines b e = rw (e, b, append-nil old)
    (append_assoc old (quote_escaped text) (after_characters lines) ∙ ap (λ (l : List ℕ). old ++ l) (sym (after_characters-joined text at lines)))
characters_come false at text old mid new lines b e = rw (e, b, begun text at lines) (simp append_assoc)

-- a character was drafted
pub character_drafted : (old mid : Draft) (new : List ℕ) (ch at : ℕ) → AddsText old mid (beginning_of_characters old.in_characters at) true
    → new ≡ string_bytes mid.text ++ quote_escaped (encode_utf8 ch) → (lines : List Line)
    → new ++ to_write mid.in_characters lines ≡ drafted old (joined (line_of (Char ch at)) lines)
character_drafted old mid new ch at a is lines = ap (λ (v : Bool). new ++ to_write v lines) a.open_is
    ∙ characters_come old.in_characters at (encode_utf8 ch) (string_bytes old.text) (string_bytes mid.text) new lines a.text_is is

-- whether a line is words
abbrev pub IsWords : Line → Type 0
IsWords (Words at words) = Unit {0}
IsWords (Characters at text) = ⊥

-- the line of a token that is no character
pub is_words : (names : Texts) (token : Token) → ((ch at : ℕ) → token ≡ code.Char ch at → ⊥) → IsWords (line_of (tok_of names token))
is_words names (code.Char ch at) other = absurd (other ch at refl)
is_words names token other = tt

words_come : (v : Bool) (line : Line) (old mid new : List ℕ) (lines : List Line) → IsWords line → mid ≡ old ++ end_of_characters v → new ≡ mid ++ line_text line
    → new ++ to_write false lines ≡ old ++ to_write v (joined line lines)
words_come true (Words at words) old mid new lines is b e = rw (e, b) (simp append_assoc)
words_come false (Words at words) old mid new lines is b e = rw (e, b, append-nil old) (simp append_assoc)
words_come v (Characters at text) old mid new lines is b e = absurd is

-- a line of words was drafted
pub words_drafted : (old mid : Draft) (new : List ℕ) (line : Line) → IsWords line → AddsText old mid (end_of_characters old.in_characters) false
    → new ≡ string_bytes mid.text ++ line_text line → (lines : List Line) → new ++ to_write mid.in_characters lines ≡ drafted old (joined line lines)
words_drafted old mid new line words a is lines = ap (λ (v : Bool). new ++ to_write v lines) a.open_is
    ∙ words_come old.in_characters line (string_bytes old.text) (string_bytes mid.text) new lines words a.text_is is

-- the end
pub ended : (v : Bool) → end_of_characters v ≡ to_write v []
ended true = refl
ended false = refl

-- what a token stands for is the token with its names as texts
attributes_are : (names : Texts) (attrs : List Attr) (meant : List (List ℕ × List ℕ)) → AttrsMean names attrs meant → map (draft_attribute names) attrs ≡ meant
attributes_are names [] [] h = refl
attributes_are names (a ∷ attrs) (t ∷ ts) h = ap₂ (λ (x : List ℕ × List ℕ) (xs : List (List ℕ × List ℕ)). x ∷ xs)
    (ap₂ (λ (n v : List ℕ). (n, v)) (get_or_from_slice_get names a.name t.0 [] h.0) h.1) (attributes_are names attrs ts h.2)
attributes_are names [] (t ∷ ts) h = absurd h
attributes_are names (a ∷ attrs) [] h = absurd h

token_is : (names : Texts) (token : Token) (tok : Tok) → TokenMeans names token tok → tok_of names token ≡ tok
token_is names (code.Doctype doctype at) tok h = sym h
token_is names (code.Start name attrs closing at) tok h = ap₂ (λ (n : List ℕ) (ts : List (List ℕ × List ℕ)). Start n ts closing at)
    (get_or_from_slice_get names name h.0 [] h.2) (attributes_are names attrs.items h.1 h.3) ∙ sym h.4
token_is names (code.End name at) tok h = ap (λ (n : List ℕ). End n at) (get_or_from_slice_get names name h.0 [] h.1) ∙ sym h.2
token_is names (code.Comment text at) tok h = sym h
token_is names (code.Char ch at) tok h = sym h
token_is names (code.Eof at) tok h = sym h

pub tokens_are : (names : Texts) (tokens : List Token) (meant : List Tok) → TokensMean names tokens meant → map (tok_of names) tokens ≡ meant
tokens_are names [] [] h = refl
tokens_are names (t ∷ tokens) (m ∷ meant) h = ap₂ (λ (x : Tok) (xs : List Tok). x ∷ xs) (token_is names t m h.0) (tokens_are names tokens meant h.1)
tokens_are names [] (m ∷ meant) h = absurd h
tokens_are names (t ∷ tokens) [] h = absurd h

-- one more of some tokens was drafted
pub next_drafted : (names : Texts) (old new : Draft) (tokens : List Token) (i : ℕ) (token : Token) → i < length tokens → token ≡ get_or tokens i token
    → Drafts old (tok_of names token) new
    → drafted new (lines_of (map (tok_of names) (drop (i + 1) tokens))) ≡ drafted old (lines_of (map (tok_of names) (drop i tokens)))
next_drafted names old new tokens i token within is step = let left = λ (ts : List Token). drafted old (lines_of (map (tok_of names) ts)) in
    step (lines_of (map (tok_of names) (drop (i + 1) tokens))) ∙ ap (λ (t : Token). left (t ∷ drop (i + 1) tokens)) is
    ∙ sym (at_drop_more left tokens i token within)

-- one without names is the same with any table
without_names : (names : Texts) (token : Token) → is_tag token ≡ false → tok_of [] token ≡ tok_of names token
without_names names (code.Start name attrs closing at) h = absurd cc
without_names names (code.End name at) h = absurd cc
without_names names token h = refl

pub handed_is : (names : Texts) (handed : Handed) (tok : Tok) → HandedMeans names handed tok → tok_handed handed ≡ tok
handed_is names (Alone token) tok h = without_names names token h.0 ∙ token_is names token tok h.1
handed_is names (WithNames table token) tok h = token_is table token tok h.2
