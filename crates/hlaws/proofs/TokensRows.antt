-- The law at some lists, with what is written and its tokens in full.
use Rattle.hlaws.proofs.Names.{ℕ, false, Some, None, List, [], ◌∷◌, ◌++◌, map, refl, codes, Entities, IsTable, HasCore, Forest, none, tree, element, text, Token, start, end, character, eof, AreRead, Drop, Keep, core, doctype, One}
use Rattle.std.specs.Str.{chars}
use Rattle.std.specs.Char.{encode_utf8}
use Rattle.std.specs.List.{IsDistinct}
use Rattle.names.specs.declared.raw.RawKind.TheVariants as kind
use Rattle.hnodes.specs.Forest.{comment}
use Rattle.hmodes.specs.State as token
use Rattle.hlaws.proofs.TokensWhole.{tokens_law, document_tokens}

abbrev chars_of : List ℕ → List (Token (List ℕ))
chars_of cs = map (λ c. character c) cs

-- an element with an attribute, references, a void element and a comment
abbrev mixed : Forest (List ℕ)
mixed = tree 0 (element (codes "p") ((codes "class", codes "a&\"<b") ∷ (codes "id", []) ∷ []))
    (tree 1 (text (codes "x<y&")) none (tree 2 (element (codes "br") []) none none)) (tree 3 (comment (codes "a-b--")) none none)

reads_mixed : (table : Entities) → IsTable table → HasCore table → AreRead table Keep kind.None
    (codes "<p class=\"a&amp;&quot;<b\" id=\"\">x&lt;y&amp;<br></p><!--a-b---->") (start (codes "p") ((codes "class", codes "a&\"<b") ∷ (codes "id", []) ∷ [])
    false ∷ chars_of (codes "x<y&") ++ start (codes "br") [] false ∷ end (codes "p") ∷ token.comment (codes "a-b--") ∷ eof ∷ [])
unfolding chars encode_utf8
reads_mixed table is_table has = tokens_law table One (codes "div") mixed is_table has (
  (codes "p", (refl, refl)),
  ((codes "class", (refl, refl)), (codes "a&\"<b", (refl, refl)), ((codes "id", (refl, refl)), ([], (refl, refl)), tt)),
  ((codes "x<y&", (refl, refl)), tt, ((codes "br", (refl, refl)), tt, tt, tt)),
  ((codes "a-b--", (refl, refl)), tt, tt),
) refl

-- raw texts: one that ends in `<`, a script with a half of `<!--`, RCDATA with `</`
abbrev raws : Forest (List ℕ)
raws = tree 0 (element (codes "style") []) (tree 1 (text (codes "a<")) none none) (tree 2 (element (codes "script") []) (tree 3 (text (codes "<!-&")) none none)
    (tree 4 (element (codes "title") []) (tree 5 (text (codes "</title>")) none none) none))

reads_raws : (table : Entities) → IsTable table → HasCore table
    → AreRead table Keep kind.None (codes "<style>a<</style><script><!-&</script><title>&lt;/title&gt;</title>")
    (start (codes "style") [] false ∷ chars_of (codes "a<") ++ (end (codes "style") ∷ start (codes "script") [] false ∷ chars_of (codes "<!-&"))
    ++ (end (codes "script") ∷ start (codes "title") [] false ∷ chars_of (codes "</title>")) ++ end (codes "title") ∷ eof ∷ [])
unfolding chars encode_utf8
reads_raws table is_table has = tokens_law table One (codes "body") raws is_table has (
  (codes "style", (refl, refl)),
  tt,
  ((codes "a<", (refl, refl)), tt, tt),
  (
    (codes "script", (refl, refl)),
    tt,
    ((codes "<!-&", (refl, refl)), tt, tt),
    ((codes "title", (refl, refl)), tt, ((codes "</title>", (refl, refl)), tt, tt), tt),
  ),
) refl

-- the context script: any text
reads_in_script : (table : Entities) → IsTable table → HasCore table
    → AreRead table Keep kind.Script (codes "<!--<script></script>") (chars_of (codes "<!--<script></script>") ++ eof ∷ [])
unfolding chars encode_utf8
reads_in_script table is_table has = tokens_law table One (codes "script") (tree 0 (text (codes "<!--<script></script>")) none none) is_table has
    ((codes "<!--<script></script>", (refl, refl)), tt, tt) refl

-- a document, without a byte order mark
abbrev page : Forest (List ℕ)
page = tree 0 (doctype (codes "html") [] []) none (tree 1 (element (codes "html") ((codes "lang", codes "en") ∷ []))
    (tree 2 (element (codes "head") []) (tree 3 (element (codes "title") []) (tree 4 (text (codes "a&b")) none none) none)
    (tree 5 (element (codes "body") []) (tree 6 (text (codes "x")) none none) none)) (tree 7 (comment (codes "c")) none none))

reads_page : (table : Entities) → IsTable table → HasCore table → AreRead table Drop kind.None
    (codes "<!DOCTYPE html><html lang=\"en\"><head><title>a&amp;b</title></head><body>x</body></html><!--c-->") (token.doctype (Some (codes "html")) None None
    false ∷ start (codes "html") ((codes "lang", codes "en") ∷ []) false ∷ start (codes "head") [] false ∷ start (codes "title") [] false
    ∷ chars_of (codes "a&b") ++ (end (codes "title") ∷ end (codes "head") ∷ start (codes "body") [] false ∷ chars_of (codes "x")) ++ end (codes "body")
    ∷ end (codes "html") ∷ token.comment (codes "c") ∷ eof ∷ [])
unfolding chars encode_utf8
reads_page table is_table has = document_tokens table One page is_table has (
  tt,
  (
    (codes "html", (refl, refl)),
    ((codes "lang", (refl, refl)), (codes "en", (refl, refl)), tt),
    (
      (codes "head", (refl, refl)),
      tt,
      ((codes "title", (refl, refl)), tt, ((codes "a&b", (refl, refl)), tt, tt), tt),
      ((codes "body", (refl, refl)), tt, ((codes "x", (refl, refl)), tt, tt), tt),
    ),
    ((codes "c", (refl, refl)), tt, tt),
  ),
) refl

-- the premises can be met
core_is_table : IsTable core
unfolding IsDistinct
core_is_table = record {
  keys = refl;
  distinct = ((refl, (refl, (refl, (refl, tt)))), ((refl, (refl, (refl, tt))), ((refl, (refl, tt)), ((refl, tt), (tt, tt)))));
  characters = refl;
}
