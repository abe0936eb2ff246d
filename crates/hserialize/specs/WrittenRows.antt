-- Worked rows of what is written, which the prover computes.
use Rattle.std.specs.Prelude.{◌≡◌, ℕ, List, [], ◌∷◌, Some, None, codes, refl, encode_utf8_all}
use Rattle.std.specs.Str.{chars}
use Rattle.std.specs.Char.{encode_utf8}
use Rattle.hnodes.specs.Forest.{Forest, element, text, none, tree}
use Rattle.hserialize.specs.Written.{written}
use Rattle.hserialize.specs.declared.escaping.Escaping.TheVariants.{One, Two}

abbrev pub Text : Type 0
Text = List ℕ

-- an element without attributes, a text, a comment, each with what comes after it
abbrev pub el : Text → Forest Text → Forest Text → Forest Text
el name kids rest = tree 0 (element name []) kids rest

abbrev pub tx : Text → Forest Text → Forest Text
tx t rest = tree 0 (text t) none rest

-- four equal b
abbrev pub bold : Forest Text → Forest Text
bold kids = el (codes "b") kids none

four_written : written One (Some (codes "div")) (bold (bold (bold (bold (tx (codes "x") none))))) ≡ codes "<b><b><b><b>x</b></b></b></b>"
unfolding chars encode_utf8
four_written = refl

-- a text of pre that begins with LF is written as it is, and dropped when it is read
pre_written : written One (Some (codes "div")) (el (codes "pre") (tx (codes "\nx") none) none) ≡ codes "<pre>\nx</pre>"
unfolding chars encode_utf8
pre_written = refl

-- references in text and in values
value_written : written One (Some (codes "div")) (tree 0 (element (codes "p") ((codes "a", codes "<&>\"") ∷ [])) none none)
    ≡ codes "<p a=\"<&amp;>&quot;\"></p>"
unfolding chars encode_utf8
value_written = refl

value_written_two : written Two (Some (codes "div")) (tree 0 (element (codes "p") ((codes "a", codes "<&>") ∷ [])) none none)
    ≡ codes "<p a=\"&lt;&amp;&gt;\"></p>"
unfolding chars encode_utf8
value_written_two = refl

space_written : written One None (tx (encode_utf8_all (0xA0 ∷ 60 ∷ 0xE9 ∷ 34 ∷ [])) none) ≡ encode_utf8_all (codes "&nbsp;&lt;é\"")
unfolding chars encode_utf8
space_written = refl

-- raw texts: those of a textarea have references, those of style have none; the name of the context decides on its own texts
textarea_written : written One (Some (codes "textarea")) (tx (codes "</textarea>&") none) ≡ codes "&lt;/textarea&gt;&amp;"
unfolding chars encode_utf8
textarea_written = refl

style_written : written One (Some (codes "style")) (tx (codes "a<b") none) ≡ codes "a<b"
style_written = refl

style_at_root : written One (Some (codes "html")) (tx (codes "a<b") none) ≡ codes "a&lt;b"
unfolding chars encode_utf8
style_at_root = refl

-- a void element has no end tag, and what is in it is not written
void_written : written One (Some (codes "p")) (el (codes "br") (tx (codes "x") none) (tx (codes "y") none)) ≡ codes "<br>y"
unfolding chars encode_utf8
void_written = refl
