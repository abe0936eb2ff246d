-- Worked rows of plain documents, which the prover computes.
use Rattle.std.specs.Prelude.{◌≡◌, [], ◌∷◌, true, false, codes, refl}
use Rattle.hnodes.specs.Forest.{Forest, doctype, element, comment, none, tree}
use Rattle.hserialize.specs.WrittenRows.{Text, el, tx}
use Rattle.hserialize.specs.PlainDocument.{is_plain_document}

-- a comment, a doctype, html of head and body, each with what comes after it
abbrev cm : Forest Text → Forest Text
cm rest = tree 0 (comment (codes "c")) none rest

abbrev dt : (public_id : Text) → Forest Text → Forest Text
dt public_id rest = tree 0 (doctype (codes "html") public_id []) none rest

abbrev head_then : (kids rest : Forest Text) → Forest Text
head_then kids rest = el (codes "head") kids rest

abbrev body_then : (kids rest : Forest Text) → Forest Text
body_then kids rest = el (codes "body") kids rest

abbrev html_then : (kids rest : Forest Text) → Forest Text
html_then kids rest = el (codes "html") kids rest

-- head and body alone
abbrev parts : Forest Text
parts = head_then none (body_then none none)

smallest : is_plain_document (html_then parts none) ≡ true
smallest = refl

-- comments in each place, and white space after head
comments : is_plain_document (cm (dt [] (cm (html_then (cm (head_then (cm none) (cm (tx (codes "\n") (body_then (cm none) (cm none)))))) (cm none))))) ≡ true
comments = refl

-- a doctype: no second one, none with an identifier, none after html
two_doctypes : is_plain_document (dt [] (dt [] (html_then parts none))) ≡ false
two_doctypes = refl

identifier : is_plain_document (dt (codes "x") (html_then parts none)) ≡ false
identifier = refl

late_doctype : is_plain_document (html_then parts (dt [] none)) ≡ false
late_doctype = refl

-- white space before head, and after body
space_before_head : is_plain_document (html_then (tx (codes " ") parts) none) ≡ false
space_before_head = refl

space_after_body : is_plain_document (html_then (head_then none (body_then none (tx (codes " ") none))) none) ≡ false
space_after_body = refl

space_in_document : is_plain_document (html_then parts (tx (codes " ") none)) ≡ false
space_in_document = refl

-- texts between head and body
text_after_head : is_plain_document (html_then (head_then none (tx (codes "x") (body_then none none))) none) ≡ false
text_after_head = refl

two_spaces : is_plain_document (html_then (head_then none (tx (codes " ") (tx (codes "\n") (body_then none none)))) none) ≡ false
two_spaces = refl

-- what is in head
metadata : is_plain_document (html_then (head_then (tx (codes "\n") (el (codes "title") (tx (codes "<") none) (tx (codes " ") (el (codes "base") none none))))
    (body_then none none)) none) ≡ true
metadata = refl

style_with_end : is_plain_document (html_then (head_then (el (codes "style") (tx (codes "</") none) none) (body_then none none)) none) ≡ false
style_with_end = refl

text_in_head : is_plain_document (html_then (head_then (tx (codes "x") none) (body_then none none)) none) ≡ false
text_in_head = refl

block_in_head : is_plain_document (html_then (head_then (el (codes "div") none none) (body_then none none)) none) ≡ false
block_in_head = refl

-- what is in body
text_in_body : is_plain_document (html_then (head_then none (body_then (tx (codes "x") (el (codes "p") none none)) none)) none) ≡ true
text_in_body = refl

block_in_p : is_plain_document (html_then (head_then none (body_then (el (codes "p") (el (codes "div") none none) none) none)) none) ≡ false
block_in_p = refl

-- html with body alone, with head alone, with two bodies; two of it
no_head : is_plain_document (html_then (body_then none none) none) ≡ false
no_head = refl

no_body : is_plain_document (html_then (head_then none none) none) ≡ false
no_body = refl

two_bodies : is_plain_document (html_then (head_then none (body_then none (body_then none none))) none) ≡ false
two_bodies = refl

two_html : is_plain_document (html_then parts (html_then parts none)) ≡ false
two_html = refl

-- attributes of html, of which no two have the same name
attribute : is_plain_document (tree 0 (element (codes "html") ((codes "lang", codes "en") ∷ [])) parts none) ≡ true
attribute = refl

repeated : is_plain_document (tree 0 (element (codes "html") ((codes "a", []) ∷ (codes "a", []) ∷ [])) parts none) ≡ false
repeated = refl

empty : is_plain_document none ≡ false
empty = refl
