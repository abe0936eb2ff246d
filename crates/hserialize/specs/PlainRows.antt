-- Worked rows of what is plain, which the prover computes.
use Rattle.std.specs.Prelude.{◌≡◌, true, false, codes, refl}
use Rattle.hnodes.specs.Forest.{text, comment, none, tree}
use Rattle.hserialize.specs.WrittenRows.{el, tx, bold}
use Rattle.hserialize.specs.Plain.{is_plain}

four_plain : is_plain (codes "div") (bold (bold (bold (bold (tx (codes "x") none))))) ≡ true
four_plain = refl

-- a text of pre that begins with LF is dropped when it is read
pre_plain : is_plain (codes "div") (el (codes "pre") (tx (codes "\nx") none) none) ≡ false
pre_plain = refl

pre_context : is_plain (codes "pre") (tx (codes "\nx") none) ≡ true
pre_context = refl

-- references are read in a textarea
textarea_plain : is_plain (codes "textarea") (tx (codes "</textarea>&") none) ≡ true
textarea_plain = refl

-- nothing is in a void element, nor in a text
void_plain : is_plain (codes "p") (el (codes "br") (tx (codes "x") none) none) ≡ false
void_plain = refl

text_with_children : is_plain (codes "p") (tree 0 (text (codes "x")) (el (codes "b") none none) none) ≡ false
text_with_children = refl

-- the parts of a table, with texts and without
row_plain : is_plain (codes "tr") (el (codes "td") (tx (codes "a") none) (el (codes "td") (tx (codes "b") none) none)) ≡ true
row_plain = refl

row_with_text : is_plain (codes "tr") (tx (codes " ") none) ≡ false
row_with_text = refl

table_plain : is_plain (codes "li")
    (el (codes "table") (tx (codes "\n ") (el (codes "tbody") (el (codes "tr") (el (codes "th") none none) none) none)) none) ≡ true
table_plain = refl

-- none inside its own kind
forms : is_plain (codes "div") (el (codes "form") (el (codes "div") (el (codes "form") none none) none) none) ≡ false
forms = refl

form_in_form : is_plain (codes "form") (el (codes "form") none none) ≡ false
form_in_form = refl

anchors : is_plain (codes "div") (el (codes "a") (el (codes "b") (el (codes "a") none none) none) none) ≡ false
anchors = refl

-- but an a and a button may where a marker is between: in a cell, a caption, an object or a marquee
anchor_in_cell : is_plain (codes "div")
    (el (codes "a") (el (codes "table") (el (codes "tbody") (el (codes "tr") (el (codes "td") (el (codes "a") none none) none) none) none) none) none) ≡ true
anchor_in_cell = refl

button_in_marquee : is_plain (codes "p") (el (codes "button") (el (codes "marquee") (el (codes "button") none none) none) none) ≡ true
button_in_marquee = refl

anchor_after_object : is_plain (codes "div") (el (codes "a") (el (codes "object") none (el (codes "a") none none)) none) ≡ false
anchor_after_object = refl

block_in_object : is_plain (codes "div") (el (codes "p") (el (codes "object") (el (codes "div") (tx (codes "x") none) none) (tx (codes "y") none)) none) ≡ true
block_in_object = refl

block_after_object : is_plain (codes "div") (el (codes "p") (el (codes "object") none (el (codes "div") none none)) none) ≡ false
block_after_object = refl

object_context : is_plain (codes "object") (el (codes "div") (el (codes "a") none none) none) ≡ true
object_context = refl

noembed_plain : is_plain (codes "div") (el (codes "noembed") (tx (codes "<b>") none) none) ≡ true
noembed_plain = refl

noembed_with_end : is_plain (codes "div") (el (codes "noembed") (tx (codes "</b>") none) none) ≡ false
noembed_with_end = refl

noembed_context : is_plain (codes "noembed") (tx (codes "</noembed>") none) ≡ true
noembed_context = refl

anchor_in_anchor : is_plain (codes "a") (el (codes "a") none none) ≡ true
anchor_in_anchor = refl

form_in_object : is_plain (codes "div") (el (codes "form") (el (codes "object") (el (codes "form") none none) none) none) ≡ false
form_in_object = refl

button_beside_button : is_plain (codes "div") (el (codes "button") none (el (codes "button") none none)) ≡ true
button_beside_button = refl

-- texts and comments next to each other
text_in_cell : is_plain (codes "td") (tx (codes "x") none) ≡ true
text_in_cell = refl

two_texts : is_plain (codes "div") (tx (codes "x") (tx (codes "y") none)) ≡ false
two_texts = refl

text_around_comment : is_plain (codes "div") (tx (codes "x") (tree 0 (comment (codes "c")) none (tx (codes "y") none))) ≡ true
text_around_comment = refl

comment_with_end : is_plain (codes "div") (tree 0 (comment (codes "a--!>b")) none none) ≡ false
comment_with_end = refl

-- contexts that have no plain lists
no_context : is_plain (codes "br") none ≡ false
no_context = refl

unknown_context : is_plain (codes "x") none ≡ false
unknown_context = refl
