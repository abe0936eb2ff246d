use Rattle.hwrite.proofs.Vocabulary.{◌≡◌, ℕ, Bool, List, [], Option, ◌++◌, append_assoc, codes, decimal, encode_utf8, if◌then◌else◌, on_ok_weaker, string_bytes, Doctype, quoted_or_none, line_of, line_text, optional_text}
use Rattle.hwrite.proofs.words.push_doctype.Goals as goal

-- the whole line
whole : (old opened named spaced public_named public_spaced ids all : List ℕ) (name public system : Option (List ℕ)) (forced : Bool) (at : ℕ)
    → opened ≡ old ++ (decimal at ++ codes " " ++ codes "doctype ") → named ≡ opened ++ quoted_or_none name → spaced ≡ named ++ codes " "
    → public_named ≡ spaced ++ quoted_or_none public → public_spaced ≡ public_named ++ codes " " → ids ≡ public_spaced ++ quoted_or_none system
    → all ≡ ids ++ ((if forced then codes " quirks" else []) ++ codes "\n") → all ≡ old ++ line_text (line_of (Doctype name public system forced at))
whole old opened named spaced public_named public_spaced ids all name public system forced at o n s p q i e = rw (e, i, q, p, s, n, o) (simp append_assoc)

pub returns : goal.returns
unfolding encode_utf8
returns c = rw (← c.doctype.view_is)
    (on_ok_weaker c.end_line.result (whole (string_bytes c.args.text.now) (string_bytes c.begin_line.new.text) (string_bytes c.push_optional.new.text)
    (string_bytes c.push.new.self) (string_bytes c.push_optional-2.new.text) (string_bytes c.push-2.new.self) (string_bytes c.push_optional-3.new.text)
    (string_bytes c.end_line.new.text) (optional_text c.doctype.inside.name) (optional_text c.doctype.inside.public_id)
    (optional_text c.doctype.inside.system_id) c.doctype.inside.forced c.args.at c.in_ok-begin_line.ensures c.in_ok-push_optional.ensures
    c.in_ok-push.ensures.bytes c.in_ok-push_optional-2.ensures c.in_ok-push-2.ensures.bytes c.in_ok-push_optional-3.ensures) c.end_line.ensures)
