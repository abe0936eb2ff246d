-- Comments (HTML Standard, #comment-start-state to #comment-end-bang-state) and bogus comments (#bogus-comment-state): the text after the
-- opening mark, the comment's data in UTF-8, and its errors in the order of the text.
use Rattle.std.specs.Prelude.{◌≡◌, ℕ, Bool, true, false, not, ◌==◌, ◌&&◌, ◌||◌, List, [], ◌∷◌, ◌++◌, codes}
use Rattle.names.specs.declared.error.ParseError.{ParseError}
use Rattle.names.specs.declared.error.ErrorCode.TheVariants.{AbruptClosingOfEmptyComment, EofInComment, IncorrectlyClosedComment, NestedComment}
use Rattle.names.specs.declared.placed.Placed.{Placed}
use Rattle.names.specs.Placed.{characters, place, spells, is_front, is_greater, before, error, error_if, null_errors, text_bytes}

-- the marks that close a comment, and those that close it right at its start
abbrev pub closes_comment : List Placed → Bool
closes_comment text = spells (codes "-->") text || spells (codes "--!>") text

abbrev pub closes_at_once : List Placed → Bool
closes_at_once text = spells (codes ">") text || spells (codes "->") text

-- whether the text is the beginning of a closing mark: `-`, `--` or `--!`
abbrev pub is_ending : List Placed → Bool
is_ending text = is_front text (codes "--!")

-- the errors of a character: right after an inner `<!--` (#comment-less-than-sign-bang-dash-dash-state), and for NUL (#comment-state)
abbrev pub errors_here : Bool → Placed → List ParseError
errors_here nested p = error_if (nested && not (is_greater p.ch)) NestedComment p.at ++ null_errors (p ∷ [])

-- whether a text ends with `<!--`; `seen` is its characters, the last one first
abbrev pub ends_with_opening : List Placed → Bool
ends_with_opening seen = spells (codes "--!<") seen

-- the errors of the characters of a text; `seen` is the characters before it, the last one first
abbrev pub comment_errors_after : List Placed → List Placed → List ParseError
comment_errors_after seen [] = []
comment_errors_after seen (p ∷ ps) = errors_here (ends_with_opening seen) p ++ comment_errors_after (p ∷ seen) ps

-- a character that is always plain data: it is part of no mark, and is not an error
abbrev pub is_only_data : ℕ → Bool
is_only_data c = not ((c == 45 || c == 33) || (c == 60 || (c == 62 || c == 0)))

-- The text after `<!--` is a comment; `rest` follows it, and the input ends at `end`.
pub data IsComment (end : ℕ) (rest text : List Placed) («data» : List ℕ) (errors : List ParseError) : Type 0 where
  -- `>` or `->` right at the start (#comment-start-state, #comment-start-dash-state)
  closed_at_once : (dash close : List Placed) → text ≡ dash ++ close → is_front dash (codes "-") ≡ true → characters close ≡ codes ">"
      → «data» ≡ [] → errors ≡ comment_errors_after [] text ++ error AbruptClosingOfEmptyComment (place end close) ∷ [] → IsComment end rest text «data» errors
  -- up to the earliest closing mark (#comment-end-state, #comment-end-bang-state)
  closed : (inner close : List Placed) → text ≡ inner ++ close → closes_at_once text ≡ false → inner ≡ before closes_comment text
      → characters close ≡ codes "-->"
      → «data» ≡ text_bytes inner → errors ≡ comment_errors_after [] text → IsComment end rest text «data» errors
  closed_with_bang : (inner dashes close : List Placed) → text ≡ inner ++ dashes ++ close → closes_at_once text ≡ false → inner ≡ before closes_comment text
      → characters dashes ≡ codes "--!" → characters close ≡ codes ">"
      → «data» ≡ text_bytes inner → errors ≡ comment_errors_after [] text ++ error IncorrectlyClosedComment (place end close) ∷ []
      → IsComment end rest text «data» errors
  -- no closing mark before the end of input: the longest of `--!`, `--` and `-` that the text ends with is dropped
  unclosed : rest ≡ [] → closes_at_once text ≡ false → text ≡ before closes_comment text
      → «data» ≡ text_bytes (before is_ending text) → errors ≡ comment_errors_after [] text ++ error EofInComment end ∷ []
      → IsComment end rest text «data» errors

-- the mark that closes a bogus comment
abbrev pub closes_bogus : List Placed → Bool
closes_bogus text = spells (codes ">") text

-- a character that neither closes a bogus comment nor is an error in it
abbrev pub is_plain_in_bogus : ℕ → Bool
is_plain_in_bogus c = not (c == 62 || c == 0)

-- A bogus comment: the text up to the first `>`, or to the end of input (#bogus-comment-state).
pub data IsBogus (rest text : List Placed) («data» : List ℕ) (errors : List ParseError) : Type 0 where
  closed_bogus : (inner close : List Placed) → text ≡ inner ++ close → inner ≡ before closes_bogus text → characters close ≡ codes ">"
      → «data» ≡ text_bytes inner → errors ≡ null_errors inner → IsBogus rest text «data» errors
  unclosed_bogus : rest ≡ [] → text ≡ before closes_bogus text → «data» ≡ text_bytes text → errors ≡ null_errors text → IsBogus rest text «data» errors
