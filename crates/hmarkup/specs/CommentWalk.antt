-- What a walk has read of a comment.
use Rattle.std.specs.Prelude.{◌≡◌, ℕ, Bool, true, false, List, [], ◌∷◌, ◌++◌, codes}
use Rattle.names.specs.declared.error.ParseError.{ParseError}
use Rattle.names.specs.declared.placed.Placed.{Placed}
use Rattle.names.specs.Placed.{spells, Avoids, null_errors, text_bytes}
use Rattle.hmarkup.specs.declared.comment.CommentKind.{CommentKind}
use Rattle.hmarkup.specs.declared.comment.CommentKind.TheVariants.{Comment, Bogus}
use Rattle.hmarkup.specs.declared.tail.Ending.{Ending}
use Rattle.hmarkup.specs.declared.tail.Ending.TheVariants.{Plain, Dash, Dashes, Bang}
use Rattle.hmarkup.specs.declared.tail.Opening.{Opening}
use Rattle.hmarkup.specs.declared.tail.Opening.TheVariants.{Outside, Less, LessBang, LessBangDash, Whole}
use Rattle.hmarkup.specs.Comment.{closes_comment, closes_at_once, closes_bogus, is_ending, comment_errors_after, IsComment, IsBogus}

-- a walk as contracts see it
pub record Progress : Type 0 where
  pub kind : CommentKind
  pub ending : Ending
  pub opening : Opening
  pub «data» : List ℕ

-- a walk with this data, none of which may begin a closing mark
abbrev pub comment_begun : CommentKind → List ℕ → Progress
comment_begun kind «data» = record { kind = kind; ending = Plain; opening = Outside; «data» = «data» }

-- the last characters of the text: those that may begin a closing mark
pub data IsHeldEnding : Ending → List Placed → Type 0 where
  holds_nothing : IsHeldEnding Plain []
  holds_dash : (a : ℕ) → IsHeldEnding Dash (record { ch = 45; at = a } ∷ [])
  holds_dashes : (a b : ℕ) → IsHeldEnding Dashes (record { ch = 45; at = a } ∷ record { ch = 45; at = b } ∷ [])
  holds_bang : (a b c : ℕ) → IsHeldEnding Bang (record { ch = 45; at = a } ∷ record { ch = 45; at = b } ∷ record { ch = 33; at = c } ∷ [])

-- the characters of `seen` and then of a text, the last one first
abbrev pub backwards : List Placed → List Placed → List Placed
backwards seen [] = seen
backwards seen (p ∷ ps) = backwards (p ∷ seen) ps

abbrev pub is_less : Opening → Bool
is_less Less = true
is_less _ = false

abbrev pub is_less_bang : Opening → Bool
is_less_bang LessBang = true
is_less_bang _ = false

abbrev pub is_less_bang_dash : Opening → Bool
is_less_bang_dash LessBangDash = true
is_less_bang_dash _ = false

abbrev pub is_whole : Opening → Bool
is_whole Whole = true
is_whole _ = false

-- how much of an inner `<!--` a text ends with; `seen` is its characters, the last one first
pub record IsOpening (opening : Opening) (seen : List Placed) : Type 0 where
  pub less : spells (codes "<") seen ≡ is_less opening
  pub less_bang : spells (codes "!<") seen ≡ is_less_bang opening
  pub less_bang_dash : spells (codes "-!<") seen ≡ is_less_bang_dash opening
  pub whole : spells (codes "--!<") seen ≡ is_whole opening

-- The walk is in a comment: it has read this text, which does not end the comment, and reported these errors.
-- All of the text is data but for the last characters, which may begin a closing mark.
pub record IsInComment (walk : Progress) (text : List Placed) (errors : List ParseError) : Type 0 where
  pub kind_is : walk.kind ≡ Comment
  pub inner : List Placed
  pub held : List Placed
  pub text_is : text ≡ inner ++ held
  pub is_held : IsHeldEnding walk.ending held
  pub not_at_once : closes_at_once text ≡ false
  pub no_close : Avoids closes_comment inner held
  pub no_ending : Avoids is_ending inner held
  pub opening : IsOpening walk.opening (backwards [] text)
  pub data_is : walk.data ≡ text_bytes inner
  pub errors_are : errors ≡ comment_errors_after [] text

-- The same for a bogus comment.
pub record IsInBogus (walk : Progress) (text : List Placed) (errors : List ParseError) : Type 0 where
  pub kind_is : walk.kind ≡ Bogus
  pub no_close : Avoids closes_bogus text []
  pub data_is : walk.data ≡ text_bytes text
  pub errors_are : errors ≡ null_errors text

-- A walk of this kind has read this text after the opening mark, its comment has not ended, and it has reported these errors.
abbrev pub HasReadOf : CommentKind → Progress → List Placed → List ParseError → Type 0
HasReadOf Comment = IsInComment
HasReadOf Bogus = IsInBogus

-- what a comment of this kind is
abbrev pub IsCommentSpan : CommentKind → ℕ → List Placed → List Placed → List ℕ → List ParseError → Type 0
IsCommentSpan Comment = IsComment
IsCommentSpan Bogus = λ end. IsBogus

-- characters that complete a comment of this kind, whatever was read of it
abbrev pub closing_mark : CommentKind → List ℕ
closing_mark Comment = codes "-->"
closing_mark Bogus = codes ">"
