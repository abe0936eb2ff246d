-- What a comment walk does at a character and at a run. Only contracts of private functions cite this.
use Rattle.std.specs.Prelude.{ℕ, Bool, true, false, ◌==◌, if◌then◌else◌, List, [], ◌++◌, codes, length, Option, Some, None}
use Rattle.std.specs.Char.{encode_utf8}
use Rattle.names.specs.declared.error.ErrorCode.{ErrorCode}
use Rattle.names.specs.declared.error.ErrorCode.TheVariants.{AbruptClosingOfEmptyComment, IncorrectlyClosedComment, NestedComment}
use Rattle.names.specs.Placed.{without_null}
use Rattle.hmarkup.specs.declared.comment.CommentKind.{CommentKind}
use Rattle.hmarkup.specs.declared.comment.CommentKind.TheVariants.{Comment, Bogus}
use Rattle.hmarkup.specs.declared.tail.Ending.{Ending}
use Rattle.hmarkup.specs.declared.tail.Ending.TheVariants.{Plain, Dash, Dashes, Bang}
use Rattle.hmarkup.specs.declared.tail.Opening.{Opening}
use Rattle.hmarkup.specs.declared.tail.Opening.TheVariants.{Outside, Less, LessBang, LessBangDash, Whole}
use Rattle.hmarkup.specs.CommentWalk.{Progress, is_whole}

-- the ending after a `-`, after a `!`, and after any character
abbrev pub dash_after : Ending → Ending
dash_after Plain = Dash
dash_after Dash = Dashes
dash_after Dashes = Dashes
dash_after Bang = Dash

abbrev pub bang_after : Ending → Ending
bang_after Dashes = Bang
bang_after _ = Plain

abbrev pub next_ending : Ending → ℕ → Ending
next_ending ending c = if c == 45 then dash_after ending else (if c == 33 then bang_after ending else Plain)

abbrev pub held_ending_text : Ending → List ℕ
held_ending_text Plain = []
held_ending_text Dash = codes "-"
held_ending_text Dashes = codes "--"
held_ending_text Bang = codes "--!"

-- the bytes that the character shows to be data
abbrev pub decided_by_dash : Ending → List ℕ
decided_by_dash Plain = []
decided_by_dash Dash = []
decided_by_dash Dashes = codes "-"
decided_by_dash Bang = codes "--!"

abbrev pub decided_by_bang : Ending → List ℕ
decided_by_bang Plain = codes "!"
decided_by_bang Dash = codes "-!"
decided_by_bang Dashes = []
decided_by_bang Bang = codes "--!!"

-- the same for any character: without the character itself, unless it is `-` or `!`; and with it
abbrev pub decided_text : Ending → ℕ → List ℕ
decided_text ending c = if c == 45 then decided_by_dash ending else (if c == 33 then decided_by_bang ending else held_ending_text ending)

abbrev pub decided : Ending → ℕ → List ℕ
decided ending c = if c == 45 then decided_by_dash ending
    else (if c == 33 then decided_by_bang ending else held_ending_text ending ++ encode_utf8 (without_null c))

-- how much of an inner `<!--` the text then ends with
abbrev pub opening_by_bang : Opening → Opening
opening_by_bang Less = LessBang
opening_by_bang _ = Outside

abbrev pub opening_by_dash : Opening → Opening
opening_by_dash LessBang = LessBangDash
opening_by_dash LessBangDash = Whole
opening_by_dash _ = Outside

abbrev pub next_opening : Opening → ℕ → Opening
next_opening opening c = if c == 45 then opening_by_dash opening else (if c == 33 then opening_by_bang opening else (if c == 60 then Less else Outside))

abbrev pub next_progress : Progress → ℕ → Progress
next_progress walk c = record {
  kind = walk.kind;
  ending = next_ending walk.ending c;
  opening = next_opening walk.opening c;
  «data» = walk.data ++ decided walk.ending c;
}

-- the walk after a run of plain data, given in UTF-8
abbrev pub next_run : Progress → List ℕ → Progress
next_run walk run = record { kind = walk.kind; ending = Plain; opening = Outside; «data» = walk.data ++ (held_ending_text walk.ending ++ run) }

-- what a walk of each kind keeps of a character that does not end the comment, and of plain data
abbrev pub with_char : CommentKind → Progress → ℕ → Progress
with_char Comment walk c = next_progress walk c
with_char Bogus walk c = record walk { «data» = walk.data ++ encode_utf8 (without_null c) }

abbrev pub with_data : CommentKind → Progress → List ℕ → Progress
with_data Comment walk run = next_run walk run
with_data Bogus walk run = record walk { «data» = walk.data ++ run }

-- whether the text ends with an inner `<!--`, which is an error at most characters
abbrev pub is_nested_comment : CommentKind → Progress → Bool
is_nested_comment Comment walk = is_whole walk.opening
is_nested_comment Bogus walk = false

-- What a `>` is in a comment, which is empty or has data: its error, and whether it ends the comment.
abbrev pub closing : Ending → Bool → Option ErrorCode × Bool
closing Dashes empty = (None, true)
closing Bang empty = (Some IncorrectlyClosedComment, true)
closing _ empty = if empty then (Some AbruptClosingOfEmptyComment, true) else (None, false)

-- the same of any character, in a walk of each kind
abbrev pub greater_step : CommentKind → Progress → Option ErrorCode × Bool
greater_step Comment walk = closing walk.ending (length walk.data == 0)
greater_step Bogus walk = (None, true)

abbrev pub comment_step : CommentKind → Progress → ℕ → Option ErrorCode × Bool
comment_step kind walk c = if c == 62 then greater_step kind walk else (if is_nested_comment kind walk then Some NestedComment else None, false)
