-- The quirks list (HTML Standard, #the-initial-insertion-mode): its text, and what it matches.
use Rattle.std.specs.Prelude.{◌≡◌, ℕ, ◌+◌, Bool, true, false, ◌&&◌, ◌==◌, if◌then◌else◌, List, [], ◌∷◌, ◌++◌, codes, length, take, Option, Some, None, Result}
use Rattle.std.specs.Prelude.{Ok, Err}
use Rattle.std.specs.Int.{is_in_range}
use Rattle.std.specs.List.{list_any, list_all}
use Rattle.std.specs.Str.{str_eq_ignore_ascii_case}
use Rattle.names.specs.declared.refusal.Refusal.{Refusal}
use Rattle.names.specs.declared.refusal.Refusal.TheVariants.{Memory, BadQuirks}
use Rattle.hmarkup.specs.declared.quirks.QuirkKind.{QuirkKind}
use Rattle.hmarkup.specs.declared.quirks.QuirkKind.TheVariants.{PublicIs, PublicBegins, SystemIs, PublicBeginsWithoutSystem}

-- a line of the list: its kind, and the bytes of its text
pub record QuirkLine : Type 0 where
  pub kind : QuirkKind
  pub text : List ℕ

abbrev pub quirk_word : QuirkKind → List ℕ
quirk_word PublicIs = codes "public-is"
quirk_word PublicBegins = codes "public-begins"
quirk_word SystemIs = codes "system-is"
quirk_word PublicBeginsWithoutSystem = codes "public-begins-without-system"

-- a word, one space, and a text of one or more bytes from 20 to 7E (hexadecimal)
pub record IsQuirkLine (line : List ℕ) (quirk : QuirkLine) : Type 0 where
  pub line_is : line ≡ quirk_word quirk.kind ++ 32 ∷ quirk.text
  pub has_text : (length quirk.text == 0) ≡ false
  pub printable : list_all (is_in_range 0x20 0x7E) quirk.text ≡ true

abbrev pub IsNoQuirkLine : List ℕ → Type 0
IsNoQuirkLine line = (quirk : QuirkLine) → IsQuirkLine line quirk → ⊥

-- the lines of a text; each ends with LF, which the last one may lack
abbrev pub in_line : ℕ → List (List ℕ) → List (List ℕ)
in_line c [] = (c ∷ []) ∷ []
in_line c (line ∷ others) = (c ∷ line) ∷ others

abbrev pub lines : List ℕ → List (List ℕ)
lines [] = []
lines (c ∷ cs) = if c == 10 then [] ∷ lines cs else in_line c (lines cs)

-- the lines are those of the list, in order
abbrev pub AreQuirkLines : List (List ℕ) → List QuirkLine → Type 0
AreQuirkLines [] [] = Unit {0}
AreQuirkLines [] (quirk ∷ quirks) = ⊥
AreQuirkLines (line ∷ others) [] = ⊥
AreQuirkLines (line ∷ others) (quirk ∷ quirks) = IsQuirkLine line quirk × AreQuirkLines others quirks

-- The outcome of reading a list: out of memory, the number (from 1) of the first line of another form, or the list.
pub data ReadsQuirks (text : List ℕ) (answer : Result (List QuirkLine) Refusal) : Type 0 where
  no_memory : answer ≡ Err Memory → ReadsQuirks text answer
  bad_line : (before after : List (List ℕ)) (line : List ℕ) (quirks : List QuirkLine) → lines text ≡ before ++ line ∷ after
      → AreQuirkLines before quirks → IsNoQuirkLine line
      → answer ≡ Err (BadQuirks (length before + 1)) → ReadsQuirks text answer
  read_all : (quirks : List QuirkLine) → AreQuirkLines (lines text) quirks → answer ≡ Ok quirks → ReadsQuirks text answer

-- whether an identifier equals a text, or begins with it, ignoring ASCII case
abbrev pub same_as : Option (List ℕ) → List ℕ → Bool
same_as None text = false
same_as (Some id) text = str_eq_ignore_ascii_case id text

abbrev pub begins_as : Option (List ℕ) → List ℕ → Bool
begins_as None text = false
begins_as (Some id) text = str_eq_ignore_ascii_case (take (length text) id) text

abbrev pub is_missing : Option (List ℕ) → Bool
is_missing None = true
is_missing (Some id) = false

-- whether a line, and whether the list, matches the identifiers of a doctype
abbrev pub matches_by : QuirkKind → List ℕ → Option (List ℕ) → Option (List ℕ) → Bool
matches_by PublicIs text public system = same_as public text
matches_by PublicBegins text public system = begins_as public text
matches_by SystemIs text public system = same_as system text
matches_by PublicBeginsWithoutSystem text public system = is_missing system && begins_as public text

abbrev pub line_matches : QuirkLine → Option (List ℕ) → Option (List ℕ) → Bool
line_matches quirk public system = matches_by quirk.kind quirk.text public system

abbrev pub list_matches : List QuirkLine → Option (List ℕ) → Option (List ℕ) → Bool
list_matches quirks public system = list_any (λ quirk. line_matches quirk public system) quirks

-- for private functions: a word that names no kind, and a text split at its first mark
abbrev pub IsWordless : List ℕ → Type 0
IsWordless word = (kind : QuirkKind) → word ≡ quirk_word kind → ⊥

abbrev pub Lacks : ℕ → List ℕ → Type 0
Lacks mark text = list_any (λ c. c == mark) text ≡ false

pub record HasParts (mark : ℕ) (text before after : List ℕ) : Type 0 where
  pub text_is : text ≡ before ++ mark ∷ after
  pub lacks : Lacks mark before
