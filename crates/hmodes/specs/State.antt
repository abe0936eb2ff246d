-- Tokens, and the state that the rules work on.
use Rattle.std.specs.Prelude.{ℕ, Bool, false, ◌==◌, List, [], Option, if◌then◌else◌}
use Rattle.hnodes.specs.Forest.{Attribute}
use Rattle.hmarkup.specs.Quirks.{QuirkLine}
use Rattle.names.specs.declared.placed.Placed.{Placed}
use Rattle.names.specs.declared.refusal.Refusal.{Refusal}
use Rattle.names.specs.declared.tag.Tag.TheVariants.{Html}
use Rattle.names.specs.Placed.{is_space}
use Rattle.hadopt.specs.Naming.{Naming}
use Rattle.hadopt.specs.Site.{SiteOf}
use Rattle.hmodes.specs.declared.mode.Mode.{Mode}
use Rattle.hmodes.specs.Families.{family_of}
use Rattle.hmodes.specs.Words.{TokenKind, Nul, Ws, Char, Comment, Doctype, Start, End, Eof}

-- a token; its texts are their bytes in UTF-8
pub data Token (N : Type 0) : Type 0 where
  doctype : (name public_id system_id : Option (List ℕ)) → (forced : Bool) → Token N
  start : N → List (Attribute N) → (closing : Bool) → Token N
  end : N → Token N
  comment : List ℕ → Token N
  character : ℕ → Token N
  eof : Token N

-- a token with the place of its first byte
pub record PlacedToken (N : Type 0) : Type 0 where
  pub token : Token N
  pub at : ℕ

-- the state other than the site; the saved mode is the original insertion mode (#original-insertion-mode)
pub record Control : Type 0 where
  pub mode : Mode
  pub saved : Mode
  pub head : Option ℕ  -- the head element pointer
  pub form : Option ℕ  -- the form element pointer; the document stands for a context, which is never open
  pub quirks : Bool
  pub pending : List Placed  -- the pending table character tokens
  pub drop_lf : Bool
  pub acknowledged : Bool  -- whether the self-closing flag of this token was (#acknowledge-self-closing-flag)

pub record State (N : Type 0) : Type 0 where
  pub site : SiteOf N
  pub control : Control
  pub context : Option N  -- a fragment's context
  pub quirks_list : List QuirkLine

-- What comes of a rule: it ends, or the token is reprocessed, maybe under another name, or it is refused.
pub data Flow (N : Type 0) : Type 0 where
  Done : State N → Flow N
  Again : Token N → State N → Flow N
  Refused : Refusal → Flow N

module _ {N : Type 0} where
  abbrev pub flow_then : Flow N → (State N → Flow N) → Flow N
  flow_then (Done s) f = f s
  flow_then (Again t s) f = Again t s
  flow_then (Refused r) f = Refused r

  -- the state of a flow becomes f of it
  abbrev pub flow_map : (State N → State N) → Flow N → Flow N
  flow_map f (Done s) = Done (f s)
  flow_map f (Again t s) = Again t (f s)
  flow_map f (Refused r) = Refused r

  -- what a token holds, where it is of the kind
  abbrev pub token_attrs : Token N → List (Attribute N)
  token_attrs (start x attrs closing) = attrs
  token_attrs t = []

  abbrev pub token_text : Token N → List ℕ
  token_text (comment text) = text
  token_text t = []

  abbrev pub token_char : Token N → ℕ
  token_char (character c) = c
  token_char t = 0

  abbrev pub is_self_closing : Token N → Bool
  is_self_closing (start x attrs closing) = closing
  is_self_closing t = false

  -- the same token under another name
  abbrev pub renamed : N → Token N → Token N
  renamed name (start x attrs closing) = start name attrs closing
  renamed name t = t

abbrev pub character_kind : ℕ → TokenKind
character_kind c = if c == 0 then Nul else if is_space c then Ws else Char

module _ {N : Type 0} (n : Naming N) where
  -- html for a token without a name: no rule asks there
  abbrev pub token_name : Token N → N
  token_name (start x attrs closing) = x
  token_name (end x) = x
  token_name t = n.known Html

  abbrev pub kind_of : Token N → TokenKind
  kind_of (doctype name public_id system_id forced) = Doctype
  kind_of (start x attrs closing) = Start (family_of (n.tag x))
  kind_of (end x) = End (family_of (n.tag x))
  kind_of (comment text) = Comment
  kind_of (character c) = character_kind c
  kind_of eof = Eof
