-- Plain trees come back: the law, and the two laws that carry it.
use Rattle.std.specs.Prelude.{◌≡◌, ℕ, ◌+◌, ◌≤◌, true, IsUtf8, List, [], ◌∷◌, ◌++◌, length, map, Some, Ok}
use Rattle.charref.specs.Reference.{Entities, IsTable, HasCore}
use Rattle.htext.specs.declared.Bom.{Bom}
use Rattle.htext.specs.declared.Bom.TheVariants.{Keep}
use Rattle.htext.specs.Text as input
use Rattle.hnodes.specs.Forest as forest
use Rattle.hnodes.specs.Forest.{Attribute, Forest, none, tree, size, children_of}
use Rattle.names.specs.declared.error.ParseError.{ParseError}
use Rattle.names.specs.declared.placed.Placed.{Placed}
use Rattle.names.specs.declared.raw.RawKind.{RawKind}
use Rattle.names.specs.Sets.{raw_kind}
use Rattle.names.specs.Tags.{tag_named}
use Rattle.htoken.specs.Token.{Tok}
use Rattle.htoken.specs.Tokens.{Tokens}
use Rattle.hadopt.specs.Naming.{texts}
use Rattle.hparse.specs.Parse.{ParseOptions, fragment, is_context, root_of, Parse, Parses}
use Rattle.hparse.specs.Taken.{token_taken}
use Rattle.hmodes.specs.Erased.{erased}
use Rattle.hmodes.specs.State.{Token, PlacedToken, State, eof}
use Rattle.hlaws.specs.Building.{IsQuiet, BuildsForest, BeginsWell, HasTreeRoom, depth}
use Rattle.hserialize.specs.Plain.{Inside, are_content, is_plain}
use Rattle.hlaws.specs.PlainTokens.{plain_tokens}
use Rattle.hserialize.specs.Written.{written}
use Rattle.hserialize.specs.declared.escaping.Escaping.{Escaping}

-- names, values, texts and comments are in UTF-8
abbrev pub AreUtf8 : List (Attribute (List ℕ)) → Type 0
AreUtf8 [] = Unit {0}
AreUtf8 (a ∷ others) = IsUtf8 a.0 × IsUtf8 a.1 × AreUtf8 others

-- each name, value and text of a list is UTF-8
abbrev pub HoldsUtf8 : Forest (List ℕ) → Type 0
HoldsUtf8 none = Unit {0}
HoldsUtf8 (tree b (forest.element name attrs) kids rest) = IsUtf8 name × AreUtf8 attrs × HoldsUtf8 kids × HoldsUtf8 rest
HoldsUtf8 (tree b (forest.text t) kids rest) = IsUtf8 t × HoldsUtf8 kids × HoldsUtf8 rest
HoldsUtf8 (tree b (forest.comment t) kids rest) = IsUtf8 t × HoldsUtf8 kids × HoldsUtf8 rest
HoldsUtf8 (tree b w kids rest) = HoldsUtf8 kids × HoldsUtf8 rest

-- the characters of the bytes of an input, with or without a byte order mark at their front
abbrev pub decoded_text : Bom → List ℕ → List Placed
decoded_text bom bytes = map input.character_of (input.text bom bytes)

-- The bytes of an input, in text of a kind, are read as these tokens.
pub record AreRead (table : Entities) (bom : Bom) (kind : RawKind) (bytes : List ℕ) (tokens : List (Token (List ℕ))) : Type 0 where
  pub utf8 : IsUtf8 bytes
  pub toks : List Tok
  pub errors : List ParseError
  pub read : Tokens table kind (decoded_text bom bytes) (length bytes) toks errors
  pub are : map token_taken toks ≡ tokens

-- A plain list as it is written is read as its own tokens.
abbrev pub PlainTokens : Type 0
PlainTokens = (table : Entities) (escaping : Escaping) (context : List ℕ) (l : Forest (List ℕ)) → IsTable table → HasCore table → HoldsUtf8 l
    → is_plain context l ≡ true
    → AreRead table Keep (raw_kind (tag_named context)) (written escaping (Some context) l) (plain_tokens texts l ++ eof ∷ [])

-- Its tokens build it from each quiet state.
abbrev pub PlainBuilds : Type 0
PlainBuilds = (inside : Inside) (l : Forest (List ℕ)) (s : State (List ℕ)) (ts : List (PlacedToken (List ℕ))) (q : IsQuiet texts inside s) → HoldsUtf8 l
    → are_content inside l ≡ true
    → BeginsWell texts l q.current.node s → HasTreeRoom texts l s → map (λ t. t.token) ts ≡ plain_tokens texts l → BuildsForest texts l q.current.node ts s

-- the list as it is written fits the limits: besides its nodes there are the document and the root, which is open
pub record FitsForest (opts : ParseOptions) (bytes : List ℕ) (l : Forest (List ℕ)) : Type 0 where
  pub input : length bytes ≤ opts.input
  pub nodes : size l + 2 ≤ opts.limits.nodes
  pub open_nodes : depth l + 1 ≤ opts.limits.depth

-- A parser takes fragments in this context, and accepts these bytes as one: the root's children are the list.
pub record GivesForest (opts : ParseOptions) (context bytes : List ℕ) (l : Forest (List ℕ)) : Type 0 where
  pub allowed : is_context context ≡ true
  pub parse : Parse
  pub parses : Parses opts (fragment context) bytes (Ok parse)
  pub children : erased (children_of (root_of (fragment context)) parse.trees) ≡ erased l

-- Each plain list comes back when what is written of it is parsed.
abbrev pub PlainComesBack : Type 0
PlainComesBack = (opts : ParseOptions) (escaping : Escaping) (context : List ℕ) (l : Forest (List ℕ)) → IsTable opts.table → HasCore opts.table → HoldsUtf8 l
    → is_plain context l ≡ true
    → FitsForest opts (written escaping (Some context) l) l → GivesForest opts context (written escaping (Some context) l) l
