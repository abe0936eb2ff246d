-- Where the nodes of a tree came from: the tokens in whose steps they were made, and how.
use Rattle.std.specs.Prelude.{◌≡◌, ℕ, ◌+◌, ◌-◌, ◌==◌, ◌&&◌, Bool, true, false, List, [], ◌∷◌, ◌++◌, length, map, replicate, slice_get, slice_set, Option}
use Rattle.std.specs.Prelude.{Some, None}
use Rattle.std.specs.List.{range_with_len}
use Rattle.std.specs.Option.{option_map_or}
use Rattle.names.specs.declared.error.ParseError.{ParseError}
use Rattle.names.specs.declared.tag.Tag.{Tag}
use Rattle.names.specs.declared.tag.Tag.TheVariants as tag
use Rattle.htoken.specs.Standing.{start_kind}
use Rattle.htoken.specs.Token.{Tok}
use Rattle.htoken.specs.Tokens.{Tokens}
use Rattle.hnodes.specs.Edits.{Nodes}
use Rattle.hnodes.specs.Spots.{node_kind, node_name}
use Rattle.hnodes.specs.declared.node.NodeKind.{NodeKind}
use Rattle.hnodes.specs.declared.node.NodeKind.TheVariants as kind
use Rattle.hadopt.specs.Naming.{Naming, texts}
use Rattle.hadopt.specs.Site.{Goes}
use Rattle.hmodes.specs.State.{Token, start, character, PlacedToken, State}
use Rattle.hmodes.specs.Step.{Step}
use Rattle.hparse.specs.declared.origins.Origin.{Origin}
use Rattle.hparse.specs.Input.{input_text}
use Rattle.hparse.specs.Parse.{ParseCase, ParseOptions, first_state, manner, start_of}
use Rattle.hparse.specs.Taken.{token_placed}

-- a node that the token at this byte implied
abbrev pub implied : ℕ → Origin
implied at = record { at = at; in_source = false; again_of = None }

-- How a node of this kind is made in the step of a token that begins here, where the first character of a text is that the token makes:
-- an element is of a tag of its own, or implied
abbrev pub making_of : (at first : ℕ) → Option NodeKind → Bool → Origin
making_of at first (Some kind.Text) own = record { at = first; in_source = true; again_of = None }
making_of at first (Some kind.Element) own = record { at = at; in_source = own; again_of = None }
making_of at first other own = record { at = at; in_source = true; again_of = None }

module _ {N : Type 0} where
  -- Where the first character is of a text that a token makes: a character makes one of itself, another token of the pending table
  -- characters (#parsing-main-intabletext).
  abbrev pub first_of : Token N → ℕ → State N → ℕ
  first_of (character c) at s = at
  first_of t at s = option_map_or (λ c. c.at) (slice_get s.control.pending 0) at

module _ {N : Type 0} (n : Naming N) where
  -- the name of the element of a start tag: of image it is img (#parsing-main-inbody)
  abbrev pub element_name : Tag → N → N
  element_name tag.Image x = n.known tag.Img
  element_name t x = x

  abbrev pub own_name : Token N → Option N
  own_name (start x attrs closing) = Some (element_name (n.tag x) x)
  own_name t = None

  abbrev pub are_same : Option N → Option N → Bool
  are_same (Some x) (Some y) = n.same x y
  are_same x None = false
  are_same None y = false

  -- The element of a start tag is the last node that its step makes: the others are implied.
  abbrev pub is_own : Option N → Nodes N → ℕ → Bool
  is_own own nodes k = (k + 1) == nodes.made && are_same own (node_name k nodes.trees)

  -- how node k was made
  module _ (at first : ℕ) (own : Option N) (nodes : Nodes N) where
    abbrev pub making : ℕ → Origin
    making k = making_of at first (node_kind k nodes.trees) (is_own own nodes k)

    -- how all of them were made: those after the list in that step
    abbrev pub with_made : List Origin → List Origin
    with_made list = list ++ map making (range_with_len (length list) (nodes.made - length list))

  -- how the nodes were made after the step of a token that led from one state to another
  abbrev pub after_token : PlacedToken N → State N → State N → List Origin → List Origin
  after_token t s s' list = with_made t.at (first_of t.token t.at s) (own_name t.token) s'.site.nodes list

  -- The tokens lead from one state to another, and so the nodes were made before and after.
  pub data MakesNodes : List (PlacedToken N) → State N → List Origin → State N → List Origin → Type 0 where
    none : {s : State N} {list : List Origin} → MakesNodes [] s list s list
    and : {t : PlacedToken N} {ts : List (PlacedToken N)} {s s' s'' : State N} {list list' : List Origin} → Step n t.at t.token s (Goes s')
        → MakesNodes ts s' (after_token t s s' list) s'' list' → MakesNodes (t ∷ ts) s list s'' list'

-- the document and a fragment's root, before any token
abbrev pub first_makings : {N : Type 0} → State N → List Origin
first_makings s = replicate s.site.nodes.made (implied 0)

-- with the note that these elements were made again, each of another
abbrev pub noted : ℕ × ℕ → List Origin → List Origin
noted x list = option_map_or (λ m. slice_set list x.0 (record m { in_source = false; again_of = Some x.1 })) (slice_get list x.0) list

abbrev pub again_laid : List (ℕ × ℕ) → List Origin → List Origin
again_laid [] list = list
again_laid (x ∷ again) list = again_laid again (noted x list)

-- The tokens of these bytes make the nodes so, by their numbers.
pub record AreOrigins (opts : ParseOptions) (parse_case : ParseCase) (bytes : List ℕ) (list : List Origin) : Type 0 where
  pub tokens : List Tok
  pub errors : List ParseError
  pub state : State (List ℕ)
  pub made : List Origin
  pub read : Tokens opts.table (start_kind (start_of parse_case)) (input_text (manner opts parse_case) bytes) (length bytes) tokens errors
  pub makes : MakesNodes texts (map token_placed tokens) (first_state opts parse_case) (first_makings (first_state opts parse_case)) state made
  pub list_is : list ≡ again_laid state.site.again made
