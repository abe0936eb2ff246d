-- Plain documents come back: the law, and the two laws that carry it.
use Rattle.std.specs.Prelude.{◌≡◌, ℕ, ◌+◌, ◌≤◌, true, List, [], ◌∷◌, ◌++◌, length, map, None, Ok}
use Rattle.charref.specs.Reference.{Entities, IsTable, HasCore}
use Rattle.htext.specs.declared.Bom.TheVariants.{Drop}
use Rattle.hnodes.specs.Forest as forest
use Rattle.hnodes.specs.Forest.{Forest, none, tree, size}
use Rattle.names.specs.declared.raw.RawKind.TheVariants as kind
use Rattle.hmarkup.specs.Quirks.{QuirkLine}
use Rattle.hadopt.specs.Naming.{texts}
use Rattle.hadopt.specs.Site.{Goes, trees}
use Rattle.hmodes.specs.Beginning.{Limits, document_begins}
use Rattle.hmodes.specs.Erased.{erased, node, no_tree}
use Rattle.hmodes.specs.State.{PlacedToken, State, eof}
use Rattle.hmodes.specs.Step.{Steps}
use Rattle.hparse.specs.Parse.{ParseOptions, document, Parse, Parses}
use Rattle.hserialize.specs.PlainDocument.{is_plain_document}
use Rattle.hserialize.specs.Written.{written}
use Rattle.hserialize.specs.declared.escaping.Escaping.{Escaping}
use Rattle.hlaws.specs.Building.{numbered_forest, depth}
use Rattle.hlaws.specs.ComesBack.{HoldsUtf8, AreRead}
use Rattle.hlaws.specs.PlainTokens.{plain_tokens}

-- A plain document as it is written is read as its own tokens.
abbrev pub PlainDocumentTokens : Type 0
PlainDocumentTokens = (table : Entities) (escaping : Escaping) (l : Forest (List ℕ)) → IsTable table → HasCore table → HoldsUtf8 l
    → is_plain_document l ≡ true → AreRead table Drop kind.None (written escaping None l) (plain_tokens texts l ++ eof ∷ [])

-- the nodes and the open elements that these children of a document need, besides it, are within the limits
pub record FitsDocument (limits : Limits) (l : Forest (List ℕ)) : Type 0 where
  pub nodes : size l + 1 ≤ limits.nodes
  pub open_nodes : depth l ≤ limits.depth

-- The tokens lead from where a document begins to a state with this document and nothing else.
pub record BuildsDocument (l : Forest (List ℕ)) (ts : List (PlacedToken (List ℕ))) (s : State (List ℕ)) : Type 0 where
  pub reached : State (List ℕ)
  pub steps : Steps texts ts s (Goes reached)
  pub trees_are : trees reached.site ≡ tree 0 forest.document (numbered_forest 1 l) none

-- Its tokens build it.
abbrev pub PlainDocumentBuilds : Type 0
PlainDocumentBuilds = (quirks : List QuirkLine) (limits : Limits) (l : Forest (List ℕ)) (ts : List (PlacedToken (List ℕ))) → HoldsUtf8 l
    → is_plain_document l ≡ true → FitsDocument limits l → map (λ t. t.token) ts ≡ plain_tokens texts l ++ eof ∷ []
    → BuildsDocument l ts (document_begins quirks limits)

-- A parser accepts these bytes as a document: what is built is this document and nothing else.
pub record GivesDocument (opts : ParseOptions) (bytes : List ℕ) (l : Forest (List ℕ)) : Type 0 where
  pub parse : Parse
  pub parses : Parses opts document bytes (Ok parse)
  pub tree_is : erased parse.trees ≡ node forest.document (erased l) no_tree

-- Each plain document comes back when what is written of it is parsed.
abbrev pub PlainDocumentComesBack : Type 0
PlainDocumentComesBack = (opts : ParseOptions) (escaping : Escaping) (l : Forest (List ℕ)) → IsTable opts.table → HasCore opts.table → HoldsUtf8 l
    → is_plain_document l ≡ true → length (written escaping None l) ≤ opts.input → FitsDocument opts.limits l
    → GivesDocument opts (written escaping None l) l

-- the same children of a document, whose doctypes lose their identifiers: those are not written
abbrev pub without_identifiers : Forest (List ℕ) → Forest (List ℕ)
without_identifiers none = none
without_identifiers (tree n (forest.doctype name public_id system_id) kids rest) = tree n (forest.doctype name [] []) kids (without_identifiers rest)
without_identifiers (tree n w kids rest) = tree n w kids (without_identifiers rest)

-- Each document that is plain but for identifiers comes back without them.
abbrev pub ComesBackWithoutIdentifiers : Type 0
ComesBackWithoutIdentifiers = (opts : ParseOptions) (escaping : Escaping) (l : Forest (List ℕ)) → IsTable opts.table → HasCore opts.table → HoldsUtf8 l
    → is_plain_document (without_identifiers l) ≡ true → length (written escaping None l) ≤ opts.input → FitsDocument opts.limits l
    → GivesDocument opts (written escaping None l) (without_identifiers l)
