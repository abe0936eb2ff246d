-- A test that is computed of each mode and each kind of token holds of all of them.
use Rattle.hmodes.proofs.Vocabulary.{◌≡◌, Bool, true, false, List, [], ◌∷◌, refl, sym, ◌&&◌, ◌||◌, list_all, false≢true, Family, Mode, Initial, BeforeHtml, BeforeHead, InHead, InHeadNoscript, AfterHead, InBody, Text, InTable, InTableText, InCaption, InColumnGroup, InTableBody, InRow, InCell, AfterBody, AfterAfterBody, TokenKind, Nul, Ws, Char, Comment, Doctype, Start, End, Eof, Option, Some, None, Outcome, Goes, Refusal}
use Rattle.hadopt.specs.Site as site
use Rattle.hmodes.specs.declared.family.Family.TheVariants as family

pub never : {A : Type 0} → false ≡ true → A
never e = absurd (false≢true e)

pub both : (x y : Bool) → (x && y) ≡ true → (x ≡ true) × (y ≡ true)
both true y e = (refl, e)
both false y e = never e

-- of two, the one that is left
pub other : (x y : Bool) → (x || y) ≡ true → x ≡ false → y ≡ true
other true y e isnt = never (sym isnt)
other false y e isnt = e

-- what holds of a value or without one, and where it goes on or is refused
pub by_option : {A : Type 0} (o : Option A) (P : Option A → Type 0) → (o ≡ None → P None) → ((x : A) → o ≡ Some x → P (Some x)) → P o
by_option None P a b = a refl
by_option (Some x) P a b = b x refl

pub by_outcome : {S : Type 0} (o : Outcome S) (P : Outcome S → Type 0) → ((s : S) → o ≡ Goes s → P (Goes s))
    → ((r : Refusal) → o ≡ site.Refused r → P (site.Refused r)) → P o
by_outcome (Goes s) P a b = a s refl
by_outcome (site.Refused r) P a b = b r refl

-- each of a list passes a test, one by one
abbrev Passes : {X : Type 0} → (X → Bool) → List X → Type 0
Passes f [] = Unit {0}
Passes f (x ∷ xs) = (f x ≡ true) × Passes f xs

passes : {X : Type 0} (f : X → Bool) (xs : List X) → list_all f xs ≡ true → Passes f xs
passes f [] all = tt
passes f (x ∷ xs) all = let parts = both (f x) (list_all f xs) all in (parts.0, passes f xs parts.1)

abbrev families : List Family
families = family.Html ∷ family.Head ∷ family.Body ∷ family.Br ∷ family.Base ∷ family.HeadVoid ∷ family.Title ∷ family.Noframes ∷ family.Style ∷ family.Script
    ∷ family.Noscript ∷ family.Block ∷ family.P ∷ family.Heading ∷ family.Pre ∷ family.Form ∷ family.Li ∷ family.Dd ∷ family.Plaintext ∷ family.Button
    ∷ family.A ∷ family.Formatting ∷ family.Nobr ∷ family.Object ∷ family.Table ∷ family.PhrasingVoid ∷ family.Input ∷ family.MediaVoid ∷ family.Hr
    ∷ family.Image ∷ family.Textarea ∷ family.Xmp ∷ family.Iframe ∷ family.Rb ∷ family.Rp ∷ family.Caption ∷ family.Colgroup ∷ family.Col ∷ family.TableSection
    ∷ family.Row ∷ family.Cell ∷ family.Template ∷ family.Other ∷ []

each-family : (f : Family → Bool) → Passes f families → (x : Family) → f x ≡ true
each-family f all family.Html = all.0
each-family f all _ = assumption

abbrev singles : List TokenKind
singles = Nul ∷ Ws ∷ Char ∷ Comment ∷ Doctype ∷ Eof ∷ []

abbrev all_kinds : (TokenKind → Bool) → Bool
all_kinds f = list_all f singles && (list_all (λ x. f (Start x)) families && list_all (λ x. f (End x)) families)

each-kind : (f : TokenKind → Bool) → all_kinds f ≡ true → (k : TokenKind) → f k ≡ true
each-kind f all = let starts = list_all (λ x. f (Start x)) families in let ends = list_all (λ x. f (End x)) families in
    let parts = both (list_all f singles) (starts && ends) all in let tags = both starts ends parts.1 in
    go (passes f singles parts.0) (passes (λ x. f (Start x)) families tags.0) (passes (λ x. f (End x)) families tags.1) where
      go : Passes f singles → Passes (λ x. f (Start x)) families → Passes (λ x. f (End x)) families → (k : TokenKind) → f k ≡ true
      go one starts ends (Start x) = each-family (λ x. f (Start x)) starts x
      go one starts ends (End x) = each-family (λ x. f (End x)) ends x
      go one starts ends _ = assumption

abbrev modes : List Mode
modes = Initial ∷ BeforeHtml ∷ BeforeHead ∷ InHead ∷ InHeadNoscript ∷ AfterHead ∷ InBody ∷ Text ∷ InTable ∷ InTableText ∷ InCaption ∷ InColumnGroup
    ∷ InTableBody ∷ InRow ∷ InCell ∷ AfterBody ∷ AfterAfterBody ∷ []

pub each-mode : (f : Mode → Bool) → list_all f modes ≡ true → (m : Mode) → f m ≡ true
each-mode f all m = go (passes f modes all) m where
  go : Passes f modes → (m : Mode) → f m ≡ true
  go h Initial = h.0
  go h _ = assumption

abbrev of_each : (Mode → TokenKind → Bool) → Bool
of_each f = list_all (λ m. all_kinds (f m)) modes

pub in-each : (f : Mode → TokenKind → Bool) → of_each f ≡ true → (m : Mode) (k : TokenKind) → f m k ≡ true
in-each f all m k = each-kind (f m) (each-mode (λ m. all_kinds (f m)) all m) k
