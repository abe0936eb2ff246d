-- What is mapped alike by a table and by one with a text more has the names of the table.
use Rattle.hmodes.proofs.Vocabulary.{◌≡◌, ℕ, ◌<◌, List, [], ◌∷◌, map, length, refl, sym, ap, ap₂, subst, arith, Attribute, What, element, Forest, tree, mapped_attribute, mapped_what, mapped, QuirkLine, Naming, numbers, texts, Outcome, Goes, trees, Limits, document_begins, fragment_begins, mapped_token, mapped_placed, mapped_state, Token, start, end, PlacedToken, State, Steps, none, and, refused, numbers-agree, AttributesAreOf, NodeIsOf, AreOf, Texts, AreNames, IsOf, spelling, number_of, longer, longer-names, known-within, spelled-alike, alike-within, TokenIsOf, TokensAreOf}
use Rattle.hnodes.specs.Forest.{none}
use Rattle.names.specs.declared.tag.Tag.TheVariants as tag
use Rattle.hadopt.specs.Site as site
use Rattle.hmodes.specs.Step as step
use Rattle.hmodes.proofs.Names.{steps_mapped}
use Rattle.hmodes.proofs.Single.{step-one}

-- tokens have one result at most
module _ {N : Type 0} (n : Naming N) where
  pub steps-one : (ts : List (PlacedToken N)) (s : State N) (o o' : Outcome (State N)) → Steps n ts s o → Steps n ts s o' → o ≡ o'
  steps-one [] s o o' step.none step.none = refl
  steps-one (t ∷ ts) s o o' (and {s' = u} one rest) (and {s' = v} one' rest') =
      let same : Goes u ≡ Goes v = step-one n t.at t.token s (Goes u) (Goes v) one one' in let states : v ≡ u = cc in
      steps-one ts u o o' rest (subst (λ (x : State N). Steps n ts x o') states rest')
  steps-one (t ∷ ts) s o o' (and {s' = u} one rest) (refused {r = r} one') = let clash = step-one n t.at t.token s (Goes u) (site.Refused r) one one' in cc
  steps-one (t ∷ ts) s o o' (refused {r = r} one) (and {s' = v} one' rest') = let clash = step-one n t.at t.token s (site.Refused r) (Goes v) one one' in cc
  steps-one (t ∷ ts) s o o' (refused {r = r} one) (refused {r = r'} one') = step-one n t.at t.token s (site.Refused r) (site.Refused r') one one'

module _ (names : Texts) where
  abbrev short : ℕ → List ℕ
  short = spelling names

  abbrev long : ℕ → List ℕ
  long = spelling (longer names)

  attributes-alike : (attrs : List (Attribute ℕ)) → AttributesAreOf names attrs → map (mapped_attribute short) attrs ≡ map (mapped_attribute long) attrs
  attributes-alike [] h = refl
  attributes-alike (a ∷ attrs) h =
      ap₂ (λ (x : List ℕ) (xs : List (Attribute (List ℕ))). (x, a.1) ∷ xs) (spelled-alike names a.0 h.0) (attributes-alike attrs h.1)

  token-alike : (t : Token ℕ) → TokenIsOf names t → mapped_token short t ≡ mapped_token long t
  token-alike (start name attrs closing) h =
      ap₂ (λ (x : List ℕ) (xs : List (Attribute (List ℕ))). start x xs closing) (spelled-alike names name h.0) (attributes-alike attrs h.1)
  token-alike (end name) h = ap (λ (x : List ℕ). end x) (spelled-alike names name h)
  token-alike _ h = refl

  tokens-alike : (ts : List (PlacedToken ℕ)) → TokensAreOf names ts → map (mapped_placed short) ts ≡ map (mapped_placed long) ts
  tokens-alike [] h = refl
  tokens-alike (t ∷ ts) h =
      ap₂ (λ (x : Token (List ℕ)) (xs : List (PlacedToken (List ℕ))). record { token = x; at = t.at } ∷ xs) (token-alike t.token h.0) (tokens-alike ts h.1)

  attributes-of : (attrs : List (Attribute ℕ)) → map (mapped_attribute short) attrs ≡ map (mapped_attribute long) attrs → AttributesAreOf names attrs
  attributes-of [] e = tt
  attributes-of (a ∷ attrs) e = let pair : mapped_attribute short a ≡ mapped_attribute long a = cc in
      (alike-within names a.0 (ap (λ (p : Attribute (List ℕ)). p.0) pair), attributes-of attrs (cc))

  node-of : (w : What ℕ) → mapped_what short w ≡ mapped_what long w → NodeIsOf names w
  node-of (element x attrs) e = (alike-within names x (cc), attributes-of attrs (cc))
  node-of _ e = tt

  trees-of : (f : Forest ℕ) → mapped short f ≡ mapped long f → AreOf names f
  trees-of none e = tt
  trees-of (tree b w kids rest) e = (node-of w (cc), trees-of kids (cc), trees-of rest (cc))

  module _ (h : AreNames names) where
    steps-of : (ts : List (PlacedToken ℕ)) (s s' : State ℕ) → TokensAreOf names ts → mapped_state short s ≡ mapped_state long s → Steps numbers ts s (Goes s')
        → AreOf names (trees s'.site)
    steps-of ts s s' of begins run = let one = (steps_mapped numbers texts short (numbers-agree names h)).steps ts s (Goes s') run in
        let other = (steps_mapped numbers texts long (numbers-agree (longer names) (longer-names names h))).steps ts s (Goes s') run in
        let moved = subst (λ (x : State (List ℕ)). Steps texts (map (mapped_placed short) ts) x (Goes (mapped_state long s'))) (sym begins)
        (subst (λ (us : List (PlacedToken (List ℕ))). Steps texts us (mapped_state long s) (Goes (mapped_state long s'))) (sym (tokens-alike ts of)) other) in
        let same : Goes (mapped_state short s') ≡ Goes (mapped_state long s') =
        steps-one texts (map (mapped_placed short) ts) (mapped_state short s) (Goes (mapped_state short s')) (Goes (mapped_state long s')) one moved in
        let states : mapped_state short s' ≡ mapped_state long s' = cc in trees-of (trees s'.site) (ap (λ (x : State (List ℕ)). trees x.site) states)

    pub document-of : (quirks : List QuirkLine) (limits : Limits) (ts : List (PlacedToken ℕ)) (s : State ℕ) → TokensAreOf names ts
        → Steps numbers ts (document_begins quirks limits) (Goes s) → AreOf names (trees s.site)
    document-of quirks limits ts s of run = steps-of ts (document_begins quirks limits) s of refl run

    html-within : number_of tag.Html < length names
    html-within = omega (arith, known-within names h)

    pub fragment-of : (context : ℕ) (limits : Limits) (ts : List (PlacedToken ℕ)) (s : State ℕ) → IsOf names context → TokensAreOf names ts
        → Steps numbers ts (fragment_begins numbers context limits) (Goes s) → AreOf names (trees s.site)
    fragment-of context limits ts s within of run = steps-of ts (fragment_begins numbers context limits) s of begins run where
      begins : mapped_state short (fragment_begins numbers context limits) ≡ mapped_state long (fragment_begins numbers context limits)
      begins = rw (spelled-alike names (number_of tag.Html) html-within, spelled-alike names context within) refl
