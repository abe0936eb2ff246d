-- The tag's name.
use Rattle.htag.proofs.Vocabulary.{◌≡◌, ℕ, Bool, eqb, arith, true, false, not, List, [], ◌∷◌, ◌++◌, sym, refl, ap, ◌∙◌, subst, append-nil, string_bytes, ParseError, Placed, Texts, begins, all, is_letter, null_errors, name_bytes, nat_tests, and_parts, name_bytes-append, Entities, all-append, TagWalk, ends_name, HasAttributes, HasPhase, IsPast, IsInTag, null_errors-append, TagKind, IsBegun}
use Rattle.htag.specs.declared.tag_state.TagState.TheVariants as phase
use Rattle.htag.proofs.Parts.{begins-more, holds_same}
use Rattle.htag.proofs.Pieces.{all_imp}

-- nothing has been read but a name
named_alone : {table : Entities} {names : Texts} {walk : TagWalk} {name body ahead : List Placed} {errors : List ParseError} → body ≡ name
    → begins is_letter name ≡ true → all (λ c. not (ends_name c)) name ≡ true → string_bytes walk.name ≡ name_bytes name → errors ≡ null_errors name
    → HasAttributes names walk [] → IsPast walk.phase (begins ends_name ahead) → HasPhase walk.phase table walk [] [] []
    → IsInTag table names walk body ahead errors
named_alone {name = name} whole first stay named plain has past phased = record {
  name = name;
  parts = [];
  held = [];
  own = [];
  body_is = whole ∙ sym (append-nil name);
  first = first;
  passes = stay;
  name_is = named;
  are_parts = λ end more. tt;
  errors_are = plain ∙ simp append-nil;
  has_attributes = has;
  past = past;
  has_phase = phased;
}

-- a tag has begun, and this is its name so far
pub name_begun : {kind : TagKind} {walk : TagWalk} → IsBegun kind walk → {table : Entities} {names : Texts} (text : List Placed) → begins is_letter text ≡ true
    → all (λ c. not (ends_name c)) text ≡ true → null_errors text ≡ [] → string_bytes walk.name ≡ name_bytes text → IsInTag table names walk text [] []
name_begun b text first stay no_null named = named_alone refl first stay named (sym no_null)
    (record { numbers = []; seen = b.seen; named = tt; attributes = rw b.none tt; any = b.not_any }) (rw b.in_name tt) (rw b.in_name (refl, refl, refl))

-- characters of which none is NUL
pub no_nulls : (test : ℕ → Bool) → ((c : ℕ) → test c ≡ true → eqb c 0 ≡ false) → (xs : List Placed) → all test xs ≡ true → null_errors xs ≡ []
no_nulls test some [] h = refl
no_nulls test some (x ∷ xs) h = let k = and_parts (test x.ch) (all test xs) h in let other : eqb x.ch 0 ≡ false = some x.ch k.0 in
    rw other (no_nulls test some xs k.1)

pub begun_in_tag : {kind : TagKind} {walk : TagWalk} → IsBegun kind walk → {table : Entities} {names : Texts} (letters : List Placed)
    → begins is_letter letters ≡ true → all is_letter letters ≡ true → string_bytes walk.name ≡ name_bytes letters → IsInTag table names walk letters [] []
begun_in_tag b letters first are named =
    name_begun b letters first (all_imp is_letter (λ c. not (ends_name c)) (λ c letter. grind (arith, letter, nat_tests)) letters are)
    (no_nulls is_letter (λ c letter. grind (arith, letter, nat_tests)) letters are) named

module _ {table : Entities} {names : Texts} {walk : TagWalk} {body ahead : List Placed} {errors : List ParseError}
    (h : IsInTag table names walk body ahead errors) (in_name : walk.phase ≡ phase.TagName) where
  nothing : (h.parts ≡ []) × (h.held ≡ []) × (h.own ≡ [])
  nothing = rw in_name at h.has_phase

  whole : body ≡ h.name
  whole = h.body_is ∙ rw (nothing.0, nothing.1) (append-nil h.name)

  plain : errors ≡ null_errors h.name
  plain = h.errors_are ∙ rw (nothing.0, nothing.2) (simp append-nil)

  -- it goes on
  pub name_grows : {new : TagWalk} {later : List ParseError} (fed : List Placed) → new.phase ≡ walk.phase → new.seen ≡ walk.seen → new.attrs ≡ walk.attrs
      → new.any ≡ walk.any → string_bytes new.name ≡ string_bytes walk.name ++ name_bytes fed → later ≡ errors ++ null_errors fed
      → all (λ c. not (ends_name c)) fed ≡ true → IsInTag table names new (body ++ fed) [] later
  name_grows {new} fed same seen attrs any named later_is stay = named_alone (ap (λ (x : List Placed). x ++ fed) whole) (begins-more _ h.name fed h.first)
      (all-append _ h.name fed h.passes stay) (named ∙ ap (λ (x : List ℕ). x ++ name_bytes fed) h.name_is ∙ sym (name_bytes-append h.name fed))
      (later_is ∙ ap (λ (x : List ParseError). x ++ null_errors fed) plain ∙ sym (null_errors-append h.name fed))
      (subst (HasAttributes names new) nothing.0 (holds_same seen attrs any h.has_attributes)) (rw (same ∙ in_name) tt) (rw (same ∙ in_name) (refl, refl, refl))
