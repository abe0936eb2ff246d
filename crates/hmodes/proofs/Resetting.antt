-- The mode that fits the open nodes, found by the nearest one that determines it.
use Rattle.hmodes.proofs.Vocabulary.{by_test, ◌≡◌, ℕ, ◌-◌, Bool, true, false, cond, List, [], ◌∷◌, length, reverse, Option, Some, None, unwrap_or, refl, sym, ap, ◌∙◌, slice_get, option_map_or, OpenNode, is_of, tells_mode, Tag, true≢false, numbers, open_mode, root_mode, reset_mode, Mode, InBody, take, find, tag_of, slice_get-append, reverse-append, last-behind, here}
use native.Mathlib.Numerals.{unary_clauses}
use Rattle.hopen.specs.declared.scope.Group.TheVariants as group
use Rattle.names.specs.declared.tag.Tag.TheVariants as tag

-- whether an open node determines the mode
abbrev pub tells : OpenNode ℕ → Bool
tells = is_of tag_of group.TellsMode

tells-none : (t : Tag) → tells_mode t ≡ false → open_mode t ≡ None
tells-none tag.Body h = absurd (true≢false h)
tells-none _ h = cc

tells-some : (t : Tag) → tells_mode t ≡ true → (a b : Mode) → unwrap_or (open_mode t) a ≡ unwrap_or (open_mode t) b
tells-some tag.Body h a b = refl
tells-some _ h a b = cc

-- an open node below the first one determines the mode
pub reset-tokenizer_errors : (context : Option ℕ) (s : List (OpenNode ℕ)) (x : OpenNode ℕ) → find tells (take (length s - 1) s) ≡ Some x
    → reset_mode numbers context s ≡ unwrap_or (open_mode (tag_of x.name)) InBody
reset-tokenizer_errors context [] x h = absurd cc
reset-tokenizer_errors context (y ∷ []) x h = absurd cc
reset-tokenizer_errors context (y ∷ (z ∷ s)) x h = let rest = reset_mode numbers context (z ∷ s) in
    by_test (tells y)
    (λ v. cond v (Some y) (find tells (take (length s) (z ∷ s))) ≡ Some x
    → unwrap_or (open_mode (tag_of y.name)) rest ≡ unwrap_or (open_mode (tag_of x.name)) InBody)
    (λ is found. let same : y ≡ x = cc in tells-some (tag_of y.name) is rest InBody ∙ ap (λ w. unwrap_or (open_mode (tag_of w.name)) InBody) same)
    (λ is found. ap (λ o. unwrap_or o rest) (tells-none (tag_of y.name) is) ∙ reset-tokenizer_errors context (z ∷ s) x (simp unary_clauses found))
    (simp unary_clauses at h)

first-below : (x y : OpenNode ℕ) (s : List (OpenNode ℕ)) → slice_get (reverse (x ∷ (y ∷ s))) 0 ≡ slice_get (reverse (y ∷ s)) 0
first-below x y s = let l = last-behind (λ z. Unit {0}) y s (y ∷ s) here in
    ap (λ k. slice_get k 0) (reverse-append (x ∷ []) (y ∷ s)) ∙ slice_get-append (reverse (y ∷ s)) (x ∷ []) 0 l.0 l.1 ∙ sym l.1

-- none does
pub reset-root : (context : Option ℕ) (s : List (OpenNode ℕ)) → find tells (take (length s - 1) s) ≡ None
    → reset_mode numbers context s ≡ option_map_or (root_mode numbers context) (slice_get (reverse s) 0) InBody
reset-root context [] h = refl
reset-root context (x ∷ []) h = refl
reset-root context (x ∷ (y ∷ s)) h = by_test (tells x) (λ v. cond v (Some x) (find tells (take (length s) (y ∷ s))) ≡ None
    → reset_mode numbers context (x ∷ (y ∷ s)) ≡ option_map_or (root_mode numbers context) (slice_get (reverse (x ∷ (y ∷ s))) 0) InBody) (λ is none. cc)
    (λ is none. ap (λ o. unwrap_or o (reset_mode numbers context (y ∷ s))) (tells-none (tag_of x.name) is)
    ∙ reset-root context (y ∷ s) (simp unary_clauses none) ∙ ap (λ o. option_map_or (root_mode numbers context) o InBody) (sym (first-below x y s)))
    (simp unary_clauses at h)
