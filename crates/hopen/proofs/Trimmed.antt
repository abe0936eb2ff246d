-- The holes of a vector: one at the end goes, and how many there are.
use Rattle.hopen.proofs.Names.{nat_tests, common_steps, ◌≡◌, ◌≢◌, ℕ, suc, ◌+◌, ◌-◌, ◌<◌, List, [], ◌∷◌, ◌++◌, Option, Some, None, false, refl, length, map, reverse, take, get_or, set, sym, ◌∙◌, ap, arith, length-append, length-map, length-set, length-reverse, length-take-le, reverse-append, take_all, take_more, take-map, take-take, get_or_push, sum_by, sum_by-cons, sum_by-set, sum_by_push, get_or-le-sum_by, gap, is_hole_kind, opened_by, stack_of, somes, EndsOpen, LevelsStand, KeptNode, LastLevels, drop, take-append_seam}
use Rattle.hopen.proofs.Projected.{is-held, seen-at}
use Rattle.hopen.proofs.Somes.{reverse-somes}
use Rattle.hopen.proofs.Standing.{levels-front, levels-hole, stands-to, to-stands}

pub gap-live : {X : Type 0} (z : Option X) → z ≢ None → gap z ≡ 0
gap-live None live = absurd (live refl)
gap-live (Some x) live = refl

-- a slot holds a node, or is a hole
counted : {X : Type 0} (ys : List (Option X)) → length (somes ys) + sum_by gap ys ≡ length ys
counted [] = refl
counted (z ∷ ys) = grind (arith, sum_by-cons gap z ys, counted ys)

-- a node that leaves, leaves one hole more
pub holes-left : {X : Type 0} (ys : List (Option X)) (i : ℕ) → i < length ys → get_or ys i None ≢ None
    → (sum_by gap (set ys i None) ≡ sum_by gap ys + 1) × (sum_by gap ys < length ys)
holes-left ys i h live = grind (arith, sum_by-set gap ys i None None h, gap-live (get_or ys i None) live, counted (set ys i None), length-set ys i None)

pub stack-holes : (items : List KeptNode) → length (stack_of items) + sum_by gap (map opened_by items) ≡ length items
stack-holes items = let ys = map opened_by items in
    omega (arith, counted ys, ap length (reverse-somes ys), length-reverse (somes ys), length-map items opened_by)

-- the last slot is a hole
module _ (items : List KeptNode) (some : 0 < length items) (gone : get_or (map opened_by items) (length items - 1) None ≡ None) where
  abbrev many : ℕ
  many = length items - 1

  abbrev left : List KeptNode
  left = take many items

  slots : map opened_by items ≡ map opened_by left ++ None ∷ []
  slots = sym (take_all (many + 1) (map opened_by items) (omega (arith, length-map items opened_by)))
      ∙ take_more (map opened_by items) many None (omega (arith, length-map items opened_by)) ∙ (λ t. take-map opened_by many items t ++ gone t ∷ [])

  pub stack-trimmed : stack_of left ≡ stack_of items
  stack-trimmed = sym (ap (λ ys. somes (reverse ys)) slots ∙ ap somes (reverse-append (map opened_by left) (None ∷ [])))

  pub holes-trimmed : sum_by gap (map opened_by items) ≡ sum_by gap (map opened_by left) + 1
  holes-trimmed = ap (sum_by gap) slots ∙ sum_by_push gap (map opened_by left) None

  pub stands-trimmed : (last : LastLevels) → LevelsStand last items → LevelsStand last left
  stands-trimmed last s = let next : length items ≡ suc many = omega arith in
      grind (arith, common_steps, nat_tests, length-take-le, levels-front, levels-hole, stands-to, take-take, to-stands)

-- the last slot of a vector that ends with no hole
pub ends-live : (items : List KeptNode) (x : KeptNode) → EndsOpen (map opened_by (items ++ x ∷ [])) → is_hole_kind x.kind ≡ false
ends-live items x e = let all = items ++ x ∷ [] in let many = length-append items (x ∷ []) in let seen = seen-at all (length items) x in
    is-held x (λ gone. absurd (grind (arith, e (length items), length-map all opened_by, many, seen, get_or_push items x x (length items) refl)))

-- where there is no hole, the last slot is none
pub full-ends : (items : List KeptNode) → sum_by gap (map opened_by items) ≡ 0 → EndsOpen (map opened_by items)
full-ends items full k long none = absurd (omega (arith, full, get_or-le-sum_by gap (map opened_by items) k None (omega (arith, long)), ap gap none))

-- A vector after an edit of the slice that it lends.

-- where the same nodes are open afterwards, the vector has the items of the slice
pub written_back : (new old : List KeptNode) (n : ℕ) (lent : List KeptNode) → map opened_by new ≡ map opened_by lent → lent ≡ old → length lent ≡ n
    → take n (new ++ drop (length new) old) ≡ new
written_back new old n lent same is long = grind (arith, take-append_seam, length-map)
