-- How many nodes there are inside a node, at most.
use Rattle.hnodes.proofs.Names.{◌≡◌, ℕ, zero, suc, ◌+◌, ◌<◌, ◌≤◌, eqb, length, refl, ap, arith, eq-eqb, eqb-false, What, Forest, none, tree, times, tree_at, children_of, size, order, AreCounted, length-append, cond_both}
use Rattle.hnodes.proofs.Counted.{is-there, was-made, at-most}
use Rattle.hnodes.proofs.Families.{family}
use Rattle.hnodes.proofs.Inside.{tree_at-size}

-- how many nodes have a number below k, each as often as it is there
abbrev total : ℕ → Forest ℕ → ℕ
total zero f = 0
total (suc k) f = total k f + times k f

marked : (k b : ℕ) (w : What ℕ) → b < k → 1 ≤ total k (tree b w none none)
marked zero b w h = absurd (omega arith)
marked (suc k) b w h = cond_both (eqb b k) 1 0 (λ n. 1 ≤ total k (tree b w none none) + (n + 0)) (λ _. omega arith) (λ e.
    omega (arith, marked k b w (omega (arith, eqb-false b k e))))

total-none : (k : ℕ) → total k none ≡ 0
total-none zero = refl
total-none (suc k) = omega (arith, total-none k)

total-tree : (k b : ℕ) (w : What ℕ) (kids rest : Forest ℕ) → total k (tree b w kids rest) ≡ total k (tree b w none none) + (total k kids + total k rest)
total-tree zero b w kids rest = refl
total-tree (suc k) b w kids rest = omega (arith, total-tree k b w kids rest)

size-total : (k : ℕ) (f : Forest ℕ) → ((n : ℕ) → 0 < times n f → n < k) → size f ≤ total k f
size-total k none h = omega (arith, total-none k)
size-total k (tree b w kids rest) h = omega
    (arith, total-tree k b w kids rest, marked k b w (h b there), size-total k kids (λ n p. h n (omega arith)), size-total k rest (λ n p. h n (omega arith)))
  where
    there : 0 < times b (tree b w kids rest)
    there = rw (eq-eqb b b refl) (omega arith)

module _ (made : ℕ) (f : Forest ℕ) (counted : AreCounted made f) where
  total-most : (k : ℕ) → total k f ≤ k
  total-most zero = omega arith
  total-most (suc k) = omega (arith, total-most k, at-most made f counted k)

  -- there are as many nodes inside a node as were made, or fewer
  pub inside-few : (q : ℕ) → q < made → size (children_of q f) ≤ made
  inside-few q h = let fam = family q f (is-there made f counted q h) in let a : size (tree_at q f) ≡ 1 + (size (children_of q f) + 0) = ap size fam.1 in
      omega (arith, tree_at-size q f, size-total made f (was-made made f counted), total-most made)

-- in tree order each node is once
pub order-long : (f : Forest ℕ) → length (order f) ≡ size f
order-long none = refl
order-long (tree b w kids rest) = omega (arith, order-long kids, order-long rest, length-append (order kids) (order rest))
