-- What a walk prints.
use Rattle.hserialize.proofs.Names.{◌≡◌, ℕ, suc, ◌+◌, ◌<◌, ◌≤◌, List, [], ◌∷◌, ◌++◌, length, refl, sym, ◌∙◌, ap, subst, arith, append_assoc, text_of, ◌^◌, append-nil, Texts, Forest, none, tree, children_of, mapped, tree_lines, tree_text, Taken, AddsBytes, Fails, AreCounted, depth_after, visit_lines, visits, Whole, Visit, Leave, Refusal}
use Rattle.hserialize.proofs.Output.{HasLeft, none_put, part_put, part_failed}
use Rattle.hserialize.proofs.Seen.{Seen, seen}

module _ (texts : ℕ → List ℕ) (f : Forest ℕ) where
  -- what visits print
  abbrev pub visits_lines : ℕ → List Visit → List ℕ
  visits_lines depth [] = []
  visits_lines depth (v ∷ left) = visit_lines texts f depth v ++ visits_lines (depth_after v depth) left

  prints : (made root p : ℕ) (g : Forest ℕ) → Seen made f root p g → (depth : ℕ) (more : List Visit)
      → visits_lines depth (visits Whole g ++ more) ≡ tree_lines depth (mapped texts g) ++ visits_lines depth more
  prints made root p none s depth more = refl
  prints made root p (tree b w kids rest) s depth more = rw (s.0.what, append_assoc (visits Whole kids) (Leave b ∷ visits Whole rest) more)
      (rw (prints made root b kids s.1 (suc depth) (Leave b ∷ (visits Whole rest ++ more)), prints made root p rest s.2 depth more) (simp append_assoc))

deepens : (v : Visit) (depth : ℕ) → depth_after v depth ≤ depth + 1
deepens v depth = grind arith

-- The visits that are left print the rest of the text.
pub record IsPutting (names : Texts) (f : Forest ℕ) (root depth : ℕ) (old now : Taken) (left : List Visit) : Type 0 where
  pub few : depth + length left < 2 ^ 33
  pub printing : HasLeft old now (tree_text (mapped (text_of names) (children_of root f))) (visits_lines (text_of names) f depth left)

pub begun_putting : (names : Texts) (made : ℕ) (f : Forest ℕ) (root : ℕ) (old : Taken) (left items : List Visit) → AreCounted made f → root < made
    → left ≡ items → items ≡ visits Whole (children_of root f) → length items < 2 ^ 33 → IsPutting names f root 0 old old left
begun_putting names made f root old left items counted h same visited few = let trees = children_of root f in
    rw same (record {
      few = omega (arith, few);
      printing = rw (visited, ← append-nil (visits Whole trees), prints (text_of names) f made root root trees (seen made f counted root h) 0 [])
          (rw (append-nil (tree_lines 0 (mapped (text_of names) trees))) (none_put old (tree_text (mapped (text_of names) trees))));
    })

module _ (names : Texts) (f : Forest ℕ) (root depth : ℕ) (old now : Taken) (v : Visit) (before left : List Visit) (is : before ≡ v ∷ left)
    (s : IsPutting names f root depth old now before) where
  -- one visit more
  pub put_more : (depth' : ℕ) (new : Taken) → depth' ≡ depth_after v depth → AddsBytes now new (visit_lines (text_of names) f depth v)
      → IsPutting names f root depth' old new left
  put_more depth' new e h = record {
    few = let long = subst (λ l. depth + length l < 2 ^ 33) is s.few in let deep = deepens v depth in omega (arith, long, e, deep);
    printing = part_put old now new _ _ _ _ s.printing
        (ap (visits_lines (text_of names) f depth) is ∙ ap (λ k. visit_lines (text_of names) f depth v ++ visits_lines (text_of names) f k left) (sym e)) h;
  }

  -- one that failed
  pub put_failed : (new : Taken) {e : Refusal} → Fails e now new (visit_lines (text_of names) f depth v)
      → Fails e old new (tree_text (mapped (text_of names) (children_of root f)))
  put_failed new h =
      part_failed old now new _ _ _ (visits_lines (text_of names) f (depth_after v depth) left) s.printing (ap (visits_lines (text_of names) f depth) is) h
