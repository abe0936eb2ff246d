-- What the rows say after a write, and after a push.
use Rattle.hnodes.proofs.Names.{◌≡◌, ℕ, zero, suc, ◌<◌, List, [], ◌∷◌, ◌++◌, Some, length, get_or, set, refl, sym, ◌∙◌, ap, subst, arith, Row, at_row, row_of, look_in, contents_of, AreKept, IsAmong, IsChanged, IsGrown, IsKept, Node, NodeData, Store, Option, None, with_place, after_link, before_link, spliced, detached, IsSeenAs, HoldsAt, length-map, map-append, get_or-map, map-set, map-set_same, All-push, All-set, ◌+◌, drop, map, append_assoc, IfSome, All-head, element, text, comment, content_is, Attribute, Adds, AreTexts, Holds, IsLonger, IsRun, IsText, StoredAttr, Run, run_in, stored_attribute, IsUtf8-append, between_is, All-tail, All-weaker, take-append-le, take_all, drop-append-le, length-append, append-nil}
use Rattle.std.specs.Prelude.{IsUtf8}
use Rattle.hnodes.specs.declared.node.NodeData.TheVariants as content

-- What a run has stays what it is when more comes after it.

module _ {X : Type 0} where
  pub run-more : (r : Run) (xs ys : List X) → IsRun r xs → run_in r (xs ++ ys) ≡ run_in r xs
  run-more r xs ys h = let e = take-append-le (r.start + r.len) xs ys h in
      rw (between_is (xs ++ ys) r.start (r.start + r.len), between_is xs r.start (r.start + r.len), e) refl

  -- a run up to the end, when more is added to it
  pub run-longer : (a l : ℕ) (xs ys : List X) → a + l ≡ length xs
      → run_in (record { start = a; len = l + length ys }) (xs ++ ys) ≡ run_in (record { start = a; len = l }) xs ++ ys
  run-longer a l xs ys h =
      between_is (xs ++ ys) a (a + (l + length ys)) ∙ ap (drop a) (take_all (a + (l + length ys)) (xs ++ ys) (omega (arith, length-append xs ys)))
      ∙ drop-append-le a xs ys (omega arith) ∙ ap (λ m. m ++ ys) (ap (drop a) (sym (take_all (a + l) xs (omega arith))) ∙ sym (between_is xs a (a + l)))

  pub is_run-more : (r : Run) (xs ys : List X) → IsRun r xs → IsRun r (xs ++ ys)
  is_run-more r xs ys h = omega (arith, length-append xs ys)

pub is_text-more : (r : Run) (xs ys : List ℕ) → IsText r xs → IsText r (xs ++ ys)
is_text-more r xs ys h = (is_run-more r xs ys h.0, rw (run-more r xs ys h.0) h.1)

pub longer-trans : {X : Type 0} (xs ys zs : List X) → IsLonger xs ys → IsLonger ys zs → IsLonger xs zs
longer-trans xs ys zs h j = (h.0 ++ j.0, j.1 ∙ ap (λ l. l ++ j.0) h.1 ∙ append_assoc xs h.0 j.0)

-- what attributes are stays, whatever is added to the texts
module _ (xs ys : List ℕ) where
  pub stored-more : (attrs : List StoredAttr) → AreTexts xs attrs → map (stored_attribute (xs ++ ys)) attrs ≡ map (stored_attribute xs) attrs
  stored-more [] h = refl
  stored-more (a ∷ attrs) h = λ i. (a.name, run-more a.value xs ys (All-head (λ b. IsText b.value xs) a attrs h.each).0 i)
      ∷ stored-more attrs (record { each = All-tail (λ b. IsText b.value xs) a attrs h.each }) i

  pub texts-more : (attrs : List StoredAttr) → AreTexts xs attrs → AreTexts (xs ++ ys) attrs
  texts-more attrs h = record { each = All-weaker (λ a. IsText a.value xs) (λ a. IsText a.value (xs ++ ys)) (λ a t. is_text-more a.value xs ys t) attrs h.each }

-- attributes that are added one by one
pub adds-one : (attrs : List (Attribute ℕ)) (x : Attribute ℕ) (a : StoredAttr) (old mid new : Store) → Adds attrs old mid → IsLonger mid.texts new.texts
    → IsText a.value new.texts → (a.name, run_in a.value new.texts) ≡ x → new.attrs.items ≡ mid.attrs.items ++ a ∷ [] → Adds (attrs ++ x ∷ []) old new
adds-one attrs x a old mid new are longer is same items = record {
  more = are.more ++ a ∷ [];
  items = items ∙ ap (λ xs. xs ++ a ∷ []) are.items ∙ append_assoc old.attrs.items are.more (a ∷ []);
  values = record {
    each = All-push (λ b. IsText b.value new.texts) are.more a
        (subst (λ t. AreTexts t are.more) (sym longer.1) (texts-more mid.texts longer.0 are.more are.values)).each is;
  };
  same = map-append (stored_attribute new.texts) are.more (a ∷ [])
      ∙ (λ i. (ap (λ t. map (stored_attribute t) are.more) longer.1 ∙ stored-more mid.texts longer.0 are.more are.values ∙ are.same) i ++ same i ∷ []);
}

-- what the calls of a store answer
pub longer-is : (o : Option Run) (run : Run) (a l : ℕ) (old new more : List ℕ) → IfSome o (λ r. r ≡ record { start = a; len = l }) → a ≡ run.start
    → l ≡ run.len + length more → run.start + run.len ≡ length old → new ≡ old ++ more → IsText run old → IsUtf8 more
    → IfSome o (λ r. IsText r new × (run_in r new ≡ run_in run old ++ more))
longer-is None run a l old new more is e f h n t u = tt
longer-is (Some r) run a l old new more is e f h n t u =
    let whole : r ≡ record { start = run.start; len = run.len + length more } = is ∙ (λ i. record { start = e i; len = f i }) in
    let same : run_in r new ≡ run_in run old ++ more = rw (whole, n) (run-longer run.start run.len old more h) in
    ((rw (whole, n) (omega (arith, length-append old more)), subst IsUtf8 (sym same) (IsUtf8-append _ _ t.1 u)), same)

-- a store that nothing is added to
pub same-grown : (s : Store) → IsGrown s s
same-grown s = record { texts = ([], sym (append-nil s.texts)); attrs = ([], sym (append-nil s.attrs.items)) }

-- what a node holds stays, whatever is added to the store
pub grown-holds : (old new : Store) (c : NodeData) → IsGrown old new → IsKept old c → Holds new c (content_is old c)
grown-holds old new (content.Element name r) g k =
    let run : run_in r new.attrs.items ≡ run_in r old.attrs.items = ap (run_in r) g.attrs.1 ∙ run-more r old.attrs.items g.attrs.0 k.inside in
    let there = subst (AreTexts old.texts) (sym run) k.values in (
      record {
        inside = subst (IsRun r) (sym g.attrs.1) (is_run-more r old.attrs.items g.attrs.0 k.inside);
        values = subst (λ t. AreTexts t (run_in r new.attrs.items)) (sym g.texts.1) (texts-more old.texts g.texts.0 (run_in r new.attrs.items) there);
      },
      ap (element name) (ap (λ t. map (stored_attribute t) (run_in r new.attrs.items)) g.texts.1
          ∙ stored-more old.texts g.texts.0 (run_in r new.attrs.items) there ∙ ap (map (stored_attribute old.texts)) run),
    )
grown-holds old new (content.Comment r) g k =
    (subst (IsText r) (sym g.texts.1) (is_text-more r old.texts g.texts.0 k), ap comment (ap (run_in r) g.texts.1 ∙ run-more r old.texts g.texts.0 k.0))
grown-holds old new (content.Text r) g k =
    (subst (IsText r) (sym g.texts.1) (is_text-more r old.texts g.texts.0 k), ap text (ap (run_in r) g.texts.1 ∙ run-more r old.texts g.texts.0 k.0))
grown-holds old new _ g k = (tt, refl)

-- what holds at a place holds of the node that was read there
pub read_at : (P : Node → Type 0) (xs : List Node) (k j : ℕ) (x : Node) → j ≡ k → x ≡ get_or xs j x → HoldsAt P xs k → P x
read_at P xs k j x same e h = subst P (sym (e ∙ ap (λ (m : ℕ). get_or xs m x) same)) (h x)

pub neighbours : (count : ℕ) (xs : List Node) (k j : ℕ) (x : Node) → j ≡ k → x ≡ get_or xs j x → HoldsAt (IsAmong count) xs k → IsAmong count x
neighbours count = read_at (IsAmong count)

module _ (s : Store) where
  pub look_in-set : (xs : List Node) (k : ℕ) (x y : Node) (f : Row ℕ → Row ℕ) → k < length xs → x ≡ get_or xs k x → row_of s y ≡ f (row_of s x) → (n : ℕ)
      → look_in s (set xs k y) n ≡ at_row k f (look_in s xs) n
  look_in-set [] k x y f h e r n = absurd (omega arith)
  look_in-set (z ∷ zs) zero x y f h e r zero = ap (λ m. Some m) (r ∙ ap (λ m. f (row_of s m)) e)
  look_in-set (z ∷ zs) (suc k) x y f h e r (suc n) = grind (arith, look_in-set zs k x y f (omega arith) e r n)
  look_in-set (z ∷ zs) _ x y f h e r _ = grind arith

  pub look_in-at : (xs : List Node) (k : ℕ) (x : Node) → k < length xs → look_in s xs k ≡ Some (row_of s (get_or xs k x))
  look_in-at [] k x h = absurd (omega arith)
  look_in-at (z ∷ zs) zero x h = refl
  look_in-at (z ∷ zs) (suc k) x h = look_in-at zs k x (omega arith)

  pub look_in-before : (xs : List Node) (y : Node) (n : ℕ) → n < length xs → look_in s (xs ++ y ∷ []) n ≡ look_in s xs n
  look_in-before [] y n h = absurd (omega arith)
  look_in-before (x ∷ xs) y zero h = refl
  look_in-before (x ∷ xs) y (suc n) h = look_in-before xs y n (omega arith)

  pub look_in-last : (xs : List Node) (y : Node) → look_in s (xs ++ y ∷ []) (length xs) ≡ Some (row_of s y)
  look_in-last [] y = refl
  look_in-last (x ∷ xs) y = look_in-last xs y

  -- the row of a node that was read
  pub row_seen : (xs : List Node) (k j : ℕ) (x : Node) → j ≡ k → k < length xs → x ≡ get_or xs j x → look_in s xs k ≡ Some (row_of s x)
  row_seen xs k j x same h g = look_in-at xs k x h ∙ ap (λ m. Some (row_of s m)) (ap (λ (m : ℕ). get_or xs m x) (sym same) ∙ sym g)

  pub kept-at : (xs : List Node) (k j : ℕ) (x : Node) → j ≡ k → k < length xs → x ≡ get_or xs j x → AreKept s xs → IsKept s x.content
  kept-at xs k j x same h g are = read_at (λ (m : Node). IsKept s m.content) xs k j x same g
      (λ d. subst (IsKept s) (get_or-map (λ (m : Node). m.content) xs k d) (are k d.content (omega (arith, length-map xs (λ (m : Node). m.content)))))

  pub kept-push : (xs : List Node) (y : Node) → AreKept s xs → IsKept s y.content → AreKept s (xs ++ y ∷ [])
  kept-push xs y are is = rw (map-append (λ (m : Node). m.content) xs (y ∷ [])) (All-push (IsKept s) (contents_of xs) y.content are is)

  pub kept-set : (xs : List Node) (j : ℕ) (y : Node) → AreKept s xs → IsKept s y.content → AreKept s (set xs j y)
  kept-set xs j y are is = rw (map-set (λ (m : Node). m.content) xs j y) (All-set (IsKept s) (contents_of xs) j y.content is are)

-- one link of a node is written
pub changed : (xs : List Node) (j k : ℕ) (x y : Node) (f : Row ℕ → Row ℕ) → j ≡ k → k < length xs → x ≡ get_or xs j x → y.content ≡ x.content
    → ((s : Store) → row_of s y ≡ f (row_of s x)) → IsChanged k f xs (set xs j y)
changed xs j k x y f same h e c r = record {
  contents = map-set_same (λ (m : Node). m.content) xs j y x (c ∙ ap (λ (m : Node). m.content) e);
  rows = λ s. rw same (look_in-set s xs k x y f h (e ∙ ap (λ m. get_or xs m x) same) (r s));
}

pub as_many : (a b : List Node) → contents_of b ≡ contents_of a → length b ≡ length a
as_many a b e = sym (length-map b (λ x. x.content)) ∙ ap length e ∙ length-map a (λ x. x.content)

pub kept-grown : (old new : Store) (xs : List Node) → IsGrown old new → AreKept old xs → AreKept new xs
kept-grown old new xs g are k d h = (grown-holds old new _ g (are k d h)).0

-- what is added to a store changes no row
pub look_in-grown : (old new : Store) (xs : List Node) → IsGrown old new → AreKept old xs → (n : ℕ) → look_in new xs n ≡ look_in old xs n
look_in-grown old new [] g are n = refl
look_in-grown old new (x ∷ xs) g are zero =
    ap (λ w. Some (record (row_of old x) { what = w })) (grown-holds old new x.content g (are 0 x.content (omega arith))).1
look_in-grown old new (x ∷ xs) g are (suc n) = look_in-grown old new xs g (λ i d e. are (suc i) d (omega arith)) n

-- What the rows say after several writes.

-- three writes: after one neighbour, before the other, and between them
pub placed_by : (a b c d : List Node) (k q : ℕ) (l r x y : Option ℕ) (f : Row ℕ → Row ℕ) → IsSeenAs (after_link q l y) a b → IsSeenAs (before_link q r x) b c
    → IsChanged k f c d → IsSeenAs (λ look. at_row k f (spliced q l r x y look)) a d
placed_by a b c d k q l r x y f s t u =
    record { contents = u.contents ∙ t.contents ∙ s.contents; rows = λ m n. grind (arith, u.rows m n, t.rows m n, s.rows m n) }

pub detached_by : (a b c d : List Node) (k q : ℕ) (x : Node) → ((m : Store) → look_in m a k ≡ Some (row_of m x)) → x.parent ≡ Some q
    → IsSeenAs (after_link q x.previous x.next) a b → IsSeenAs (before_link q x.next x.previous) b c → IsChanged k (with_place None None None) c d
    → IsSeenAs (detached k) a d
detached_by a b c d k q x seen up s t u = let p = placed_by a b c d k q x.previous x.next x.previous x.next (with_place None None None) s t u in
    record { contents = p.contents; rows = λ m n. rw (seen m, up) (p.rows m n) }

pub stays_by : (a : List Node) (k : ℕ) (x : Node) → ((m : Store) → look_in m a k ≡ Some (row_of m x)) → x.parent ≡ None → IsSeenAs (detached k) a a
stays_by a k x seen up = record { contents = refl; rows = λ m n. rw (seen m, up) refl }
