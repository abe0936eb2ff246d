-- Open nodes that were made, and texts that are put one by one.
use Rattle.hadopt.proofs.Names.{◌≡◌, ℕ, zero, suc, ◌+◌, ◌<◌, ◌≤◌, Bool, true, List, [], ◌∷◌, ◌++◌, Option, Some, None, cond_both, some_same, refl, sym, subst, arith, drop, take, find, slice_get, reverse, reverse_onto, option_map, IfSome, OnOk, OnErr, Result, open_of, OpenNode, OpenNodes, current, popped_past, Each, AreMade, Ok, Err, false, leb, cond, is_none, length, map, ◌∙◌, ap, ◌⊎◌, inl, inr, le-leb, encode_utf8, IfErr, ◌&&◌, chars, not-there, Nodes, AreNodes, IsPlace, text_before, char_into, with_char, add_char, text, tree, none, change_what, Place, placed, Placed, Refusal, TooManyNodes, Memory, Gives, put_each, Outcome, Goes, Refused, and_then, SiteOf, trees, Open, leb-true, nil_from_length, chars-nil, encodes-chars, len_utf8, ◌↔◌, encode_utf8_all, IsUtf8, IsTextBefore, is-text_before, text_before-is, text_before-longer, add_chars}
use Rattle.hadopt.proofs.Lists.{each-map}
use Rattle.hnodes.proofs.Placed.{placed as placed_at, graft-made, placed-text}
use Rattle.hadopt.proofs.Choices.{by_zero}

pub more : (k m : ℕ) (stack : List (OpenNode ℕ)) → k ≤ m → AreMade k stack → AreMade m stack
more k m stack le made = each-map _ _ (λ x p. (p.0, omega (arith, p.1))) stack made

-- what is found among open nodes
module _ (P : OpenNode ℕ → Type 0) where
  this : (x : Open) (y : OpenNode ℕ) → open_of x ≡ y → P y → P (open_of x)
  this x y is p = subst P (sym is) p

  pub each-got : (stack : List (OpenNode ℕ)) (i : ℕ) (o : Option Open) → option_map open_of o ≡ slice_get stack i → Each P stack → IfSome o (λ x. P (open_of x))
  each-got stack i None is e = tt
  each-got [] i (Some x) is e = cc
  each-got (y ∷ up) zero (Some x) is e = this x y (cc) e.0
  each-got (y ∷ up) (suc i) (Some x) is e = each-got up i (Some x) is e.1

  pub each-current : (stack : List (OpenNode ℕ)) (o : Option Open) → option_map open_of o ≡ current stack → Each P stack → IfSome o (λ x. P (open_of x))
  each-current stack None is e = tt
  each-current [] (Some x) is e = cc
  each-current (y ∷ up) (Some x) is e = this x y (cc) e.0

  pub each-found : (test : OpenNode ℕ → Bool) (stack : List (OpenNode ℕ)) (o : Option Open) → option_map open_of o ≡ find test stack → Each P stack
      → IfSome o (λ x. P (open_of x))
  each-found test stack None is e = tt
  each-found test [] (Some x) is e = cc
  each-found test (y ∷ up) (Some x) is e = cond_both (test y) (Some y) (find test up) (λ o. Some (open_of x) ≡ o → P (open_of x))
      (λ _ h. this x y (some_same (open_of x) y h) e.0) (λ _ h. each-found test up (Some x) h e.1) is

  pub each-take : (n : ℕ) (stack : List (OpenNode ℕ)) → Each P stack → Each P (take n stack)
  each-take zero stack e = tt
  each-take (suc n) [] e = tt
  each-take (suc n) (x ∷ up) e = (e.0, each-take n up e.1)

  each-join : (xs ys : List (OpenNode ℕ)) → Each P xs → Each P ys → Each P (xs ++ ys)
  each-join [] ys a b = b
  each-join (x ∷ xs) ys a b = (a.0, each-join xs ys a.1 b)

  pub each-reverse : (stack : List (OpenNode ℕ)) → Each P stack → Each P (reverse stack)
  each-reverse [] e = e
  each-reverse (x ∷ up) e = rw (reverse_onto up x []) (each-join (reverse up) (x ∷ []) (each-reverse up e.1) (e.0, tt))

pub within : (k : ℕ) (o : Option Open) → IfSome o (λ x. (0 < x.node) × (x.node < k)) → IfSome o (λ x. x.node < k)
within k None h = tt
within k (Some x) h = h.1

-- the current node goes, if it passes
pub past-step : (test : OpenNode ℕ → Bool) (stack : List (OpenNode ℕ)) (x : OpenNode ℕ) → current stack ≡ Some x → test x ≡ true
    → popped_past test (drop 1 stack) ≡ popped_past test stack
past-step test [] x is passes = cc
past-step test (y ∷ up) x is passes = let same : y ≡ x = cc in rw (same, passes) refl

-- a call that changes the open nodes, or nothing
pub made-after : {A E : Type 0} (r : Result A E) (k : ℕ) (open_now : List (OpenNode ℕ)) (old new : OpenNodes ℕ) → OnOk r (new ≡ record old { stack = open_now })
    → OnErr r (new ≡ old) → AreMade k open_now → AreMade k old.stack → AreMade k new.stack
made-after (Ok a) k open_now old new ok err now made = rw ok now
made-after (Err e) k open_now old new ok err now made = rw err made

-- A run of characters is put as its characters are, one by one: behind the first one there is a text, so none of the others makes a node.

abbrev pub characters : List Placed → List ℕ
characters ps = map (λ p. p.ch) ps

characters-placed : (at : ℕ) (cs : List ℕ) → characters (placed at cs) ≡ cs
characters-placed at [] = refl
characters-placed at (c ∷ cs) = ap (λ (x : List ℕ). c ∷ x) (characters-placed (at + len_utf8 c) cs)

module _ {N : Type 0} (place : Place) where
  abbrev joined : List Placed → SiteOf N → Outcome (SiteOf N)
  joined ps s = Goes (record s { nodes = add_chars (characters ps) place s.nodes })

  -- where a text is before the place
  each-joins : (ps : List Placed) (s : SiteOf N) (n : ℕ) → IsTextBefore place (trees s) n → put_each ps place s ≡ joined ps s
  each-joins [] s n is = refl
  each-joins (p ∷ ps) s n is = let there = text_before-is place (trees s) n is in
      let first : add_char p.ch place s.nodes ≡ record s.nodes { trees = change_what n (with_char p.ch) (trees s) } =
      ap (λ o. char_into p.ch place o s.nodes) there in
      let still : IsTextBefore place (add_char p.ch place s.nodes).trees n =
      subst (λ (t : Nodes N). IsTextBefore place t.trees n) (sym first) (text_before-longer place (trees s) n (encode_utf8 p.ch) is) in
      ap (λ o.
      and_then (cond (is_none o && leb s.nodes.limit s.nodes.made) (Refused (TooManyNodes p.at)) (Goes (record s { nodes = add_char p.ch place s.nodes })))
      (put_each ps place)) there ∙ each-joins ps (record s { nodes = add_char p.ch place s.nodes }) n still

  -- where none does, and there is room for a node
  each-makes : (p : Placed) (ps : List Placed) (s : SiteOf N) → AreNodes s.nodes → IsPlace place s.nodes → text_before place (trees s) ≡ None
      → leb s.nodes.limit s.nodes.made ≡ false → put_each (p ∷ ps) place s ≡ joined (p ∷ ps) s
  each-makes p ps s nodes is none_there room = let t = s.nodes in let absent = not-there t.made t.trees nodes.counted t.made (omega arith) in
      let begun = graft-made t.made (text (encode_utf8 p.ch)) place t.trees absent in
      let first : add_char p.ch place t ≡ record t { made = t.made + 1; trees = placed_at place (tree t.made (text (encode_utf8 p.ch)) none none) t.trees } =
      ap (λ o. char_into p.ch place o t) none_there ∙ (λ i. record t { made = t.made + 1; trees = begun i }) in
      let still : IsTextBefore place (add_char p.ch place t).trees t.made =
      subst (λ (u : Nodes N). IsTextBefore place u.trees t.made) (sym first) (placed-text place t (encode_utf8 p.ch) nodes.counted is) in
      ap (λ v. and_then (cond (is_none (text_before place t.trees) && v) (Refused (TooManyNodes p.at)) (Goes (record s { nodes = add_char p.ch place t })))
      (put_each ps place)) room
      ∙ ap (λ o. and_then (cond (is_none o && false) (Refused (TooManyNodes p.at)) (Goes (record s { nodes = add_char p.ch place t }))) (put_each ps place))
      none_there ∙ each-joins ps (record s { nodes = add_char p.ch place t }) t.made still

  -- where none does, and there is no room
  each-refused : (p : Placed) (ps : List Placed) (s : SiteOf N) → text_before place (trees s) ≡ None → leb s.nodes.limit s.nodes.made ≡ true
      → put_each (p ∷ ps) place s ≡ Refused (TooManyNodes p.at)
  each-refused p ps s none_there full = ap (λ v.
      and_then (cond (is_none (text_before place (trees s)) && v) (Refused (TooManyNodes p.at)) (Goes (record s { nodes = add_char p.ch place s.nodes })))
      (put_each ps place)) full ∙ ap
      (λ o. and_then (cond (is_none o && true) (Refused (TooManyNodes p.at)) (Goes (record s { nodes = add_char p.ch place s.nodes }))) (put_each ps place))
      none_there

  each-put : (ps : List Placed) (s : SiteOf N) → AreNodes s.nodes → IsPlace place s.nodes
      → (0 < length (characters ps) → text_before place (trees s) ≡ None → leb s.nodes.limit s.nodes.made ≡ true → ⊥) → put_each ps place s ≡ joined ps s
  each-put [] s nodes is fits = refl
  each-put (p ∷ ps) s nodes is fits = go (text_before place (trees s)) refl (leb s.nodes.limit s.nodes.made) refl where
    go : (o : Option ℕ) → text_before place (trees s) ≡ o → (v : Bool) → leb s.nodes.limit s.nodes.made ≡ v → put_each (p ∷ ps) place s ≡ joined (p ∷ ps) s
    go (Some n) o v f = each-joins (p ∷ ps) s n (is-text_before place (trees s) n o)
    go None o true f = absurd (fits (omega arith) o f)
    go None o false f = each-makes p ps s nodes is o f

  -- what is put depends on the characters and on the place of the first alone
  pub each-same : (p q : Placed) (ps qs : List Placed) (s : SiteOf N) → AreNodes s.nodes → IsPlace place s.nodes → p.at ≡ q.at
      → characters (p ∷ ps) ≡ characters (q ∷ qs) → put_each (p ∷ ps) place s ≡ put_each (q ∷ qs) place s
  each-same p q ps qs s nodes is at same = go (text_before place (trees s)) refl (leb s.nodes.limit s.nodes.made) refl where
    alike : joined (p ∷ ps) s ≡ joined (q ∷ qs) s
    alike = ap (λ (cs : List ℕ). Goes (record s { nodes = add_chars cs place s.nodes })) same

    go : (o : Option ℕ) → text_before place (trees s) ≡ o → (v : Bool) → leb s.nodes.limit s.nodes.made ≡ v
        → put_each (p ∷ ps) place s ≡ put_each (q ∷ qs) place s
    go (Some n) o v f = let there = is-text_before place (trees s) n o in each-joins (p ∷ ps) s n there ∙ alike ∙ sym (each-joins (q ∷ qs) s n there)
    go None o true f = each-refused p ps s o f ∙ ap (λ (a : ℕ). Refused (TooManyNodes a)) at ∙ sym (each-refused q qs s o f)
    go None o false f = each-makes p ps s nodes is o f ∙ alike ∙ sym (each-makes q qs s nodes is o f)

-- a text has bytes where it has characters
bytes-some : (bytes : List ℕ) → 0 < length (chars bytes) → 0 < length bytes
bytes-some bytes some = by_zero (length bytes)
    (λ e. absurd (let gone : length (chars bytes) ≡ 0 = ap (λ (b : List ℕ). length (chars b)) (nil_from_length bytes e) ∙ ap length chars-nil in omega arith))
    (λ k. k)

pub text-gives : (r : Result (Unit {0}) Refusal) (at : ℕ) (bytes : List ℕ) (place : Place) (s : SiteOf ℕ) (new : Nodes ℕ) → IsUtf8 bytes → AreNodes s.nodes
    → IsPlace place s.nodes → OnOk r (new ≡ add_chars (chars bytes) place s.nodes)
    → ((r ≡ Err (TooManyNodes at)) ↔ ((0 < length bytes) × (text_before place (trees s) ≡ None) × (s.nodes.limit ≤ s.nodes.made)))
    → IfErr r (λ e. (e ≡ TooManyNodes at) ⊎ (e ≡ Memory)) → Gives r (record s { nodes = new }) (put_each (placed at (chars bytes)) place s)
text-gives (Ok tt) at bytes place s new utf8 nodes is ok full refused = let same = characters-placed at (chars bytes) in
    each-put place (placed at (chars bytes)) s nodes is (λ some none_there no_room.
    let clash = full.1 (bytes-some bytes (omega (arith, some, ap length same)), none_there, leb-true s.nodes.limit s.nodes.made no_room) in cc)
    ∙ ap (λ (cs : List ℕ). Goes (record s { nodes = add_chars cs place s.nodes })) same ∙ ap (λ (t : Nodes ℕ). Goes (record s { nodes = t })) (sym ok)
text-gives (Err e) at bytes place s new utf8 nodes is ok full (inr memory) = inl memory
text-gives (Err e) at bytes place s new utf8 nodes is ok full (inl many) = let why = full.0 (ap Err many) in
    inr (go (chars bytes) (encodes-chars bytes utf8) why.0 why.1 (le-leb s.nodes.limit s.nodes.made why.2) ∙ ap Refused (sym many)) where
      go : (cs : List ℕ) → encode_utf8_all cs ≡ bytes → 0 < length bytes → text_before place (trees s) ≡ None → leb s.nodes.limit s.nodes.made ≡ true
          → put_each (placed at cs) place s ≡ Refused (TooManyNodes at)
      go [] mapped some none_there no_room = absurd (let none_left : length bytes ≡ 0 = ap length (sym mapped) in omega arith)
      go (c ∷ cs) mapped some none_there no_room = each-refused place (record { ch = c; at = at }) (placed (at + len_utf8 c) cs) s none_there no_room

-- no node is lost
chars-more : (cs : List ℕ) (place : Place) (t : Nodes ℕ) → t.made ≤ (add_chars cs place t).made
chars-more [] place t = omega arith
chars-more (c ∷ cs) place t = omega (arith, one (text_before place t.trees), chars-more cs place (add_char c place t)) where
  one : (o : Option ℕ) → t.made ≤ (char_into c place o t).made
  one None = omega arith
  one (Some n) = omega arith

pub made-after_text : {A : Type 0} (r : Result A Refusal) (cs : List ℕ) (place : Place) (old new : Nodes ℕ) (stack : List (OpenNode ℕ))
    → OnOk r (new ≡ add_chars cs place old) → OnErr r (new ≡ old) → AreMade old.made stack → AreMade new.made stack
made-after_text (Ok a) cs place old new stack ok err made = rw ok (more old.made (add_chars cs place old).made stack (chars-more cs place old) made)
made-after_text (Err e) cs place old new stack ok err made = rw err made
