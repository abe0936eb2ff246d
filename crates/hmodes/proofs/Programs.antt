-- What holds of a program where it holds of each of its words: what is said of flows, and one induction over programs.
use Rattle.hmodes.proofs.Vocabulary.{cond_both, ◌≡◌, ℕ, Bool, true, false, ◌&&◌, List, [], ◌∷◌, refl, Placed, Refusal, Naming, Outcome, Goes, SiteOf, Do, ◌▸◌, when, unless, choose, fostered, each_pending, Token, character, State, Flow, Done, Again, Refused, flow_then, flow_map, answer_of, perform, with_foster, with_control, with_site, each_of, flow_of}
use Rattle.hadopt.specs.Site as site
use Rattle.hmodes.proofs.Every.{both}

module _ {N : Type 0} where
  -- what holds of a flow: of the state that it ends in, of the token and the state that go again, of what refuses it
  abbrev pub Comes : (State N → Type 0) → (Token N → State N → Type 0) → (Refusal → Type 0) → Flow N → Type 0
  Comes D A R (Done s) = D s
  Comes D A R (Again t s) = A t s
  Comes D A R (Refused r) = R r

  -- the same of an operation on the site
  abbrev pub SiteComes : (SiteOf N → Type 0) → (Refusal → Type 0) → Outcome (SiteOf N) → Type 0
  SiteComes P R (Goes x) = P x
  SiteComes P R (site.Refused r) = R r

  pub comes-less : (D E : State N → Type 0) (A B : Token N → State N → Type 0) (R : Refusal → Type 0) → ((s : State N) → D s → E s)
      → ((t : Token N) (s : State N) → A t s → B t s) → (f : Flow N) → Comes D A R f → Comes E B R f
  comes-less D E A B R g k (Done s) h = g s h
  comes-less D E A B R g k (Again t s) h = k t s h
  comes-less D E A B R g k (Refused r) h = h

  pub comes-then : (D E : State N → Type 0) (A : Token N → State N → Type 0) (R : Refusal → Type 0) (f : Flow N) (g : State N → Flow N) → Comes D A R f
      → ((s : State N) → D s → Comes E A R (g s)) → Comes E A R (flow_then f g)
  comes-then D E A R (Done s) g h k = k s h
  comes-then D E A R (Again t s) g h k = h
  comes-then D E A R (Refused r) g h k = h

  pub comes-site : (D : State N → Type 0) (A : Token N → State N → Type 0) (R : Refusal → Type 0) (s : State N) (o : Outcome (SiteOf N))
      → SiteComes (λ x. D (with_site x s)) R o → Comes D A R (flow_of s o)
  comes-site D A R s (Goes x) h = h
  comes-site D A R s (site.Refused r) h = h

  pub comes-map : (D : State N → Type 0) (A : Token N → State N → Type 0) (R : Refusal → Type 0) (m : State N → State N) → ((s : State N) → D s → D (m s))
      → ((t : Token N) (s : State N) → A t s → A t (m s)) → (f : Flow N) → Comes D A R f → Comes D A R (flow_map m f)
  comes-map D A R m g k (Done s) h = g s h
  comes-map D A R m g k (Again t s) h = k t s h
  comes-map D A R m g k (Refused r) h = h

  pub comes-each : (D : State N → Type 0) (A : Token N → State N → Type 0) (R : Refusal → Type 0) (f : Placed → State N → Flow N)
      → ((c : Placed) (s : State N) → D s → Comes D A R (f c s)) → (cs : List Placed) (s : State N) → D s → Comes D A R (each_of f cs s)
  comes-each D A R f k [] s h = h
  comes-each D A R f k (c ∷ cs) s h = comes-then D D A R (f c s) (each_of f cs) (k c s h) (comes-each D A R f k cs)

-- whether each word of a program passes a test, which may be another one for what is done with pending characters
abbrev pub each_word : (test : Bool → Do → Bool) → (is_token : Bool) → Do → Bool
each_word test v (p ▸ q) = each_word test v p && each_word test v q
each_word test v (when question p) = each_word test v p
each_word test v (unless question p) = each_word test v p
each_word test v (choose question p q) = each_word test v p && each_word test v q
each_word test v (fostered p) = each_word test v p
each_word test v (each_pending p) = each_word test false p
each_word test v p = test v p

abbrev pub is_word : Do → Bool
is_word (p ▸ q) = false
is_word (when question p) = false
is_word (unless question p) = false
is_word (choose question p q) = false
is_word (fostered p) = false
is_word (each_pending p) = false
is_word p = true

module _ {N : Type 0} (n : Naming N) (test : Bool → Do → Bool) (T : Bool → Token N → Type 0) (D : State N → Type 0) (A : Token N → State N → Type 0)
    (R : Refusal → Type 0) (of_character : (c : ℕ) → T false (character c)) (flagged : (v : Bool) (s : State N) → D s → D (with_foster v s))
    (flagged_again : (t : Token N) (s : State N) → A t s → A t (with_foster false s))
    (emptied : (s : State N) → D s → D (with_control (record s.control { pending = [] }) s)) (word : (v : Bool) (p : Do) → is_word p ≡ true
    → test v p ≡ true → (at : ℕ) (t : Token N) → T v t → (s : State N) → D s → Comes D A R (perform n at t p s)) where
  pub perform-comes : (v : Bool) (p : Do) → each_word test v p ≡ true → (at : ℕ) (t : Token N) → T v t → (s : State N) → D s → Comes D A R (perform n at t p s)
  perform-comes v (p ▸ q) e at t h s d = let parts = both (each_word test v p) (each_word test v q) e in
      comes-then D D A R (perform n at t p s) (perform n at t q) (perform-comes v p parts.0 at t h s d) (perform-comes v q parts.1 at t h)
  perform-comes v (when question p) e at t h s d = cond_both (answer_of n t question s) _ _ (Comes D A R) (λ _. perform-comes v p e at t h s d) (λ _. d)
  perform-comes v (unless question p) e at t h s d = cond_both (answer_of n t question s) _ _ (Comes D A R) (λ _. d) (λ _. perform-comes v p e at t h s d)
  perform-comes v (choose question p q) e at t h s d = let parts = both (each_word test v p) (each_word test v q) e in
      cond_both (answer_of n t question s) _ _ (Comes D A R) (λ _. perform-comes v p parts.0 at t h s d) (λ _. perform-comes v q parts.1 at t h s d)
  perform-comes v (fostered p) e at t h s d = comes-map D A R (with_foster false) (flagged false) flagged_again (perform n at t p (with_foster true s))
      (perform-comes v p e at t h (with_foster true s) (flagged true s d))
  perform-comes v (each_pending p) e at t h s d =
      comes-each D A R (λ c. perform n c.at (character c.ch) p) (λ c. perform-comes false p e c.at (character c.ch) (of_character c.ch)) s.control.pending
      (with_control (record s.control { pending = [] }) s) (emptied s d)
  perform-comes v p e at t h s d = word v p refl e at t h s d
