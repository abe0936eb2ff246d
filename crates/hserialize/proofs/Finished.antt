-- Texts that are written by way of a buffer, from its beginning to its end.
use Rattle.hserialize.proofs.Names.{◌≡◌, ℕ, List, ◌++◌, Option, Result, Ok, Err, refl, sym, ap, subst, ◌∙◌, IsErrAnd, Appends, Appends-trans, Refusal, Write, counted, WritesText, text_cut, text_written, written_so_far, AddsBytes, Fails, append_assoc, EndsOutput, IsNewWriter, Writer}

module _ {W : Type 0} (written : W → Option (List ℕ)) (failed : W → ℕ) (text : List ℕ) (old last : W) (begun : Writer W) (called : ℕ)
    (begins : IsNewWriter called old begun) where
  -- what a buffer says of its target is so of the target that it leaves
  left : (P : W → W → Type 0) (now : W) → last ≡ now → P begun.target.now now → P old last
  left P now is h = subst (λ w. P w last) begins.same (subst (P begun.target.now) (sym is) h)

  -- nothing was held first
  from_first : (bytes : List ℕ) → begun.held.now.items ++ text ≡ bytes → text ≡ bytes
  from_first bytes is = ap (λ l. l ++ text) (sym begins.none) ∙ is

  cut : (beginning rest : List ℕ) (now : W) {e : Refusal} → e ≡ Write → text ≡ beginning ++ rest → last ≡ now
      → Appends (written begun.target.now) (written now) beginning → failed now ≡ counted (failed begun.target.now)
      → WritesText written failed text old last (Err e)
  cut beginning rest now why split is appended count = text_cut beginning rest (ap (λ (x : Refusal). Err x) why) split
      (left (λ a b. Appends (written a) (written b) beginning) now is appended) (left (λ a b. failed b ≡ counted (failed a)) now is count)

  -- a write failed
  pub cut_short : (put' : Writer W) {e : Refusal} (r : Result (Unit {0}) Refusal) → IsErrAnd r (λ y. y ≡ e)
      → Fails e (written_so_far written failed begun) (written_so_far written failed put') text → (called ≡ put'.target.ghost_name → last ≡ put'.target.now)
      → WritesText written failed text old last r
  cut_short put' (Ok _) is h ends = absurd is
  cut_short put' (Err y) is h ends = let (beginning, rest, split, some, appended) = h.beginning in
      cut beginning rest put'.target.now (is ∙ h.why) (from_first _ split) (ends (sym (h.name ∙ begins.name_is))) appended h.failed

  -- all writes were done, and then what was held was handed on, or not
  pub finished : (put' ended : Writer W) (r : Result (Unit {0}) Refusal)
      → AddsBytes (written_so_far written failed begun) (written_so_far written failed put') text
      → EndsOutput (written_so_far written failed put') (written_so_far written failed ended) r → (called ≡ ended.target.ghost_name → last ≡ ended.target.now)
      → WritesText written failed text old last r
  finished put' ended (Ok _) h (kept, appended, count) ends = let is = ends (sym (kept ∙ h.name ∙ begins.name_is)) in
      let all = Appends-trans _ _ _ h.done put'.held.now.items h.appended appended in
      text_written refl (subst (Appends (written old) (written last)) (sym (from_first _ h.split))
      (left (λ a b. Appends (written a) (written b) (h.done ++ put'.held.now.items)) ended.target.now is all))
      (left (λ a b. failed b ≡ failed a) ended.target.now is (count ∙ h.unfailed))
  finished put' ended (Err e) h (why, kept, done, rest, split, appended, count) ends =
      cut (h.done ++ done) rest ended.target.now why (from_first _ h.split ∙ ap (λ l. h.done ++ l) split ∙ sym (append_assoc h.done done rest))
      (ends (sym (kept ∙ h.name ∙ begins.name_is))) (Appends-trans _ _ _ h.done done h.appended appended) (count ∙ ap counted h.unfailed)
