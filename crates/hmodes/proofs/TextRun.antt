-- Characters that are put as they are.
use Rattle.hmodes.proofs.Vocabulary.{◌≡◌, ℕ, zero, suc, Bool, true, false, List, [], ◌∷◌, ◌++◌, ◌+◌, ◌-◌, length, Option, None, Result, Ok, Err, refl, sym, ap, ◌∙◌, arith, subst, list_all, ◌&&◌, ◌==◌, not, is_none, result_err, and_parts, false≢true, nat_tests, placed, characters, Placed, one_more, one_refused, len_utf8, encode_utf8, repeat, chars, IsUtf8, IsUtf8-nil, IsUtf8-encode, IsUtf8-append, chars-nil, chars_past_char, AreNodes, IsPlace, Hands, Refusal, Place, run_tokens, replacement_run, StartsAt, IsTextWithReferences, Gives, put_each, SiteOf, with_site, State, Token, step_begun, Building, BuilderStands, TakesTokenAt, TakesToken, refused_by, AreSome, puts_in, puts_each, put_all, Alone, Handed, length-append, Continues-all, is_clean, is_not_null, each-same, characters_placed}
use Rattle.htoken.specs.declared.token.Token.TheVariants.{Char}
use Rattle.hmodes.proofs.Begins.{begun_put}
use Rattle.hmodes.proofs.InRun.{taken, stands-on, stands-run}

all_some : (p : ℕ → Bool) → ((x : ℕ) → p x ≡ true → (x == 0) ≡ false) → (cs : List ℕ) → list_all p cs ≡ true → AreSome cs
all_some p some [] h = tt
all_some p some (c ∷ cs) h = let k = and_parts (p c) (list_all p cs) h in (some c k.0, all_some p some cs k.1)

pub some_clean : (cs : List ℕ) → list_all is_clean cs ≡ true → AreSome cs
some_clean = all_some is_clean (λ x h. grind (arith, nat_tests))

pub some_not_null : (cs : List ℕ) → list_all is_not_null cs ≡ true → AreSome cs
some_not_null = all_some is_not_null (λ x h. grind (arith, h, nat_tests))

-- what the test of a state says
off-of : (a b c : Bool) → (not a && not b && c) ≡ true → (a ≡ false) × (b ≡ false) × (c ≡ true)
off-of false false true h = (refl, refl, refl)
off-of _ _ _ h = absurd cc

-- the building after characters were put, once a token has begun in it
abbrev pub after_put : Building → SiteOf ℕ → Result (Unit {0}) Refusal → Building
after_put b x answer = record { state = with_site x (step_begun b.state); root = b.root; tokenizer_errors = b.tokenizer_errors; refused = refused_by answer }

-- a run that is put as a whole is taken character by character, wherever all but the first are
pub run_taken : (b : Building) → b.refused ≡ None → puts_each b.state ≡ true → (at : ℕ) (run : List ℕ) (text : List Placed) → IsTextWithReferences text run at
    → false ≡ (length (chars run) == 0) → AreSome (chars run) → (answer : Result (Unit {0}) Refusal) (x : SiteOf ℕ) → Gives answer x (put_all at text b.state)
    → Hands TakesToken b (run_tokens text) answer (after_put b x answer)
run_taken b free puts at run [] with_references has some answer x g =
    absurd (false≢true (has ∙ ap (λ (cs : List ℕ). length cs == 0) (sym with_references.characters_are)))
run_taken b free puts at run (p ∷ ps) with_references has some answer x g =
    let facts = off-of b.state.site.foster b.state.control.drop_lf (puts_in b.state.control.mode) puts in
    let all : AreSome (characters (p ∷ ps)) = subst AreSome (sym with_references.characters_are) some in
    begun_put b free facts.0 facts.1 facts.2 p all.0 ps answer x all
    (subst (λ (n : ℕ). Gives answer x (put_all n (p ∷ ps) b.state)) (sym with_references.starts) g)

-- the characters of a run one after another are such a text
pub is_with_references : (at : ℕ) (run : List ℕ) → IsTextWithReferences (placed at (chars run)) run at
is_with_references at run = record { characters_are = characters_placed at (chars run); starts = by (chars run) } where
  by : (cs : List ℕ) → StartsAt (placed at cs) at
  by [] = tt
  by (c ∷ cs) = refl

-- and the same is put for each
pub with_references_put : (text : List Placed) (run : List ℕ) (at : ℕ) (to : Place) (s : SiteOf ℕ) → IsTextWithReferences text run at → AreNodes s.nodes
    → IsPlace to s.nodes → put_each (placed at (chars run)) to s ≡ put_each text to s
with_references_put text run at to s with_references nodes here = by (chars run) text with_references.characters_are with_references.starts where
  by : (cs : List ℕ) (text : List Placed) → characters text ≡ cs → StartsAt text at → put_each (placed at cs) to s ≡ put_each text to s
  by [] [] is first = refl
  by [] (p ∷ ps) is first = absurd cc
  by (c ∷ cs) [] is first = absurd cc
  by (c ∷ cs) (p ∷ ps) is first =
      each-same to (record { ch = c; at = at }) p (placed (at + len_utf8 c) cs) ps s nodes here (sym first) (characters_placed at (c ∷ cs) ∙ sym is)

-- and so are those that replace bad parts
pub bad_bytes : 0xEF ∷ 0xBF ∷ 0xBD ∷ [] ≡ encode_utf8 0xFFFD
unfolding encode_utf8
bad_bytes = refl

bad_chars : (n at : ℕ) → IsUtf8 (repeat n (encode_utf8 0xFFFD)) × (chars (repeat n (encode_utf8 0xFFFD)) ≡ characters (replacement_run at n))
bad_chars zero at = (IsUtf8-nil, chars-nil)
bad_chars (suc n) at = let more = bad_chars n (at + 1) in
    let all = IsUtf8-append (encode_utf8 0xFFFD) (repeat n (encode_utf8 0xFFFD)) (IsUtf8-encode 0xFFFD refl) more.0 in
    (all, chars_past_char (repeat (suc n) (encode_utf8 0xFFFD)) (repeat n (encode_utf8 0xFFFD)) 0xFFFD all refl ∙ ap (λ (cs : List ℕ). 0xFFFD ∷ cs) more.1)

module _ (at : ℕ) (run : List ℕ) where
  pub bad_with_references : (n : ℕ) → run ≡ repeat n (encode_utf8 0xFFFD) → IsTextWithReferences (replacement_run at n) run at
  bad_with_references n is = record { characters_are = sym (ap chars is ∙ (bad_chars n at).1); starts = by n } where
    by : (n : ℕ) → StartsAt (replacement_run at n) at
    by zero = tt
    by (suc n) = refl

  pub bad_some : (n : ℕ) → run ≡ repeat n (encode_utf8 0xFFFD) → AreSome (chars run)
  bad_some n is = subst AreSome (bad_with_references n is).characters_are (by n at) where
    by : (n at : ℕ) → AreSome (characters (replacement_run at n))
    by zero at = tt
    by (suc n) at = (refl, by n (at + 1))

-- what an answer says of later calls
pub err_is : (answer : Result (Unit {0}) Refusal) → result_err answer ≡ refused_by answer
err_is (Ok u) = refl
err_is (Err e) = refl

pub ok-of : (answer : Result (Unit {0}) Refusal) → result_err answer ≡ None → answer ≡ Ok tt
ok-of (Ok u) h = refl
ok-of (Err e) h = absurd cc

-- what a call leaves that begins a token, comes to this state, and keeps what was refused
pub left_is : (b old : Building) (s t : State ℕ) (refused : Option Refusal) (answer : Result (Unit {0}) Refusal) → old ≡ b → s ≡ t → refused ≡ result_err answer
    → ◌≡◌ {A = Building} (record { state = s; root = old.root; tokenizer_errors = old.tokenizer_errors; refused = refused })
    (record { state = t; root = b.root; tokenizer_errors = b.tokenizer_errors; refused = refused_by answer })
left_is b old s t refused answer is begins errs = λ i. record
    { state = begins i; root = (is i).root; tokenizer_errors = (is i).tokenizer_errors; refused = (errs ∙ err_is answer) i }

-- the state in which the token begins is that of the building
pub begun_is : (b old : Building) (s : State ℕ) → old ≡ b → s ≡ step_begun old.state → s ≡ step_begun b.state
begun_is b old s is begins = begins ∙ ap (λ (o : Building). step_begun o.state) is

-- what an unrefused building is after tokens, or after one
pub stands_by_run : (ts : List Handed) (old new : Building) (answer : Result (Unit {0}) Refusal) → (old.refused ≡ None → BuilderStands old.root old.state)
    → old.refused ≡ None → result_err answer ≡ None → Hands TakesToken old ts answer new → BuilderStands new.root new.state
stands_by_run ts old new answer stands free none h =
    stands-run ts old new (stands free) free (subst (λ (a : Result (Unit {0}) Refusal). Hands TakesToken old ts a new) (ok-of answer none) h)

pub stands_by_token : (at : ℕ) (t : Token ℕ) (old new : Building) (answer : Result (Unit {0}) Refusal) → (old.refused ≡ None → BuilderStands old.root old.state)
    → old.refused ≡ None → result_err answer ≡ None → TakesTokenAt at t old answer new → BuilderStands new.root new.state
stands_by_token at t old new answer stands free none h = stands-on at t old new (stands free)
    (taken at t old new (Ok tt) free (subst (λ (a : Result (Unit {0}) Refusal). TakesTokenAt at t old a new) (ok-of answer none) h))

-- what the test of a run or a character says
pub test_parts : (nothing : Bool) (refused : Option Refusal) (whole : Bool) → (not nothing && is_none refused && whole) ≡ true
    → (nothing ≡ false) × (refused ≡ None) × (whole ≡ true)
test_parts false None whole h = (refl, refl, h)
test_parts _ _ _ h = absurd cc

-- what is left of a run whose first character was taken, as `as_str` gives it
pub rest_is : {run chars left rest : List ℕ} (c : ℕ) → chars ≡ run → chars ≡ encode_utf8 c ++ left → rest ≡ left → run ≡ encode_utf8 c ++ rest
rest_is c from is now = cc

-- what is left of a run of plain characters is one
pub rest_clean : (run rest : List ℕ) (c : ℕ) → IsUtf8 run → run ≡ encode_utf8 c ++ rest → list_all is_clean (chars run) ≡ true
    → list_all is_clean (chars rest) ≡ true
rest_clean run rest c u is h = (and_parts (is_clean c) (list_all is_clean (chars rest)) (sym (ap (list_all is_clean) (chars_past_char run rest c u is)) ∙ h)).1

-- A run is taken whose first character was taken by itself, and then what is left.
abbrev token : Placed → Handed
token p = Alone (Char p.ch p.at)

module _ (b mid : Building) (at : ℕ) (run rest : List ℕ) (c : ℕ) (u : IsUtf8 run) (is : run ≡ encode_utf8 c ++ rest) where
  pub rest_taken : (next : ℕ) → next ≡ at + (length run - length rest) → TakesToken b (Alone (Char c at)) (Ok tt) mid
      → (answer : Result (Unit {0}) Refusal) (new : Building) → Hands TakesToken mid (run_tokens (placed next (chars rest))) answer new
      → Hands TakesToken b (run_tokens (placed at (chars run))) answer new
  rest_taken next here given answer new h =
      one_more TakesToken token b (run_tokens (placed at (chars run))) b at run (Continues-all TakesToken b (run_tokens (placed at (chars run)))) c rest u is at
      refl mid next (omega (arith, here, ap length is, length-append (encode_utf8 c) rest)) given answer new h

  pub first_refused : (e : Refusal) → TakesToken b (Alone (Char c at)) (Err e) mid → Hands TakesToken b (run_tokens (placed at (chars run))) (Err e) mid
  first_refused e given = one_refused TakesToken token b (run_tokens (placed at (chars run))) b at run
      (Continues-all TakesToken b (run_tokens (placed at (chars run)))) c rest u is at refl mid e given
