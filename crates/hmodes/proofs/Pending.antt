-- Runs of pending characters: one that is kept, and white space that is put as one text.
use Rattle.hmodes.proofs.Vocabulary.{by_test, ◌≡◌, inl, ℕ, Bool, true, false, List, [], ◌∷◌, ◌++◌, ◌+◌, ◌<◌, ◌==◌, ◌&&◌, if◌then◌else◌, not, length, Option, Some, None, Result, Ok, Err, refl, sym, ◌∙◌, ap, subst, arith, nat_tests, and_parts, false≢true, list_all, placed, characters, Placed, is_space, len_utf8, encode_utf8, chars, IsUtf8, chars_past_char, StartsAt, slice_get, Hands, Refusal, Memory, TooManyNodes, run_tokens, Place, add_char, text_before, nat_le, is_none, numbers, put_each, Outcome, Goes, SiteOf, and_then, each_of, perform, flow_of, with_site, with_control, State, Flow, character, Char, flow_then, step_begun, put, other_in_table, Building, TakesToken, refused_by, AreSome, char_rule, is_for_text, keeps, pends_each, takes_char, Mode, InTableText, Alone, OnOk, IfErr, encode_utf8_all, IsAscii, append_assoc, append-nil, chars-IsAscii, encodes-IsAscii, IsAscii-cons, IsAscii-nil, characters_placed}
use Rattle.htoken.specs.declared.token.Token.TheVariants as code
use Rattle.hadopt.specs.Inserts as inserts
use Rattle.hadopt.specs.Site as site
use Rattle.hmodes.specs.declared.mode.Mode.TheVariants as mode
use Rattle.hmodes.proofs.OneChar.{taken_by_rule}
use Rattle.hmodes.proofs.OnePut.{here, place-here}

-- A run that is kept.

-- the state with more pending characters, and the building in a state
abbrev pub pended : List Placed → State ℕ → State ℕ
pended ps s = with_control (record s.control { pending = s.control.pending ++ ps }) s

abbrev after : Building → State ℕ → Option Refusal → Building
after b t refused = record { state = t; root = b.root; tokenizer_errors = b.tokenizer_errors; refused = refused }

keeping : (d : Bool) (m : Mode) → (not d && keeps m) ≡ true → (d ≡ false) × (m ≡ InTableText)
keeping true m h = absurd (false≢true h)
keeping false mode.InTableText h = (refl, refl)
keeping false _ h = absurd (false≢true h)

module _ (b : Building) (free : b.refused ≡ None) (pends : pends_each b.state ≡ true) where
  abbrev kept : (b.state.control.drop_lf ≡ false) × (b.state.control.mode ≡ InTableText)
  kept = keeping b.state.control.drop_lf b.state.control.mode pends

  takes : takes_char b.state ≡ true
  takes = ap (λ (d : Bool). not d && is_for_text b.state.control.mode) kept.0 ∙ ap is_for_text kept.1

  -- one character
  one_pended : (p : Placed) → (p.ch == 0) ≡ false → TakesToken b (Alone (code.Char p.ch p.at)) (Ok tt) (after b (pended (p ∷ []) (step_begun b.state)) None)
  one_pended p some = taken_by_rule b free takes p.at p.ch some (Ok tt) (pended (p ∷ []) (step_begun b.state))
      (ap (λ (m : Mode). perform numbers p.at (character p.ch) (char_rule m) (step_begun b.state)) kept.1)

all_pended : (b : Building) → b.refused ≡ None → pends_each b.state ≡ true → (p : Placed) (ps : List Placed) → AreSome (characters (p ∷ ps))
    → Hands TakesToken b (run_tokens (p ∷ ps)) (Ok tt) (after b (pended (p ∷ ps) (step_begun b.state)) None)
all_pended b free pends p [] some = (Ok tt, after b (pended (p ∷ []) (step_begun b.state)) None, one_pended b free pends p some.0, (refl, refl))
all_pended b free pends p (q ∷ qs) some = let begun : State ℕ = step_begun b.state in let mid : Building = after b (pended (p ∷ []) begun) None in
    let rest = subst
    (λ (l : List Placed). Hands TakesToken mid (run_tokens (q ∷ qs)) (Ok tt) (after b (with_control (record begun.control { pending = l }) begun) None))
    (append_assoc b.state.control.pending (p ∷ []) (q ∷ qs)) (all_pended mid refl (ap keeps (kept b free pends).1) q qs some.1) in
    (Ok tt, mid, one_pended b free pends p some.0, rest)

-- the whole run
pub run_pended : (b : Building) → b.refused ≡ None → pends_each b.state ≡ true → (at : ℕ) (cs : List ℕ) → false ≡ (length cs == 0) → AreSome cs
    → (answer : Result (Unit {0}) Refusal) (t : State ℕ) → OnOk answer (t ≡ pended (placed at cs) (step_begun b.state)) → IfErr answer (λ e. e ≡ Memory)
    → Hands TakesToken b (run_tokens (placed at cs)) answer (after b t (refused_by answer))
run_pended b free pends at [] has some answer t ok wrong = absurd (false≢true has)
run_pended b free pends at (c ∷ cs) has some (Ok u) t ok wrong =
    subst (λ (s : State ℕ). Hands TakesToken b (run_tokens (placed at (c ∷ cs))) (Ok tt) (after b s None)) (sym ok)
    (all_pended b free pends (record { ch = c; at = at }) (placed (at + len_utf8 c) cs) (subst AreSome (sym (characters_placed at (c ∷ cs))) some))
run_pended b free pends at (c ∷ cs) has some (Err e) t ok wrong =
    (Err e, after b t (Some e), taken_by_rule b free (takes b free pends) at c some.0 (Err e) t (inl wrong), (refl, refl))

-- one character of a run more
pub pushed : (pending : List Placed) (at place next : ℕ) (rest more : List ℕ) (c : ℕ) → IsUtf8 rest → rest ≡ encode_utf8 c ++ more → place ≡ at
    → next ≡ at + len_utf8 c → (pending ++ record { ch = c; at = place } ∷ []) ++ placed next (chars more) ≡ pending ++ placed at (chars rest)
pushed pending at place next rest more c u is here later = append_assoc pending (record { ch = c; at = place } ∷ []) (placed next (chars more))
    ∙ ap (λ (l : List Placed). pending ++ l) (ap (λ (k : ℕ). record { ch = c; at = k } ∷ placed next (chars more)) here
    ∙ ap (λ (k : ℕ). record { ch = c; at = at } ∷ placed k (chars more)) later ∙ sym (ap (placed at) (chars_past_char rest more c u is)))

-- White space that is put.

small : (c : ℕ) → is_space c ≡ true → c < 128
small c h = grind (arith, nat_tests)

ascii : (ps : List Placed) → list_all (λ (p : Placed). is_space p.ch) ps ≡ true → IsAscii (characters ps)
ascii [] h = IsAscii-nil
ascii (p ∷ ps) h = let k = and_parts (is_space p.ch) (list_all (λ (q : Placed). is_space q.ch) ps) h in
    IsAscii-cons p.ch (characters ps) (small p.ch k.0) (ascii ps k.1)

-- what is written of it
pub written : (ps : List Placed) → list_all (λ (p : Placed). is_space p.ch) ps ≡ true → (bytes : List ℕ) → bytes ≡ encode_utf8_all (characters ps)
    → chars bytes ≡ characters ps
written ps h bytes is = let a = ascii ps h in ap chars (is ∙ encodes-IsAscii (characters ps) a) ∙ chars-IsAscii (characters ps) a

pub written_more : (ps : List Placed) (p : Placed) → encode_utf8_all (characters ps) ++ encode_utf8 p.ch ≡ encode_utf8_all (characters (ps ++ p ∷ []))
written_more [] p = sym (append-nil (encode_utf8 p.ch))
written_more (q ∷ ps) p =
    append_assoc (encode_utf8 q.ch) (encode_utf8_all (characters ps)) (encode_utf8 p.ch) ∙ ap (λ (l : List ℕ). encode_utf8 q.ch ++ l) (written_more ps p)

-- one by one they are put as one run, where nothing is foster parented
flow-site : (x : SiteOf ℕ) (s : State ℕ) (o : Outcome (SiteOf ℕ)) → flow_of (with_site x s) o ≡ flow_of s o
flow-site x s (Goes y) = refl
flow-site x s (site.Refused r) = refl

abbrev pub put_one : Placed → State ℕ → Flow ℕ
put_one p s = perform numbers p.at (character p.ch) put s

pub each_put : (ps : List Placed) (s : State ℕ) → s.site.foster ≡ false → each_of put_one ps s ≡ flow_of s (put_each ps (here s.site) s.site)
each_put [] s off = refl
each_put (p ∷ ps) s off = let more : SiteOf ℕ = record s.site { nodes = add_char p.ch (here s.site) s.site.nodes } in
    ap (λ (to : Place). flow_then (flow_of s (inserts.put p.at p.ch to s.site)) (each_of put_one ps)) (place-here s.site off)
    ∙ by_test (is_none (text_before (here s.site) s.site.nodes.trees) && nat_le s.site.nodes.limit s.site.nodes.made)
    (λ full. flow_then (flow_of s (if full then site.Refused (TooManyNodes p.at) else Goes more)) (each_of put_one ps)
    ≡ flow_of s (and_then (if full then site.Refused (TooManyNodes p.at) else Goes more) (put_each ps (here s.site)))) (λ _. refl)
    (λ _. each_put ps (with_site more s) off ∙ flow-site more s (put_each ps (here s.site) more))

-- the first of them begins the text
pub starts : (ps : List Placed) (p : Placed) → Some p ≡ slice_get ps 0 → StartsAt ps p.at
starts [] p h = tt
starts (q ∷ ps) p h = let same : p ≡ q = cc in ap (λ (r : Placed). r.at) (sym same)

-- what comes of all of them, by one rule for each
abbrev pub pending_put : List Placed → State ℕ → Flow ℕ
pending_put cs s = if list_all (λ c. is_space c.ch) cs then each_of (λ c. perform numbers c.at (character c.ch) put) cs s else each_of
    (λ c. perform numbers c.at (character c.ch) (other_in_table Char)) cs s
