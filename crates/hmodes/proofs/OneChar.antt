-- A character by the rules of a mode that puts it, maybe after the formatting elements, or keeps it as pending.
use Rattle.hmodes.proofs.Vocabulary.{◌≡◌, inl, inr, ℕ, Bool, true, false, Option, Some, None, Result, Ok, Err, refl, ◌∙◌, ap, ◌&&◌, ◌==◌, not, false≢true, Refusal, numbers, StateGives, perform, State, character, Rule, ends, refuses, goes, step_begun, Building, TakesToken, refused_by, is_for_text, char_rule, takes_char, Alone}
use Rattle.htoken.specs.declared.token.Token.TheVariants as code
use Rattle.hmodes.proofs.InRun.{takes-on}
use Rattle.hmodes.proofs.OnePut.{rule-char}

not_dropped : (d m : Bool) → (not d && m) ≡ true → (d ≡ false) × (m ≡ true)
not_dropped true m h = absurd (false≢true h)
not_dropped false m h = (refl, h)

module _ (b : Building) (free : b.refused ≡ None) (takes : takes_char b.state ≡ true) (at c : ℕ) (some : (c == 0) ≡ false) where
  abbrev parts : (b.state.control.drop_lf ≡ false) × (is_for_text b.state.control.mode ≡ true)
  parts = not_dropped b.state.control.drop_lf (is_for_text b.state.control.mode) takes

  rule : Rule numbers at (character c) (step_begun b.state) ≡ perform numbers at (character c) (char_rule b.state.control.mode) (step_begun b.state)
  rule = rule-char at c (step_begun b.state) some parts.1

  abbrev after : State ℕ → Option Refusal → Building
  after t refused = record { state = t; root = b.root; tokenizer_errors = b.tokenizer_errors; refused = refused }

  pub taken_by_rule : (answer : Result (Unit {0}) Refusal) (t : State ℕ)
      → StateGives answer t (perform numbers at (character c) (char_rule b.state.control.mode) (step_begun b.state))
      → TakesToken b (Alone (code.Char c at)) answer (after t (refused_by answer))
  taken_by_rule (Ok u) t g = takes-on at (character c) b (after t None) (Ok tt) free
      (record { step = goes (ap (λ (d : Bool). d && (c == 10)) parts.0) (ends (rule ∙ g)); tokenizer_errors = refl; root = refl; refused = refl })
  taken_by_rule (Err r) t (inl m) =
      takes-on at (character c) b (after t (Some r)) (Err r) free (record { step = inl m; tokenizer_errors = refl; root = refl; refused = refl })
  taken_by_rule (Err r) t (inr e) = takes-on at (character c) b (after t (Some r)) (Err r) free
      (record { step = inr (goes (ap (λ (d : Bool). d && (c == 10)) parts.0) (refuses (rule ∙ e))); tokenizer_errors = refl; root = refl; refused = refl })
