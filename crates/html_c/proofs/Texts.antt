-- What a run does whose reads do not fail, and whose writer keeps in memory what it takes: its room, and then the text.
use Rattle.html_c.proofs.Names.{◌≡◌, ℕ, List, [], ◌∷◌, ◌++◌, Option, Some, Result, Ok, Err, inl, inr, sym, subst, ap, ◌∙◌, append-nil, Refusal, AllowsContext, ComesToNone, none_for_memory, none_of_bytes, left_in, Fitted, ◌⊎◌, Write, Runs, RunsIn, context_refused, ran, run_ran_out, read_failed, stopped, refused, write_failed, wrote, fitted_contents, fitted_failures, fitted_text, Input}

module _ (context : Option (List ℕ)) (prints : List ℕ → Result (List ℕ) Refusal → Type 0) (unrefused : List ℕ → Type 0) (piece : ℕ) (input : List ℕ) (room : ℕ)
    (source source' : Input) (target target' : Fitted) (reads : left_in source ≡ input) (begun : target.room ∷ target.all.bytes ≡ room ∷ []) where
  abbrev Ran : Result (Unit {0}) Refusal → Type 0
  Ran = Runs (λ s. Some (left_in s)) (λ s. 0) fitted_contents fitted_failures prints unrefused piece source source' target target'

  abbrev RanIn : Result (Unit {0}) Refusal → Type 0
  RanIn = RunsIn (λ s. Some (left_in s)) (λ s. 0) fitted_contents fitted_failures context prints unrefused piece source source' target target'

  whole : (bytes : List ℕ) → left_in source ≡ bytes ++ left_in source' → left_in source' ≡ [] → bytes ≡ input
  whole bytes is end = sym (is ∙ ap (λ r. bytes ++ r) end ∙ append-nil bytes) ∙ reads

  text_came : Ran (Ok tt) → prints input (Ok (fitted_text target')) × (target'.room ≡ room)
  text_came (run_ran_out is unread unwritten) = absurd cc
  text_came (read_failed bytes is un gave counted unwritten) = absurd cc
  text_came (stopped refusal before last is un gave from short unwritten) = absurd cc
  text_came (refused refusal bytes is un gave end its unwritten) = absurd cc
  text_came (write_failed bytes beginning rest is gave end text appends counted) = absurd cc
  text_came (wrote bytes text is gave end printed appends unfailed) =
      let held : target'.room ∷ target'.all.bytes ≡ room ∷ text = appends ∙ ap (λ w. w ++ text) begun in let same : text ≡ target'.all.bytes = cc in
      (subst (λ t. prints input (Ok t)) same (subst (λ bs. prints bs (Ok text)) (whole bytes gave.given end) printed), cc)

  none_came : (e : Refusal) → Ran (Err e) → (e ≡ Write) ⊎ ComesToNone prints input e
  none_came e (run_ran_out is unread unwritten) = inr (none_for_memory cc)
  none_came e (read_failed bytes is un gave counted unwritten) = absurd cc
  none_came e (stopped refusal before last is un gave from short unwritten) = let same : refusal ≡ e = cc in
      inr (none_of_bytes (subst (λ r. prints input (Err r)) same (subst (λ bs. prints bs (Err refusal)) (sym gave.given ∙ reads) (from (left_in source')))))
  none_came e (refused refusal bytes is un gave end its unwritten) = let same : refusal ≡ e = cc in
      inr (none_of_bytes (subst (λ r. prints input (Err r)) same (subst (λ bs. prints bs (Err refusal)) (whole bytes gave.given end) its)))
  none_came e (write_failed bytes beginning rest is gave end text appends counted) = inl cc
  none_came e (wrote bytes text is gave end printed appends unfailed) = absurd cc

  module _ (allowed : AllowsContext context) where
    -- the text with its room, where there is one
    pub gives_text : RanIn (Ok tt) → prints input (Ok (fitted_text target')) × (target'.room ≡ room)
    gives_text (context_refused refuses is unread unwritten) = absurd (refuses allowed)
    gives_text (ran allows run) = text_came run

    -- and else why there is none, unless the writer failed
    pub gives_none : {e : Refusal} → (e ≡ Write → ⊥) → RanIn (Err e) → ComesToNone prints input e
    gives_none other (context_refused refuses is unread unwritten) = absurd (refuses allowed)
    gives_none {e} other (ran allows run) = elim (none_came e run) [ inl is ↦ absurd (other is) | inr none ↦ none ]
