-- What a reading does whose reads do not fail, and the rows of what it gives.
use Rattle.html_c.proofs.Names.{◌≡◌, ℕ, List, [], ◌∷◌, ◌++◌, Option, Some, None, Result, Ok, Err, inl, inr, sym, subst, map, ap, ap₂, ◌∙◌, refl, append-nil, Bool, IsErrAnd, Refusal, Memory, text_of, Forest, none, tree, children_of, mapped, kind_in, left_in, Parsed, ParseOptions, AllowsContext, case_in, none_for_memory, none_of_bytes, rows_of, words_of, ComesToParse, GivesParse, Given, ◌⊎◌, BadContext, What, order, mapped_what, first_or, Parses, Origin, AnswersParse, ReadsInput, reading_ran_out, reading_failed, reading_stopped, read_to_end, children_are, GivesRows, case_given, Input, origin_at, origins_of, parsed_rows, parsed_words, arith}

module _ (opts : ParseOptions) (context : Option (List ℕ)) where
  answered : (source : Input) (bytes : List ℕ) (answer : Result Parsed Refusal) → left_in source ≡ bytes → AnswersParse opts (case_in context) bytes answer
      → ComesToParse opts context (left_in source) answer
  answered source bytes (Ok parsed) is its = subst (λ bs. AnswersParse opts (case_in context) bs (Ok parsed)) (sym is) its
  answered source bytes (Err refusal) is its = none_of_bytes (subst (λ bs. Parses opts (case_in context) bs (Err refusal)) (sym is) its)

  pub parse_of : {unrefused : List ℕ → Type 0} {piece : ℕ} {source source' : Input} {answer : Result Parsed Refusal}
      → ReadsInput (λ s. Some (left_in s)) (λ s. 0) (AnswersParse opts (case_in context)) unrefused piece [] source source' answer
      → ComesToParse opts context (left_in source) answer
  parse_of {source = source} (reading_ran_out is unread) = subst (ComesToParse opts context (left_in source)) (sym is) (none_for_memory refl)
  parse_of (reading_failed bytes is un gave counted) = absurd cc
  parse_of {source = source} {source'} (reading_stopped refusal before last is un gave from short) = subst (ComesToParse opts context (left_in source)) (sym is)
      (none_of_bytes (subst (λ bs. Parses opts (case_in context) bs (Err refusal)) (sym gave.given) (from (left_in source'))))
  parse_of {source = source} {answer = answer} (read_to_end bytes un gave end its) =
      answered source bytes answer (gave.given ∙ ap (λ r. bytes ++ r) end ∙ append-nil bytes) its

module _ {N M : Type 0} (g : N → M) where
  same_first : (f : Forest N) → first_or (mapped g f) None ≡ first_or f None
  same_first f = grind arith

  same_kind : (w : What N) → kind_in (mapped_what g w) ≡ kind_in w
  same_kind w = grind arith

  -- rows know no names
  pub same_rows : (p : ℕ) (f : Forest N) → rows_of p (mapped g f) ≡ rows_of p f
  same_rows p none = refl
  same_rows p (tree n w kids rest) = rw (same_kind w, same_first kids, same_first rest, same_rows n kids, same_rows p rest) refl

  same_order : (f : Forest N) → order (mapped g f) ≡ order f
  same_order none = refl
  same_order (tree n w kids rest) = λ i. n ∷ (same_order kids i ++ same_order rest i)

  pub same_origins : (list : List Origin) (f : Forest N) → origins_of list (mapped g f) ≡ origins_of list f
  same_origins list f = ap (map (origin_at list)) (same_order f)

pub some_rows : {input : List ℕ} {given : Given} {places : Bool} {parsed : Parsed} → GivesParse input given places parsed
    → GivesRows input given (parsed_rows parsed) (parsed_words parsed)
some_rows {given = given} {parsed = parsed} h = let (parse, is, parses, told) = h.answers in let its = case_given given in
    record {
      opts = h.opts;
      tells = h.tells;
      parse = parse;
      parses = parses;
      rows_are = sym (same_rows (text_of parsed.names) parsed.root (children_of parsed.root parsed.tree.trees))
          ∙ ap₂ (λ (p : ℕ) (f : Forest (List ℕ)). rows_of p f) is.root (children_are its parsed parse is);
      words_are = ap words_of (children_are its parsed parse is);
    }

pub not_begun : (opts : ParseOptions) (context : Option (List ℕ)) (bytes : List ℕ) (r : Result Parsed Refusal) (e : Refusal) → AllowsContext context
    → IsErrAnd r (λ g. g ≡ e) → (AllowsContext context × (e ≡ Memory)) ⊎ ((AllowsContext context → ⊥) × (e ≡ BadContext)) → ComesToParse opts context bytes r
not_begun opts context bytes (Ok parsed) e allows is why = absurd is
not_begun opts context bytes (Err g) e allows is (inl (allowed, memory)) = none_for_memory (is ∙ memory)
not_begun opts context bytes (Err g) e allows is (inr (not_allowed, refuses)) = absurd (not_allowed allows)
