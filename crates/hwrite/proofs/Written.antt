-- What a run does, from what its reading and its writing do.
use Rattle.hwrite.proofs.Vocabulary.{◌≡◌, ◌⊎◌, inl, inr, true, false, None, Some, ℕ, List, [], ◌++◌, refl, sym, ap, subst, ◌∙◌, append-nil, Option, Result, Ok, Err, Appends, Refusal, Memory, Write, counted, AppendsBeginning, WritesText, ParseOptions, ReadsInput, Runs, RunsIn, ran, ParserBeginsIn, MatchResult, Keeps, IsAtEnd, Keeps-refl, Appends-kept, BadContext, no_buffer, text_cut, text_written, Parser, document, fragment, is_context, HasParsed, reading_ran_out, reading_failed, reading_stopped, read_to_end, Gave, WritesNothing, run_ran_out, read_failed, stopped, refused, write_failed, wrote, context_refused}

module _ {W : Type 0} (written : W → Option (List ℕ)) (failed : W → ℕ) where
  -- a beginning was written
  pub cut_short : (text : List ℕ) (old new : W) (e : Refusal) → e ≡ Write → AppendsBeginning (written old) (written new) text
      → failed new ≡ counted (failed old) → WritesText written failed text old new (Err e)
  cut_short text old new e why (beginning, rest, whole, some, appended) count = text_cut beginning rest (ap (λ (x : Refusal). Err x) why) whole appended count

  -- all was written, and not handed on
  pub not_flushed : (text : List ℕ) (old middle new : W) → Appends (written old) (written middle) text → failed middle ≡ failed old
      → Keeps (written middle) (written new) → failed new ≡ counted (failed middle) → WritesText written failed text old new (Err Write)
  not_flushed text old middle new appended unfailed kept count =
      text_cut text [] refl (sym (append-nil text)) (Appends-kept (written old) (written middle) (written new) text appended kept) (count ∙ ap counted unfailed)

  untouched : (target : W) → WritesNothing written failed target target
  untouched target = record { kept = Keeps-refl (written target); unfailed = refl }

  module _ {S R : Type 0} (left : S → Option (List ℕ)) (reads : S → ℕ) (answers : List ℕ → Result R Refusal → Type 0)
      (prints : List ℕ → Result (List ℕ) Refusal → Type 0) (unrefused : List ℕ → Type 0) (piece : ℕ) (old new : S) where
    -- there was nothing to write
    pub not_read : ((bytes : List ℕ) (e : Refusal) → answers bytes (Err e) → prints bytes (Err e)) → (target : W) (e : Refusal)
        → ReadsInput left reads answers unrefused piece [] old new (Err e) → Runs left reads written failed prints unrefused piece old new target target (Err e)
    not_read none target e (reading_ran_out is count) = run_ran_out (cc) count (untouched target)
    not_read none target e (reading_failed bytes is un given count) = read_failed bytes (cc) un given count (untouched target)
    not_read none target e (reading_stopped refusal before last is un gave from few) =
        stopped refusal before last (cc) un gave (λ more. none ((before ++ last) ++ more) refusal (from more)) few (untouched target)
    not_read none target e (read_to_end bytes un gave end its) = refused e bytes refl un gave end (none bytes e its) (untouched target)

    -- the input was read, and its text was written, or a beginning of it
    text_comes : (target target' : W) (bytes text : List ℕ) (answer : Result (Unit {0}) Refusal) → Gave left reads old new bytes → IsAtEnd (left new)
        → prints bytes (Ok text) → WritesText written failed text target target' answer
        → Runs left reads written failed prints unrefused piece old new target target' answer
    text_comes target target' bytes text answer gave end printed (no_buffer e kept unfailed) =
        run_ran_out e gave.unfailed (record { kept = kept; unfailed = unfailed })
    text_comes target target' bytes text answer gave end printed (text_written e appended unfailed) = wrote bytes text e gave end printed appended unfailed
    text_comes target target' bytes text answer gave end printed (text_cut beginning rest e whole appended failing) =
        write_failed bytes beginning rest e gave end (subst (λ (t : List ℕ). prints bytes (Ok t)) whole printed) appended failing

    pub comes_to_text : (target target' : W) (run : R) (text : List ℕ) (answer : Result (Unit {0}) Refusal)
        → ReadsInput left reads answers unrefused piece [] old new (Ok run) → ((bytes : List ℕ) → answers bytes (Ok run) → prints bytes (Ok text))
        → WritesText written failed text target target' answer → Runs left reads written failed prints unrefused piece old new target target' answer
    comes_to_text target target' run text answer (reading_ran_out is count) printed w = absurd cc
    comes_to_text target target' run text answer (reading_failed bytes is un given count) printed w = absurd cc
    comes_to_text target target' run text answer (reading_stopped refusal before last is un gave from few) printed w = absurd cc
    comes_to_text target target' run text answer (read_to_end bytes un gave end its) printed w =
        text_comes target target' bytes text answer gave end (printed bytes its) w

-- a parse that did not begin
pub not_begun : {S W : Type 0} (left : S → Option (List ℕ)) (reads : S → ℕ) (written : W → Option (List ℕ)) (failed : W → ℕ) (context : Option (List ℕ))
    (prints : List ℕ → Result (List ℕ) Refusal → Type 0) (unrefused : List ℕ → Type 0) (piece : ℕ) (source : S) (target : W) (opts : ParseOptions) (e : Refusal)
    → ParserBeginsIn opts context (Err e) → RunsIn left reads written failed context prints unrefused piece source source target target (Err e)
not_begun left reads written failed context prints unrefused piece source target opts e (inl (is, why)) =
    ran is (run_ran_out (ap (λ (x : Refusal). Err x) why) refl (untouched written failed target))
not_begun left reads written failed context prints unrefused piece source target opts e (inr (not, why)) =
    context_refused not (ap (λ (x : Refusal). Err x) why) refl refl

pub begun_document : (opts : ParseOptions) (r : Result Parser Refusal) → MatchResult r (λ parser. HasParsed opts document parser []) (λ e. e ≡ Memory)
    → ParserBeginsIn opts None r
begun_document opts (Ok parser) h = (tt, h)
begun_document opts (Err e) why = inl (tt, why)

pub begun_fragment : (opts : ParseOptions) (context : List ℕ) (r : Result Parser Refusal)
    → MatchResult r (λ parser. (is_context context ≡ true) × HasParsed opts (fragment context) parser [])
    (λ e. ((is_context context ≡ true) × (e ≡ Memory)) ⊎ ((is_context context ≡ false) × (e ≡ BadContext))) → ParserBeginsIn opts (Some context) r
begun_fragment opts context (Ok parser) h = h
begun_fragment opts context (Err e) (inl h) = inl h
begun_fragment opts context (Err e) (inr (isnt, why)) = inr ((λ is. absurd cc), why)
