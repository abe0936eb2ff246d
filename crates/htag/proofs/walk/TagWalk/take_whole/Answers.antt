use Rattle.htag.proofs.Vocabulary.{◌≡◌, ◌≤◌, ◌++◌, ℕ, List, length, list_all, string_bytes, refl, sym, ap, ◌∙◌, arith, true, take, all_weaker, is_word_byte, grows_not, prefix_len, is_ascii, is_quoted_byte, front_of, IsValueRun, common_steps}
use Rattle.htag.proofs.Ascii.{ascii_cut, edge_of}
use Rattle.htag.proofs.InRun.{counted_all, none_front, word_ascii, words_in_name}
use Rattle.htag.proofs.walk.TagWalk.take_whole.Goals as goal

pub returns-in_default : goal.returns-in_default
returns-in_default c = none_front c.utf8.run

pub returns-in_default-2 : goal.returns-in_default-2
returns-in_default-2 c = none_front c.utf8.run

pub returns-in_default-3 : goal.returns-in_default-3
returns-in_default-3 c = none_front c.utf8.run

words_ascii : (count : ℕ) (run : List ℕ) → list_all is_word_byte (take count run) ≡ true → list_all is_ascii (take count run) ≡ true
words_ascii count run words = all_weaker is_word_byte is_ascii word_ascii (take count run) words

pub range-requires-clause-end_boundary : goal.range-requires-clause-end_boundary
range-requires-clause-end_boundary c = let run = c.args.run.now in let count = c.word_run-count.result in
    edge_of count run
    (ascii_cut count run (omega (arith, c.word_run-count.ensures.few, ap length c.as_bytes-bytes.ensures.value)) (words_ascii count run
    (counted_all is_word_byte run count (c.word_run-count.ensures.counted ∙ ap (prefix_len is_word_byte) c.as_bytes-bytes.ensures.value))) c.utf8.run)

pub returns-in_ok-push_str-in-TagName : goal.returns-in_ok-push_str-in-TagName
returns-in_ok-push_str-in-TagName c = let run = c.args.run.now in let count = c.word_run-count.result in
    let few : count ≤ length run = omega (arith, c.word_run-count.ensures.few, ap length c.as_bytes-bytes.ensures.value) in
    let words : list_all is_word_byte (take count run) ≡ true =
    counted_all is_word_byte run count (c.word_run-count.ensures.counted ∙ ap (prefix_len is_word_byte) c.as_bytes-bytes.ensures.value) in
    record {
      cut = ascii_cut count run few (words_ascii count run words) c.utf8.run;
      takes = λ body h. words_in_name h c.in-TagName.is refl refl refl refl c.args.at count run few words (c.in_ok-push_str-in-TagName.ensures.bytes
          ∙ ap (λ (x : List ℕ). string_bytes c.args.self.now.name ++ x) (c.range.ensures.value ∙ front_of count run));
      grows = grows_not _;
      kind = refl;
    }

pub take_in_value-requires-clause-stands : goal.take_in_value-requires-clause-stands
take_in_value-requires-clause-stands c =
    IsValueRun.quoted c.in-AttributeValueQuoted.mark c.in-AttributeValueQuoted.is (sym c.is_ascii.ensures ∙ c.if-not-is_ascii.false)
    (c.quoted_run.ensures.counted ∙ ap (prefix_len (is_quoted_byte c.in-AttributeValueQuoted.mark)) c.as_bytes-bytes.ensures.value)

pub returns-else-not-is_ascii : goal.returns-else-not-is_ascii
returns-else-not-is_ascii c = c.take_in_value.ensures _ _ _ _

pub returns-in-AttributeValueUnquoted : goal.returns-in-AttributeValueUnquoted
returns-in-AttributeValueUnquoted c = c.take_in_value-in-AttributeValueUnquoted.ensures _ _ _ _

pub returns-then-not-is_ascii : goal.returns-then-not-is_ascii
returns-then-not-is_ascii c = grind (arith, common_steps)

pub returns-in_err-push_str-in-TagName : goal.returns-in_err-push_str-in-TagName
returns-in_err-push_str-in-TagName c = grind (arith, common_steps)
