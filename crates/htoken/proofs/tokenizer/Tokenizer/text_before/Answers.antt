use Rattle.htoken.proofs.Names.{◌≡◌, ◌<◌, ℕ, ◌+◌, List, [], ◌++◌, length, drop, sym, refl, ap, ◌∙◌, subst, arith, append-nil, get_or-drop, prefix_len-le-length, prefix_len_stops, IsCharBoundary-from_drop, prefix_len, IsUtf8, ParseError, Hands-append, is_text_byte, clean_rest, cut_more, bare_errors, IsBare, err_is, rules, common_steps}
use Rattle.htoken.proofs.InText.{bare_cut_of, bare_within, front_bare, front_on, front_text, length_left}
use Rattle.htoken.proofs.tokenizer.Tokenizer.text_before.Goals as goal

pub loop-count-init : goal.loop-count-init
loop-count-init g c = let run = c.args.run.now.text.now in let n = c.text_run-count.result in
    let is : n ≡ prefix_len is_text_byte run = c.text_run-count.ensures ∙ ap (prefix_len is_text_byte) c.as_bytes.ensures.value in
    record {
      so = record { errors = []; handed = (refl, refl); front = front_text _ _ run _ (search rules) c.args.run.now.clean n is };
      ends = λ l. rw is (prefix_len_stops is_text_byte run 0 (rw (← is) l));
    }

pub loop-count-preserved : goal.loop-count-preserved
loop-count-preserved g c = let run = c.args.run.now.text.now in let table = c.args.self.now.table.now in let kind = c.args.self.now.kind in
    let count = c.loop-count.count in
    let size = c.in-Text.size in
    let n = c.text_run-count-in-Text.result in
    let so = c.loop-count.invariant.so in
    let is = c.in-Text.ensures in
    let left_is = c.range_from-rest.ensures.value in
    let errors : List ParseError = bare_errors is.letters is.next (c.args.run.now.at + count) in
    let bare = front_on table kind run c.args.run.now.at count size so.errors errors so.front
    (rw (← left_is) (front_bare table kind c.range_from-rest.result.now (c.args.run.now.at + count) (subst IsUtf8 (sym left_is) so.front.cut.back) size is)) in
    let rest : List ℕ = drop (count + size) run in
    let n_is : n ≡ prefix_len is_text_byte rest =
    c.text_run-count-in-Text.ensures ∙ ap (prefix_len is_text_byte) (c.as_bytes-in-Text.ensures.value ∙ c.range_from.ensures.value) in
    let text =
    front_text table kind rest (c.args.run.now.at + (count + size)) bare.cut.back (clean_rest (count + size) run bare.cut c.args.run.now.clean).1 n n_is in
    record {
      so = record {
        errors = so.errors ++ errors;
        handed = Hands-append g.S.ErrorSink.gives _ _ _ so.errors errors _ so.handed (c.in_ok-tell_bare-in-Text.ensures table kind c.in-Text.ensures);
        front = rw (← (append-nil (so.errors ++ errors))) (front_on table kind run c.args.run.now.at (count + size) n (so.errors ++ errors) [] bare text);
      };
      ends = λ l.
          let few : n < length rest = omega (arith, l, length_left (count + size) run bare.cut.within) in
          ap is_text_byte (sym (get_or-drop (count + size) run n 0)) ∙ rw n_is (prefix_len_stops is_text_byte rest 0 (rw (← n_is) few));
    }

pub returns-in_err-tell_bare-in-Text-clause-front : goal.returns-in_err-tell_bare-in-Text-clause-front
returns-in_err-tell_bare-in-Text-clause-front g c = let is = c.in-Text.ensures in let so = c.loop-count.invariant.so in
    rw (err_is c.from_residual.result _ c.from_residual.ensures.1) (
      so.errors ++ bare_errors is.letters is.next (c.args.run.now.at + c.loop-count.count),
      Hands-append g.S.ErrorSink.gives _ _ _ so.errors _ _ so.handed (c.in_err-tell_bare-in-Text.ensures c.args.self.now.table.now c.args.self.now.kind is),
    )

pub range_from-requires : goal.range_from-requires
range_from-requires g c = λ _.
    let cut = c.loop-count.invariant.so.front.cut in
    let again = bare_cut_of (drop c.loop-count.count c.args.run.now.text.now) c.in-Text.size
    (subst (λ (x : List ℕ). IsBare c.args.self.now.table.now c.args.self.now.kind x c.in-Text.size) c.range_from-rest.ensures.value c.in-Text.ensures)
    cut.back in
    let both = cut_more c.loop-count.count c.in-Text.size c.args.run.now.text.now cut again in
    IsCharBoundary-from_drop c.args.run.now.text.now (c.loop-count.count + c.in-Text.size) both.within both.back

pub overflow_add-count-in-Text : goal.overflow_add-count-in-Text
overflow_add-count-in-Text g c = let few = c.text_run-count-in-Text.ensures ∙ ap (prefix_len is_text_byte) c.as_bytes-in-Text.ensures.value in
    omega (arith, few, prefix_len-le-length is_text_byte c.range_from.result.now, c.range_from.ensures.len)

pub tell_bare-requires-clause-within : goal.tell_bare-requires-clause-within
tell_bare-requires-clause-within g c = bare_within c.in-Text.ensures

pub overflow_add-count : goal.overflow_add-count
overflow_add-count g c = omega (arith, bare_within c.in-Text.ensures, c.range_from-rest.ensures.len, c.loop-count.invariant.so.front.cut.within)

pub returns-in-Whole-clause-whole : goal.returns-in-Whole-clause-whole
returns-in-Whole-clause-whole g c = grind (arith, common_steps)
