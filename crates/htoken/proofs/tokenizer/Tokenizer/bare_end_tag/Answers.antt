use Rattle.htoken.proofs.Names.{Err, ◌+◌, ◌∙◌, List, ℕ, Some, take, drop, sym, refl, ap, subst, arith, grows_not, grows_on, gives_item, err_is, ◌≡◌, IsCharBoundary, IsUtf8, length, ◌≤◌, rules, IsCharBoundary-from_rest}
use Rattle.htoken.proofs.AtOnce.{bare_here, nothing_taken, end_cut, end_given, first_is, memory_part, range_after_first, bare_boundary}
use Rattle.htoken.proofs.Fronts.{part_refused, IsCalm, taken_kept, taken_now}
use Rattle.htoken.proofs.tokenizer.Tokenizer.bare_end_tag.Goals as goal

pub returns-in_err-name-clause-takes : goal.returns-in_err-name-clause-takes
returns-in_err-name-clause-takes g c = λ table start before text taken grows h. memory_part
    (taken_now c.intern.new.self (subst IsCalm (sym c.requires.less) tt) (grows_on _ _ _ grows c.intern.ensures.grows) h) _ c.args.run.now.at
    c.args.run.now.text.now _ _ _ (err_is c.from_residual.result _ c.from_residual.ensures.1)

pub returns-then-size-eq0-clause-takes : goal.returns-then-size-eq0-clause-takes
returns-then-size-eq0-clause-takes g c = λ table start before text taken grows h. nothing_taken c.args.run.now.at (taken_kept c.args.names.now grows h)

pub returns-in_err-give_tag-clause-takes : goal.returns-in_err-give_tag-clause-takes
returns-in_err-give_tag-clause-takes g c = let run = c.args.run.now.text.now in let run_is = first_is run c.requires.some c.requires.solidus in
    let bare = bare_here c.as_bytes.ensures.value (omega (arith, c.if-size-eq0.false)) c.bare_name-size.ensures in
    let utf8 : IsUtf8 run = search rules in
    let room : c.args.run.now.at + length run ≤ 0xFFFFFFFFFFFFFFFF = omega (arith, c.args.run.now.within) in
    λ table start before text taken grows h.
    let gives = gives_item g.S.ErrorSink.gives g.S.TokenSink.gives_token in
    let k = taken_now c.intern.new.self (subst IsCalm (sym c.requires.less) tt) (grows_on _ _ _ grows c.in_ok-name.ensures.grows) h in
    part_refused _ c.args.run.now.at (err_is c.from_residual-in_err-give_tag.result _ c.from_residual-in_err-give_tag.ensures.1)
    (end_cut run (drop 1 run) c.bare_name-size.result utf8 run_is bare)
    (end_given k c.requires.less g.S.ErrorSink.gives g.S.TokenSink.gives_token run c.args.run.now.at c.bare_name-size.result utf8 room
    (drop 1 run) run_is bare _ refl _ (
      grows_not _,
      refl,
      (
        take c.bare_name-size.result (drop 1 run),
        c.in_ok-name.ensures.number ∙ ap (λ (x : List ℕ). Some x) (c.range.ensures.value ∙ range_after_first c.bare_name-size.result run),
        refl,
      ),
    ) c.args.sink.now c.give_tag.new.sink (Err c.in_err-give_tag.field-0.0) c.in_err-give_tag.ensures)

pub returns-clause-takes : goal.returns-clause-takes
returns-clause-takes g c = λ table start before text taken grows h.
    let bare = bare_here c.as_bytes.ensures.value (omega (arith, c.if-size-eq0.false)) c.bare_name-size.ensures in let run = c.args.run.now.text.now in
    let k = taken_now c.intern.new.self (subst IsCalm (sym c.requires.less) tt) (grows_on _ _ _ grows c.in_ok-name.ensures.grows) h in
    end_given k c.requires.less g.S.ErrorSink.gives g.S.TokenSink.gives_token run c.args.run.now.at c.bare_name-size.result (search rules)
    (omega (arith, c.args.run.now.within)) (drop 1 run) (first_is run c.requires.some c.requires.solidus) bare _ refl _ (
      grows_not _,
      refl,
      (
        take c.bare_name-size.result (drop 1 run),
        c.in_ok-name.ensures.number ∙ ap (λ (x : List ℕ). Some x) (c.range.ensures.value ∙ range_after_first c.bare_name-size.result run),
        refl,
      ),
    ) _ _ _ c.in_ok-give_tag.ensures

pub returns-clause-cut : goal.returns-clause-cut
returns-clause-cut g c = let bare = bare_here c.as_bytes.ensures.value (omega (arith, c.if-size-eq0.false)) c.bare_name-size.ensures in
    end_cut c.args.run.now.text.now (drop 1 c.args.run.now.text.now) c.bare_name-size.result (search rules)
    (first_is c.args.run.now.text.now c.requires.some c.requires.solidus) bare

pub range-requires-clause-end_boundary : goal.range-requires-clause-end_boundary
range-requires-clause-end_boundary g c = let bare = bare_here c.as_bytes.ensures.value (omega (arith, c.if-size-eq0.false)) c.bare_name-size.ensures in
    let same : 1 + c.bare_name-size.result ≡ c.bare_name-size.result + 1 = omega arith in
    subst (IsCharBoundary c.args.run.now.text.now) same (IsCharBoundary-from_rest c.args.run.now.text.now 1 c.bare_name-size.result
    (omega (arith, c.requires.some)) (bare_boundary (drop 1 c.args.run.now.text.now) c.bare_name-size.result bare))

pub overflow_add-size : goal.overflow_add-size
overflow_add-size g c = let bare = bare_here c.as_bytes.ensures.value (omega (arith, c.if-size-eq0.false)) c.bare_name-size.ensures in
    omega (
      arith,
      (end_cut c.args.run.now.text.now (drop 1 c.args.run.now.text.now) c.bare_name-size.result (search rules)
          (first_is c.args.run.now.text.now c.requires.some c.requires.solidus) bare).within,
      c.args.run.now.within,
    )
