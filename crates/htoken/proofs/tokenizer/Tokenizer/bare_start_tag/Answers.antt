use Rattle.htoken.proofs.Names.{Err, ◌≡◌, ◌+◌, ◌≤◌, length, IsUtf8, true≢false, false, Bool, Option, Tag, is_some, is_refused, None, ◌∙◌, List, ℕ, Some, [], take, sym, refl, ap, subst, arith, none_cut, raw_kind, refused_name, tag_named, grows_not, grows_on, front_of, AttrsMean, gives_item, err_is, rules}
use Rattle.names.specs.declared.raw.RawKind.TheVariants as kind
use Rattle.htoken.proofs.AtOnce.{memory_part, nothing_taken, start_cut, start_given, bare_boundary}
use Rattle.htoken.proofs.Fronts.{part_refused, IsCalm, taken_kept, taken_now}
use Rattle.htoken.proofs.tokenizer.Tokenizer.bare_start_tag.Goals as goal
use Rattle.htoken.proofs.tokenizer.Tokenizer.bare_start_tag.Goals.{in-None, in_default}

none_is : {A : Type 0} (x : Option A) → is_some x ≡ false → x ≡ None
none_is None e = refl
none_is (Some x) e = absurd (true≢false e)

-- a name that is not refused
in_profile : (found name : Tag) (refused : Bool) → refused ≡ is_refused found → refused ≡ false → name ≡ found → refused_name name ≡ None
in_profile found name refused is e same = ap refused_name same ∙ none_is (refused_name found) (sym is ∙ e)

pub returns-in_err-name-clause-takes : goal.returns-in_err-name-clause-takes
returns-in_err-name-clause-takes g c = λ table start before text taken grows h. memory_part
    (taken_now c.intern.new.self (subst IsCalm (sym c.requires.less) tt) (grows_on _ _ _ grows c.intern.ensures.grows) h) _ c.args.run.now.at
    c.args.run.now.text.now _ _ _ (err_is c.from_residual.result _ c.from_residual.ensures.1)

pub returns-then-is_refused-clause-takes : goal.returns-then-is_refused-clause-takes
returns-then-is_refused-clause-takes g c =
    λ table start before text taken grows h. nothing_taken c.args.run.now.at (taken_kept c.intern.new.self (grows_on _ _ _ grows c.in_ok-name.ensures.grows) h)

pub returns-in_err-give_tag-clause-takes : goal.returns-in_err-give_tag-clause-takes
returns-in_err-give_tag-clause-takes g c = let run = c.args.run.now.text.now in let name = take c.args.size run in
    let to_data : raw_kind c.tag-tag.result ≡ kind.None = elim c.match-matches.branch
    [ in-None w ↦ sym c.raw_kind.ensures ∙ w.in-None.is | in_default w ↦ absurd (true≢false (sym c.if-not-matches.false ∙ w.matches-is)) ] in
    let utf8 : IsUtf8 run = search rules in
    let room : c.args.run.now.at + length run ≤ 0xFFFFFFFFFFFFFFFF = omega (arith, c.args.run.now.within) in
    λ table start before text taken grows h.
    let gives = gives_item g.S.ErrorSink.gives g.S.TokenSink.gives_token in
    let k = taken_now c.intern.new.self (subst IsCalm (sym c.requires.less) tt) (grows_on _ _ _ grows c.in_ok-name.ensures.grows) h in
    let named = c.range.ensures.value ∙ front_of c.args.size run in
    let tag = sym (ap tag_named named) ∙ sym c.in_ok-name.ensures.tag ∙ sym c.tag-tag.ensures in
    let number = c.in_ok-name.ensures.number ∙ ap (λ (x : List ℕ). Some x) named in
    part_refused _ c.args.run.now.at (err_is c.from_residual-in_err-give_tag.result _ c.from_residual-in_err-give_tag.ensures.1)
    (start_cut run c.args.size utf8 c.requires.bare) (start_given k c.requires.less g.S.ErrorSink.gives g.S.TokenSink.gives_token run
    c.args.run.now.at c.args.size utf8 room c.requires.bare c.in_ok-name.name _ refl number
    (in_profile c.tag-tag.result _ c.is_refused.result c.is_refused.ensures c.if-is_refused.false tag) (ap raw_kind tag ∙ to_data) _
    (grows_not _, refl, (name, [], number, subst (λ x. AttrsMean c.intern.new.self x []) (sym c.new.ensures.items) tt, refl)) c.args.sink.now
    c.give_tag.new.sink (Err c.in_err-give_tag.field-0.0) c.in_err-give_tag.ensures)

pub returns-clause-takes : goal.returns-clause-takes
returns-clause-takes g c = λ table start before text taken grows h.
    let run = c.args.run.now.text.now in let name = take c.args.size run in
    let k = taken_now c.intern.new.self (subst IsCalm (sym c.requires.less) tt) (grows_on _ _ _ grows c.in_ok-name.ensures.grows) h in
    let named = c.range.ensures.value ∙ front_of c.args.size run in
    let tag = sym (ap tag_named named) ∙ sym c.in_ok-name.ensures.tag ∙ sym c.tag-tag.ensures in
    let to_data : raw_kind c.tag-tag.result ≡ kind.None = elim c.match-matches.branch
    [ in-None w ↦ sym c.raw_kind.ensures ∙ w.in-None.is | in_default w ↦ absurd (true≢false (sym c.if-not-matches.false ∙ w.matches-is)) ] in
    let number = c.in_ok-name.ensures.number ∙ ap (λ (x : List ℕ). Some x) named in
    let utf8 : IsUtf8 run = search rules in
    let room : c.args.run.now.at + length run ≤ 0xFFFFFFFFFFFFFFFF = omega (arith, c.args.run.now.within) in
    start_given k c.requires.less g.S.ErrorSink.gives g.S.TokenSink.gives_token run c.args.run.now.at c.args.size utf8 room c.requires.bare
    c.in_ok-name.name _ refl number (in_profile c.tag-tag.result _ c.is_refused.result c.is_refused.ensures c.if-is_refused.false tag)
    (ap raw_kind tag ∙ to_data) _
    (grows_not _, refl, (name, [], number, subst (λ x. AttrsMean c.intern.new.self x []) (sym c.new.ensures.items) tt, refl)) _ _ _ c.in_ok-give_tag.ensures

pub returns-clause-cut : goal.returns-clause-cut
returns-clause-cut g c = start_cut c.args.run.now.text.now c.args.size (search rules) c.requires.bare

pub range-requires-clause-end_boundary : goal.range-requires-clause-end_boundary
range-requires-clause-end_boundary g c = bare_boundary c.args.run.now.text.now c.args.size c.requires.bare

pub returns-then-is_refused-clause-cut : goal.returns-then-is_refused-clause-cut
returns-then-is_refused-clause-cut g c = none_cut _ (search rules)
