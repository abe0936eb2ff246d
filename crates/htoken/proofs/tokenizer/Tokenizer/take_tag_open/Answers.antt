use Rattle.htoken.proofs.Names.{gives_item, sym, subst, arith, rules, [], named_within, named_plain, common_steps}
use Rattle.htoken.proofs.AtOnce.{memory_part, name_begins, nothing_taken, plain_cut}
use Rattle.htoken.proofs.Fronts.{IsCalm, taken_kept, taken_now}
use Rattle.htoken.proofs.tokenizer.Tokenizer.take_tag_open.Goals as goal

pub returns-in-0-clause-takes : goal.returns-in-0-clause-takes
returns-in-0-clause-takes g c = λ table start before text taken grows h. nothing_taken c.args.run.now.at (taken_kept c.args.names.now grows h)

pub bare_start_tag-requires-clause-bare : goal.bare_start_tag-requires-clause-bare
bare_start_tag-requires-clause-bare g c =
    rw (← c.as_bytes-bytes.ensures.value) (c.is_bare.ensures c.if-is_bare.true (c.tag_name.ensures (omega (arith, c.in_default))))

pub returns-in_ok-begin_start_tag-in_default-2-clause-takes : goal.returns-in_ok-begin_start_tag-in_default-2-clause-takes
returns-in_ok-begin_start_tag-in_default-2-clause-takes g c =
    λ table start before text taken grows h. name_begins (taken_now c.args.names.now (subst IsCalm (sym c.requires.less) tt) grows h) c.requires.less _
    c.args.run.now.text.now c.args.run.now.at _ _ (search rules) (omega (arith, c.args.run.now.within)) _ c.in_ok-begin_start_tag-in_default-2.ensures _

pub returns-in_ok-begin_start_tag-in_default-2-clause-cut : goal.returns-in_ok-begin_start_tag-in_default-2-clause-cut
returns-in_ok-begin_start_tag-in_default-2-clause-cut g c = let begun = c.in_ok-begin_start_tag-in_default-2.ensures in
    rw begun.0 (plain_cut c.tag_name.result c.args.run.now.text.now (named_within [] c.args.run.now.text.now c.tag_name.result begun.1.named)
    (named_plain [] c.args.run.now.text.now c.tag_name.result begun.1.named) (search rules))

pub returns-in_err-begin_start_tag-in_default-2-clause-takes : goal.returns-in_err-begin_start_tag-in_default-2-clause-takes
returns-in_err-begin_start_tag-in_default-2-clause-takes g c =
    λ table start before text taken grows h. memory_part (taken_now c.args.names.now (subst IsCalm (sym c.requires.less) tt) grows h)
    (gives_item g.S.ErrorSink.gives g.S.TokenSink.gives_token) c.args.run.now.at c.args.run.now.text.now c.args.sink.now _ _ (search rules)

pub returns-in_err-begin_start_tag-in_default-2-clause-grows : goal.returns-in_err-begin_start_tag-in_default-2-clause-grows
returns-in_err-begin_start_tag-in_default-2-clause-grows g c = grind (arith, common_steps)

pub returns-in_ok-begin_start_tag-in_default-2-clause-grows : goal.returns-in_ok-begin_start_tag-in_default-2-clause-grows
returns-in_ok-begin_start_tag-in_default-2-clause-grows g c = grind (arith, common_steps)
