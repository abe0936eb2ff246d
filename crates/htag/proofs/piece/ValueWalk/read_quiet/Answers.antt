use Rattle.htag.proofs.Vocabulary.{ℕ, List, [], sym, ap, ◌∙◌, subst, arith, list_all, string_bytes, chars, is_clean, clean_rest, IsQuietFront, common_steps}
use Rattle.htag.proofs.Ascii.{edge_of}
use Rattle.htag.proofs.QuietValues.{more_read, nothing_read}
use Rattle.htag.proofs.piece.ValueWalk.read_quiet.Goals as goal

pub loop-count-init : goal.loop-count-init
loop-count-init c =
    subst (IsQuietFront c.args.table.now c.args.run.now 0 []) (sym c.clear.ensures.bytes) (nothing_read c.args.table.now c.args.run.now [] c.utf8.run)

pub range_from-requires : goal.range_from-requires
range_from-requires c = λ _. edge_of c.loop-count.count c.args.run.now c.loop-count.invariant.cut

pub read_front-requires-clause-clean : goal.read_front-requires-clause-clean
read_front-requires-clause-clean c = ap (λ (x : List ℕ). list_all is_clean (chars x)) c.range_from.ensures.value
    ∙ (clean_rest c.loop-count.count c.args.run.now c.loop-count.invariant.cut c.requires.clean).1

pub loop-count-preserved : goal.loop-count-preserved
loop-count-preserved c = more_read c.args.table.now c.args.run.now c.loop-count.count c.in_ok-more.more [] _ _ c.loop-count.invariant
    (subst (λ (x : List ℕ). IsQuietFront c.args.table.now x c.in_ok-more.more (string_bytes c.loop-count.self.text) (string_bytes c.read_front.new.self.text))
    c.range_from.ensures.value (c.in_ok-more.ensures (omega (arith, c.if-more-eq0.false))))

pub returns-then-more-eq0 : goal.returns-then-more-eq0
returns-then-more-eq0 c = grind (arith, common_steps)
