use Rattle.htag.proofs.Vocabulary.{◌≡◌, ◌<◌, ◌++◌, ◌∙◌, ℕ, List, refl, true≢false, sym, ap, arith, grows_not, string_bytes, front_of}
use Rattle.htag.proofs.Values.{keeps_tag}
use Rattle.htag.specs.declared.piece.Pending.TheVariants as reading
use Rattle.htag.proofs.Ascii.{edge_of}
use Rattle.htag.proofs.InRun.{none_front}
use Rattle.htag.proofs.ValueRuns.{value_run_cut, value_run_taken}
use Rattle.htag.proofs.walk.TagWalk.take_in_value.Goals as goal
use Rattle.htag.proofs.walk.TagWalk.take_in_value.Goals.{in-Nothing, in_default}

pub returns-then-count-eq0 : goal.returns-then-count-eq0
returns-then-count-eq0 c = λ table names at errors. none_front c.utf8.run

pub range-requires-clause-end_boundary : goal.range-requires-clause-end_boundary
range-requires-clause-end_boundary c =
    edge_of c.args.count c.args.run.now (value_run_cut c.args.run.now c.args.count c.utf8.run c.args.self.now.phase c.requires.stands)

pub returns : goal.returns
returns c = λ table names at errors.
    let run = c.args.run.now in let count = c.args.count in let walk = c.args.self.now in
    let some : 0 < c.args.count = omega (arith, c.if-count-eq0.false) in
    let nothing : c.args.self.now.value.reading ≡ reading.Nothing = elim c.match-matches.branch
    [ in-Nothing w ↦ w.in-Nothing.is | in_default w ↦ absurd (true≢false (sym c.if-not-matches.false ∙ w.matches-is)) ] in
    record {
      cut = value_run_cut run count c.utf8.run walk.phase c.requires.stands;
      takes = λ body h. value_run_taken run count c.utf8.run nothing at h c.requires.clean some (keeps_tag refl refl refl refl refl) refl refl refl refl
          (c.in_ok-push_str.ensures.bytes ∙ ap (λ (x : List ℕ). string_bytes walk.value.text ++ x) (c.range.ensures.value ∙ front_of count run))
          c.requires.stands;
      grows = grows_not names;
      kind = refl;
    }
