use Rattle.hmarkup.proofs.Names.{refl, err_from_is_err_and, ran_out, sink_refused, goes_on, ended}
use Rattle.hmarkup.proofs.Outcomes.{begins_so, told_end, told_more}
use Rattle.hmarkup.proofs.comment.CommentWalk.take_char.Goals as goal

pub returns-in_err-report : goal.returns-in_err-report
returns-in_err-report g c = let e = err_from_is_err_and c.from_residual.result c.from_residual.ensures.1 in
    rw (e.1, e.2) (λ kind text raised h. sink_refused _ _ refl (rw c.fault_at.ensures at c.in_err-report.ensures)
    (begins_so kind _ text raised (record { ch = c.args.ch; at = c.args.at }) c.step-code.result c.step-code.ensures h))

pub returns-then-ends : goal.returns-then-ends
returns-then-ends g c = λ kind text raised h. ended _ refl (rw c.fault_at.ensures at c.in_ok-report.ensures)
    (told_end kind _ text raised (record { ch = c.args.ch; at = c.args.at }) c.step-code.result c.step-code.ensures h c.if-ends.true)

pub returns-in_err-keep : goal.returns-in_err-keep
returns-in_err-keep g c = let e = err_from_is_err_and c.from_residual-in_err-keep.result c.from_residual-in_err-keep.ensures.1 in
    rw (e.1, e.2) (λ kind text raised h. ran_out _ refl (rw c.fault_at.ensures at c.in_ok-report.ensures)
    (begins_so kind _ text raised (record { ch = c.args.ch; at = c.args.at }) c.step-code.result c.step-code.ensures h))

pub returns : goal.returns
returns g c = λ kind text raised h. goes_on _ refl (rw c.fault_at.ensures at c.in_ok-report.ensures) (rw c.in_ok-keep.ensures
    (told_more kind _ text raised (record { ch = c.args.ch; at = c.args.at }) c.step-code.result c.step-code.ensures h c.if-ends.false))
