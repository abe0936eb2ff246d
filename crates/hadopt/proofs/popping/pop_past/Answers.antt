use Rattle.hadopt.proofs.Names.{◌∙◌, ap, sym, option_map, open_of, passes}
use Rattle.hadopt.proofs.Putting.{past-step}
use Rattle.hadopt.proofs.popping.pop_past.Goals as goal

pub loop-top-preserved : goal.loop-top-preserved
loop-top-preserved c = let is = sym c.current.ensures ∙ ap (option_map open_of) c.in-Some.is in let test = sym c.is.ensures ∙ c.if-not-is.false in
    rw (c.pop.ensures.rest)
    (c.loop-top.invariant.0, past-step (passes c.args.passing) c.loop-top.stack.stack (open_of c.in-Some.top) is test ∙ c.loop-top.invariant.1)
