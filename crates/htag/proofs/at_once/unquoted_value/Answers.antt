use Rattle.htag.proofs.Vocabulary.{ℕ, List, ◌-◌, length, take, drop, sym, subst, arith, nat_tests, length-drop, take_all, IsPlainValue}
use Rattle.htag.proofs.AtOnce.{unquoted_is}
use Rattle.htag.proofs.at_once.unquoted_value.Goals as goal

pub returns-then-is_ascii_whitespace : goal.returns-then-is_ascii_whitespace
returns-then-is_ascii_whitespace c = let run = c.args.run.now in let rest : List ℕ = take (length run - 1) (drop 1 run) in
    subst (IsPlainValue run) (sym c.value_of.ensures)
    (unquoted_is run rest c.unquoted_run-value.result (take_all (length run - 1) (drop 1 run) (omega (arith, length-drop 1 run))) c.requires.long
    c.requires.equals c.unquoted_run-value.ensures.counted c.if-value-gt0.true c.if-value-rest.true (grind (arith, nat_tests)))
