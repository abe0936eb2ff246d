use Rattle.charref.proofs.Names.{rules, ◌≡◌, Ok, table_of_json, arith}
use Rattle.charref.proofs.Forms.{reads_parsed}
use Rattle.charref.proofs.table.Table.read.Goals as goal

pub returns-clause-ok : goal.returns-clause-ok
returns-clause-ok c = let ok = c.in_ok-flat_of.ensures.ok in let known : table_of_json c.args.text.now ≡ Ok ok.0 = search rules in
    reads_parsed (table_of_json c.args.text.now) ok.0 c.in_ok-flat_of.field-0.items c.of_flat.result known ok.2 ok.3 c.of_flat.ensures.readable
    c.of_flat.ensures.ok

pub returns-in_err-flat_of-clause-err : goal.returns-in_err-flat_of-clause-err
returns-in_err-flat_of-clause-err c = grind arith

pub returns-in_err-value-clause-err : goal.returns-in_err-value-clause-err
returns-in_err-value-clause-err c = grind arith
