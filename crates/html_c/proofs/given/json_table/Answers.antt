use Rattle.html_c.proofs.Names.{◌≡◌, Ok, Err, ap, subst, table_of_json, ReadsTableBytes, Json, no_text}
use Rattle.html_c.proofs.Outcomes.{passed}
use Rattle.html_c.proofs.Tables.{json_refused, table_is}
use Rattle.html_c.proofs.given.json_table.Goals as goal

pub returns-in_err-text_of : goal.returns-in_err-text_of
returns-in_err-text_of c = let (none, is) = c.in_err-text_of.ensures in
    passed _ _ (ReadsTableBytes c.args.bytes.now) c.from_residual.ensures.1 (no_text c.requires none (ap Err is))

pub returns-in_err-read : goal.returns-in_err-read
returns-in_err-read c = passed _ _ (ReadsTableBytes c.args.bytes.now) c.from_residual-in_err-read.ensures.1
    (json_refused c.requires c.in_ok-text_of.ensures c.in_err-read.ensures.err)

pub returns : goal.returns
returns c = let table = c.in_ok-read.field-0 in
    table_is Json c.requires (subst (λ t. table_of_json t ≡ Ok table) c.in_ok-text_of.ensures c.in_ok-read.ensures.ok)
