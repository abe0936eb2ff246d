use Rattle.html_c.proofs.Names.{[], Err, refl, subst, sym, AllowsContext, unmet_rows}
use Rattle.html_c.proofs.Exports.{a_parse, no_parse}
use Rattle.html_c.proofs.Outcomes.{fails}
use Rattle.html_c.proofs.Trees.{not_begun, parse_of}
use Rattle.html_c.proofs.tree.parse_of.Goals as goal

pub returns-in_err-lists : goal.returns-in_err-lists
returns-in_err-lists c = fails _ _ _ _ c.from_residual.ensures.1 (unmet_rows c.in_err-lists.ensures)

pub returns-in_err-parser : goal.returns-in_err-parser
returns-in_err-parser c = let allows = subst AllowsContext (sym c.requires.context) c.requires.allows in
    fails _ _ _ _ c.from_residual-in_err-parser.ensures.1
    (no_parse c.options-options.ensures.told c.requires.context (not_begun _ _ _ (Err c.in_err-parser.field-0.0) _ allows refl c.in_err-parser.ensures))

pub returns-in_err-parse_reader : goal.returns-in_err-parse_reader
returns-in_err-parse_reader c = fails _ _ _ _ c.from_residual-in_err-parse_reader.ensures.1
    (no_parse c.options-options.ensures.told c.requires.context (parse_of _ _ (c.in_err-parse_reader.ensures.reads _ _ [] c.in_ok-parser.ensures.1)))

pub returns : goal.returns
returns c = a_parse c.options-options.ensures.told c.requires.context c.options-options.ensures.places
    (parse_of _ _ (c.in_ok-parse_reader.ensures.reads _ _ [] c.in_ok-parser.ensures.1))
