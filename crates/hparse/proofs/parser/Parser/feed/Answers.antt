use Rattle.hparse.proofs.Names.{grows_not, manner, arith, common_steps}
use Rattle.hparse.proofs.Parsings.{has_read, names_of, feeds_on, feeds_refused}
use Rattle.hparse.proofs.parser.Parser.feed.Goals as goal

pub returns-in-Ok-clause-feeds : goal.returns-in-Ok-clause-feeds
returns-in-Ok-clause-feeds c = λ opts parse_case bytes h.
    feeds_on h c.args.piece.now h.accepts (c.in-Ok.ensures (manner opts parse_case) h.began bytes (has_read h c.deref_mut.ensures.value))

pub returns-in-Err-clause-feeds : goal.returns-in-Err-clause-feeds
returns-in-Err-clause-feeds c =
    λ opts parse_case bytes h. feeds_refused h c.feed.new.self (grows_not _) (names_of _ _ c.deref.ensures c.are_names.ensures.names) c.args.piece.now
    (c.in-Err.ensures (manner opts parse_case) h.began bytes (has_read h c.deref_mut.ensures.value))

pub returns-in-Err-clause-again : goal.returns-in-Err-clause-again
returns-in-Err-clause-again c = grind (arith, common_steps)
