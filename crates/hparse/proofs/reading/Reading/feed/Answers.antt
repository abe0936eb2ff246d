use Rattle.hparse.proofs.Pieces.{reads_piece, refuses_piece}
use Rattle.hparse.proofs.reading.Reading.feed.Goals as goal

pub returns-in-Ok : goal.returns-in-Ok
returns-in-Ok g c = λ m began bytes h. reads_piece c.args.piece.now h _ (c.in-Ok.ensures.feeds bytes h.fed) (c.in-Ok.ensures.fed bytes h.fed)
    c.in-Ok.ensures.how c.all_fed.ensures.fed c.are_names.ensures.names

pub returns-in-Err : goal.returns-in-Err
returns-in-Err g c = λ m began bytes h. refuses_piece c.args.piece.now h c.in-Err.refusal c.refuse.result c.feed.new.sink _ (c.refuse.ensures.answer m began)
    c.refuse.ensures.stopped c.refuse.ensures.memory (c.in-Err.ensures.feeds bytes h.fed)
