use Rattle.hparse.proofs.Names.{◌∙◌, items, reads_in}
use Rattle.hparse.proofs.Pieces.{ends_refused, ends_input, holds_all}
use Rattle.hparse.proofs.reading.Reading.end.Goals as goal

pub returns-in-Err : goal.returns-in-Err
returns-in-Err g c =
    λ m began bytes h. ends_refused h c.in-Err.refusal c.refuse.result c.finish.new.sink (record { decoder = c.finish.new.self; feeding = c.refuse.new.self })
    (c.refuse.ensures.answer m began) c.refuse.ensures.stopped (c.in-Err.ensures.ends bytes h.fed)

pub returns-in-Ok : goal.returns-in-Ok
returns-in-Ok g c = λ m began bytes h.
    let ended = c.in-Ok.ensures.ends bytes h.fed in let whole = c.read.ensures ∙ c.in-Ok.ensures.whole bytes h.fed in
    ends_input h c.finish.new.sink (record { decoder = c.finish.new.self; feeding = c.finish-in-Ok.new.self }) c.read.result whole ended c.finish-in-Ok.result
    (c.finish-in-Ok.ensures m began (items (reads_in m bytes)) (holds_all h c.finish.new.sink ended))
