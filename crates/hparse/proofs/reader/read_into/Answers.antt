use Rattle.hparse.proofs.Names.{[], sym, subst, Ok, Err, Texts, gives_item, HasRead, as_document, ReadsInto, began_with}
use Rattle.hparse.proofs.ReadIn.{read_all, read_some}
use Rattle.hparse.proofs.reader.read_into.Goals as goal

pub returns-in-Ok : goal.returns-in-Ok
returns-in-Ok g c = let gives = gives_item g.S.ErrorSink.gives g.S.TokenSink.gives_token in
    let m = as_document c.args.options.now.table.now c.args.options.now.bad_bytes c.args.options.now.limits.input in
    let reading = c.read_to_end-answer.new.reading in
    let start = subst (λ (names : Texts). HasRead gives m (record { names = names; sink = c.args.sink }) c.new-reading.result [])
    c.new-names.ensures.known c.new-reading.ensures in
    let read = c.into_parts-names.result in
    subst
    (λ now. ReadsInto gives m g.R.Source.left g.R.Source.failed c.args.sink c.args.piece c.args.source.now c.read_to_end-answer.new.source now (Ok read.0))
    (sym c.into_parts-names.ensures.sink) (subst (λ (names : Texts). ReadsInto gives m g.R.Source.left g.R.Source.failed c.args.sink c.args.piece
    c.args.source.now c.read_to_end-answer.new.source reading.feeding.sink (Ok names)) (sym c.into_parts-names.ensures.names)
    (read_all g.R.Source.left g.R.Source.failed gives m c.args.sink c.args.piece c.args.source.now c.read_to_end-answer.new.source reading
    c.read_to_end-answer.result (c.read_to_end-answer.ensures m (began_with c.args.sink) [] start) c.in-Ok.is))

pub returns-in-Err : goal.returns-in-Err
returns-in-Err g c = let gives = gives_item g.S.ErrorSink.gives g.S.TokenSink.gives_token in
    let m = as_document c.args.options.now.table.now c.args.options.now.bad_bytes c.args.options.now.limits.input in
    let start = subst (λ (names : Texts). HasRead gives m (record { names = names; sink = c.args.sink }) c.new-reading.result []) c.new-names.ensures.known
    c.new-reading.ensures in
    subst (λ now.
    ReadsInto gives m g.R.Source.left g.R.Source.failed c.args.sink c.args.piece c.args.source.now c.read_to_end-answer.new.source now (Err c.in-Err.refusal))
    (sym c.into_parts-names.ensures.sink) (read_some g.R.Source.left g.R.Source.failed gives m c.args.sink c.args.piece c.args.source.now
    c.read_to_end-answer.new.source c.read_to_end-answer.new.reading c.read_to_end-answer.result
    (c.read_to_end-answer.ensures m (began_with c.args.sink) [] start) c.in-Err.refusal c.in-Err.is)
