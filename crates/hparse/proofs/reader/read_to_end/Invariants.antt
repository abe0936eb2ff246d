use Rattle.hparse.proofs.Names.{◌≡◌, ℕ, List, gives_item, HasRead, Manner, Began, vec_len}
use Rattle.hparse.proofs.Turns.{HasTurned}
use Rattle.hparse.proofs.reader.read_to_end.Given as goal

abbrev pub invariant-loop-turn : goal.invariant-loop-turn
invariant-loop-turn g l = ((m : Manner) (began : Began g.row.S.Denot) (before : List ℕ)
    → HasRead (gives_item g.S.ErrorSink.gives g.S.TokenSink.gives_token) m began l.initial.reading before → HasTurned g.R.Source.left g.R.Source.failed
    (gives_item g.S.ErrorSink.gives g.S.TokenSink.gives_token) m began before l._turn l.initial.source l.source l.reading) × (vec_len l.buffer ≡ l.piece)
