use Rattle.hopen.proofs.Names.{◌≡◌, ◌+◌, ◌-◌, ◌<◌, None, drop, get_or, set, length, map, reverse, somes, Rests, opened_by, AreAsLong}
use Rattle.hopen.proofs.exchange.sink.Given as goal

abbrev pub invariant-loop-index : goal.invariant-loop-index
invariant-loop-index l = record {
  rests : Rests l.last l.items;
  within : l.index < length l.items;
  same : get_or (map opened_by l.items) l.index None ≡ get_or (map opened_by l.initial.items) l.from None;
  rest : somes (reverse (set (map opened_by l.items) l.index None)) ≡ somes (reverse (set (map opened_by l.initial.items) l.from None));
  below : drop (l.index + 1) (map opened_by l.items) ≡ drop (l.index + 1) (map opened_by l.initial.items);
  tables : AreAsLong l.last l.initial.last;
}

abbrev pub decreases-loop-index : goal.decreases-loop-index
decreases-loop-index l = l.to - l.index
