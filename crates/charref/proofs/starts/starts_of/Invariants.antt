use Rattle.charref.proofs.Names.{◌≡◌, ◌≤◌, length, slice_get, Some, Entry, code_at, IsIndex, vec_capacity}
use Rattle.charref.proofs.Searching.{AreBelow}
use Rattle.charref.proofs.starts.starts_of.Given as goal

abbrev pub invariant-loop-code : goal.invariant-loop-code
invariant-loop-code l = record {
  index : IsIndex l.flat l.starts.items l.code;
  room : vec_capacity l.starts ≡ 130;
  within : l.index ≤ length l.flat;
  below : AreBelow l.flat l.index l.code;
  here : (e : Entry) → slice_get l.flat l.index ≡ Some e → l.here ≡ code_at e.key 1;
}
