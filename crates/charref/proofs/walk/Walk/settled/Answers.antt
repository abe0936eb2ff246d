use Rattle.charref.proofs.Names.{arith, true≢false, sym, ◌∙◌, subst, IsTable, IsSortedTable, Settles, elements}
use Rattle.charref.proofs.AtOnce.{no_first}
use Rattle.charref.proofs.Fronts.{byte_at}
use Rattle.charref.proofs.WholeNumbers.{sign_first}
use Rattle.charref.proofs.walk.Walk.settled.Goals as goal

pub whole_number-value-requires : goal.whole_number-value-requires
whole_number-value-requires c = sign_first c.args.bytes.now (byte_at c.args.bytes.now 0 35 (omega arith) (omega arith))

pub returns-then-count-gt0 : goal.returns-then-count-gt0
returns-then-count-gt0 c = let table = c.args.table.now in
    let it : Settles table c.args.bytes.now _ c.number.result = rw c.number.ensures (c.whole_number-value.ensures c.if-count-gt0.true table) in
    record {
      table = subst IsTable c.table.view_is c.table.invariant.0.sorted.is_table;
      few = (it.some, it.few);
      ascii = it.ascii;
      read = it.read;
      none = λ none. absurd (true≢false none);
    }

pub returns-then-is_alphanumeric : goal.returns-then-is_alphanumeric
returns-then-is_alphanumeric c = let table = c.args.table.now in let sorted = subst IsSortedTable c.table.view_is c.table.invariant.0.sorted in
    let range = c.starting-low.ensures table sorted (rw (c.deref.ensures.value, ← c.table.view_is) c.table.invariant.1) in
    let it : Settles table c.args.bytes.now 1 c.unknown.result = rw c.unknown.ensures (no_first table c.args.bytes.now c.in-Some.first.now _ _ sorted
    c.in-Some.ensures.value (sym c.is_alphanumeric.ensures ∙ c.if-is_alphanumeric.true) range (omega (arith, range.ordered, c.if-low-high.false))) in
    record { table = sorted.is_table; few = (it.some, it.few); ascii = it.ascii; read = it.read; none = λ none. absurd (true≢false none) }

pub whole_index-requires : goal.whole_index-requires
whole_index-requires c =
    let range = c.starting-low.ensures c.args.table.now (subst IsSortedTable c.table.view_is c.table.invariant.0.sorted)
    (rw (c.deref.ensures.value, ← c.table.view_is) c.table.invariant.1) in
    (c.if-low-high.true, range.within)

pub returns-in-Some-whole_index : goal.returns-in-Some-whole_index
returns-in-Some-whole_index c = let it = c.whole_key.ensures c.args.bytes.now c.in-Some-whole_index.ensures in
    record {
      table = subst IsTable c.table.view_is c.table.invariant.0.sorted.is_table;
      few = (it.some, it.few);
      ascii = it.ascii;
      read = it.read;
      none = λ none. absurd (true≢false none);
    }

pub whole_key-requires : goal.whole_key-requires
whole_key-requires c = grind (arith, elements)
