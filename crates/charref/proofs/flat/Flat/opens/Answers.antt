use Rattle.charref.proofs.Names.{arith, common_steps}
use Rattle.charref.proofs.Begins.{opens_entry}
use Rattle.charref.proofs.flat.Flat.opens.Goals as goal

pub returns-then-bytes-ge-AT_ONCE : goal.returns-then-bytes-ge-AT_ONCE
returns-then-bytes-ge-AT_ONCE c = opens_entry c.self.inside.text.items c.args.bytes.now _ c.args.self.now c.args.index _ _ c.self.invariant.1 c.self.view_is
    c.requires c.index-entity.ensures (rw c.deref.ensures.value at c.begin_at_once.ensures)

pub returns : goal.returns
returns c = opens_entry c.self.inside.text.items c.args.bytes.now _ c.args.self.now c.args.index _ _ c.self.invariant.1 c.self.view_is c.requires
    c.index-entity.ensures (rw c.deref.ensures.value at c.starts_with.ensures.value)

pub slice_bounds-starts_with-end : goal.slice_bounds-starts_with-end
slice_bounds-starts_with-end c = grind (arith, common_steps)
