use Rattle.hadopt.proofs.Names.{ℕ, sym, ap, ◌∙◌, arith, option_map, open_of, InPlace, current, above, InnerLoop, SiteOf, inner_loop_of}
use Rattle.hadopt.proofs.Ways.{way-begins, way-step}
use Rattle.hadopt.proofs.site.Site.inner_loop.Goals as goal

pub loop-next-init : goal.loop-next-init
loop-next-init c = let start : InnerLoop ℕ = record { last_node = c.args.furthest_block; bookmark = InPlace; site = c.args.self.now } in
    let next = c.above-next.ensures ∙ ap (λ (s : SiteOf ℕ). current (above c.args.furthest_block s.open_nodes.stack)) c.self.view_is in
    record {
      begun = c.requires.begun;
      last_in = c.requires.block_in;
      few = omega arith;
      within = omega arith;
      on = rw (next) (way-begins c.args.formatting_element c.args.furthest_block c.args.at start c.requires.different);
    }

pub loop-next-smaller : goal.loop-next-smaller
loop-next-smaller c = let l = c.loop-next in
    let next = c.above-next-in-Some.ensures ∙ ap (λ (s : SiteOf ℕ). current (above c.in-Some.node.node s.open_nodes.stack)) c.self-in-Some.view_is in
    rw (next) (way-step l.invariant.on (open_of c.in-Some.node) (ap (option_map open_of) c.in-Some.is) (inner_loop_of c.in_ok-inner.inner c.inner_turn.new.self)
    l.invariant.few (sym c.eq.ensures ∙ c.if-eq.false) c.in_ok-inner.ensures.done).1

pub loop-next-preserved : goal.loop-next-preserved
loop-next-preserved c = let l = c.loop-next in
    let next = c.above-next-in-Some.ensures ∙ ap (λ (s : SiteOf ℕ). current (above c.in-Some.node.node s.open_nodes.stack)) c.self-in-Some.view_is in
    record {
      begun = c.in_ok-inner.ensures.last_node.0;
      last_in = c.in_ok-inner.ensures.last_node.1;
      few = omega (arith, c.min-passed.ensures);
      within = grind (arith, l.invariant.within, l.invariant.few, c.min-passed.ensures, c.in_ok-inner.ensures.few, c.in_ok-inner.ensures.none);
      on = rw (c.min-passed.ensures, next) (way-step l.invariant.on (open_of c.in-Some.node) (ap (option_map open_of) c.in-Some.is)
          (inner_loop_of c.in_ok-inner.inner c.inner_turn.new.self) l.invariant.few (sym c.eq.ensures ∙ c.if-eq.false) c.in_ok-inner.ensures.done).0;
    }
