use Rattle.hopen.proofs.Names.{◌+◌, drop, ◌≡◌, ℕ, ◌<◌, List, Option, None, length, map, reverse, get_or, set, sym, ◌∙◌, ap, subst, arith, length-map, opened_by, somes, EndsOpen, OpenNode, gap, sum_by, common_steps}
use Rattle.hopen.proofs.ExchangedSlots.{drop-exchanged, drop-later, ends-exchanged, rest-exchanged}
use Rattle.hopen.proofs.Passed.{sum-exchanged}
use Rattle.hopen.proofs.Projected.{no-name}
use Rattle.hopen.proofs.Swapped.{exchanged-lower}
use Rattle.hopen.proofs.Trimmed.{stack-holes}
use Rattle.hopen.proofs.exchange.sink.Goals as goal

pub loop-index-preserved : goal.loop-index-preserved
loop-index-preserved c = let ys : List (Option (OpenNode ℕ)) = map opened_by c.loop-index.items in let i = c.loop-index.index in
    let j = c.next_open-below.result in
    let w = c.loop-index.invariant in
    let below = c.next_open-below.ensures in
    let opened = c.swap.ensures.opened in
    let within : j < length ys = omega (arith, below.within, length-map c.loop-index.items opened_by) in
    let holes : (m : ℕ) → i < m → m < j → get_or ys m None ≡ None = λ m a b. no-name ys m (below.holes m a b) in
    record {
      rests = record {
        stands = c.swap.ensures.stands;
        ends = subst EndsOpen (sym opened) (ends-exchanged ys i j below.order within (λ e. c.requires.live (sym w.same ∙ e)) w.rests.ends);
        holes = omega (
          arith,
          w.rests.holes,
          c.swap.ensures.tables.holes,
          ap (sum_by gap) opened,
          sum-exchanged gap ys i j None below.order within,
          stack-holes c.loop-index.items,
          stack-holes c.swap.new.items,
        );
        levels = omega (arith, w.rests.levels, c.swap.auto.items);
      };
      within = omega (arith, below.within, c.swap.auto.items);
      same = ap (λ l. get_or l j None) opened ∙ exchanged-lower i j None ys within ∙ w.same;
      rest = ap (λ l. somes (reverse (set l j None))) opened ∙ rest-exchanged ys i j below.order holes ∙ w.rest;
      below = ap (drop (j + 1)) opened ∙ drop-exchanged i j ys below.order
          ∙ drop-later (i + 1) (j + 1) ys (map opened_by c.args.items.now) (omega (arith, below.order)) w.below;
      tables = record {
        names = c.swap.ensures.tables.names ∙ w.tables.names;
        nodes = c.swap.ensures.tables.nodes ∙ w.tables.nodes;
        holes = c.swap.ensures.tables.holes ∙ w.tables.holes;
      };
    }

pub swap-requires-clause-can_pass : goal.swap-requires-clause-can_pass
swap-requires-clause-can_pass c = grind (arith, common_steps)
