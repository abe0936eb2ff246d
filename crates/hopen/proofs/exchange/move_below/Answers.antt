use Rattle.hopen.proofs.Names.{common_steps, ◌≡◌, ◌≤◌, ◌+◌, ◌-◌, ◌∷◌, ◌++◌, ℕ, List, Some, length, map, insert, rules, sym, ◌∙◌, ap, arith, subst, take, take_at, take-map, drop, drop-map, map-append, length-take-le, length-insert, length-map, is_node, open_of, opened_by, gap, sum_by-insert, All-append, All-cons, All-drop, All-take, AreIn, IsIn, LevelsStand, LevelsTo, KeptNode}
use Rattle.hopen.proofs.ExchangedSlots.{ends-insert, put-placed, level-le, node-placed, put-none}
use Rattle.hopen.proofs.Standing.{in-as-long, levels-front, stands-in}
use Rattle.hopen.proofs.Trimmed.{stack-holes, written_back}
use Rattle.hopen.proofs.exchange.move_below.Goals as goal
use Rattle.hopen.proofs.exchange.move_below.Goals.{After-of_node-level, After-rewind}

map-insert : {X Y : Type 0} (f : X → Y) (xs : List X) (i : ℕ) (x : X) → map f (insert xs i x) ≡ insert (map f xs) i (f x)
map-insert f xs i x = map-append f (take i xs) (x ∷ drop i xs) ∙ (λ k. sym (take-map f i xs) k ++ f x ∷ sym (drop-map f i xs) k)

within : (c : After-of_node-level) → c.of_node-level.result ≤ length c.remove.new.items.items
within c = level-le _ _ c.remove.ensures.rests.stands c.args.above c.of_node-level.result c.of_node-level.ensures

pub returns-then-level-eq0-clause-items : goal.returns-then-level-eq0-clause-items
returns-then-level-eq0-clause-items c = grind (arith, common_steps, put-none)

pub unwind-requires-clause-within : goal.unwind-requires-clause-within
unwind-requires-clause-within c = omega (arith, within (goal.at.unwind-requires-clause-within c).After-of_node-level, ap length c.deref.ensures.value)

pub unwind-requires-clause-stands : goal.unwind-requires-clause-stands
unwind-requires-clause-stands c = subst (LevelsStand c.remove.new.last) (sym c.deref.ensures.value) c.remove.ensures.rests.stands

pub insert-requires : goal.insert-requires
insert-requires c = omega (arith, within (goal.at.insert-requires c).After-of_node-level)

pub rewind-requires-clause-within : goal.rewind-requires-clause-within
rewind-requires-clause-within c = let left : List KeptNode = c.remove.new.items.items in
    let low = within (goal.at.rewind-requires-clause-within c).After-of_node-level in
    let put : c.insert.new.self.items ≡ insert left c.of_node-level.result c.new.result = search rules in
    omega (arith, low, ap length (c.deref_mut.ensures.value ∙ put), length-insert left c.of_node-level.result c.new.result low)

pub rewind-requires-clause-stands : goal.rewind-requires-clause-stands
rewind-requires-clause-stands c = let left : List KeptNode = c.remove.new.items.items in let i = c.of_node-level.result in
    let put : c.insert.new.self.items ≡ insert left i c.new.result = search rules in
    levels-front i c.unwind.new.last c.deref_mut.result.now left (ap (take i) (c.deref_mut.ensures.value ∙ put)
    ∙ take_at (take i left) (c.new.result ∷ drop i left) i (length-take-le i left (within (goal.at.rewind-requires-clause-stands c).After-of_node-level)))
    (subst (λ (xs : List KeptNode). LevelsTo i c.unwind.new.last xs) c.deref.ensures.value c.unwind.ensures.stands)

pub rewind-requires-clause-numbers : goal.rewind-requires-clause-numbers
rewind-requires-clause-numbers c = let left : List KeptNode = c.remove.new.items.items in let i = c.of_node-level.result in let last = c.remove.new.last in
    let put : c.insert.new.self.items ≡ insert left i c.new.result = search rules in
    let ys = map opened_by left in
    let all : AreIn last ys = stands-in last left c.remove.ensures.rests.stands in
    let here : IsIn last (opened_by c.new.result) = subst (IsIn last) (sym c.new.ensures)
    (omega (arith, c.requires.new_in), omega (arith, c.requires.new_in)) in
    in-as-long last c.unwind.new.last c.unwind.ensures.tables (map opened_by c.deref_mut.result.now)
    (subst (AreIn last) (sym (ap (map opened_by) (c.deref_mut.ensures.value ∙ put) ∙ map-insert opened_by left i c.new.result))
    (All-append (IsIn last) (take i ys) (opened_by c.new.result ∷ drop i ys) (All-take (IsIn last) i ys all)
    (All-cons (IsIn last) (opened_by c.new.result) (drop i ys) here (All-drop (IsIn last) i ys all))))

-- what is open then
opened : (c : After-rewind)
    → map opened_by c.rewind.new.items ≡ insert (map opened_by c.remove.new.items.items) c.of_node-level.result (Some (open_of c.args.new))
opened c = let put : c.insert.new.self.items ≡ insert c.remove.new.items.items c.of_node-level.result c.new.result = search rules in
    let map = map-insert opened_by c.remove.new.items.items c.of_node-level.result c.new.result in
    grind (arith, c.rewind.ensures.same, c.deref_mut.ensures.value, map, c.new.ensures)

pub returns-clause-rests : goal.returns-clause-rests
returns-clause-rests c = let left : List KeptNode = c.remove.new.items.items in let more : List KeptNode = c.rewind.new.items in let new = open_of c.args.new in
    let level = c.of_node-level.result in let is = opened (goal.at.returns-clause-rests c).After-rewind in let ys = map opened_by left in
    let inside : level ≤ length ys = omega (arith, within (goal.at.returns-clause-rests c).After-of_node-level, length-map left opened_by) in
    let many : length more ≡ length left + 1 = grind (arith, length-map, is, length-insert ys level (Some new) inside) in
    let gaps = sum_by-insert gap ys level (Some new) in let tables = c.rewind.ensures.tables.holes in
    rw (written_back more _ _ _ c.rewind.ensures.same c.deref_mut.ensures.value c.deref_mut.ensures.len) (record {
      stands = c.rewind.ensures.stands;
      ends = rw is (ends-insert ys level new inside c.remove.ensures.rests.ends);
      holes = grind (arith, c.remove.ensures.rests.holes, tables, c.unwind.ensures.tables.holes, is, gaps, stack-holes left, stack-holes more);
      levels = omega (arith, c.requires.levels, c.remove.ensures.room.len, many);
    })

pub returns-clause-items : goal.returns-clause-items
returns-clause-items c = let new = open_of c.args.new in let left : List KeptNode = c.remove.new.items.items in let level = c.of_node-level.result in
    let next : level ≡ level - 1 + 1 = omega arith in let is = opened (goal.at.returns-clause-items c).After-rewind in
    let back = written_back c.rewind.new.items _ _ _ c.rewind.ensures.same c.deref_mut.ensures.value c.deref_mut.ensures.len in
    let here = node-placed _ _ c.remove.ensures.rests.stands c.args.above level c.of_node-level.ensures (omega arith) in
    grind (arith, back, is, next, put-placed (is_node c.args.above) left (level - 1) new here, c.remove.ensures.items)

pub rewind-requires-clause-levels : goal.rewind-requires-clause-levels
rewind-requires-clause-levels c = grind (arith, common_steps)

pub unreachable-requires : goal.unreachable-requires
unreachable-requires c = grind arith
