use Rattle.hnodes.proofs.IndexNames.{◌≡◌, ◌≢◌, ℕ, ◌-◌, ◌≤◌, ◌<◌, List, length, get_or, ap, sym, ◌∙◌, arith, length-map, none, link_number, numbers_of, Link}
use Rattle.hnodes.proofs.IndexSteps.{IsAt, number-at, walk-from, walk-le, walk-on, walk-down}
use Rattle.hnodes.proofs.indexed_list.IndexedList.before.Goals as goal

-- the link that was read is there, and is of a number
given : (links : List Link) (now : List ℕ) (ordinal : ℕ) (x : Link) → numbers_of links ≡ now → 0 < ordinal → ordinal ≤ length now
    → x ≡ get_or links (ordinal - 1) x → get_or now (ordinal - 1) 0 ≢ none → IsAt links ordinal x × (x.number ≢ none)
given links now ordinal x view some within is number =
    let at : IsAt links ordinal x = record { some = some; within = omega (arith, ap length view, length-map links link_number); is = is } in
    (at, λ e. number (ap (λ ns. get_or ns (ordinal - 1) 0) (sym view) ∙ number-at at ∙ e))

pub find_down-requires : goal.find_down-requires
find_down-requires c = let g = given c.self.inside.links.items c.args.self.now c.args.ordinal c.index-link.result.now c.self.view_is c.requires.some
    c.requires.within c.index-link.ensures c.requires.number in
    let from = walk-from c.self.invariant.indexed g.0 g.1 in let on = walk-on g.1 from g.0 in
    rw c.deref.ensures.value (record { within = omega (arith, walk-le g.1 from g.0, g.0.within); group = (on.width, on.kept, on.group); number = g.1 })

pub returns : goal.returns
returns c = let g = given c.self.inside.links.items c.args.self.now c.args.ordinal c.index-link.result.now c.self.view_is c.requires.some c.requires.within
    c.index-link.ensures c.requires.number in
    rw (← c.self.view_is, number-at g.0)
    (rw c.deref.ensures.value at c.find_down.ensures ∙ sym (walk-down g.1 (walk-from c.self.invariant.indexed g.0 g.1) g.0))
