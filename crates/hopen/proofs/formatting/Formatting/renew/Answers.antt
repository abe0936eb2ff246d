use Rattle.hopen.proofs.Names.{common_steps, ◌≡◌, ◌-◌, false, Some, length, sym, ◌∙◌, ap, arith, for_node, entry_is, listed_items, live, stored_entry, changed_at, is_some, changed_at_past}
use Rattle.hopen.proofs.Bookmarks.{is_some-option_map}
use Rattle.hopen.proofs.Holes.{changed-marker, marker-is, nth-index, nth-item, nth-missing, nth-there}
use Rattle.hopen.proofs.Live.{is_hole-for_node, nth-changed}
use Rattle.hopen.proofs.formatting.Formatting.renew.Goals as goal

pub returns-then-is_some : goal.returns-then-is_some
returns-then-is_some c = let items = c.self.inside.slots.items.items in
    let at = nth-index items c.self.inside.slots.listed.stored c.args.back c.in-Some.index (sym c.in-Some.is ∙ c.slot.ensures) in
    let up : length items - 1 - c.in-Some.index ≡ at.0 = omega (arith, at.1.1) in
    ap live c.renew.ensures.items ∙ ap (λ k. live (changed_at k (for_node c.args.node) (listed_items items))) up
    ∙ sym (nth-changed (for_node c.args.node) (is_hole-for_node c.args.node) c.args.back at.0 (listed_items items) at.1.0)
    ∙ ap (changed_at c.args.back (for_node c.args.node)) c.self.view_is

pub returns-else-is_some : goal.returns-else-is_some
returns-else-is_some c = let items = c.self.inside.slots.items.items in let found = sym c.in-Some.is ∙ c.slot.ensures in
    let at = nth-index items c.self.inside.slots.listed.stored c.args.back c.in-Some.index found in
    let x = c.index.result.now in
    let there = nth-there items c.self.inside.slots.listed.stored c.args.back c.in-Some.index found x c.index.ensures in
    let none : is_some (stored_entry x) ≡ false =
    ap is_some (sym c.entry.ensures) ∙ is_some-option_map (λ e. entry_is e.now) c.entry.result ∙ sym c.is_some.ensures ∙ c.if-is_some.false in
    sym (ap (changed_at c.args.back (for_node c.args.node)) (sym c.self.view_is)
    ∙ nth-changed (for_node c.args.node) (is_hole-for_node c.args.node) c.args.back at.0 (listed_items items) at.1.0
    ∙ ap live (changed-marker at.0 c.args.node (listed_items items)
    (nth-item items c.self.inside.slots.listed.stored c.args.back c.in-Some.index found x c.index.ensures ∙ ap (λ i. Some i) (marker-is x there none)))
    ∙ c.self.view_is)

pub returns-in_default : goal.returns-in_default
returns-in_default c = let items = c.self.inside.slots.items.items in
    let past = nth-missing items c.self.inside.slots.listed.stored c.args.back (sym c.slot.ensures ∙ c.in_default.is) in
    grind (arith, common_steps, changed_at_past)

pub renew-requires-clause-within : goal.renew-requires-clause-within
renew-requires-clause-within c = grind (arith, common_steps)

pub index-requires : goal.index-requires
index-requires c = grind (arith, common_steps)

pub renew-requires-clause-entry : goal.renew-requires-clause-entry
renew-requires-clause-entry c = grind (arith, common_steps)
