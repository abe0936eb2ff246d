use Rattle.hadopt.proofs.Names.{◌≡◌, ◌∙◌, ap, sym, subst, ℕ, nat_eq, Some, option_map, open_of, EntryOf, find_entry, entry_is, numbers, SiteOf, with_furthest_block, WithFurthestBlock, TurnGives, arith, common_steps}
use Rattle.hadopt.proofs.Keeps.{found-entry, blocked-stands, blocked-turn, turn-keeps}
use Rattle.hadopt.proofs.site.Site.outer_turn.Goals as goal

pub returns-then-not-node_in_scope-clause-done : goal.returns-then-not-node_in_scope-clause-done
returns-then-not-node_in_scope-clause-done c = let f = entry_is c.in-Some.entry.now in
    let found : find_entry nat_eq c.args.subject c.args.self.now.items ≡ Some f = ap (λ (s : SiteOf ℕ). find_entry nat_eq c.args.subject s.items)
    (sym c.self.view_is) ∙ sym c.find.ensures ∙ ap (option_map (λ e. entry_is e.now)) c.in-Some.is in
    rw found (c.out_of_scope.ensures.done f)

pub returns-then-not-node_in_scope-clause-kept : goal.returns-then-not-node_in_scope-clause-kept
returns-then-not-node_in_scope-clause-kept c =
    turn-keeps c.args.at c.args.subject c.args.self.now c.out_of_scope.new.self c.out_of_scope.result c.requires (returns-then-not-node_in_scope-clause-done c)

pub with_furthest_block-requires : goal.with_furthest_block-requires
with_furthest_block-requires c = let f = entry_is c.in-Some.entry.now in
    let found : find_entry nat_eq c.args.subject c.args.self.now.items ≡ Some f = ap (λ (s : SiteOf ℕ). find_entry nat_eq c.args.subject s.items)
    (sym c.self.view_is) ∙ sym c.find.ensures ∙ ap (option_map (λ e. entry_is e.now)) c.in-Some.is in
    let copied : f ≡ entry_is c.in_ok-formatting_element-in-Some-furthest_block.formatting_element =
    sym c.in_ok-formatting_element-in-Some-furthest_block.ensures in
    record {
      stands = subst (λ (e : EntryOf ℕ). WithFurthestBlock e.node c.in-Some-furthest_block.furthest_block.node c.error.new.self) copied
          (blocked-stands c.args.at c.args.self.now c.error.new.self f.node (open_of c.in-Some-furthest_block.furthest_block)
          c.in_ok-error-in-Some-furthest_block.ensures.done c.requires (sym c.node_in_scope.ensures ∙ c.if-not-node_in_scope.false)
          (found-entry c.args.subject c.args.self.now.items f found) (sym c.furthest_block.ensures ∙ ap (option_map open_of) c.in-Some-furthest_block.is));
    }

pub returns-in_ok-error-in-Some-furthest_block-clause-done : goal.returns-in_ok-error-in-Some-furthest_block-clause-done
returns-in_ok-error-in-Some-furthest_block-clause-done c = let f = entry_is c.in-Some.entry.now in
    let block = open_of c.in-Some-furthest_block.furthest_block in
    let found : find_entry nat_eq c.args.subject c.args.self.now.items ≡ Some f = ap (λ (s : SiteOf ℕ). find_entry nat_eq c.args.subject s.items)
    (sym c.self.view_is) ∙ sym c.find.ensures ∙ ap (option_map (λ e. entry_is e.now)) c.in-Some.is in
    let turn = blocked-turn c.args.at f c.args.self.now c.error.new.self (sym c.node_in_scope.ensures ∙ c.if-not-node_in_scope.false) block
    c.in_ok-error-in-Some-furthest_block.ensures.done (sym c.furthest_block.ensures ∙ ap (option_map open_of) c.in-Some-furthest_block.is) in
    rw (found, turn) (subst
    (λ (e : EntryOf ℕ). TurnGives c.with_furthest_block.result c.with_furthest_block.new.self (with_furthest_block numbers c.args.at e c.error.new.self block))
    c.in_ok-formatting_element-in-Some-furthest_block.ensures (c.with_furthest_block.ensures.done block.name))

pub returns-in_ok-error-in-Some-furthest_block-clause-kept : goal.returns-in_ok-error-in-Some-furthest_block-clause-kept
returns-in_ok-error-in-Some-furthest_block-clause-kept c = turn-keeps c.args.at c.args.subject c.args.self.now c.with_furthest_block.new.self
    c.with_furthest_block.result c.requires (returns-in_ok-error-in-Some-furthest_block-clause-done c)

pub returns-in-None-clause-done : goal.returns-in-None-clause-done
returns-in-None-clause-done c = let f = entry_is c.in-Some.entry.now in
    let found : find_entry nat_eq c.args.subject c.args.self.now.items ≡ Some f = ap (λ (s : SiteOf ℕ). find_entry nat_eq c.args.subject s.items)
    (sym c.self.view_is) ∙ sym c.find.ensures ∙ ap (option_map (λ e. entry_is e.now)) c.in-Some.is in
    rw found (c.without_furthest_block.ensures.done f)

pub returns-in-None-clause-kept : goal.returns-in-None-clause-kept
returns-in-None-clause-kept c = turn-keeps c.args.at c.args.subject c.args.self.now c.without_furthest_block.new.self c.without_furthest_block.result c.requires
    (returns-in-None-clause-done c)

pub returns-in_default-clause-kept : goal.returns-in_default-clause-kept
returns-in_default-clause-kept c = grind (arith, common_steps)

pub returns-in_default-clause-done : goal.returns-in_default-clause-done
returns-in_default-clause-done c = grind (arith, common_steps)

pub returns-in_ok-error-in-Some-furthest_block-clause-few : goal.returns-in_ok-error-in-Some-furthest_block-clause-few
returns-in_ok-error-in-Some-furthest_block-clause-few c = grind (arith, common_steps)
