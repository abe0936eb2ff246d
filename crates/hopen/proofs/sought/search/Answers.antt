use Rattle.hopen.proofs.Names.{◌≡◌, ℕ, ◌-◌, ◌<◌, Bool, true, false, cond, take, length-take-le, ◌∷◌, sym, ◌∙◌, ap, arith, last_place, holds_one, is_in, is_in_set, is_hole_kind, opened_by, slots_of, KeptNode, NameSet, Tag, tag_of}
use Rattle.hopen.proofs.Projected.{held, no-node}
use Rattle.hopen.proofs.OpenLevels.{length-slots, ordinal-past, slots-more}
use Rattle.hopen.proofs.sought.search.Goals as goal
use Rattle.hopen.proofs.sought.search.Goals.{else-not-is_hole-via-then-not-is_hole+else-of-gt0, else-not-is_hole-via-else-not-is_hole}

-- whether a name is in the set, by what is kept of it
stored_entry : (v : Bool) (m none : ℕ) → m ≡ cond v 1 none → none ≡ 0 → ((0 < m) → v ≡ true) × ((m ≡ 0) → v ≡ false)
stored_entry v m none e z = grind arith

-- what a slot that is no hole holds is in the set where its name is
holds-named : (set : NameSet) (x : KeptNode) (t : Tag) (v : Bool) → is_hole_kind x.kind ≡ false → t ≡ tag_of x.opened.name → is_in_set set t ≡ v
    → holds_one (is_in set) (opened_by x) ≡ v
holds-named set x t v live tag e = ap (holds_one (is_in set)) (held x live) ∙ ap (is_in_set set) (sym tag) ∙ e

pub loop-level-preserved : goal.loop-level-preserved
loop-level-preserved c = let items = c.args.items.now in let p = c.loop-level.level in let x = c.index-items-level.result in
    let s = holds_one (is_in c.args.set) in
    let no : s (opened_by x) ≡ false = elim c.else-not-is_hole.branch [
      | else-not-is_hole-via-then-not-is_hole+else-of-gt0 w ↦
          holds-named c.args.set x w.tag.result false (sym c.is_hole.ensures ∙ w.if-not-is_hole.true) w.tag.ensures ((stored_entry
          (is_in_set c.args.set w.tag.result) w.of.result _ (w.of.ensures ∙ w.with.ensures c.args.set) (w.none.ensures c.args.set)).1 (omega arith))
      | else-not-is_hole-via-else-not-is_hole w ↦ ap s (no-node x (sym c.is_hole.ensures ∙ w.if-not-is_hole.false))
    ] in
    record {
      within = omega arith;
      rest = c.loop-level.invariant.rest ∙ ap (last_place s)
          (slots-more items p (p - 1) x (omega arith) (omega arith) ∙ ap (λ y. opened_by y ∷ slots_of (take (p - 1) items)) (sym c.index-items-level.is))
          ∙ ordinal-past s (opened_by x) (slots_of (take (p - 1) items)) no;
    }

pub returns-then-of-gt0 : goal.returns-then-of-gt0
returns-then-of-gt0 c = let items = c.args.items.now in let p = c.loop-level.level in let x = c.index-items-level.result in
    let s = holds_one (is_in c.args.set) in
    let yes : s (opened_by x) ≡ true = holds-named c.args.set x c.tag.result true (sym c.is_hole.ensures ∙ c.if-not-is_hole.true) c.tag.ensures
    ((stored_entry (is_in_set c.args.set c.tag.result) c.of.result _ (c.of.ensures ∙ c.with.ensures c.args.set) (c.none.ensures c.args.set)).0 (omega arith)) in
    let many = length-slots (take (p - 1) items) in let more = slots-more items p (p - 1) x (omega arith) (omega arith) in
    grind (arith, many, length-take-le (p - 1) items, c.loop-level.invariant.rest, more, c.index-items-level.is, yes)
