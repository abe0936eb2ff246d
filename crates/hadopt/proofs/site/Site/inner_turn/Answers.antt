use Rattle.hadopt.proofs.Names.{ℕ, SiteOf, InnerLoop, Goes, Outcome, entry_of, left, ◌∙◌, ap, sym, arith, option_map, open_of, entry_is, inner_loop_of}
use Rattle.hadopt.proofs.Ways.{turn-kept, turn-unlisted, turn-later}
use Rattle.hadopt.proofs.site.Site.inner_turn.Goals.{then-passed-ge-MOST_KEPT, else-passed-ge-MOST_KEPT+in_ok-entry+in_default}
use Rattle.hadopt.proofs.site.Site.inner_turn.Goals as goal

pub returns-in-Some-clause-done : goal.returns-in-Some-clause-done
returns-in-Some-clause-done c =
    let found = c.in_ok-entry.ensures ∙ c.entry_of.ensures ∙ ap (λ (s : SiteOf ℕ). entry_of c.args.node.node s.items) c.self.view_is in
    rw (turn-kept c.args.at c.args.furthest_block c.args.passed (open_of c.args.node) (inner_loop_of c.args.inner c.args.self.now) (entry_is c.in-Some.entry)
    (omega arith) (sym found ∙ ap (option_map entry_is) c.in-Some.is)) (c.replace_node.ensures.done c.args.node.name)

pub returns-clause-done : goal.returns-clause-done
returns-clause-done c = let x = open_of c.args.node in let old = inner_loop_of c.args.inner c.args.self.now in
    let gone : SiteOf ℕ → Outcome (InnerLoop ℕ) = λ s. Goes (inner_loop_of c.args.inner s) in
    elim c.if-passed-ge-MOST_KEPT.branch [
      | then-passed-ge-MOST_KEPT w ↦ turn-later c.args.at c.args.furthest_block c.args.passed x old (omega (arith, w.if-passed-ge-MOST_KEPT.true))
          ∙ ap (λ (s : SiteOf ℕ). Goes (left x (inner_loop_of c.args.inner s))) (sym (w.self-is ∙ w.remove_entry.ensures.site))
          ∙ ap gone (sym c.leave.ensures.site)
      | else-passed-ge-MOST_KEPT+in_ok-entry+in_default w ↦
          let found = w.in_ok-entry.ensures ∙ w.entry_of.ensures ∙ ap (λ (s : SiteOf ℕ). entry_of c.args.node.node s.items) w.self.view_is in
          turn-unlisted c.args.at c.args.furthest_block c.args.passed x old (omega (arith, w.if-passed-ge-MOST_KEPT.false))
          (sym found ∙ ap (option_map entry_is) w.in_default.is) ∙ ap (λ (s : SiteOf ℕ). Goes (left x (inner_loop_of c.args.inner s))) (sym w.self-is)
          ∙ ap gone (sym c.leave.ensures.site)
    ]
