use Rattle.html_c.proofs.Names.{◌≡◌, [], None, if◌then◌else◌, refl, sym, ◌∙◌, of_size, unmet_rows, parsed_text, no_tree, unescaped}
use Rattle.hwrite.specs.declared.command.Task.TheVariants as task
use Rattle.html_c.proofs.Exports.{a_page, no_memory}
use Rattle.html_c.proofs.Outcomes.{fails, reasons}
use Rattle.html_c.proofs.page.page_of.Goals as goal
use Rattle.html_c.proofs.page.page_of.Goals.{else-wants, then-wants+in_ok-text}

pub returns-in_err-settings-clause-says : goal.returns-in_err-settings-clause-says
returns-in_err-settings-clause-says c = fails _ _ _ _ c.from_residual.ensures.1 (reasons (λ f why. no_tree (unmet_rows why)) c.in_err-settings.ensures)

pub returns-in_err-escaping-clause-says : goal.returns-in_err-escaping-clause-says
returns-in_err-escaping-clause-says c =
    fails _ _ _ _ c.from_residual-in_err-escaping.ensures.1 (of_size c.in_ok-settings.ensures.size (unescaped c.in_err-escaping.ensures))

pub returns-in_err-parsed-clause-says : goal.returns-in_err-parsed-clause-says
returns-in_err-parsed-clause-says c =
    fails _ _ _ _ c.from_residual-in_err-parsed.ensures.1 (of_size c.in_ok-settings.ensures.size (no_tree c.in_err-parsed.ensures))

pub returns-in_err-tree-clause-says : goal.returns-in_err-tree-clause-says
returns-in_err-tree-clause-says c = fails _ _ _ _ c.from_residual-in_err-tree.ensures.1
    (of_size c.in_ok-settings.ensures.size (no_tree (no_memory c.in_ok-parsed.ensures c.in_err-tree.ensures.counted)))

pub returns-in_err-text-clause-says : goal.returns-in_err-text-clause-says
returns-in_err-text-clause-says c = fails _ _ _ _ c.from_residual-in_err-text.ensures.1 (of_size c.in_ok-settings.ensures.size
    (no_tree (no_memory c.in_ok-parsed.ensures (c.in_err-text.ensures _ c.new-text.result c.new-text.ensures.empty c.serialize-answer.ensures.text))))

pub returns-clause-says : goal.returns-clause-says
returns-clause-says c =
    let text : c.if-wants.text.all.bytes
    ≡ (if c.in-Some.wants.text then parsed_text c.in_ok-escaping.escaping task.Write None c.in_ok-tree.tree.parsed else []) = elim c.if-wants.branch [
      | then-wants+in_ok-text w ↦
          rw (w.text-is, w.if-wants.true) (w.in_ok-text.ensures _ c.new-text.result c.new-text.ensures.empty w.serialize-answer.ensures.text).1
      | else-wants w ↦ rw (w.text-is, w.if-wants.false) c.new-text.ensures.empty
    ] in
    a_page c.in_ok-parsed.ensures c.in_ok-escaping.ensures (sym c.wants_of.ensures ∙ c.in-Some.is) refl c.in_ok-tree.ensures.counted text

pub returns-clause-room : goal.returns-clause-room
returns-clause-room c = elim c.if-wants.branch [
  | then-wants+in_ok-text w ↦
      rw w.text-is ((w.in_ok-text.ensures _ c.new-text.result c.new-text.ensures.empty w.serialize-answer.ensures.text).0 ∙ c.new-text.ensures.room)
  | else-wants w ↦ rw w.text-is c.new-text.ensures.room
]
