use Rattle.hmodes.proofs.Vocabulary.{sym, ap, ◌∙◌, option_map, unwrap_or, InBody, stack, open_mode, open_of}
use Rattle.hmodes.proofs.Resetting.{reset-tokenizer_errors, reset-root}
use Rattle.hmodes.proofs.tree_construction.TreeConstruction.reset_mode.Goals as goal

pub returns-in-Some : goal.returns-in-Some
returns-in-Some c = let found = sym c.nearest_below_first.ensures.node ∙ ap (option_map open_of) c.in-Some.is in
    c.unwrap_or.ensures ∙ ap (λ o. unwrap_or o InBody) (c.open_mode.ensures ∙ ap open_mode c.tag.ensures)
    ∙ sym (reset-tokenizer_errors c.args.self.now.context (stack c.args.self.now.site) (open_of c.in-Some.node) found)

pub returns-in-None : goal.returns-in-None
returns-in-None c = c.root_mode.ensures
    ∙ sym (reset-root c.args.self.now.context (stack c.args.self.now.site) (sym c.nearest_below_first.ensures.node ∙ ap (option_map open_of) c.in-None.is))
