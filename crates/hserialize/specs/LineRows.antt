-- Worked rows of what is printed, which the prover computes.
use Rattle.std.specs.Prelude.{◌≡◌, [], ◌∷◌, codes, refl}
use Rattle.std.specs.Fmt.{digits}
use Rattle.names.specs.Placed.{error}
use Rattle.names.specs.declared.error.ErrorCode.TheVariants.{TreeInitial, NonVoidHtmlElementStartTagWithTrailingSolidus}
use Rattle.hnodes.specs.Forest.{element, text, comment, doctype, none, tree}
use Rattle.hserialize.specs.Lines.{tree_text, error_lines}

-- the printed lines
lines : tree_text (tree 0 (doctype (codes "html") (codes "-//X//") []) none
    (tree 0 (element (codes "p") ((codes "b", codes "2") ∷ (codes "a", codes "1") ∷ []))
    (tree 0 (comment (codes "c")) none (tree 0 (text (codes "x")) none none)) none))
    ≡ codes "| <!DOCTYPE html \"-//X//\" \"\">\n| <p>\n|   a=\"1\"\n|   b=\"2\"\n|   <!-- c -->\n|   \"x\"\n"
lines = refl

errors_row : error_lines (error TreeInitial 0 ∷ error NonVoidHtmlElementStartTagWithTrailingSolidus 24 ∷ [])
    ≡ codes "0 tree-initial\n24 non-void-html-element-start-tag-with-trailing-solidus\n"
unfolding digits
errors_row = refl
