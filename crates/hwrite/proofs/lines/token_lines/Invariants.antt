use Rattle.hwrite.proofs.Vocabulary.{◌≡◌, drop, map, drafted, lines_of, tok_of, token_lines}
use Rattle.hwrite.proofs.lines.token_lines.Given as goal

-- once the lines of the tokens that are left have come, the draft is all lines
abbrev pub invariant-loop-token : goal.invariant-loop-token
invariant-loop-token l =
    drafted l.draft (lines_of (map (tok_of l.run.names) (drop l.token-index l.token-items))) ≡ token_lines (map (tok_of l.run.names) l.token-items)
