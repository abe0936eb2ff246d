use Rattle.hserialize.proofs.Names.{arith, decimal, rules, subst, Puts, written_so_far, ◌≡◌, ℕ, ◌+◌, ◌-◌, ◌≤◌, List, ◌++◌, codes, length, drop, sym, ap, ◌∙◌, IsLine, error_line, take, append_assoc, drop-drop, drop-append_seam, take-append-add, length-decimal-le, code_text, ParseError, ErrorLine, printed_after_place}
use Rattle.hserialize.proofs.error_line.ErrorLine.put.Goals as goal

-- a line is the digits of its place, and then the rest
line_parts : (e : ParseError) → decimal e.at ++ printed_after_place e.code ≡ error_line e
line_parts e =
    sym (append_assoc (decimal e.at ++ codes " ") (code_text e.code) (codes "\n") ∙ append_assoc (decimal e.at) (codes " ") (code_text e.code ++ codes "\n"))

-- the bytes from the first digit to the end of the line
line_of_place : (line : ErrorLine) (e : ParseError) (start : ℕ) (bytes : List ℕ) → IsLine line → line.code ≡ e.code → start + length (decimal e.at) ≡ 20
    → drop start bytes ≡ decimal e.at ++ drop 20 line.bytes → take (line.end - start) (drop start bytes) ≡ error_line e
line_of_place line e start bytes is same at written = let count : line.end - start ≡ length (decimal e.at) + (line.end - 20) = omega (arith, is.starts, at) in
    (λ i. take (count i) (written i)) ∙ take-append-add (decimal e.at) (drop 20 line.bytes) (line.end - 20)
    ∙ ap (λ l. decimal e.at ++ l) (is.rest ∙ ap printed_after_place same) ∙ line_parts e

-- what is after the digits stays
line_kept : (line : ErrorLine) (digits : List ℕ) (start : ℕ) (bytes : List ℕ) → IsLine line → start + length digits ≡ 20
    → drop start bytes ≡ digits ++ drop 20 line.bytes → length bytes ≡ length line.bytes → IsLine (record { bytes = bytes; end = line.end; code = line.code })
line_kept line digits start bytes is at written all = record
    { starts = is.starts; ends = subst (λ n. line.end ≤ n) (sym all) is.ends; rest = ap (take (line.end - 20)) after ∙ is.rest } where
      after : drop 20 bytes ≡ drop 20 line.bytes
      after = ap (λ n. drop n bytes) (sym at) ∙ sym (drop-drop (length digits) start bytes) ∙ ap (drop (length digits)) written
          ∙ drop-append_seam digits (drop 20 line.bytes)

pub write_digits-start-requires : goal.write_digits-start-requires
write_digits-start-requires g c = let is = c.turn_to.ensures.line in (search (rules, length-decimal-le 20), omega (arith, is.starts, is.ends))

pub returns-clause-text : goal.returns-clause-text
returns-clause-text g c = let w = c.write_digits-start.ensures in
    subst (λ t. Puts (written_so_far g.W.Target.written g.W.Target.failed c.args.out.now)
    (written_so_far g.W.Target.written g.W.Target.failed c.put.new.out) t c.put.result)
    (line_of_place c.turn_to.new.self c.args.error.now _ _ c.turn_to.ensures.line c.turn_to.ensures.code w.start w.written) c.put.ensures

pub returns-clause-line : goal.returns-clause-line
returns-clause-line g c = let w = c.write_digits-start.ensures in
    line_kept c.turn_to.new.self (decimal c.args.error.now.at) _ _ c.turn_to.ensures.line w.start w.written c.write_digits-start.auto.buf
