use Rattle.charref.proofs.Names.{arith, rules, ◌≡◌, ℕ, ◌+◌, ◌-◌, ◌≤◌, List, length, length-drop, take, drop, take_rest, ap, ◌∙◌, is_alphanumeric, prefix_len-le-length, common_steps}
use Rattle.charref.proofs.Fronts.{found_key, closed, open_end}
use Rattle.charref.proofs.key.key_at_front.Goals as goal
use Rattle.charref.proofs.key.key_at_front.Goals.{else-end-name-via-then-end-name+else-name-end-eq59, else-end-name-via-else-end-name}

pub returns-then-name-end-eq59 : goal.returns-then-name-end-eq59
returns-then-name-end-eq59 c = let name : List ℕ = take (length c.args.bytes.now - 1) (drop 1 c.args.bytes.now) in let n : ℕ = c.alphanumeric_run-end.result in
    found_key c.args.bytes.now n _ 1 c.in-38.len_at_least (omega arith) c.alphanumeric_run-end.ensures c.if-end-eq0.false
    (closed name n c.if-end-name.true c.if-name-end-eq59.true) (omega arith)

pub overflow_add-result-2 : goal.overflow_add-result-2
overflow_add-result-2 c = let name : List ℕ = take (length c.args.bytes.now - 1) (drop 1 c.args.bytes.now) in
    let size : length name ≡ length c.args.bytes.now - 1 = ap length (take_rest c.args.bytes.now 1) ∙ length-drop 1 c.args.bytes.now in
    let most : c.alphanumeric_run-end.result + 1 ≤ length c.args.bytes.now = omega
    (arith, c.alphanumeric_run-end.ensures, prefix_len-le-length is_alphanumeric name, size, c.in-38.len_at_least) in
    search rules

pub returns : goal.returns
returns c = let name : List ℕ = take (length c.args.bytes.now - 1) (drop 1 c.args.bytes.now) in let n : ℕ = c.alphanumeric_run-end.result in
    found_key c.args.bytes.now n _ 0 c.in-38.len_at_least (omega arith) c.alphanumeric_run-end.ensures c.if-end-eq0.false
    (open_end name n (λ less close. elim c.else-end-name.branch [
      | else-end-name-via-then-end-name+else-name-end-eq59 w ↦ w.if-name-end-eq59.false close
      | else-end-name-via-else-end-name w ↦ absurd (omega (arith, less, w.if-end-name.false))
    ])) (omega arith)

pub returns-then-end-eq0 : goal.returns-then-end-eq0
returns-then-end-eq0 c = grind (arith, common_steps)
