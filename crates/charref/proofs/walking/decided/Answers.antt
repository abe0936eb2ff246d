use Rattle.charref.proofs.Names.{arith, ◌≡◌, ◌-◌, length, slice_get, sym, ap, ◌∙◌, subst, Entry, Entities, IsTable, best_entry, unknown_of}
use Rattle.charref.proofs.Telling.{read_unknown, decides_text, decides_key}
use Rattle.charref.proofs.Naming.{some_key}
use Rattle.charref.proofs.walking.decided.Goals as goal

pub returns-in_default : goal.returns-in_default
returns-in_default c = λ front p after run first read last best settled. rw (c.unknown.ensures ∙ ap (unknown_of c.args.read) last) (read_unknown
    c.args.table.now c.args.in_value front p after c.args.read run first read (sym best ∙ ap (best_entry c.args.table.now) c.in_default.is) settled)

pub overflow_sub-key : goal.overflow_sub-key
overflow_sub-key c = let e : Entry = c.key-key.ensures.0 in let is_table = subst IsTable c.table.view_is c.table.invariant.0.sorted.is_table in
    let size : length c.key-key.result.now ≡ length e.key = ap length c.key-key.ensures.2 in
    omega (arith, some_key c.args.table.now c.in-Some.best e is_table (ap (λ t. slice_get t c.in-Some.best) (sym c.table.view_is) ∙ c.key-key.ensures.1))

pub returns-then-is_kept : goal.returns-then-is_kept
returns-then-is_kept c = λ front p after run first read last best settled.
    let table : Entities = c.args.table.now in
    rw c.as_text.ensures (decides_text table c.args.in_value c.in-Some.best c.key-key.result.now (rw c.table.view_is at c.key-key.ensures)
    (subst IsTable c.table.view_is c.table.invariant.0.sorted.is_table) front p after run (ap (best_entry table) (sym c.in-Some.is) ∙ best) settled
    c.saturating_sub-left.result (c.saturating_sub-left.ensures ∙ ap (λ n. n - (length c.key-key.result.now - 1)) read) _ _ c.args.last
    c.ends_in_semicolon-semicolon.ensures last c.is_kept.ensures c.args.read read c.if-is_kept.true)

pub returns : goal.returns
returns c = λ front p after run first read last best settled.
    decides_key c.args.table.now c.args.in_value c.in-Some.best c.key-key.result.now (rw c.table.view_is at c.key-key.ensures)
    (subst IsTable c.table.view_is c.table.invariant.0.sorted.is_table) front p after run (ap (best_entry c.args.table.now) (sym c.in-Some.is) ∙ best) settled
    c.saturating_sub-left.result (c.saturating_sub-left.ensures ∙ ap (λ n. n - (length c.key-key.result.now - 1)) read) _ _ c.args.last
    c.ends_in_semicolon-semicolon.ensures last c.is_kept.ensures c.characters.result (rw c.table.view_is at c.characters.ensures) c.if-is_kept.false
