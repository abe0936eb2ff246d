use Rattle.charref.proofs.Names.{arith, ◌∷◌, true, length, ap, sym, ◌∙◌, subst, some_same, Entry, IsSortedTable, common_steps}
use Rattle.charref.proofs.Telling.{none_past_over, none_past_names}
use Rattle.charref.proofs.Searching.{read_key, read_no_key}
use Rattle.charref.proofs.search.Search.extended.Goals as goal
use Rattle.charref.proofs.search.Search.extended.Goals.{then-not-is_in_names-via-then-not-is_in_names, then-not-is_in_names-via-else-not-is_in_names+then-not-goes_on}
use Rattle.charref.proofs.search.Search.extended.Goals.{else-low-high-via-then-low-high+else-key-depth, else-low-high-via-else-low-high}

pub returns-then-not-is_in_names-clause-none : goal.returns-then-not-is_in_names-clause-none
returns-then-not-is_in_names-clause-none c = λ is bytes read. elim c.then-not-is_in_names.branch [
  | then-not-is_in_names-via-then-not-is_in_names w ↦ none_past_names c.args.table.now bytes c.args.ch
      (subst IsSortedTable c.table.view_is c.table.invariant.0.sorted).is_table (sym c.is_in_names.ensures ∙ w.if-not-is_in_names.true)
  | then-not-is_in_names-via-else-not-is_in_names+then-not-goes_on w ↦
      none_past_over c.args.table.now (38 ∷ bytes) c.args.ch (w.goes_on.ensures.over (38 ∷ bytes) read w.if-not-goes_on.true)
]

pub returns-then-key-depth-clause-read : goal.returns-then-key-depth-clause-read
returns-then-key-depth-clause-read c = λ bytes read. read_key c.args.table.now c.args.self.now (38 ∷ bytes) c.args.ch _ _
    (subst IsSortedTable c.table.view_is c.table.invariant.0.sorted) read (c.range_with-low.ensures.range bytes read) c.key.ensures.0 (omega arith)
    (rw c.table.view_is at c.key.ensures.1) (ap length (sym c.key.ensures.2) ∙ c.if-key-depth.true)

pub returns-else-low-high-clause-read : goal.returns-else-low-high-clause-read
returns-else-low-high-clause-read c =
    λ bytes read.
    read_no_key c.args.table.now c.args.self.now (38 ∷ bytes) c.args.ch _ _ (subst IsSortedTable c.table.view_is c.table.invariant.0.sorted) read
    (c.range_with-low.ensures.range bytes read) (λ e got open' size. elim c.else-low-high.branch [
      | else-low-high-via-then-low-high+else-key-depth w ↦ absurd (w.if-key-depth.false (ap length w.key.ensures.2
          ∙ ap (λ (y : Entry). length y.key) (some_same w.key.ensures.0 e (sym w.key.ensures.1 ∙ (rw (← c.table.view_is) at got))) ∙ size))
      | else-low-high-via-else-low-high w ↦ absurd (omega arith)
    ])

pub key-requires : goal.key-requires
key-requires c = grind (arith, common_steps)
