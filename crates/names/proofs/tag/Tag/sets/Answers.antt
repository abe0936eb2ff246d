use Rattle.names.proofs.Vocabulary.{◌≡◌, ℕ, Bool, true, List, [], ◌∷◌, get_or, refl, sym, ◌∙◌, ◌<◌, arith, inl, inr, list_all, Tag, Other, beq, cases_Bool, false≢true, list_all_at, booleans_Decides, SETS, SPECIAL, FORMATTING, IMPLIED_END, SCOPE, LIST_ITEM_SCOPE, BUTTON_SCOPE, TABLE_SCOPE, ITEM_STOP, MAY_STAY_OPEN, HEADING, TABLE_SECTION, CELL, TELLS_MODE, VOID, has_implied_end, is_cell, is_formatting, is_heading, is_special, is_table_section, is_void, may_stay_open, stops_button_scope, stops_item, stops_list_item_scope, stops_scope, stops_table_scope, tells_mode, has_set}
use denote.Enum.Declared as enum
use Rattle.names.specs.contracts.tag.Tag as contract
use Rattle.names.proofs.tag.Tag.sets.Goals as goal

-- each set and its bit
abbrev every_set : List (ℕ × (Tag → Bool))
every_set =
    (SPECIAL, is_special) ∷ (FORMATTING, is_formatting) ∷ (IMPLIED_END, has_implied_end) ∷ (SCOPE, stops_scope) ∷ (LIST_ITEM_SCOPE, stops_list_item_scope)
    ∷ (BUTTON_SCOPE, stops_button_scope) ∷ (TABLE_SCOPE, stops_table_scope) ∷ (ITEM_STOP, stops_item) ∷ (MAY_STAY_OPEN, may_stay_open) ∷ (HEADING, is_heading)
    ∷ (TABLE_SECTION, is_table_section) ∷ (CELL, is_cell) ∷ (TELLS_MODE, tells_mode) ∷ (VOID, is_void) ∷ []

-- the number that the table has at a name's place
abbrev bits_at : Tag → ℕ
bits_at t = get_or SETS (enum.tag_of contract.the_type t) 0

told : (t : Tag) → list_all (λ s. beq (has_set (bits_at t) s.0) (s.1 t)) every_set ≡ true
told Other = refl
told _ = refl

-- whether a name is in the set at a place
abbrev is_in : ℕ → Tag → Bool
is_in n t = (get_or every_set n (VOID, is_void)).1 t

told_at : (t : Tag) (n : ℕ) → n < 14 → has_set (bits_at t) (get_or every_set n (VOID, is_void)).0 ≡ is_in n t
told_at t n within = elim (cases_Bool (beq (has_set (bits_at t) (get_or every_set n (VOID, is_void)).0) (is_in n t))) [
  | inl same ↦ (booleans_Decides _ _).0 same
  | inr other ↦ absurd (false≢true (sym (list_all_at (λ s. beq (has_set (bits_at t) s.0) (s.1 t)) every_set n (VOID, is_void) within other) ∙ told t))
]

pub returns : goal.returns
returns c = record {
  special = told_at c.args.self 0 (omega arith);
  formatting = told_at c.args.self 1 (omega arith);
  implied_end = told_at c.args.self 2 (omega arith);
  scope = told_at c.args.self 3 (omega arith);
  list_item_scope = told_at c.args.self 4 (omega arith);
  button_scope = told_at c.args.self 5 (omega arith);
  table_scope = told_at c.args.self 6 (omega arith);
  item_stop = told_at c.args.self 7 (omega arith);
  may_stay_open = told_at c.args.self 8 (omega arith);
  heading = told_at c.args.self 9 (omega arith);
  table_section = told_at c.args.self 10 (omega arith);
  cell = told_at c.args.self 11 (omega arith);
  tells_mode = told_at c.args.self 12 (omega arith);
  void = told_at c.args.self 13 (omega arith);
}
