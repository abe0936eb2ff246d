-- The known name of a number is that of its text, for numbers beyond the table too.
use Rattle.hserialize.proofs.Names.{◌≡◌, ℕ, ◌<◌, ◌≤◌, [], length, take, sym, ◌∙◌, ap, arith, ◌⊎◌, inl, inr, Texts, AreNames, text_of, tag_of, tag_named, cases_lt, get_or_past, length-take, slice_get-get_or, known, tags, tag_of-named, Other}

pub tags-agree : (names : Texts) → AreNames names → (id : ℕ) → tag_of id ≡ tag_named (text_of names id)
tags-agree names table id = go (cases_lt id (length names)) where
  enough : length tags ≤ length names
  enough = let same : length (take (length known) names) ≡ length known = ap length table.known_first in omega (arith, same, length-take (length known) names)

  go : (id < length names) ⊎ (length names ≤ id) → tag_of id ≡ tag_named (text_of names id)
  go (inl h) = tag_of-named names id (text_of names id) table (slice_get-get_or names id [] h)
  go (inr h) = get_or_past tags id Other (omega (arith, h, enough)) ∙ ap tag_named (sym (get_or_past names id [] h))
