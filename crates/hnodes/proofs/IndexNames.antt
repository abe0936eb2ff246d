-- The names of other crates and of specs/ that several proofs cite, in one place.
pub use Rattle.hnodes.specs.IndexedList.{none, last_up}
pub use Rattle.hnodes.specs.IndexLinks.{group_of, is_in_group, in_group_of, numbers_of, link_number, before_of, befores_of, IndexedTo, IsIndexed, Keep, AreIndexed, IsNext, FitsAt}
pub use Rattle.hnodes.specs.Nearest.{before, after, without, changed, item_put_before, changed_at}
pub use Rattle.hnodes.specs.Places.{last_place}
pub use Rattle.hnodes.specs.declared.indexed_list.Link.{Link}
pub use Rattle.std.proofs.Common.{◌≡◌, ◌≢◌, ℕ, true, false, not, eqb, List, get_or, zero, suc, ◌+◌, ◌-◌, ◌<◌, ◌≤◌, Bool, cond, ◌&&◌, length, set, ◌⊎◌, inl, inr, refl, sym, ◌∙◌, ap, subst, add-one, arith, [], ◌∷◌, ◌++◌, Some, None, take, drop, map, ◌||◌, ◌==◌, rules}
pub use Rattle.std.proofs.Math.Seq.{map-set_same}
pub use Rattle.std.proofs.lemmas.Bool.{eqb-true, eq-eqb, ne_eqb, not_from_false, not_from_true, cases_Bool, cases_lt, false≢true, false_from_ne_true, lt-ltb, le-ltb, cases_eq}
pub use Rattle.std.proofs.lemmas.List.{get_or-set_same, get_or-set_other, length-map, length-set, map-set, get_or-map, map-append, length-drop, get_or_default, take-append-le, length-take-le, length_push, take-map, set_comm, with_items_is}
pub use Rattle.std.specs.List.{position, position_or_len, list_any, filter, list_all}
pub use Rattle.std.proofs.lemmas.Bool.Decides.{nat_tests}
