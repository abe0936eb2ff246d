use Rattle.html_c.proofs.Names.{ℕ, List, PutsAt, flat_map, map, text_of, ended_attribute, mapped_attribute}
use Rattle.html_c.proofs.rows.put_attributes.Given as goal

-- whatever puts the words of the attributes that are left has then put those of all
abbrev pub invariant-loop-name : goal.invariant-loop-name
invariant-loop-name l = (goal.iterator-loop-name).can_next l.name-iterator × (goal.iterator-loop-name).is_finite l.name-iterator
    × ((new : List ℕ) (next : ℕ) → PutsAt l.at (flat_map ended_attribute (map (mapped_attribute (text_of l.names)) l.name-iterator)) l.room new next
    → PutsAt l.initial.at (flat_map ended_attribute (map (mapped_attribute (text_of l.names)) l.fn.attrs)) l.initial.room new next)
