use Rattle.hserialize.proofs.Names.{◌≡◌, text_of, list_all, has_plain_name}
use Rattle.hserialize.proofs.plain_names.PlainNames.are_plain.Given as goal

abbrev pub invariant-loop-name : goal.invariant-loop-name
invariant-loop-name l = (goal.iterator-loop-name).can_next l.name-iterator × (goal.iterator-loop-name).is_finite l.name-iterator
    × (list_all (has_plain_name (text_of l.self.table.now)) l.name-iterator ≡ list_all (has_plain_name (text_of l.self.table.now)) l.fn.attrs)
