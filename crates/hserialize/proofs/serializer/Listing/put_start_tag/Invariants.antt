use Rattle.hserialize.proofs.Names.{◌++◌, codes, map, flat_map, text_of, mapped_attribute, written_so_far, attribute_text, start_tag_text}
use Rattle.hserialize.proofs.Output.{HasLeft}
use Rattle.hserialize.proofs.serializer.Listing.put_start_tag.Given as goal

-- the attributes that are left
abbrev pub invariant-loop-name : goal.invariant-loop-name
invariant-loop-name g l = (goal.iterator-loop-name g).can_next l.name-iterator × (goal.iterator-loop-name g).is_finite l.name-iterator
    × HasLeft (written_so_far g.W.Target.written g.W.Target.failed l.fn.out) (written_so_far g.W.Target.written g.W.Target.failed l.out)
    (start_tag_text l.self.escaping (text_of l.self.names.now l.fn.name) (map (mapped_attribute (text_of l.self.names.now)) l.fn.attrs))
    (flat_map (attribute_text l.self.escaping) (map (mapped_attribute (text_of l.self.names.now)) l.name-iterator) ++ codes ">")
