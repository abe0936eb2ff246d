use Rattle.hopen.proofs.Names.{◌≡◌, map, take, attribute_of, hash_of}
use Rattle.hopen.proofs.hashes.hash_attrs.Given as goal

abbrev pub invariant-loop-attr : goal.invariant-loop-attr
invariant-loop-attr l = l.hashes.items ≡ map (hash_of l.keys) (map attribute_of (take l.attr-index l.attrs))
