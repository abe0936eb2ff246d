use Rattle.charref.proofs.Names.{rules, ◌≡◌, ℕ, List, true, Some, refl, and_from, encode_utf8_all, characters_of, codepoints, is_key, view, items_view, fields, arith, common_steps}
use Rattle.charref.proofs.Members.{entry_is}
use Rattle.charref.proofs.read.add_entry.Goals as goal

pub returns-clause-ok : goal.returns-clause-ok
returns-clause-ok c = let key : List ℕ = c.args.key.now in let cs : List ℕ = characters_of c.in-Some-codepoints.characters in
    let key-is : is_key key ≡ true = search rules in
    let has : fields (view c.args.value.now) ≡ Some (items_view c.in-Some.list.now.items, c.in-Some.text.now) = search rules in
    let numbers : codepoints (items_view c.in-Some.list.now.items) ≡ Some cs = search rules in
    let text : c.in-Some.text.now ≡ encode_utf8_all cs = search rules in (
      record { key = key; stands_for = cs },
      entry_is key _ (view c.args.value.now) _ cs key-is has numbers text,
      refl,
      and_from _ _ key-is c.in-Some-codepoints.ensures.few,
      search rules,
    )

pub returns-then-ne-clause-err : goal.returns-then-ne-clause-err
returns-then-ne-clause-err c = grind (arith, common_steps)
