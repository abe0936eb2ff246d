use Rattle.charref.proofs.Names.{ℕ, List, ◌+◌, ◌*◌, ◌-◌, length, take, drop, sym, subst, take_rest, characters_of, flat_characters, entry, BeginsWith}
use Rattle.charref.proofs.Forms.{read_characters}
use Rattle.charref.proofs.Searching.{entry_in}
use Rattle.charref.proofs.flat.Flat.characters.Goals as goal

pub returns : goal.returns
returns c = let text = c.self.inside.text.items in let e = c.index.result.now in let form : List ℕ = flat_characters (characters_of c.in-Some.characters) in
    let count : ℕ = 1 + 4 * length (characters_of c.in-Some.characters) in (
      entry text e,
      entry_in text c.self.inside.entities.items c.args.self.now c.args.index e c.self.view_is c.requires c.index.ensures,
      sym (read_characters (characters_of c.in-Some.characters) (drop e.end text) count c.in-Some.ensures.0
          (subst (λ bs. BeginsWith form bs count) (take_rest text e.end)
          (subst (λ (x : List ℕ). BeginsWith form (take (length x - e.end) (drop e.end x)) count) c.deref.ensures.value c.in-Some.ensures.1))),
    )
