use Rattle.hnodes.proofs.IndexNames.{◌≤◌, ap, sym, ◌∙◌, length, map, take, arith, take-map, with_items_is, length-map, link_number, ◌≡◌, ℕ, List, AreIndexed, Link}
use Rattle.hnodes.proofs.Names.{length-take}
use Rattle.hnodes.proofs.IndexSteps.{is_indexed-to}
use Rattle.hnodes.proofs.indexed_list.IndexedList.truncate.Goals as goal

borrowed : (last last' : List ℕ) (links links' : List Link) → last' ≡ last → links' ≡ links → AreIndexed last links → AreIndexed last' links'
borrowed last last' links links' e f are = rw (e, f) are

pub returns : goal.returns
returns c =
    ap (map link_number) c.truncate.ensures.items ∙ sym (take-map link_number c.args.len c.self.inside.links.items) ∙ ap (take c.args.len) c.self.view_is

pub invariant_of-self : goal.invariant_of-self
invariant_of-self c = let links = c.deref.result.now in let len = c.args.len in
    let within : len ≤ length links = omega
    (arith, c.requires, ap length c.deref.ensures.value, ap length c.self.view_is, length-map c.self.inside.links.items link_number) in
    let left = c.truncate.ensures.items ∙ ap (take len) (sym c.deref.ensures.value) in
    borrowed c.unwind.new.last _ (take len links) _ (with_items_is c.self.inside.last c.unwind.new.last (c.unwind.auto.last ∙ c.deref_mut.ensures.len)) left
    (record {
      indexed = is_indexed-to c.unwind.new.last links len within (λ some. omega
          (arith, c.self.invariant.indexed.wide (omega (arith, ap length c.deref.ensures.value)), c.unwind.auto.last, ap length c.deref_mut.ensures.value))
          c.unwind.ensures;
      fits = omega (arith, c.self.invariant.fits, ap length c.deref.ensures.value, length-take len links);
    })
