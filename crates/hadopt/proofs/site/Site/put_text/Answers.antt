use Rattle.hadopt.proofs.Names.{ℕ, subst, sym, chars, IsPlace, placed, Gives, put_each, numbers, SiteOf}
use Rattle.hadopt.proofs.Inserting.{gives-kept, each-kept}
use Rattle.hadopt.proofs.Putting.{text-gives, made-after_text}
use Rattle.hadopt.proofs.site.Site.put_text.Goals as goal

pub invariant_of-self : goal.invariant_of-self
invariant_of-self c = made-after_text c.put_text.result (chars c.args.text.now) c.args.place c.self.inside.tree c.put_text.new.self c.self.inside.stack.stack
    c.put_text.ensures.ok c.put_text.ensures.err c.self.invariant

pub returns-clause-done : goal.returns-clause-done
returns-clause-done c =
    let s : SiteOf ℕ = record {
      nodes = c.self.inside.tree;
      open_nodes = c.self.inside.stack;
      items = c.self.inside.list;
      foster = c.self.inside.foster;
      errors = c.self.inside.errors.items;
      again = c.self.inside.again.items;
    } in
    let is : IsPlace c.args.place s.nodes = subst (λ (s : SiteOf ℕ). IsPlace c.args.place s.nodes) (sym c.self.view_is) c.requires in
    subst
    (λ (t : SiteOf ℕ). Gives c.put_text.result (record s { nodes = c.put_text.new.self }) (put_each (placed c.args.at (chars c.args.text.now)) c.args.place t))
    c.self.view_is (text-gives c.put_text.result c.args.at c.args.text.now c.args.place s c.put_text.new.self c.utf8.text c.are_nodes.ensures.nodes is
    c.put_text.ensures.ok c.put_text.ensures.full c.put_text.ensures.refused)

pub returns-clause-kept : goal.returns-clause-kept
returns-clause-kept c = λ k stands. gives-kept numbers c.put_text.result _ _ (returns-clause-done c)
    (each-kept numbers (placed c.args.at (chars c.args.text.now)) c.args.place c.args.self.now stands k)
