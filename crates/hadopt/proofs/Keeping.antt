-- What is kept, as it is stated and as the proofs use it.
use Rattle.hadopt.proofs.Names.{◌≡◌, refl, sym, ◌∙◌, at-most, below-document, in-document, deep-is, Naming, numbers, texts, number_of, tag_text, Table, eqb-true, SiteOf, stack, trees, TellsTables, IsSound, bytes_eq-Decides}
use Rattle.hadopt.proofs.Lists.{each-map, pairs-map}
use Rattle.hadopt.proofs.Settling.{Well}

module _ {N : Type 0} (n : Naming N) where
  pub to-well : (s : SiteOf N) → IsSound n s → Well n s
  to-well s h = let f = trees s in let o = h.open_stands in record {
    counted = h.counted;
    each = each-map _ _ (λ x p. below-document s.nodes.made f h.counted x.node p) (stack s) o.stand;
    order = pairs-map _ _ _ (λ a b p q r. deep-is b.node a.node f (at-most s.nodes.made f h.counted a.node) ∙ r) (stack s) o.stand o.order;
    plain = h.plain;
  }

  pub from-well : (s : SiteOf N) → Well n s → IsSound n s
  from-well s h = record {
    counted = h.counted;
    open_stands = record {
      stand = each-map _ _ (λ x p. in-document s.nodes.made (trees s) h.counted x.node p.0 p.1) (stack s) h.each;
      order =
          pairs-map _ _ _ (λ a b p q r. sym (deep-is b.node a.node (trees s) (at-most s.nodes.made (trees s) h.counted a.node)) ∙ r) (stack s) h.each h.order;
    };
    plain = h.plain;
  }

-- both kinds of names mean tables
pub numbers-tell : TellsTables numbers
numbers-tell a h = let is : a ≡ number_of Table = eqb-true a (number_of Table) h in rw is refl

pub texts-tell : TellsTables texts
texts-tell a h = let is : a ≡ tag_text Table = (bytes_eq-Decides a (tag_text Table)).0 h in rw is refl
