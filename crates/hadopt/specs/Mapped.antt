-- A site under other names. What is done under names of one kind is done under names of another, where the two kinds agree.
use Rattle.std.specs.Prelude.{◌≡◌, ℕ, List, Option, map}
use Rattle.std.specs.Option.{option_map}
use Rattle.hnodes.specs.Forest.{Attribute, What}
use Rattle.hnodes.specs.Mapped.{mapped_attribute, mapped_what, mapped_nodes}
use Rattle.hnodes.specs.declared.node.Place.{Place}
use Rattle.hopen.specs.Stack.{OpenNode}
use Rattle.hopen.specs.Mapped.{mapped_open, mapped_stack}
use Rattle.hopen.specs.FormattingMapped.{mapped_items}
use Rattle.names.specs.declared.tag.Tag.{Tag}
use Rattle.names.specs.Spelling.{IsSpelling}
use Rattle.hadopt.specs.Naming.{Naming}
use Rattle.hadopt.specs.Site.{Outcome, Goes, Refused, SiteOf, stack}
use Rattle.hadopt.specs.Places.{place_in}
use Rattle.hadopt.specs.Inserts.{added, with_open, inserted, put}
use Rattle.hadopt.specs.Closes.{closed_p, other_end}
use Rattle.hadopt.specs.Reconstructs.{reconstructed}
use Rattle.hadopt.specs.Adopts.{adopted}

-- the names of two kinds agree by a spelling
pub record Agree {N M : Type 0} (m : Naming N) (n : Naming M) (spell : N → M) : Type 0 where
  pub spelling : IsSpelling m.tag n.tag m.same n.same spell
  pub known : (t : Tag) → n.known t ≡ spell (m.known t)
  pub type_attribute : n.type_attribute ≡ spell m.type_attribute

module _ {N M : Type 0} where
  abbrev pub mapped_site : (N → M) → SiteOf N → SiteOf M
  mapped_site g s = record {
    nodes = mapped_nodes g s.nodes;
    open_nodes = record { limit = s.open_nodes.limit; stack = mapped_stack g (stack s) };
    items = mapped_items g s.items;
    foster = s.foster;
    errors = s.errors;
    again = s.again;
  }

module _ {S T : Type 0} where
  abbrev pub outcome_map : (S → T) → Outcome S → Outcome T
  outcome_map f (Goes s) = Goes (f s)
  outcome_map f (Refused r) = Refused r

-- To do something and then map the names is to map them and then do it.
pub record OperationsKnowNoNames {N M : Type 0} (m : Naming N) (n : Naming M) (g : N → M) : Type 0 where
  pub place_in : (target : Option (OpenNode N)) (s : SiteOf N) → place_in n (option_map (mapped_open g) target) (mapped_site g s) ≡ place_in m target s
  pub add : (at : ℕ) (w : What N) (to : Place) (s : SiteOf N)
      → added at (mapped_what g w) to (mapped_site g s) ≡ outcome_map (mapped_site g) (added at w to s)
  pub push : (at : ℕ) (x : OpenNode N) (s : SiteOf N) → with_open at (mapped_open g x) (mapped_site g s) ≡ outcome_map (mapped_site g) (with_open at x s)
  pub insert : (at : ℕ) (name : N) (attrs : List (Attribute N)) (to : Place) (s : SiteOf N)
      → inserted at (g name) (map (mapped_attribute g) attrs) to (mapped_site g s) ≡ outcome_map (mapped_site g) (inserted at name attrs to s)
  pub put_char : (at c : ℕ) (to : Place) (s : SiteOf N) → put at c to (mapped_site g s) ≡ outcome_map (mapped_site g) (put at c to s)
  pub close_p : (at : ℕ) (s : SiteOf N) → closed_p n at (mapped_site g s) ≡ mapped_site g (closed_p m at s)
  pub end_other : (at : ℕ) (name : N) (s : SiteOf N) → other_end n at (g name) (mapped_site g s) ≡ mapped_site g (other_end m at name s)
  pub reconstruct : (at : ℕ) (s : SiteOf N) → reconstructed n at (mapped_site g s) ≡ outcome_map (mapped_site g) (reconstructed m at s)
  pub adopt : (at : ℕ) (name : N) (s : SiteOf N) → adopted n at (g name) (mapped_site g s) ≡ outcome_map (mapped_site g) (adopted m at name s)
