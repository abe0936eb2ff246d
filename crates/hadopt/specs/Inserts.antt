-- What is inserted: elements, comments, doctypes, characters, missing attributes (#creating-and-inserting-nodes). `at` is the place of the
-- token. Nodes are counted before the open ones.
use Rattle.std.specs.Prelude.{ℕ, ◌&&◌, nat_le, is_none, length, List, [], ◌∷◌, if◌then◌else◌}
use Rattle.hnodes.specs.Forest.{Attribute, What, element, Forest}
use Rattle.hnodes.specs.Attributes.{add_missing}
use Rattle.hnodes.specs.Edits.{graft, make, add_char, text_before}
use Rattle.hnodes.specs.declared.node.Place.{Place}
use Rattle.hopen.specs.Stack.{OpenNode, current}
use Rattle.hopen.specs.Formatting.{pushed as entry_pushed}
use Rattle.names.specs.declared.placed.Placed.{Placed}
use Rattle.names.specs.declared.refusal.Refusal.TheVariants.{TooManyNodes, TooDeep}
use Rattle.hadopt.specs.Naming.{Naming}
use Rattle.hadopt.specs.Site.{Outcome, Goes, Refused, and_then, SiteOf, stack, trees, with_trees, with_stack, with_items, open_node}

module _ {N : Type 0} (at : ℕ) where
  -- a new node, loose: create an element for a token (#create-an-element-for-the-token), a comment or a doctype
  abbrev pub made : What N → SiteOf N → Outcome (SiteOf N)
  made what s =
      if nat_le s.nodes.limit s.nodes.made then Refused (TooManyNodes at)
      else Goes (record s { nodes = make what s.nodes })

  -- a new node at a place: insert a comment (#insert-a-comment), or a doctype
  abbrev pub added : What N → Place → SiteOf N → Outcome (SiteOf N)
  added what place s = and_then (made what s) (λ t. Goes (with_trees (graft s.nodes.made place (trees t)) t))

  -- a node becomes the current one
  abbrev pub with_open : OpenNode N → SiteOf N → Outcome (SiteOf N)
  with_open x s =
      if nat_le s.open_nodes.limit (length (stack s)) then Refused (TooDeep at)
      else Goes (with_stack (x ∷ stack s) s)

  -- insert an HTML element (#insert-an-html-element): a new one at a place, which becomes the current node
  abbrev pub inserted : N → List (Attribute N) → Place → SiteOf N → Outcome (SiteOf N)
  inserted name attrs place s =
      and_then (added (element name attrs) place s) (with_open (record { node = s.nodes.made; name = name }))

  -- insert a character (#insert-a-character)
  abbrev pub put : ℕ → Place → SiteOf N → Outcome (SiteOf N)
  put c place s =
      if is_none (text_before place (trees s)) && nat_le s.nodes.limit s.nodes.made then Refused (TooManyNodes at)
      else Goes (record s { nodes = add_char c place s.nodes })

module _ {N : Type 0} where
  -- a run of characters, one by one, at one place
  abbrev pub put_each : List Placed → Place → SiteOf N → Outcome (SiteOf N)
  put_each [] place s = Goes s
  put_each (c ∷ cs) place s = and_then (put c.at c.ch place s) (put_each cs place)

module _ {N : Type 0} (n : Naming N) where
  -- Push onto the list of active formatting elements (#push-onto-the-list-of-active-formatting-elements): the current node, with the token
  -- that it was made for.
  abbrev pub listed : N → List (Attribute N) → SiteOf N → SiteOf N
  listed name attrs s =
      with_items (entry_pushed n.same (record { node = open_node (current (stack s)); name = name; attrs = attrs }) s.items) s

  -- those of the attributes that a node lacks
  abbrev pub with_missing : ℕ → List (Attribute N) → Forest N → Forest N
  with_missing node [] f = f
  with_missing node (a ∷ attrs) f = with_missing node attrs (add_missing n.same node a f)
