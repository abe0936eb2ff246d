-- What is closed: implied end tags, a p element, any other end tag, and the contexts of tables
-- (#closing-elements-that-have-implied-end-tags, #parsing-main-inbody).
use Rattle.std.specs.Prelude.{ℕ, Bool, true, false, not, ◌&&◌, List, [], ◌∷◌, if◌then◌else◌}
use Rattle.hnodes.specs.Nearest.{after}
use Rattle.hopen.specs.Stack.{OpenNode, in_scope}
use Rattle.hopen.specs.Scopes.{is_named}
use Rattle.names.specs.Sets.{has_implied_end, is_special}
use Rattle.names.specs.declared.error.ErrorCode.TheVariants.{TreeInBody}
use Rattle.names.specs.declared.tag.Tag.{Tag}
use Rattle.names.specs.declared.tag.Tag.TheVariants as tag
use Rattle.hadopt.specs.Naming.{Naming}
use Rattle.hadopt.specs.Site.{SiteOf, stack, with_stack, with_error, error_unless, current_is}

-- Clear the stack back to a table context, a table body context, a table row context: what stops it
-- (#clear-the-stack-back-to-a-table-context, #clear-the-stack-back-to-a-table-body-context,
-- #clear-the-stack-back-to-a-table-row-context).
abbrev pub is_table_context : Tag → Bool
is_table_context tag.Table = true
is_table_context tag.Html = true
is_table_context _ = false

abbrev pub is_body_context : Tag → Bool
is_body_context tag.Tbody = true
is_body_context tag.Tfoot = true
is_body_context tag.Thead = true
is_body_context tag.Html = true
is_body_context _ = false

abbrev pub is_row_context : Tag → Bool
is_row_context tag.Tr = true
is_row_context tag.Html = true
is_row_context _ = false

module _ {X : Type 0} where
  -- what is left when the nearest members go as long as they pass
  abbrev pub popped_past : (X → Bool) → List X → List X
  popped_past passes [] = []
  popped_past passes (x ∷ rest) = if passes x then popped_past passes rest else x ∷ rest

module _ {N : Type 0} where
  -- nodes are popped up to and with the nearest that is sought
  abbrev pub popped_to : (OpenNode N → Bool) → SiteOf N → SiteOf N
  popped_to sought s = with_stack (after sought (stack s)) s

module _ {N : Type 0} (n : Naming N) where
  -- whether an open node has this known name
  abbrev pub is : Tag → OpenNode N → Bool
  is t = is_named n.same (n.known t)

  -- Generate implied end tags, except for what is kept (#generate-implied-end-tags).
  abbrev pub without_implied : (OpenNode N → Bool) → SiteOf N → SiteOf N
  without_implied kept s = with_stack (popped_past (λ x. has_implied_end (n.tag x.name) && not (kept x)) (stack s)) s

  -- Clear the stack back to what stops it.
  abbrev pub popped_while_not : (Tag → Bool) → SiteOf N → SiteOf N
  popped_while_not stop s = with_stack (popped_past (λ x. not (stop (n.tag x.name))) (stack s)) s

  -- implied end tags except for what is sought, an error unless that is current, and nodes are popped up to and with it
  abbrev pub closed : (at : ℕ) → (OpenNode N → Bool) → SiteOf N → SiteOf N
  closed at sought s =
      let t = without_implied sought s in
      popped_to sought (error_unless (current_is sought t) TreeInBody at t)

  -- Close a p element (#close-a-p-element).
  abbrev pub closed_p : (at : ℕ) → SiteOf N → SiteOf N
  closed_p at s = closed at (is tag.P) s

  -- Any other end tag (#parsing-main-inbody): going up from the current node, one of this name comes before a special one, or it is ignored.
  abbrev pub other_end : (at : ℕ) → N → SiteOf N → SiteOf N
  other_end at name s =
      if in_scope (λ x. is_special (n.tag x.name)) (is_named n.same name) (stack s) then closed at (is_named n.same name) s
      else with_error TreeInBody at s
