-- What the words of the rules mean: `perform` does the steps of a rule, one after another.
use Rattle.std.specs.Prelude.{ℕ, Bool, true, false, drop, List, [], ◌∷◌, ◌++◌, Option, Some, None, if◌then◌else◌}
use Rattle.std.specs.Option.{option_map_or}
use Rattle.hnodes.specs.Forest.{Attribute}
use Rattle.hnodes.specs.Forest as forest
use Rattle.hnodes.specs.declared.node.Place.TheVariants.{LastIn}
use Rattle.hnodes.specs.Nearest.{without}
use Rattle.hopen.specs.Stack.{OpenNode, is_node, current}
use Rattle.hopen.specs.Scopes.{is_of}
use Rattle.hopen.specs.Formatting.{find_entry, without_entry, cleared}
use Rattle.hopen.specs.Formatting as list
use Rattle.names.specs.declared.tag.Tag.TheVariants as tag
use Rattle.names.specs.declared.placed.Placed.{Placed}
use Rattle.hadopt.specs.Naming.{Naming}
use Rattle.hadopt.specs.Site.{Outcome, Goes, SiteOf, and_then, stack, trees, with_trees, with_stack, with_items, with_error, from_top, open_node}
use Rattle.hadopt.specs.Site as site
use Rattle.hadopt.specs.Places.{place}
use Rattle.hadopt.specs.Inserts.{added, inserted, listed, with_missing}
use Rattle.hadopt.specs.Inserts as inserts
use Rattle.hadopt.specs.Closes.{is, is_table_context, is_body_context, is_row_context, popped_while_not, without_implied, popped_to, closed_p}
use Rattle.hadopt.specs.Closes as closes
use Rattle.hadopt.specs.Reconstructs.{reconstructed}
use Rattle.hadopt.specs.Adopts.{adopted}
use Rattle.hmodes.specs.Words.{Do, nothing, ◌▸◌, when, unless, choose, fostered, each_pending, again, again_as, error, to, save_mode, to_saved, reset}
use Rattle.hmodes.specs.Words.{head_pointer, form_pointer, forget_form, drop_lf, acknowledge, start_pending, pend, go_quirks, judge_quirks, insert}
use Rattle.hmodes.specs.Words.{insert_named, insert_root, insert_root_named, insert_comment, comment_in_document, comment_in_first, insert_doctype, put}
use Rattle.hmodes.specs.Words.{add_missing_to_first, add_missing_to_second, pop, pop_to, pop_to_name, pop_to_group, implied, implied_except}
use Rattle.hmodes.specs.Words.{implied_except_name, clear_to_table, clear_to_body, clear_to_row, push_head, remove_head, remove_form, reconstruct}
use Rattle.hmodes.specs.Words.{push_to_list, marker, clear_to_marker, close_p, adopt, adopt_listed, other_end}
use Rattle.hmodes.specs.State.{Token, character, Control, State, Flow, Done, Again, Refused, flow_then, flow_map, token_name, token_attrs, token_text}
use Rattle.hmodes.specs.State.{token_char, renamed}
use Rattle.hmodes.specs.Rules.{mode_error}
use Rattle.hmodes.specs.Reset.{reset_mode}
use Rattle.hmodes.specs.Doctypes.{forces_quirks, doctype_node}
use Rattle.hmodes.specs.Questions.{answer_of, is_token_name}

module _ {N : Type 0} where
  abbrev pub with_site : SiteOf N → State N → State N
  with_site x s = record s { site = x }

  abbrev pub with_control : Control → State N → State N
  with_control c s = record s { control = c }

  abbrev pub with_foster : Bool → State N → State N
  with_foster on s = with_site (record s.site { foster = on }) s

  -- what comes of an operation on the site
  abbrev pub flow_of : State N → Outcome (SiteOf N) → Flow N
  flow_of s (Goes x) = Done (with_site x s)
  flow_of s (site.Refused r) = Refused r

  abbrev pub on_site : (SiteOf N → Outcome (SiteOf N)) → State N → Flow N
  on_site f s = flow_of s (f s.site)

  -- one that is not refused
  abbrev pub site_becomes : (SiteOf N → SiteOf N) → State N → Flow N
  site_becomes f s = Done (with_site (f s.site) s)

  abbrev pub control_becomes : (Control → Control) → State N → Flow N
  control_becomes f s = Done (with_control (f s.control) s)

  -- a step for each of the characters
  abbrev pub each_of : (Placed → State N → Flow N) → List Placed → State N → Flow N
  each_of f [] s = Done s
  each_of f (c ∷ cs) s = flow_then (f c s) (each_of f cs)

  -- a node, where it is set, is left out of the open ones
  abbrev pub removed : Option ℕ → SiteOf N → SiteOf N
  removed node x = with_stack (option_map_or (λ k. without (is_node k) (stack x)) node (stack x)) x

  -- a node leaves the list and the stack
  abbrev pub forgotten : ℕ → SiteOf N → SiteOf N
  forgotten node x = with_items (without_entry node x.items) (removed (Some node) x)

  abbrev pub current_node : SiteOf N → ℕ
  current_node x = open_node (current (stack x))

module _ {N : Type 0} (n : Naming N) where
  -- an element at the appropriate place
  abbrev pub inserted_here : ℕ → N → List (Attribute N) → SiteOf N → Outcome (SiteOf N)
  inserted_here at name attrs x = inserted at name attrs (place n x) x

  -- the attributes that an open node lacks
  abbrev pub completed : Option (OpenNode N) → List (Attribute N) → SiteOf N → SiteOf N
  completed node attrs x = with_trees (with_missing n (open_node node) attrs (trees x)) x

  abbrev pub adopted_listed : ℕ → N → SiteOf N → Outcome (SiteOf N)
  adopted_listed at name x =
      and_then (adopted n at name x) (λ y. Goes (option_map_or (λ e. forgotten e.node y) (find_entry n.same name x.items) y))

  -- the head pointer's node is open again
  abbrev pub head_pushed : ℕ → Option ℕ → SiteOf N → Outcome (SiteOf N)
  head_pushed at None x = Goes x
  head_pushed at (Some node) x = inserts.with_open at (record { node = node; name = n.known tag.Head }) x

  abbrev pub perform : ℕ → Token N → Do → State N → Flow N
  perform at t nothing s = Done s
  perform at t (p ▸ q) s = flow_then (perform at t p s) (perform at t q)
  perform at t (when question p) s = if answer_of n t question s then perform at t p s else Done s
  perform at t (unless question p) s = if answer_of n t question s then Done s else perform at t p s
  perform at t (choose question p q) s = if answer_of n t question s then perform at t p s else perform at t q s
  perform at t (fostered p) s = flow_map (with_foster false) (perform at t p (with_foster true s))
  perform at t (each_pending p) s =
      each_of (λ c. perform c.at (character c.ch) p) s.control.pending (with_control (record s.control { pending = [] }) s)
  perform at t again s = Again t s
  perform at t (again_as x) s = Again (renamed (n.known x) t) s
  perform at t (error m) s = site_becomes (with_error (mode_error m) at) s
  perform at t (to m) s = control_becomes (λ c. record c { mode = m }) s
  perform at t save_mode s = control_becomes (λ c. record c { saved = c.mode }) s
  perform at t to_saved s = control_becomes (λ c. record c { mode = c.saved }) s
  perform at t reset s = control_becomes (λ c. record c { mode = reset_mode n s.context (stack s.site) }) s
  perform at t head_pointer s = control_becomes (λ c. record c { head = Some (current_node s.site) }) s
  perform at t form_pointer s = control_becomes (λ c. record c { form = Some (current_node s.site) }) s
  perform at t forget_form s = control_becomes (λ c. record c { form = None }) s
  perform at t drop_lf s = control_becomes (λ c. record c { drop_lf = true }) s
  perform at t acknowledge s = control_becomes (λ c. record c { acknowledged = true }) s
  perform at t start_pending s = control_becomes (λ c. record c { pending = [] }) s
  perform at t pend s = control_becomes (λ c. record c { pending = c.pending ++ record { ch = token_char t; at = at } ∷ [] }) s
  perform at t go_quirks s = control_becomes (λ c. record c { quirks = true }) s
  perform at t judge_quirks s = control_becomes (λ c. record c { quirks = forces_quirks s t }) s
  perform at t insert s = on_site (inserted_here at (token_name n t) (token_attrs t)) s
  perform at t (insert_named x) s = on_site (inserted_here at (n.known x) []) s
  perform at t insert_root s = on_site (inserted at (token_name n t) (token_attrs t) (LastIn 0)) s
  perform at t (insert_root_named x) s = on_site (inserted at (n.known x) [] (LastIn 0)) s
  perform at t insert_comment s = on_site (added at (forest.comment (token_text t)) (LastIn (current_node s.site))) s
  perform at t comment_in_document s = on_site (added at (forest.comment (token_text t)) (LastIn 0)) s
  perform at t comment_in_first s = on_site (added at (forest.comment (token_text t)) (LastIn (open_node (from_top 0 s.site)))) s
  perform at t insert_doctype s = on_site (added at (doctype_node t) (LastIn 0)) s
  perform at t put s = on_site (inserts.put at (token_char t) (place n s.site)) s
  perform at t add_missing_to_first s = site_becomes (completed (from_top 0 s.site) (token_attrs t)) s
  perform at t add_missing_to_second s = site_becomes (completed (from_top 1 s.site) (token_attrs t)) s
  perform at t pop s = site_becomes (λ x. with_stack (drop 1 (stack x)) x) s
  perform at t (pop_to x) s = site_becomes (popped_to (is n x)) s
  perform at t pop_to_name s = site_becomes (popped_to (is_token_name n t)) s
  perform at t (pop_to_group group) s = site_becomes (popped_to (is_of n.tag group)) s
  perform at t implied s = site_becomes (without_implied n (λ x. false)) s
  perform at t (implied_except x) s = site_becomes (without_implied n (is n x)) s
  perform at t implied_except_name s = site_becomes (without_implied n (is_token_name n t)) s
  perform at t clear_to_table s = site_becomes (popped_while_not n is_table_context) s
  perform at t clear_to_body s = site_becomes (popped_while_not n is_body_context) s
  perform at t clear_to_row s = site_becomes (popped_while_not n is_row_context) s
  perform at t push_head s = on_site (head_pushed at s.control.head) s
  perform at t remove_head s = site_becomes (removed s.control.head) s
  perform at t remove_form s = site_becomes (removed s.control.form) s
  perform at t reconstruct s = on_site (reconstructed n at) s
  perform at t push_to_list s = site_becomes (listed n (token_name n t) (token_attrs t)) s
  perform at t marker s = site_becomes (λ x. with_items (list.marker ∷ x.items) x) s
  perform at t clear_to_marker s = site_becomes (λ x. with_items (cleared x.items) x) s
  perform at t close_p s = site_becomes (closed_p n at) s
  perform at t adopt s = on_site (adopted n at (token_name n t)) s
  perform at t adopt_listed s = on_site (adopted_listed at (token_name n t)) s
  perform at t other_end s = site_becomes (closes.other_end n at (token_name n t)) s
