-- The rules under other names.
use Rattle.hmodes.proofs.Vocabulary.{◌≡◌, ℕ, Bool, true, false, not, ◌&&◌, cond, List, [], ◌∷◌, ◌++◌, map, reverse, Option, Some, None, refl, sym, ◌∙◌, ap, subst, is_some, slice_get, unwrap_or, codes, list_any, option_map, option_map_or, str_eq_ignore_ascii_case, is_present, Attribute, Forest, attributes_of, add_attribute, mapped_attribute, mapped_what, mapped, LastIn, OpenNode, is_node, current, stops_in_scope, stops_item, is_of, is_of_group, stops_in, Default, EntryOf, find_entry, Tag, Placed, Naming, Outcome, Goes, SiteOf, and_then, stack, trees, with_trees, with_stack, with_items, from_top, open_node, place, is_fostering, added, inserted, listed, with_missing, is, is_table_context, is_body_context, is_row_context, popped_while_not, adopted, InBody, Start, End, Test, Do, ◌▸◌, when, unless, choose, fostered, each_pending, again, again_as, reset, head_pointer, form_pointer, judge_quirks, pend, insert, insert_named, insert_root, insert_root_named, insert_comment, comment_in_document, comment_in_first, insert_doctype, put, add_missing_to_first, add_missing_to_second, pop, pop_to, pop_to_name, pop_to_group, implied, implied_except, implied_except_name, clear_to_table, clear_to_body, clear_to_row, push_head, remove_head, remove_form, reconstruct, push_to_list, clear_to_marker, close_p, adopt, adopt_listed, other_end, has_in, has_name_in, has_group_in, has_form_in_scope, current_is_name, current_is_group, current_is_form, current_is_fostering, item_is_near, second_is_body, all_may_stay_open, name_is_listed, form_is_set, is_in_quirks, is_fragment, doctype_conforms, input_is_hidden, pending_is_ws, Token, doctype, start, end, character, PlacedToken, State, Flow, Done, Again, Refused, flow_then, flow_map, token_name, token_attrs, token_text, token_char, is_self_closing, renamed, kind_of, family_of, rule_of, open_mode, context_mode, reset_mode, conforms, forces_quirks, doctype_node, has, is_token_name, is_hidden, answer_of, with_site, with_control, with_foster, flow_of, each_of, removed, forgotten, current_node, inserted_here, completed, adopted_listed, head_pushed, perform, Rule, Chain, Step, Steps, is_dropped, step_begun, finished, ends, refuses, goes_again, drops, goes, none, and, refused, mapped_token, mapped_placed, mapped_state, mapped_flow, StepsKnowNoNames, scope-map, slice_get-map, edits, questions, Scope, pushed, mapped_open, mapped_stack, StackKnowsNoNames, mapped_entry, mapped_items, FormattingKnowsNoNames, stack_mapped, is_some-option_map, formatting_mapped, may_stay_open, Agree, mapped_site, outcome_map, any-map, all-map, reverse-map, cond-map, or-map}
use Rattle.hnodes.specs.Forest as forest
use Rattle.names.specs.declared.tag.Tag.TheVariants as tag
use Rattle.hadopt.specs.Site as site
use Rattle.hadopt.specs.Inserts as inserts
use Rattle.hadopt.proofs.Spellings as site_names
use Rattle.names.specs.declared.error.ErrorCode.TheVariants as code
use Rattle.hadopt.specs.Closes as closes
use Rattle.hmodes.specs.Words.{current_is}

module _ {N M : Type 0} (g : N → M) where
  then-mapped : (f : Flow N) (k : State N → Flow N) (k' : State M → Flow M) → ((s : State N) → k' (mapped_state g s) ≡ mapped_flow g (k s))
      → flow_then (mapped_flow g f) k' ≡ mapped_flow g (flow_then f k)
  then-mapped (Done s) k k' e = e s
  then-mapped (Again t s) k k' e = refl
  then-mapped (Refused r) k k' e = refl

  unfoster-mapped : (f : Flow N) → flow_map (with_foster false) (mapped_flow g f) ≡ mapped_flow g (flow_map (with_foster false) f)
  unfoster-mapped (Done s) = refl
  unfoster-mapped (Again t s) = refl
  unfoster-mapped (Refused r) = refl

  each-mapped : (f : Placed → State N → Flow N) (f' : Placed → State M → Flow M)
      → ((c : Placed) (s : State N) → f' c (mapped_state g s) ≡ mapped_flow g (f c s)) → (cs : List Placed) (s : State N)
      → each_of f' cs (mapped_state g s) ≡ mapped_flow g (each_of f cs s)
  each-mapped f f' e [] s = refl
  each-mapped f f' e (c ∷ cs) s = ap (λ x. flow_then x (each_of f' cs)) (e c s) ∙ then-mapped (f c s) (each_of f cs) (each_of f' cs) (each-mapped f f' e cs)

  flow-mapped : (s : State N) (o : Outcome (SiteOf N)) → flow_of (mapped_state g s) (outcome_map (mapped_site g) o) ≡ mapped_flow g (flow_of s o)
  flow-mapped s (Goes x) = refl
  flow-mapped s (site.Refused r) = refl

  on-site : (s : State N) (o : Outcome (SiteOf N)) (o' : Outcome (SiteOf M)) → o' ≡ outcome_map (mapped_site g) o
      → flow_of (mapped_state g s) o' ≡ mapped_flow g (flow_of s o)
  on-site s o o' is = ap (flow_of (mapped_state g s)) is ∙ flow-mapped s o

  -- what a token holds
  record Holds (t : Token N) : Type 0 where
    attrs : token_attrs (mapped_token g t) ≡ map (mapped_attribute g) (token_attrs t)
    text : token_text (mapped_token g t) ≡ token_text t
    char : token_char (mapped_token g t) ≡ token_char t
    node : doctype_node (mapped_token g t) ≡ mapped_what g (doctype_node t)
    judged : conforms (mapped_token g t) ≡ conforms t
    quirks : (s : State N) → forces_quirks (mapped_state g s) (mapped_token g t) ≡ forces_quirks s t
    other : (x : N) → renamed (g x) (mapped_token g t) ≡ mapped_token g (renamed x t)
    closing : is_self_closing (mapped_token g t) ≡ is_self_closing t
    dropped : (s : State N) → is_dropped (mapped_token g t) (mapped_state g s) ≡ is_dropped t s

  token-mapped : (t : Token N) → Holds t
  token-mapped (doctype a b c d) =
      record { attrs = refl; text = refl; char = refl; node = refl; judged = refl; quirks = λ s. refl; other = λ x. refl; closing = refl; dropped = λ s. refl }
  token-mapped _ =
      record { attrs = refl; text = refl; char = refl; node = refl; judged = refl; quirks = λ s. refl; other = λ x. refl; closing = refl; dropped = λ s. refl }

module _ {N M : Type 0} (m : Naming N) (n : Naming M) (g : N → M) (a : Agree m n g) where
  stack-words : StackKnowsNoNames m.tag n.tag m.same n.same g
  stack-words = stack_mapped m.tag n.tag m.same n.same g a.spelling

  list-words : FormattingKnowsNoNames m.same n.same g
  list-words = formatting_mapped m.same n.same g a.spelling.names

  name-mapped : (t : Token N) → token_name n (mapped_token g t) ≡ g (token_name m t)
  name-mapped (start x attrs closing) = refl
  name-mapped (end x) = refl
  name-mapped t = a.known tag.Html

  kind-mapped : (t : Token N) → kind_of n (mapped_token g t) ≡ kind_of m t
  kind-mapped (start x attrs closing) = ap (λ y. Start (family_of y)) (a.spelling.tags x)
  kind-mapped (end x) = ap (λ y. End (family_of y)) (a.spelling.tags x)
  kind-mapped t = refl

  reset-mapped : (context : Option N) (st : List (OpenNode N)) → reset_mode n (option_map g context) (mapped_stack g st) ≡ reset_mode m context st
  reset-mapped context [] = refl
  reset-mapped (Some c) (root ∷ []) = ap context_mode (a.spelling.tags c)
  reset-mapped None (root ∷ []) = ap (λ y. unwrap_or (open_mode y) InBody) (a.spelling.tags root.name)
  reset-mapped context (x ∷ (y ∷ up)) = λ i. unwrap_or (open_mode (a.spelling.tags x.name i)) (reset-mapped context (y ∷ up) i)

  token-test : (t : Token N) (x : OpenNode N) → is_token_name n (mapped_token g t) (mapped_open g x) ≡ is_token_name m t x
  token-test t x = ap (n.same (g x.name)) (name-mapped t) ∙ a.spelling.names x.name (token_name m t)

  top-mapped : (k : ℕ) (x : SiteOf N) → from_top k (mapped_site g x) ≡ option_map (mapped_open g) (from_top k x)
  top-mapped k x = ap (λ l. slice_get l k) (reverse-map (mapped_open g) (stack x)) ∙ slice_get-map (mapped_open g) (reverse (stack x)) k

  first-mapped : (k : ℕ) (x : SiteOf N) → open_node (from_top k (mapped_site g x)) ≡ open_node (from_top k x)
  first-mapped k x = ap (λ (o : Option (OpenNode M)). open_node o) (top-mapped k x) ∙ site_names.node_of-map g (from_top k x)

  current-mapped : (x : SiteOf N) → current_node (mapped_site g x) ≡ current_node x
  current-mapped x = ap (λ (o : Option (OpenNode M)). open_node o) (stack-words.current_node (stack x)) ∙ site_names.node_of-map g (current (stack x))

  has-mapped : (scope : Scope) (p : OpenNode N → Bool) (q : OpenNode M → Bool) → ((x : OpenNode N) → q (mapped_open g x) ≡ p x) → (s : State N)
      → has n scope q (mapped_state g s) ≡ has m scope p s
  has-mapped scope p q e s =
      scope-map g p q e (stops_in_scope m.tag scope) (stops_in_scope n.tag scope) (λ x. ap (stops_in scope) (a.spelling.tags x.name)) (stack s.site)

  answer-mapped : (t : Token N) (question : Test) (s : State N) → answer_of n (mapped_token g t) question (mapped_state g s) ≡ answer_of m t question s
  answer-mapped t (has_in scope x) s = has-mapped scope (is m x) (is n x) (site_names.is-map m n g a x) s
  answer-mapped t (has_name_in scope) s = has-mapped scope (is_token_name m t) (is_token_name n (mapped_token g t)) (token-test t) s
  answer-mapped t (has_group_in scope group) s =
      has-mapped scope (is_of m.tag group) (is_of n.tag group) (λ x. ap (is_of_group group) (a.spelling.tags x.name)) s
  answer-mapped t has_form_in_scope s = λ i. option_map_or (λ k. has-mapped Default (is_node k) (is_node k) (λ x. refl) s i) s.control.form false
  answer-mapped t (current_is x) s = site_names.current_is-map m n g a (is m x) (is n x) (site_names.is-map m n g a x) s.site
  answer-mapped t current_is_name s = site_names.current_is-map m n g a (is_token_name m t) (is_token_name n (mapped_token g t)) (token-test t) s.site
  answer-mapped t (current_is_group group) s =
      site_names.current_is-map m n g a (is_of m.tag group) (is_of n.tag group) (λ x. ap (is_of_group group) (a.spelling.tags x.name)) s.site
  answer-mapped t current_is_form s =
      λ i. option_map_or (λ k. site_names.current_is-map m n g a (is_node k) (is_node k) (λ x. refl) s.site i) s.control.form false
  answer-mapped t current_is_fostering s = site_names.current_is-map m n g a (λ x. is_fostering (m.tag x.name)) (λ x. is_fostering (n.tag x.name))
      (λ x. ap is_fostering (a.spelling.tags x.name)) s.site
  answer-mapped t (item_is_near x) s = scope-map g (is m x) (is n x) (site_names.is-map m n g a x) (λ y. stops_item (m.tag y.name))
      (λ y. stops_item (n.tag y.name)) (λ y. ap stops_item (a.spelling.tags y.name)) (stack s.site)
  answer-mapped t second_is_body s = ap (λ o. option_map_or (is n tag.Body) o false) (top-mapped 1 s.site)
      ∙ or-map (mapped_open g) (λ v. v) (is m tag.Body) (is n tag.Body) (site_names.is-map m n g a tag.Body) false (from_top 1 s.site)
  answer-mapped t all_may_stay_open s = all-map (mapped_open g) (λ x. may_stay_open (m.tag x.name)) (λ x. may_stay_open (n.tag x.name))
      (λ x. ap may_stay_open (a.spelling.tags x.name)) (stack s.site)
  answer-mapped t name_is_listed s = ap (λ y. is_some (find_entry n.same y (mapped_items g s.site.items))) (name-mapped t)
      ∙ ap (λ (o : Option (EntryOf M)). is_some o) (list-words.find (token_name m t) s.site.items)
      ∙ is_some-option_map (mapped_entry g) (find_entry m.same (token_name m t) s.site.items)
  answer-mapped t form_is_set s = refl
  answer-mapped t is_in_quirks s = refl
  answer-mapped t is_fragment s = is_some-option_map g s.context
  answer-mapped t doctype_conforms s = (token-mapped g t).judged
  answer-mapped t input_is_hidden s = ap (list_any (is_hidden n)) ((token-mapped g t).attrs)
      ∙ any-map (mapped_attribute g) (is_hidden m) (is_hidden n) (λ x i. hidden x i && str_eq_ignore_ascii_case x.1 (codes "hidden")) (token_attrs t) where
        hidden : (x : Attribute N) → n.same (g x.0) n.type_attribute ≡ m.same x.0 m.type_attribute
        hidden x = ap (n.same (g x.0)) a.type_attribute ∙ a.spelling.names x.0 m.type_attribute
  answer-mapped t pending_is_ws s = refl

  missing-mapped : (k : ℕ) (attrs : List (Attribute N)) (f : Forest N)
      → with_missing n k (map (mapped_attribute g) attrs) (mapped g f) ≡ mapped g (with_missing m k attrs f)
  missing-mapped k [] f = refl
  missing-mapped k (b ∷ attrs) f =
      (λ i. with_missing n k (map (mapped_attribute g) attrs) (cond (has_it i) (mapped g f) (sym ((edits g).add_attr k b f) i)))
      ∙ ap (with_missing n k (map (mapped_attribute g) attrs)) (cond-map (mapped g) (is_present m.same b.0 (attributes_of k f)) f (add_attribute k b f))
      ∙ missing-mapped k attrs (cond (is_present m.same b.0 (attributes_of k f)) f (add_attribute k b f)) where
        has_it : is_present n.same (g b.0) (attributes_of k (mapped g f)) ≡ is_present m.same b.0 (attributes_of k f)
        has_it = ap (is_present n.same (g b.0)) ((questions g).attrs k f) ∙ there (attributes_of k f) where
          there : (o : Option (List (Attribute N))) → is_present n.same (g b.0) (option_map (map (mapped_attribute g)) o) ≡ is_present m.same b.0 o
          there None = refl
          there (Some l) = any-map (mapped_attribute g) (λ c. m.same c.0 b.0) (λ c. n.same c.0 (g b.0)) (λ c. a.spelling.names c.0 b.0) l

  completed-mapped : (k : ℕ) (t : Token N) (x : SiteOf N) → completed n (from_top k (mapped_site g x)) (token_attrs (mapped_token g t)) (mapped_site g x)
      ≡ mapped_site g (completed m (from_top k x) (token_attrs t) x)
  completed-mapped k t x = (λ i. with_trees (with_missing n (first-mapped k x i) ((token-mapped g t).attrs i) (mapped g (trees x))) (mapped_site g x))
      ∙ (λ i. with_trees (missing-mapped (open_node (from_top k x)) (token_attrs t) (trees x) i) (mapped_site g x))

  removed-mapped : (node : Option ℕ) (x : SiteOf N) → removed node (mapped_site g x) ≡ mapped_site g (removed node x)
  removed-mapped None x = refl
  removed-mapped (Some k) x = λ i. with_stack (stack-words.remove k (stack x) i) (mapped_site g x)

  cleared-mapped : (stop : Tag → Bool) (x : SiteOf N) → popped_while_not n stop (mapped_site g x) ≡ mapped_site g (popped_while_not m stop x)
  cleared-mapped stop x = λ i. with_stack (site_names.past-map (mapped_open g) (λ y. not (stop (m.tag y.name))) (λ y. not (stop (n.tag y.name)))
      (λ y j. not (stop (a.spelling.tags y.name j))) (stack x) i) (mapped_site g x)

  listed-mapped : (t : Token N) (x : SiteOf N) → listed n (token_name n (mapped_token g t)) (token_attrs (mapped_token g t)) (mapped_site g x)
      ≡ mapped_site g (listed m (token_name m t) (token_attrs t) x)
  listed-mapped t x = (λ i.
      with_items (pushed n.same (record { node = current-mapped x i; name = name-mapped t i; attrs = (token-mapped g t).attrs i }) (mapped_items g x.items))
      (mapped_site g x))
      ∙ (λ i. with_items (list-words.push (record { node = current_node x; name = token_name m t; attrs = token_attrs t }) x.items i) (mapped_site g x))

  adopted_listed-mapped : (at : ℕ) (name : N) (x : SiteOf N)
      → adopted_listed n at (g name) (mapped_site g x) ≡ outcome_map (mapped_site g) (adopted_listed m at name x)
  adopted_listed-mapped at name x =
      (λ i. and_then (site_names.adopted-map m n g a at name x i) (λ y. Goes (option_map_or (λ e. forgotten e.node y) (list-words.find name x.items i) y)))
      ∙ site_names.then-map (mapped_site g) (mapped_site g) (adopted m at name x) _ _ (λ y. ap (λ z. Goes z) (or-map (mapped_entry g) (mapped_site g)
      (λ e. forgotten e.node y) (λ e. forgotten e.node (mapped_site g y))
      (λ e i. with_items (list-words.remove e.node y.items i) (removed-mapped (Some e.node) y i)) y (find_entry m.same name x.items)))

  head-mapped : (at : ℕ) (node : Option ℕ) (x : SiteOf N) → head_pushed n at node (mapped_site g x) ≡ outcome_map (mapped_site g) (head_pushed m at node x)
  head-mapped at None x = refl
  head-mapped at (Some k) x = (λ i. inserts.with_open at (record { node = k; name = a.known tag.Head i }) (mapped_site g x))
      ∙ site_names.pushed-map g at (record { node = k; name = m.known tag.Head }) x

  here-mapped : (at : ℕ) (name : N) (attrs : List (Attribute N)) (s : State N) → flow_of (mapped_state g s)
      (inserted_here n at (g name) (map (mapped_attribute g) attrs) (mapped_site g s.site)) ≡ mapped_flow g (flow_of s (inserted_here m at name attrs s.site))
  here-mapped at name attrs s = on-site g s (inserted at name attrs (place m s.site) s.site) _
      ((λ i. inserted at (g name) (map (mapped_attribute g) attrs) (site_names.place-map m n g a s.site i) (mapped_site g s.site))
      ∙ site_names.inserted-map g at name attrs (place m s.site) s.site)

  -- a comment at the end of a node
  comment-mapped : (at : ℕ) (t : Token N) (s : State N) (p p' : ℕ) → p' ≡ p
      → flow_of (mapped_state g s) (added at (forest.comment (token_text (mapped_token g t))) (LastIn p') (mapped_site g s.site))
      ≡ mapped_flow g (flow_of s (added at (forest.comment (token_text t)) (LastIn p) s.site))
  comment-mapped at t s p p' is = on-site g s (added at (forest.comment (token_text t)) (LastIn p) s.site) _
      ((λ i. added at (forest.comment ((token-mapped g t).text i)) (LastIn (is i)) (mapped_site g s.site))
      ∙ site_names.added-map g at (forest.comment (token_text t)) (LastIn p) s.site)

  perform-mapped : (p : Do) (at : ℕ) (t : Token N) (s : State N) → perform n at (mapped_token g t) p (mapped_state g s) ≡ mapped_flow g (perform m at t p s)
  perform-mapped (p ▸ q) at t s = ap (λ f. flow_then f (perform n at (mapped_token g t) q)) (perform-mapped p at t s)
      ∙ then-mapped g (perform m at t p s) (perform m at t q) (perform n at (mapped_token g t) q) (perform-mapped q at t)
  perform-mapped (when question p) at t s = (λ i. cond (answer-mapped t question s i) (perform-mapped p at t s i) (Done (mapped_state g s)))
      ∙ cond-map (mapped_flow g) (answer_of m t question s) (perform m at t p s) (Done s)
  perform-mapped (unless question p) at t s = (λ i. cond (answer-mapped t question s i) (Done (mapped_state g s)) (perform-mapped p at t s i))
      ∙ cond-map (mapped_flow g) (answer_of m t question s) (Done s) (perform m at t p s)
  perform-mapped (choose question p q) at t s = (λ i. cond (answer-mapped t question s i) (perform-mapped p at t s i) (perform-mapped q at t s i))
      ∙ cond-map (mapped_flow g) (answer_of m t question s) (perform m at t p s) (perform m at t q s)
  perform-mapped (fostered p) at t s =
      ap (flow_map (with_foster false)) (perform-mapped p at t (with_foster true s)) ∙ unfoster-mapped g (perform m at t p (with_foster true s))
  perform-mapped (each_pending p) at t s = each-mapped g (λ c. perform m c.at (character c.ch) p) (λ c. perform n c.at (character c.ch) p)
      (λ c v. perform-mapped p c.at (character c.ch) v) s.control.pending (with_control (record s.control { pending = [] }) s)
  perform-mapped again at t s = refl
  perform-mapped (again_as x) at t s =
      λ i. Again ((ap (λ y. renamed y (mapped_token g t)) (a.known x) ∙ (token-mapped g t).other (m.known x)) i) (mapped_state g s)
  perform-mapped reset at t s = λ i. Done (with_control (record s.control { mode = reset-mapped s.context (stack s.site) i }) (mapped_state g s))
  perform-mapped head_pointer at t s = λ i. Done (with_control (record s.control { head = Some (current-mapped s.site i) }) (mapped_state g s))
  perform-mapped form_pointer at t s = λ i. Done (with_control (record s.control { form = Some (current-mapped s.site i) }) (mapped_state g s))
  perform-mapped judge_quirks at t s = λ i. Done (with_control (record s.control { quirks = (token-mapped g t).quirks s i }) (mapped_state g s))
  perform-mapped pend at t s =
      λ i. Done (with_control (record s.control { pending = s.control.pending ++ record { ch = (token-mapped g t).char i; at = at } ∷ [] }) (mapped_state g s))
  perform-mapped insert at t s = (λ i. flow_of (mapped_state g s) (inserted_here n at (name-mapped t i) ((token-mapped g t).attrs i) (mapped_site g s.site)))
      ∙ here-mapped at (token_name m t) (token_attrs t) s
  perform-mapped (insert_named x) at t s =
      (λ i. flow_of (mapped_state g s) (inserted_here n at (a.known x i) [] (mapped_site g s.site))) ∙ here-mapped at (m.known x) [] s
  perform-mapped insert_root at t s = on-site g s (inserted at (token_name m t) (token_attrs t) (LastIn 0) s.site) _
      ((λ i. inserted at (name-mapped t i) ((token-mapped g t).attrs i) (LastIn 0) (mapped_site g s.site)) ∙ site_names.inserted-map g at _ _ (LastIn 0) s.site)
  perform-mapped (insert_root_named x) at t s = on-site g s (inserted at (m.known x) [] (LastIn 0) s.site) _
      ((λ i. inserted at (a.known x i) [] (LastIn 0) (mapped_site g s.site)) ∙ site_names.inserted-map g at (m.known x) [] (LastIn 0) s.site)
  perform-mapped insert_comment at t s = comment-mapped at t s (current_node s.site) _ (current-mapped s.site)
  perform-mapped comment_in_document at t s = comment-mapped at t s 0 0 refl
  perform-mapped comment_in_first at t s =
      comment-mapped at t s (open_node (from_top 0 s.site)) (open_node (from_top 0 (mapped_site g s.site))) (first-mapped 0 s.site)
  perform-mapped insert_doctype at t s = on-site g s (added at (doctype_node t) (LastIn 0) s.site) _
      ((λ i. added at ((token-mapped g t).node i) (LastIn 0) (mapped_site g s.site)) ∙ site_names.added-map g at (doctype_node t) (LastIn 0) s.site)
  perform-mapped put at t s = on-site g s (inserts.put at (token_char t) (place m s.site) s.site) _
      ((λ i. inserts.put at ((token-mapped g t).char i) (site_names.place-map m n g a s.site i) (mapped_site g s.site))
      ∙ site_names.put-map g at (token_char t) (place m s.site) s.site)
  perform-mapped add_missing_to_first at t s = λ i. Done (with_site (completed-mapped 0 t s.site i) (mapped_state g s))
  perform-mapped add_missing_to_second at t s = λ i. Done (with_site (completed-mapped 1 t s.site i) (mapped_state g s))
  perform-mapped pop at t s = λ i. Done (with_site (with_stack (stack-words.pop (stack s.site) i) (mapped_site g s.site)) (mapped_state g s))
  perform-mapped (pop_to x) at t s =
      λ i. Done (with_site (site_names.popped-map m n g a (is m x) (is n x) (site_names.is-map m n g a x) s.site i) (mapped_state g s))
  perform-mapped pop_to_name at t s =
      λ i. Done (with_site (site_names.popped-map m n g a (is_token_name m t) (is_token_name n (mapped_token g t)) (token-test t) s.site i) (mapped_state g s))
  perform-mapped (pop_to_group group) at t s = λ i. Done
      (with_site (site_names.popped-map m n g a (is_of m.tag group) (is_of n.tag group) (λ x. ap (is_of_group group) (a.spelling.tags x.name)) s.site i)
      (mapped_state g s))
  perform-mapped implied at t s = λ i. Done (with_site (site_names.implied-map m n g a (λ x. false) (λ x. false) (λ x. refl) s.site i) (mapped_state g s))
  perform-mapped (implied_except x) at t s =
      λ i. Done (with_site (site_names.implied-map m n g a (is m x) (is n x) (site_names.is-map m n g a x) s.site i) (mapped_state g s))
  perform-mapped implied_except_name at t s =
      λ i. Done (with_site (site_names.implied-map m n g a (is_token_name m t) (is_token_name n (mapped_token g t)) (token-test t) s.site i) (mapped_state g s))
  perform-mapped clear_to_table at t s = λ i. Done (with_site (cleared-mapped is_table_context s.site i) (mapped_state g s))
  perform-mapped clear_to_body at t s = λ i. Done (with_site (cleared-mapped is_body_context s.site i) (mapped_state g s))
  perform-mapped clear_to_row at t s = λ i. Done (with_site (cleared-mapped is_row_context s.site i) (mapped_state g s))
  perform-mapped push_head at t s = on-site g s (head_pushed m at s.control.head s.site) _ (head-mapped at s.control.head s.site)
  perform-mapped remove_head at t s = λ i. Done (with_site (removed-mapped s.control.head s.site i) (mapped_state g s))
  perform-mapped remove_form at t s = λ i. Done (with_site (removed-mapped s.control.form s.site i) (mapped_state g s))
  perform-mapped reconstruct at t s = ap (flow_of (mapped_state g s)) (site_names.reconstructed-map m n g a at s.site) ∙ flow-mapped g s _
  perform-mapped push_to_list at t s = λ i. Done (with_site (listed-mapped t s.site i) (mapped_state g s))
  perform-mapped clear_to_marker at t s = λ i. Done (with_site (with_items (list-words.clear s.site.items i) (mapped_site g s.site)) (mapped_state g s))
  perform-mapped close_p at t s =
      λ i. Done (with_site (site_names.closed-map m n g a (is m tag.P) (is n tag.P) (site_names.is-map m n g a tag.P) at s.site i) (mapped_state g s))
  perform-mapped adopt at t s = on-site g s (adopted m at (token_name m t) s.site) _
      ((λ i. adopted n at (name-mapped t i) (mapped_site g s.site)) ∙ site_names.adopted-map m n g a at (token_name m t) s.site)
  perform-mapped adopt_listed at t s = on-site g s (adopted_listed m at (token_name m t) s.site) _
      ((λ i. adopted_listed n at (name-mapped t i) (mapped_site g s.site)) ∙ adopted_listed-mapped at (token_name m t) s.site)
  perform-mapped other_end at t s = (λ i. Done (with_site (closes.other_end n at (name-mapped t i) (mapped_site g s.site)) (mapped_state g s)))
      ∙ (λ i. Done (with_site (site_names.other-map m n g a at (token_name m t) s.site i) (mapped_state g s)))
  perform-mapped p at t s = refl

  rule-mapped : (at : ℕ) (t : Token N) (s : State N) → Rule n at (mapped_token g t) (mapped_state g s) ≡ mapped_flow g (Rule m at t s)
  rule-mapped at t s = ap (λ k. perform n at (mapped_token g t) (rule_of s.control.mode k) (mapped_state g s)) (kind-mapped t)
      ∙ perform-mapped (rule_of s.control.mode (kind_of m t)) at t s

  finished-mapped : (at : ℕ) (t : Token N) (s : State N) → finished at (mapped_token g t) (mapped_state g s) ≡ mapped_state g (finished at t s)
  finished-mapped at t s = rw ((token-mapped g t).closing) (cond-map (mapped_state g) (is_self_closing t && not s.control.acknowledged)
      (with_site (site.with_error code.NonVoidHtmlElementStartTagWithTrailingSolidus at s.site) s) s)

  chain-mapped : (at : ℕ) (t : Token N) (s : State N) (o : Outcome (State N)) → Chain m at t s o
      → Chain n at (mapped_token g t) (mapped_state g s) (outcome_map (mapped_state g) o)
  chain-mapped at t s o (ends {s' = s'} rule) = subst (λ (x : State M). Chain n at (mapped_token g t) (mapped_state g s) (Goes x)) (finished-mapped at t s')
      (ends (rule-mapped at t s ∙ ap (mapped_flow g) rule))
  chain-mapped at t s o (refuses rule) = refuses (rule-mapped at t s ∙ ap (mapped_flow g) rule)
  chain-mapped at t s o (goes_again {t' = t'} {s' = s'} rule rest) = goes_again (rule-mapped at t s ∙ ap (mapped_flow g) rule) (chain-mapped at t' s' o rest)

  step-mapped : (at : ℕ) (t : Token N) (s : State N) (o : Outcome (State N)) → Step m at t s o
      → Step n at (mapped_token g t) (mapped_state g s) (outcome_map (mapped_state g) o)
  step-mapped at t s o (drops is) = drops ((token-mapped g t).dropped s ∙ is)
  step-mapped at t s o (goes not_so chain) = goes ((token-mapped g t).dropped s ∙ not_so) (chain-mapped at t (step_begun s) o chain)

  steps-mapped : (ts : List (PlacedToken N)) (s : State N) (o : Outcome (State N)) → Steps m ts s o
      → Steps n (map (mapped_placed g) ts) (mapped_state g s) (outcome_map (mapped_state g) o)
  steps-mapped ts s o none = none
  steps-mapped (t ∷ ts) s o (and {s' = s'} step rest) = and (step-mapped t.at t.token s (Goes s') step) (steps-mapped ts s' o rest)
  steps-mapped (t ∷ ts) s o (refused {r = r} step) = refused (step-mapped t.at t.token s (site.Refused r) step)

  pub steps_mapped : StepsKnowNoNames m n g
  steps_mapped = record { step = step-mapped; steps = steps-mapped }
