-- What the questions of the rules mean.
use Rattle.std.specs.Prelude.{Bool, false, ◌&&◌, is_some, codes}
use Rattle.std.specs.List.{list_any, list_all}
use Rattle.std.specs.Option.{option_map_or}
use Rattle.std.specs.Str.{str_eq_ignore_ascii_case}
use Rattle.hnodes.specs.Forest.{Attribute}
use Rattle.hopen.specs.Stack.{OpenNode, is_node, in_scope}
use Rattle.hopen.specs.Scopes.{stops_in_scope, stops_item, is_named, is_of}
use Rattle.hopen.specs.declared.scope.Scope.{Scope}
use Rattle.hopen.specs.declared.scope.Scope.TheVariants.{Default}
use Rattle.hopen.specs.Formatting.{find_entry}
use Rattle.names.specs.declared.tag.Tag.TheVariants as tag
use Rattle.names.specs.Placed.{is_space}
use Rattle.names.specs.Sets.{may_stay_open}
use Rattle.hadopt.specs.Naming.{Naming}
use Rattle.hadopt.specs.Site.{stack, from_top}
use Rattle.hadopt.specs.Site as site
use Rattle.hadopt.specs.Places.{is_fostering}
use Rattle.hadopt.specs.Closes.{is}
use Rattle.hmodes.specs.Words.{Test, has_in, has_name_in, has_group_in, has_form_in_scope, current_is, current_is_name, current_is_group, current_is_form}
use Rattle.hmodes.specs.Words.{current_is_fostering, item_is_near, second_is_body, all_may_stay_open, name_is_listed, form_is_set, is_in_quirks, is_fragment}
use Rattle.hmodes.specs.Words.{doctype_conforms, input_is_hidden, pending_is_ws}
use Rattle.hmodes.specs.State.{Token, State, token_name, token_attrs}
use Rattle.hmodes.specs.Doctypes.{conforms}

module _ {N : Type 0} (n : Naming N) where
  abbrev pub has : Scope → (OpenNode N → Bool) → State N → Bool
  has scope sought s = in_scope (stops_in_scope n.tag scope) sought (stack s.site)

  abbrev pub is_token_name : Token N → OpenNode N → Bool
  is_token_name t = is_named n.same (token_name n t)

  -- a value that is `hidden` of an attribute type
  abbrev pub is_hidden : Attribute N → Bool
  is_hidden a = n.same a.0 n.type_attribute && str_eq_ignore_ascii_case a.1 (codes "hidden")

  abbrev pub answer_of : Token N → Test → State N → Bool
  answer_of t (has_in scope x) s = has scope (is n x) s
  answer_of t (has_name_in scope) s = has scope (is_token_name t) s
  answer_of t (has_group_in scope group) s = has scope (is_of n.tag group) s
  answer_of t has_form_in_scope s = option_map_or (λ k. has Default (is_node k) s) s.control.form false
  answer_of t (current_is x) s = site.current_is (is n x) s.site
  answer_of t current_is_name s = site.current_is (is_token_name t) s.site
  answer_of t (current_is_group group) s = site.current_is (is_of n.tag group) s.site
  answer_of t current_is_form s = option_map_or (λ k. site.current_is (is_node k) s.site) s.control.form false
  answer_of t current_is_fostering s = site.current_is (λ x. is_fostering (n.tag x.name)) s.site
  answer_of t (item_is_near x) s = in_scope (λ y. stops_item (n.tag y.name)) (is n x) (stack s.site)
  answer_of t second_is_body s = option_map_or (is n tag.Body) (from_top 1 s.site) false
  answer_of t all_may_stay_open s = list_all (λ x. may_stay_open (n.tag x.name)) (stack s.site)
  answer_of t name_is_listed s = is_some (find_entry n.same (token_name n t) s.site.items)
  answer_of t form_is_set s = is_some s.control.form
  answer_of t is_in_quirks s = s.control.quirks
  answer_of t is_fragment s = is_some s.context
  answer_of t doctype_conforms s = conforms t
  answer_of t input_is_hidden s = list_any is_hidden (token_attrs t)
  answer_of t pending_is_ws s = list_all (λ c. is_space c.ch) s.control.pending
