-- The words that the rules of the insertion modes are written in.
use Rattle.hopen.specs.declared.scope.Scope.{Scope}
use Rattle.hopen.specs.declared.scope.Group.{Group}
use Rattle.names.specs.declared.tag.Tag.{Tag}
pub use Rattle.hmodes.specs.declared.token_kind.TokenKind.{TokenKind}
pub use Rattle.hmodes.specs.declared.token_kind.TokenKind.TheVariants.{Nul, Ws, Char, Comment, Doctype, Start, End, Eof}
use Rattle.hmodes.specs.declared.mode.Mode.{Mode}

-- a question. (`tools/rules` has these texts for docs/RULES.md: TAG is what a word is given, {stops_item} the names of a set)
pub data Test : Type 0 where
  has_in : Scope → Tag → Test  -- the stack of open elements has a TAG element SCOPE
  has_name_in : Scope → Test  -- the stack of open elements has an element of the token's tag name SCOPE
  has_group_in : Scope → Group → Test  -- the stack of open elements has a GROUP element SCOPE
  has_form_in_scope : Test  -- the form element pointer is set and its node in scope
  current_is : Tag → Test  -- the current node is a TAG element
  current_is_name : Test  -- the current node has the token's tag name
  current_is_group : Group → Test  -- the current node is a GROUP element
  current_is_form : Test  -- the current node is the form element pointer's node
  current_is_fostering : Test  -- the current node is a {is_fostering} element
  item_is_near : Tag → Test  -- a TAG element is met, going up from the current node, before any special one other than {stops_item}
  second_is_body : Test  -- the second open element is a body
  all_may_stay_open : Test  -- each open element is one of {may_stay_open}
  name_is_listed : Test  -- the list of active formatting elements has an element of the token's tag name after its last marker
  form_is_set : Test  -- the form element pointer is set
  is_in_quirks : Test  -- the document is in quirks mode
  is_fragment : Test  -- a fragment is parsed
  doctype_conforms : Test  -- the name is `html`, the public identifier missing, and the system identifier missing or `about:legacy-compat`
  input_is_hidden : Test  -- the token has a type attribute with the value "hidden", in capitals or not
  pending_is_ws : Test  -- each pending table character is white space

infixr 5 ◌▸◌
-- what is done with a token
pub data Do : Type 0 where
  -- one after another; a rule that reprocesses the token does not go on
  nothing : Do
  ◌▸◌ : Do → Do → Do
  when : Test → Do → Do
  unless : Test → Do → Do
  choose : Test → (yes no : Do) → Do
  fostered : Do → Do  -- with foster parenting enabled: DO (#foster-parent)
  -- (each at its own place; none is pending then)
  each_pending : Do → Do  -- for each pending table character: DO
  -- the token goes by the rules of the mode that holds then, also under another name
  again : Do  -- reprocess the token
  again_as : Tag → Do  -- change the token's tag name to TAG and reprocess it
  -- errors and the state
  error : Mode → Do  -- a parse error, by the rules of a mode
  to : Mode → Do  -- switch the insertion mode to MODE
  save_mode : Do  -- let the original insertion mode be the current one (#original-insertion-mode)
  to_saved : Do  -- switch the insertion mode to the original one
  reset : Do  -- reset the insertion mode appropriately
  head_pointer : Do  -- set the head element pointer to it (#head-element-pointer)
  form_pointer : Do  -- set the form element pointer to it (#form-element-pointer)
  forget_form : Do  -- set the form element pointer to null
  drop_lf : Do  -- if the next token is LF, ignore that token
  acknowledge : Do  -- acknowledge the token's self-closing flag, if it is set (#acknowledge-self-closing-flag)
  start_pending : Do  -- let the pending table characters be none
  pend : Do  -- append the character to the pending table characters
  go_quirks : Do  -- set the document to quirks mode
  judge_quirks : Do  -- set the document to quirks mode if the doctype calls for it
  -- the tree
  insert : Do  -- insert an HTML element for the token (#insert-an-html-element)
  insert_named : Tag → Do  -- insert a TAG element without attributes
  insert_root : Do  -- create an element for the token, append it to the document and put it in the stack of open elements
  insert_root_named : Tag → Do  -- create a TAG element, append it to the document and put it in the stack of open elements
  insert_comment : Do  -- insert a comment (#insert-a-comment)
  comment_in_document : Do  -- insert a comment as the last child of the document
  comment_in_first : Do  -- insert a comment as the last child of the first open element (html)
  insert_doctype : Do  -- append a doctype node to the document
  put : Do  -- insert the character (#insert-a-character)
  add_missing_to_first : Do  -- add to the first open element each attribute of the token that it lacks
  add_missing_to_second : Do  -- add to the second open element each attribute of the token that it lacks
  -- the open nodes
  pop : Do  -- pop the current node
  pop_to : Tag → Do  -- pop elements until a TAG element has been popped
  pop_to_name : Do  -- pop elements until one of the token's tag name has been popped
  pop_to_group : Group → Do  -- pop elements until a GROUP element has been popped
  implied : Do  -- generate implied end tags (#generate-implied-end-tags)
  implied_except : Tag → Do  -- generate implied end tags except for TAG
  implied_except_name : Do  -- generate implied end tags except for the token's tag name
  clear_to_table : Do  -- clear the stack back to a table context (#clear-the-stack-back-to-a-table-context)
  clear_to_body : Do  -- clear the stack back to a table body context (#clear-the-stack-back-to-a-table-body-context)
  clear_to_row : Do  -- clear the stack back to a table row context (#clear-the-stack-back-to-a-table-row-context)
  push_head : Do  -- push the head element pointer's node onto the stack of open elements
  remove_head : Do  -- remove that node from the stack
  remove_form : Do  -- remove the form element pointer's node from the stack
  -- the formatting elements
  reconstruct : Do  -- reconstruct the active formatting elements (#reconstruct-the-active-formatting-elements)
  push_to_list : Do  -- push it onto the list of active formatting elements
  marker : Do  -- insert a marker at the end of the list of active formatting elements
  clear_to_marker : Do  -- clear the list of active formatting elements up to the last marker
  -- algorithms of "in body"
  close_p : Do  -- close a p element (#close-a-p-element)
  adopt : Do  -- run the adoption agency algorithm for the token (#adoption-agency-algorithm)
  adopt_listed : Do  -- run the adoption agency algorithm for the token, then remove that element from the list and the stack if it is still there
  -- going up from the current node, find the first element that has the token's tag name or is special; if it has the name, generate implied
  -- end tags except for that name, parse error unless it is the current node, pop elements until it has been popped; if not, parse error
  other_end : Do
