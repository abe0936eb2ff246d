-- The words of the contracts, in one place.
pub use Rattle.hadopt.specs.Gives.{Gives}
pub use Rattle.hadopt.specs.Soundness.{IsSound}
pub use Rattle.hadopt.specs.Naming.{numbers, texts}
pub use Rattle.hadopt.specs.Site.{from_top, stack, Goes}
pub use Rattle.hadopt.specs.Mapped.{Agree}
pub use Rattle.hmarkup.specs.DoctypeWalk.{optional_text}
pub use Rattle.hmarkup.specs.Quirks.{list_matches}
pub use Rattle.hmodes.specs.Beginning.{control_in, form_of, document_begins, fragment_begins, fragment_site}
pub use Rattle.hmodes.specs.Body.{block, close_block, close_item, end_item, in_body, after_body, after_after_body, body_ends, character_in_body, text, formatting}
pub use Rattle.hmodes.specs.Body.{void_in_text}
pub use Rattle.hmodes.specs.Bounds.{AreLimits, Bounds}
pub use Rattle.hmodes.specs.Building.{TakesTokenAt, TakesToken, puts_run, pends_run, HasBegun, IsReprocessed, ChainGives, StepGives}
pub use Rattle.hmodes.specs.Doctypes.{is_text, conforms, forces_quirks, doctype_node}
pub use Rattle.hmodes.specs.Ended.{ended}
pub use Rattle.hmodes.specs.Families.{family_of}
pub use Rattle.hmodes.specs.Flows.{Performs, AlwaysPerforms, StateGives, Does, DoesFor, FlowGives, performed}
pub use Rattle.hmodes.specs.Head.{before_html, html_unwritten, before_head, head_unwritten, in_head, in_head_noscript, noscript_ends, after_head}
pub use Rattle.hmodes.specs.Head.{body_unwritten, late, initial}
pub use Rattle.hmodes.specs.OfTable.{NamesAreOfTheTable}
pub use Rattle.hmodes.specs.Perform.{perform, removed, with_site, forgotten, each_of, with_control, current_node, on_site, site_becomes, inserted_here}
pub use Rattle.hmodes.specs.Perform.{completed}
pub use Rattle.hmodes.specs.Programs.{void, raw, html_again, close_p_in_scope}
pub use Rattle.hmodes.specs.Questions.{is_hidden, answer_of}
pub use Rattle.hmodes.specs.RawFollows.{RawFollows}
pub use Rattle.hmodes.specs.Reached.{HasOneStep, Reached}
pub use Rattle.hmodes.specs.Reset.{context_mode, open_mode, root_mode, reset_mode}
pub use Rattle.hmodes.specs.Rules.{rule_of, mode_error}
pub use Rattle.hmodes.specs.Runs.{AreSome, puts_each, pends_each, takes_char, before_text, put_all, char_rule, pending_rule}
pub use Rattle.hmodes.specs.Mapped.{StepsKnowNoNames}
pub use Rattle.hmodes.specs.Stand.{OpenNodesStand}
pub use Rattle.hmodes.specs.State.{character, Token, State, is_self_closing, Token as TokenOf, Done as DoneOf, token_attrs, token_name, token_text, token_char}
pub use Rattle.hmodes.specs.State.{renamed, character_kind, kind_of, State as StateOf, Flow as FlowOf, eof}
pub use Rattle.hmodes.specs.States.{state_of}
pub use Rattle.hmodes.specs.Step.{Rule, is_dropped, step_begun, finished}
pub use Rattle.hmodes.specs.Table.{in_caption, close_caption, in_column_group, in_cell, close_cell, in_row, close_row, in_table, character_in_table}
pub use Rattle.hmodes.specs.Table.{in_table_body, section_ends, in_table_text, other_in_table}
pub use Rattle.hmodes.specs.Tokens.{token_of}
pub use Rattle.hmodes.specs.Uses.{Uses}
pub use Rattle.hmodes.specs.Words.{Start, End, ◌▸◌, choose, error, to, insert, reconstruct, has_in, again, other_end, pop, push_head, when, push_to_list, adopt}
pub use Rattle.hmodes.specs.Words.{adopt_listed, name_is_listed, unless, put, pop_to, form_pointer, form_is_set, Char, each_pending, pend, pending_is_ws, reset}
pub use Rattle.hmodes.specs.Words.{clear_to_table, current_is_name, pop_to_name, implied, clear_to_marker}
pub use Rattle.hmodes.specs.Words.{item_is_near, implied_except, current_is, current_is_group, insert_comment, comment_in_document, comment_in_first, implied_except_name}
pub use Rattle.hmodes.specs.declared.mode.Mode.TheVariants.{InBody, AfterBody, AfterHead, InTable, InCell}
pub use Rattle.hnodes.specs.Rows.{attribute_of}
pub use Rattle.htext.specs.Run.{is_clean}
pub use Rattle.htext.specs.declared.decoder.TheConstants.{MAX_INPUT}
pub use Rattle.htoken.specs.Run.{run_tokens, IsTextWithReferences}
pub use Rattle.names.specs.Names.{Texts, AreNames}
pub use Rattle.names.specs.Placed.{placed, is_space}
pub use Rattle.names.specs.Sink.{Hands}
pub use Rattle.names.specs.Spelling.{spelling}
pub use Rattle.names.specs.Tags.{tag_of}
pub use Rattle.names.specs.declared.placed.Placed.{Placed}
pub use Rattle.names.specs.declared.refusal.Refusal.{Refusal as Refused}
pub use Rattle.names.specs.declared.refusal.Refusal.TheVariants.{Memory, BadLimits}
