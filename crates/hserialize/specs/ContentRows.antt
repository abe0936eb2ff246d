-- The table of plain content, row by row, as the lists of names that it is.
use Rattle.std.specs.Prelude.{◌≡◌, Bool, true, false, not, [], ◌∷◌, filter, length, map, replicate, refl}
use Rattle.hserialize.specs.ContentTable.{row}
use Rattle.hserialize.specs.declared.content.Content.TheVariants as content
use Rattle.hserialize.specs.declared.content.Role.{Role}
use Rattle.hserialize.specs.declared.content.Role.TheVariants as role
use Rattle.names.specs.declared.tag.Tag.TheVariants.{A, Abbr, Address, Area, Article, Aside, B, Bdi, Bdo, Big, Blockquote, Br, Button, Caption, Center, Cite}
use Rattle.names.specs.declared.tag.Tag.TheVariants.{Code, Col, Colgroup, Data, Dd, Del, Details, Dfn, Dialog, Dir, Div, Dl, Dt, Em, Embed, Fieldset}
use Rattle.names.specs.declared.tag.Tag.TheVariants.{Figcaption, Figure, Font, Footer, Form, H1, H2, H3, H4, H5, H6, Header, Hgroup, Hr, I, Iframe, Img}
use Rattle.names.specs.declared.tag.Tag.TheVariants.{Input, Ins, Kbd, Label, Li, Link, Listing, Main, Mark, Marquee, Menu, Meta, Nav, Noembed, Object, Ol}
use Rattle.names.specs.declared.tag.Tag.TheVariants.{Output, P, Pre, Q, S, Samp, Script, Search, Section, Small, Source, Span, Strike, Strong, Style, Sub}
use Rattle.names.specs.declared.tag.Tag.TheVariants.{Summary, Sup, Table, Tbody, Td, Textarea, Tfoot, Th, Thead, Time, Title, Tr, Track, Tt, U, Ul, Var, Wbr}
use Rattle.names.specs.declared.tag.Tag.TheVariants.{Body}
use Rattle.names.specs.Tags.{tags}

-- a b big code em font i s small strike strong tt u abbr bdi bdo cite data del dfn ins kbd label mark output q samp span sub sup time var
-- button: the kind around them
row_phrasing_around : map row (A ∷ B ∷ Big ∷ Code ∷ Em ∷ Font ∷ I ∷ S ∷ Small ∷ Strike ∷ Strong ∷ Tt ∷ U ∷ Abbr ∷ Bdi ∷ Bdo ∷ Cite ∷ Data ∷ Del ∷ Dfn
    ∷ Ins ∷ Kbd ∷ Label ∷ Mark ∷ Output ∷ Q ∷ Samp ∷ Span ∷ Sub ∷ Sup ∷ Time ∷ Var ∷ Button ∷ []) ≡ replicate 33 (role.Phrasing, content.Around)
row_phrasing_around = refl

-- br img wbr embed input area link meta source track: empty
row_phrasing_empty : map row (Br ∷ Img ∷ Wbr ∷ Embed ∷ Input ∷ Area ∷ Link ∷ Meta ∷ Source ∷ Track ∷ []) ≡ replicate 10 (role.Phrasing, content.Empty)
row_phrasing_empty = refl

-- title textarea: at most one text
row_phrasing_text : map row (Title ∷ Textarea ∷ []) ≡ replicate 2 (role.Phrasing, content.Text)
row_phrasing_text = refl

-- style iframe noembed: at most one text, without `</`
row_phrasing_raw : map row (Style ∷ Iframe ∷ Noembed ∷ []) ≡ replicate 3 (role.Phrasing, content.RawText)
row_phrasing_raw = refl

-- script: the same, also without `<!--`
row_phrasing_script : map row (Script ∷ []) ≡ replicate 1 (role.Phrasing, content.ScriptText)
row_phrasing_script = refl

-- object marquee: flow
row_phrasing_flow : map row (Object ∷ Marquee ∷ []) ≡ replicate 2 (role.Phrasing, content.Flow)
row_phrasing_flow = refl

-- address to summary, and form: flow
row_flow_flow : map row (Address ∷ Article ∷ Aside ∷ Blockquote ∷ Center ∷ Details ∷ Dialog ∷ Div ∷ Fieldset ∷ Figcaption ∷ Figure ∷ Footer ∷ Header
    ∷ Hgroup ∷ Main ∷ Nav ∷ Search ∷ Section ∷ Summary ∷ Form ∷ []) ≡ replicate 20 (role.Flow, content.Flow)
row_flow_flow = refl

-- p, h1 to h6, pre, listing: phrasing
row_flow_phrasing : map row (P ∷ H1 ∷ H2 ∷ H3 ∷ H4 ∷ H5 ∷ H6 ∷ Pre ∷ Listing ∷ []) ≡ replicate 9 (role.Flow, content.Phrasing)
row_flow_phrasing = refl

-- hr: empty
row_flow_empty : map row (Hr ∷ []) ≡ replicate 1 (role.Flow, content.Empty)
row_flow_empty = refl

-- ul ol menu dir: texts, comments, li
row_flow_list : map row (Ul ∷ Ol ∷ Menu ∷ Dir ∷ []) ≡ replicate 4 (role.Flow, content.ListItems)
row_flow_list = refl

-- li: flow
row_item : map row (Li ∷ []) ≡ replicate 1 (role.ListItem, content.Flow)
row_item = refl

-- dl: texts, comments, dt and dd
row_flow_dl : map row (Dl ∷ []) ≡ replicate 1 (role.Flow, content.Definitions)
row_flow_dl = refl

-- dt dd: flow
row_definition : map row (Dt ∷ Dd ∷ []) ≡ replicate 2 (role.Definition, content.Flow)
row_definition = refl

-- table: comments, white space, caption, colgroup, thead, tbody, tfoot
row_flow_table : map row (Table ∷ []) ≡ replicate 1 (role.Flow, content.TableParts)
row_flow_table = refl

-- caption: flow
row_caption : map row (Caption ∷ []) ≡ replicate 1 (role.TablePart, content.Flow)
row_caption = refl

-- colgroup: comments, white space, col
row_colgroup : map row (Colgroup ∷ []) ≡ replicate 1 (role.TablePart, content.Columns)
row_colgroup = refl

-- col: empty
row_col : map row (Col ∷ []) ≡ replicate 1 (role.Column, content.Empty)
row_col = refl

-- thead tbody tfoot: comments, white space, tr
row_sections : map row (Thead ∷ Tbody ∷ Tfoot ∷ []) ≡ replicate 3 (role.TablePart, content.TableRows)
row_sections = refl

-- tr: comments, white space, td and th
row_tr : map row (Tr ∷ []) ≡ replicate 1 (role.TableRow, content.Cells)
row_tr = refl

-- td th: flow
row_cells : map row (Td ∷ Th ∷ []) ≡ replicate 2 (role.Cell, content.Flow)
row_cells = refl

-- no other name is in a plain list
abbrev stands_nowhere : Role → Bool
stands_nowhere role.Nowhere = true
stands_nowhere _ = false

row_others : length (filter (λ t. not (stands_nowhere (row t).0)) tags) ≡ 99
row_others = refl

row_body : row Body ≡ (role.Nowhere, content.Flow)
row_body = refl
