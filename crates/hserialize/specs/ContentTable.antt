-- The table of plain content: what an element is among its siblings, and what its children are. (The names are those of the
-- Standard's 4; the table is this project's.)
use Rattle.std.specs.Prelude.{Bool, true, false}
use Rattle.hserialize.specs.declared.content.Content.{Content}
use Rattle.hserialize.specs.declared.content.Content.TheVariants as content
use Rattle.hserialize.specs.declared.content.Role.{Role}
use Rattle.hserialize.specs.declared.content.Role.TheVariants.{Phrasing, Flow, ListItem, Definition, TablePart, Column, TableRow, Cell, Nowhere}
use Rattle.hserialize.specs.declared.content.Texts.{Texts}
use Rattle.hserialize.specs.declared.content.Texts.TheVariants as texts
use Rattle.names.specs.declared.tag.Tag.{Tag}
use Rattle.names.specs.declared.tag.Tag.TheVariants as tag

abbrev pub row : Tag → Role × Content
-- phrasing elements, with what is around them
row tag.A = (Phrasing, content.Around)
row tag.B = (Phrasing, content.Around)
row tag.Big = (Phrasing, content.Around)
row tag.Code = (Phrasing, content.Around)
row tag.Em = (Phrasing, content.Around)
row tag.Font = (Phrasing, content.Around)
row tag.I = (Phrasing, content.Around)
row tag.S = (Phrasing, content.Around)
row tag.Small = (Phrasing, content.Around)
row tag.Strike = (Phrasing, content.Around)
row tag.Strong = (Phrasing, content.Around)
row tag.Tt = (Phrasing, content.Around)
row tag.U = (Phrasing, content.Around)
row tag.Abbr = (Phrasing, content.Around)
row tag.Bdi = (Phrasing, content.Around)
row tag.Bdo = (Phrasing, content.Around)
row tag.Cite = (Phrasing, content.Around)
row tag.Data = (Phrasing, content.Around)
row tag.Del = (Phrasing, content.Around)
row tag.Dfn = (Phrasing, content.Around)
row tag.Ins = (Phrasing, content.Around)
row tag.Kbd = (Phrasing, content.Around)
row tag.Label = (Phrasing, content.Around)
row tag.Mark = (Phrasing, content.Around)
row tag.Output = (Phrasing, content.Around)
row tag.Q = (Phrasing, content.Around)
row tag.Samp = (Phrasing, content.Around)
row tag.Span = (Phrasing, content.Around)
row tag.Sub = (Phrasing, content.Around)
row tag.Sup = (Phrasing, content.Around)
row tag.Time = (Phrasing, content.Around)
row tag.Var = (Phrasing, content.Around)
row tag.Button = (Phrasing, content.Around)
-- phrasing elements that are empty
row tag.Br = (Phrasing, content.Empty)
row tag.Img = (Phrasing, content.Empty)
row tag.Wbr = (Phrasing, content.Empty)
row tag.Embed = (Phrasing, content.Empty)
row tag.Input = (Phrasing, content.Empty)
row tag.Area = (Phrasing, content.Empty)
row tag.Link = (Phrasing, content.Empty)
row tag.Meta = (Phrasing, content.Empty)
row tag.Source = (Phrasing, content.Empty)
row tag.Track = (Phrasing, content.Empty)
-- phrasing elements with a text
row tag.Title = (Phrasing, content.Text)
row tag.Textarea = (Phrasing, content.Text)
row tag.Style = (Phrasing, content.RawText)
row tag.Iframe = (Phrasing, content.RawText)
row tag.Noembed = (Phrasing, content.RawText)
row tag.Script = (Phrasing, content.ScriptText)
-- phrasing elements with flow
row tag.Object = (Phrasing, content.Flow)
row tag.Marquee = (Phrasing, content.Flow)
-- flow elements
row tag.Address = (Flow, content.Flow)
row tag.Article = (Flow, content.Flow)
row tag.Aside = (Flow, content.Flow)
row tag.Blockquote = (Flow, content.Flow)
row tag.Center = (Flow, content.Flow)
row tag.Details = (Flow, content.Flow)
row tag.Dialog = (Flow, content.Flow)
row tag.Div = (Flow, content.Flow)
row tag.Fieldset = (Flow, content.Flow)
row tag.Figcaption = (Flow, content.Flow)
row tag.Figure = (Flow, content.Flow)
row tag.Footer = (Flow, content.Flow)
row tag.Header = (Flow, content.Flow)
row tag.Hgroup = (Flow, content.Flow)
row tag.Main = (Flow, content.Flow)
row tag.Nav = (Flow, content.Flow)
row tag.Search = (Flow, content.Flow)
row tag.Section = (Flow, content.Flow)
row tag.Summary = (Flow, content.Flow)
row tag.Form = (Flow, content.Flow)
row tag.P = (Flow, content.Phrasing)
row tag.H1 = (Flow, content.Phrasing)
row tag.H2 = (Flow, content.Phrasing)
row tag.H3 = (Flow, content.Phrasing)
row tag.H4 = (Flow, content.Phrasing)
row tag.H5 = (Flow, content.Phrasing)
row tag.H6 = (Flow, content.Phrasing)
row tag.Pre = (Flow, content.Phrasing)
row tag.Listing = (Flow, content.Phrasing)
row tag.Hr = (Flow, content.Empty)
-- lists
row tag.Ul = (Flow, content.ListItems)
row tag.Ol = (Flow, content.ListItems)
row tag.Menu = (Flow, content.ListItems)
row tag.Dir = (Flow, content.ListItems)
row tag.Li = (ListItem, content.Flow)
row tag.Dl = (Flow, content.Definitions)
row tag.Dt = (Definition, content.Flow)
row tag.Dd = (Definition, content.Flow)
-- tables
row tag.Table = (Flow, content.TableParts)
row tag.Caption = (TablePart, content.Flow)
row tag.Colgroup = (TablePart, content.Columns)
row tag.Col = (Column, content.Empty)
row tag.Thead = (TablePart, content.TableRows)
row tag.Tbody = (TablePart, content.TableRows)
row tag.Tfoot = (TablePart, content.TableRows)
row tag.Tr = (TableRow, content.Cells)
row tag.Td = (Cell, content.Flow)
row tag.Th = (Cell, content.Flow)
-- a context alone
row tag.Body = (Nowhere, content.Flow)
row _ = (Nowhere, content.Empty)

-- whether elements of this role are in this content
abbrev pub takes_role : Content → Role → Bool
takes_role content.Flow Phrasing = true
takes_role content.Flow Flow = true
takes_role content.Phrasing Phrasing = true
takes_role content.ListItems ListItem = true
takes_role content.Definitions Definition = true
takes_role content.TableParts TablePart = true
takes_role content.Columns Column = true
takes_role content.TableRows TableRow = true
takes_role content.Cells Cell = true
takes_role _ _ = false

-- which texts are in this content
abbrev pub texts_in : Content → Texts
texts_in content.Flow = texts.Any
texts_in content.Phrasing = texts.Any
texts_in content.ListItems = texts.Any
texts_in content.Definitions = texts.Any
texts_in content.TableParts = texts.WhiteSpace
texts_in content.Columns = texts.WhiteSpace
texts_in content.TableRows = texts.WhiteSpace
texts_in content.Cells = texts.WhiteSpace
texts_in content.Text = texts.Any
texts_in content.RawText = texts.Raw
texts_in content.ScriptText = texts.Script
texts_in _ = texts.None

-- whether comments are in this content
abbrev pub takes_comments : Content → Bool
takes_comments content.Text = false
takes_comments content.RawText = false
takes_comments content.ScriptText = false
takes_comments content.Empty = false
takes_comments _ = true
