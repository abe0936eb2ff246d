-- The sets of names that the rules speak of: special and formatting elements, what stops a search in scope (#the-stack-of-open-elements),
-- implied end tags (#closing-elements-that-have-implied-end-tags), void elements (#serialising-html-fragments), start tags left out of the
-- profile, and the kinds of raw text (#rcdata-state to #plaintext-state).
use Rattle.std.specs.Prelude.{Bool, true, false, ◌||◌, Option, Some, None, is_some}
use Rattle.names.specs.declared.tag.Tag.{Tag}
use Rattle.names.specs.declared.tag.Tag.TheVariants as tag
use Rattle.names.specs.declared.raw.RawKind.{RawKind}
use Rattle.names.specs.declared.raw.RawKind.TheVariants as kind
use Rattle.names.specs.declared.raw.RefusedName.{RefusedName}
use Rattle.names.specs.declared.raw.RefusedName.TheVariants as refused

-- whether a name is special (#the-stack-of-open-elements)
abbrev pub is_special : Tag → Bool
is_special tag.Address = true
is_special tag.Applet = true
is_special tag.Area = true
is_special tag.Article = true
is_special tag.Aside = true
is_special tag.Base = true
is_special tag.Basefont = true
is_special tag.Bgsound = true
is_special tag.Blockquote = true
is_special tag.Body = true
is_special tag.Br = true
is_special tag.Button = true
is_special tag.Caption = true
is_special tag.Center = true
is_special tag.Col = true
is_special tag.Colgroup = true
is_special tag.Dd = true
is_special tag.Details = true
is_special tag.Dir = true
is_special tag.Div = true
is_special tag.Dl = true
is_special tag.Dt = true
is_special tag.Embed = true
is_special tag.Fieldset = true
is_special tag.Figcaption = true
is_special tag.Figure = true
is_special tag.Footer = true
is_special tag.Form = true
is_special tag.H1 = true
is_special tag.H2 = true
is_special tag.H3 = true
is_special tag.H4 = true
is_special tag.H5 = true
is_special tag.H6 = true
is_special tag.Head = true
is_special tag.Header = true
is_special tag.Hgroup = true
is_special tag.Hr = true
is_special tag.Html = true
is_special tag.Iframe = true
is_special tag.Img = true
is_special tag.Input = true
is_special tag.Li = true
is_special tag.Link = true
is_special tag.Listing = true
is_special tag.Main = true
is_special tag.Marquee = true
is_special tag.Menu = true
is_special tag.Meta = true
is_special tag.Nav = true
is_special tag.Noembed = true
is_special tag.Noframes = true
is_special tag.Noscript = true
is_special tag.Object = true
is_special tag.Ol = true
is_special tag.P = true
is_special tag.Param = true
is_special tag.Plaintext = true
is_special tag.Pre = true
is_special tag.Script = true
is_special tag.Search = true
is_special tag.Section = true
is_special tag.Source = true
is_special tag.Style = true
is_special tag.Summary = true
is_special tag.Table = true
is_special tag.Tbody = true
is_special tag.Td = true
is_special tag.Textarea = true
is_special tag.Tfoot = true
is_special tag.Th = true
is_special tag.Thead = true
is_special tag.Title = true
is_special tag.Tr = true
is_special tag.Track = true
is_special tag.Ul = true
is_special tag.Wbr = true
is_special tag.Xmp = true
is_special _ = false

-- whether it is a formatting name (#the-stack-of-open-elements)
abbrev pub is_formatting : Tag → Bool
is_formatting tag.A = true
is_formatting tag.B = true
is_formatting tag.Big = true
is_formatting tag.Code = true
is_formatting tag.Em = true
is_formatting tag.Font = true
is_formatting tag.I = true
is_formatting tag.Nobr = true
is_formatting tag.S = true
is_formatting tag.Small = true
is_formatting tag.Strike = true
is_formatting tag.Strong = true
is_formatting tag.Tt = true
is_formatting tag.U = true
is_formatting _ = false

-- whether its end tag is implied (#closing-elements-that-have-implied-end-tags)
abbrev pub has_implied_end : Tag → Bool
has_implied_end tag.Dd = true
has_implied_end tag.Dt = true
has_implied_end tag.Li = true
has_implied_end tag.P = true
has_implied_end tag.Rb = true
has_implied_end tag.Rp = true
has_implied_end tag.Rt = true
has_implied_end tag.Rtc = true
has_implied_end _ = false

-- whether it stops the search in scope (#the-stack-of-open-elements)
abbrev pub stops_scope : Tag → Bool
stops_scope tag.Applet = true
stops_scope tag.Caption = true
stops_scope tag.Html = true
stops_scope tag.Marquee = true
stops_scope tag.Object = true
stops_scope tag.Table = true
stops_scope tag.Td = true
stops_scope tag.Th = true
stops_scope _ = false

-- whether it is ol or ul; whether it is button
abbrev pub is_list : Tag → Bool
is_list tag.Ol = true
is_list tag.Ul = true
is_list _ = false

abbrev pub is_button : Tag → Bool
is_button tag.Button = true
is_button _ = false

-- whether it stops the search in list item scope, and in button scope
abbrev pub stops_list_item_scope : Tag → Bool
stops_list_item_scope t = stops_scope t || is_list t

abbrev pub stops_button_scope : Tag → Bool
stops_button_scope t = stops_scope t || is_button t

-- whether it stops the search in table scope
abbrev pub stops_table_scope : Tag → Bool
stops_table_scope tag.Html = true
stops_table_scope tag.Table = true
stops_table_scope _ = false

-- What stops the search for an open li, dd or dt (#parsing-main-inbody): a special name other than address, div and p.
abbrev pub stops_item : Tag → Bool
stops_item tag.Address = false
stops_item tag.Div = false
stops_item tag.P = false
stops_item t = is_special t

-- whether an element of it may be open at the end of the body (#parsing-main-inbody)
abbrev pub may_stay_open : Tag → Bool
may_stay_open tag.Body = true
may_stay_open tag.Dd = true
may_stay_open tag.Dt = true
may_stay_open tag.Html = true
may_stay_open tag.Li = true
may_stay_open tag.P = true
may_stay_open tag.Rb = true
may_stay_open tag.Rp = true
may_stay_open tag.Rt = true
may_stay_open tag.Rtc = true
may_stay_open tag.Tbody = true
may_stay_open tag.Td = true
may_stay_open tag.Tfoot = true
may_stay_open tag.Th = true
may_stay_open tag.Thead = true
may_stay_open tag.Tr = true
may_stay_open _ = false

-- whether it is h1 to h6
abbrev pub is_heading : Tag → Bool
is_heading tag.H1 = true
is_heading tag.H2 = true
is_heading tag.H3 = true
is_heading tag.H4 = true
is_heading tag.H5 = true
is_heading tag.H6 = true
is_heading _ = false

-- whether it is tbody, tfoot or thead
abbrev pub is_table_section : Tag → Bool
is_table_section tag.Tbody = true
is_table_section tag.Tfoot = true
is_table_section tag.Thead = true
is_table_section _ = false

-- whether it is td or th
abbrev pub is_cell : Tag → Bool
is_cell tag.Td = true
is_cell tag.Th = true
is_cell _ = false

-- whether an element of it determines the insertion mode when it is reset (#the-insertion-mode)
abbrev pub tells_mode : Tag → Bool
tells_mode tag.Body = true
tells_mode tag.Caption = true
tells_mode tag.Colgroup = true
tells_mode tag.Table = true
tells_mode tag.Tbody = true
tells_mode tag.Td = true
tells_mode tag.Tfoot = true
tells_mode tag.Th = true
tells_mode tag.Thead = true
tells_mode tag.Tr = true
tells_mode _ = false

-- whether its element has no end tag when it is written (#serialising-html-fragments)
abbrev pub is_void : Tag → Bool
is_void tag.Area = true
is_void tag.Base = true
is_void tag.Basefont = true
is_void tag.Bgsound = true
is_void tag.Br = true
is_void tag.Col = true
is_void tag.Embed = true
is_void tag.Hr = true
is_void tag.Img = true
is_void tag.Input = true
is_void tag.Link = true
is_void tag.Meta = true
is_void tag.Param = true
is_void tag.Source = true
is_void tag.Track = true
is_void tag.Wbr = true
is_void _ = false

-- the start tags that are left out of the profile
abbrev pub refused_name : Tag → Option RefusedName
refused_name tag.Math = Some refused.Math
refused_name tag.Svg = Some refused.Svg
refused_name tag.Template = Some refused.Template
refused_name tag.Select = Some refused.Select
refused_name tag.Option = Some refused.Option
refused_name tag.Optgroup = Some refused.Optgroup
refused_name tag.Frame = Some refused.Frame
refused_name tag.Frameset = Some refused.Frameset
refused_name tag.Keygen = Some refused.Keygen
refused_name _ = None

abbrev pub is_refused : Tag → Bool
is_refused t = is_some (refused_name t)

-- how the text after a start tag is read (#parsing-elements-that-contain-only-text, #parsing-main-inhead, #parsing-main-inbody)
abbrev pub raw_kind : Tag → RawKind
raw_kind tag.Title = kind.Rcdata
raw_kind tag.Textarea = kind.Rcdata
raw_kind tag.Style = kind.Rawtext
raw_kind tag.Xmp = kind.Rawtext
raw_kind tag.Iframe = kind.Rawtext
raw_kind tag.Noembed = kind.Rawtext
raw_kind tag.Noframes = kind.Rawtext
raw_kind tag.Script = kind.Script
raw_kind tag.Plaintext = kind.Plaintext
raw_kind _ = kind.None
