-- The known names: their texts, and their numbers, which are the same in every table.
use Rattle.std.specs.Prelude.{ℕ, List, [], ◌∷◌, ◌++◌, map, length, codes, slice_index_or, unwrap_or, bytes_eq, if◌then◌else◌}
use Rattle.std.specs.List.{position}
use Rattle.names.specs.declared.tag.Tag.{Tag}
use Rattle.names.specs.declared.tag.Tag.TheVariants.{A, Abbr, Address, Applet, Area, Article, Aside, B, Base, Basefont, Bdi, Bdo, Bgsound, Big, Blockquote}
use Rattle.names.specs.declared.tag.Tag.TheVariants.{Body, Br, Button, Caption, Center, Cite, Code, Col, Colgroup, Data, Dd, Del, Details, Dfn, Dialog, Dir}
use Rattle.names.specs.declared.tag.Tag.TheVariants.{Div, Dl, Dt, Em, Embed, Fieldset, Figcaption, Figure, Font, Footer, Form, Frame, Frameset, H1, H2, H3}
use Rattle.names.specs.declared.tag.Tag.TheVariants.{H4, H5, H6, Head, Header, Hgroup, Hr, Html, I, Iframe, Image, Img, Input, Ins, Kbd, Keygen, Label, Li}
use Rattle.names.specs.declared.tag.Tag.TheVariants.{Link, Listing, Main, Mark, Marquee, Math, Menu, Meta, Nav, Nobr, Noembed, Noframes, Noscript, Object, Ol}
use Rattle.names.specs.declared.tag.Tag.TheVariants.{Optgroup, Option, Output, P, Param, Plaintext, Pre, Q, Rb, Rp, Rt, Rtc, Ruby, S, Samp, Script, Search}
use Rattle.names.specs.declared.tag.Tag.TheVariants.{Section, Select, Small, Source, Span, Strike, Strong, Style, Sub, Summary, Sup, Svg, Table, Tbody, Td}
use Rattle.names.specs.declared.tag.Tag.TheVariants.{Template, Textarea, Tfoot, Th, Thead, Time, Title, Tr, Track, Tt, U, Ul, Var, Wbr, Xmp, Other}

-- the text of a known name
abbrev pub tag_text : Tag → List ℕ
tag_text A = codes "a"
tag_text Abbr = codes "abbr"
tag_text Address = codes "address"
tag_text Applet = codes "applet"
tag_text Area = codes "area"
tag_text Article = codes "article"
tag_text Aside = codes "aside"
tag_text B = codes "b"
tag_text Base = codes "base"
tag_text Basefont = codes "basefont"
tag_text Bdi = codes "bdi"
tag_text Bdo = codes "bdo"
tag_text Bgsound = codes "bgsound"
tag_text Big = codes "big"
tag_text Blockquote = codes "blockquote"
tag_text Body = codes "body"
tag_text Br = codes "br"
tag_text Button = codes "button"
tag_text Caption = codes "caption"
tag_text Center = codes "center"
tag_text Cite = codes "cite"
tag_text Code = codes "code"
tag_text Col = codes "col"
tag_text Colgroup = codes "colgroup"
tag_text Data = codes "data"
tag_text Dd = codes "dd"
tag_text Del = codes "del"
tag_text Details = codes "details"
tag_text Dfn = codes "dfn"
tag_text Dialog = codes "dialog"
tag_text Dir = codes "dir"
tag_text Div = codes "div"
tag_text Dl = codes "dl"
tag_text Dt = codes "dt"
tag_text Em = codes "em"
tag_text Embed = codes "embed"
tag_text Fieldset = codes "fieldset"
tag_text Figcaption = codes "figcaption"
tag_text Figure = codes "figure"
tag_text Font = codes "font"
tag_text Footer = codes "footer"
tag_text Form = codes "form"
tag_text Frame = codes "frame"
tag_text Frameset = codes "frameset"
tag_text H1 = codes "h1"
tag_text H2 = codes "h2"
tag_text H3 = codes "h3"
tag_text H4 = codes "h4"
tag_text H5 = codes "h5"
tag_text H6 = codes "h6"
tag_text Head = codes "head"
tag_text Header = codes "header"
tag_text Hgroup = codes "hgroup"
tag_text Hr = codes "hr"
tag_text Html = codes "html"
tag_text I = codes "i"
tag_text Iframe = codes "iframe"
tag_text Image = codes "image"
tag_text Img = codes "img"
tag_text Input = codes "input"
tag_text Ins = codes "ins"
tag_text Kbd = codes "kbd"
tag_text Keygen = codes "keygen"
tag_text Label = codes "label"
tag_text Li = codes "li"
tag_text Link = codes "link"
tag_text Listing = codes "listing"
tag_text Main = codes "main"
tag_text Mark = codes "mark"
tag_text Marquee = codes "marquee"
tag_text Math = codes "math"
tag_text Menu = codes "menu"
tag_text Meta = codes "meta"
tag_text Nav = codes "nav"
tag_text Nobr = codes "nobr"
tag_text Noembed = codes "noembed"
tag_text Noframes = codes "noframes"
tag_text Noscript = codes "noscript"
tag_text Object = codes "object"
tag_text Ol = codes "ol"
tag_text Optgroup = codes "optgroup"
tag_text Option = codes "option"
tag_text Output = codes "output"
tag_text P = codes "p"
tag_text Param = codes "param"
tag_text Plaintext = codes "plaintext"
tag_text Pre = codes "pre"
tag_text Q = codes "q"
tag_text Rb = codes "rb"
tag_text Rp = codes "rp"
tag_text Rt = codes "rt"
tag_text Rtc = codes "rtc"
tag_text Ruby = codes "ruby"
tag_text S = codes "s"
tag_text Samp = codes "samp"
tag_text Script = codes "script"
tag_text Search = codes "search"
tag_text Section = codes "section"
tag_text Select = codes "select"
tag_text Small = codes "small"
tag_text Source = codes "source"
tag_text Span = codes "span"
tag_text Strike = codes "strike"
tag_text Strong = codes "strong"
tag_text Style = codes "style"
tag_text Sub = codes "sub"
tag_text Summary = codes "summary"
tag_text Sup = codes "sup"
tag_text Svg = codes "svg"
tag_text Table = codes "table"
tag_text Tbody = codes "tbody"
tag_text Td = codes "td"
tag_text Template = codes "template"
tag_text Textarea = codes "textarea"
tag_text Tfoot = codes "tfoot"
tag_text Th = codes "th"
tag_text Thead = codes "thead"
tag_text Time = codes "time"
tag_text Title = codes "title"
tag_text Tr = codes "tr"
tag_text Track = codes "track"
tag_text Tt = codes "tt"
tag_text U = codes "u"
tag_text Ul = codes "ul"
tag_text Var = codes "var"
tag_text Wbr = codes "wbr"
tag_text Xmp = codes "xmp"
tag_text Other = []

-- the known names, in the order of their numbers
abbrev pub tags : List Tag
tags = A ∷ Abbr ∷ Address ∷ Applet ∷ Area ∷ Article ∷ Aside ∷ B ∷ Base ∷ Basefont ∷
    Bdi ∷ Bdo ∷ Bgsound ∷ Big ∷ Blockquote ∷ Body ∷ Br ∷ Button ∷ Caption ∷ Center ∷
    Cite ∷ Code ∷ Col ∷ Colgroup ∷ Data ∷ Dd ∷ Del ∷ Details ∷ Dfn ∷ Dialog ∷
    Dir ∷ Div ∷ Dl ∷ Dt ∷ Em ∷ Embed ∷ Fieldset ∷ Figcaption ∷ Figure ∷ Font ∷
    Footer ∷ Form ∷ Frame ∷ Frameset ∷ H1 ∷ H2 ∷ H3 ∷ H4 ∷ H5 ∷ H6 ∷
    Head ∷ Header ∷ Hgroup ∷ Hr ∷ Html ∷ I ∷ Iframe ∷ Image ∷ Img ∷ Input ∷
    Ins ∷ Kbd ∷ Keygen ∷ Label ∷ Li ∷ Link ∷ Listing ∷ Main ∷ Mark ∷ Marquee ∷
    Math ∷ Menu ∷ Meta ∷ Nav ∷ Nobr ∷ Noembed ∷ Noframes ∷ Noscript ∷ Object ∷ Ol ∷
    Optgroup ∷ Option ∷ Output ∷ P ∷ Param ∷ Plaintext ∷ Pre ∷ Q ∷ Rb ∷ Rp ∷
    Rt ∷ Rtc ∷ Ruby ∷ S ∷ Samp ∷ Script ∷ Search ∷ Section ∷ Select ∷ Small ∷
    Source ∷ Span ∷ Strike ∷ Strong ∷ Style ∷ Sub ∷ Summary ∷ Sup ∷ Svg ∷ Table ∷
    Tbody ∷ Td ∷ Template ∷ Textarea ∷ Tfoot ∷ Th ∷ Thead ∷ Time ∷ Title ∷ Tr ∷
    Track ∷ Tt ∷ U ∷ Ul ∷ Var ∷ Wbr ∷ Xmp ∷ []

-- the name of an attribute that a rule reads: whether an input is hidden
abbrev pub type_name : List ℕ
type_name = codes "type"

-- the texts that every table begins with
abbrev pub known : List (List ℕ)
known = map tag_text tags ++ type_name ∷ []

-- the known name that has this number
abbrev pub tag_of : ℕ → Tag
tag_of number = slice_index_or tags number Other

-- the number of a known name: where its text is among the known texts
abbrev pub number_of : Tag → ℕ
number_of t = unwrap_or (position (bytes_eq (tag_text t)) known) (length known)

-- the known name that has this text
abbrev pub tag_among : List Tag → List ℕ → Tag
tag_among [] text = Other
tag_among (t ∷ ts) text = if bytes_eq (tag_text t) text then t else tag_among ts text

abbrev pub tag_named : List ℕ → Tag
tag_named text = tag_among tags text
