-- The sets, as the lists that they are.
use Rattle.std.specs.Prelude.{◌≡◌, [], ◌∷◌, filter, refl, is_some}
use Rattle.names.specs.declared.tag.Tag.TheVariants.{A, Address, Applet, Area, Article, Aside, B, Base, Basefont, Bgsound, Big, Blockquote, Body, Br, Button}
use Rattle.names.specs.declared.tag.Tag.TheVariants.{Caption, Center, Code, Col, Colgroup, Dd, Details, Dir, Div, Dl, Dt, Em, Embed, Fieldset}
use Rattle.names.specs.declared.tag.Tag.TheVariants.{Figcaption, Figure, Font, Footer, Form, Frame, Frameset, H1, H2, H3, H4, H5, H6, Head, Header, Hgroup}
use Rattle.names.specs.declared.tag.Tag.TheVariants.{Hr, Html, I, Iframe, Img, Input, Keygen, Li, Link, Listing, Main, Marquee, Math, Menu, Meta, Nav, Nobr}
use Rattle.names.specs.declared.tag.Tag.TheVariants.{Noembed, Noframes, Noscript, Object, Ol, Optgroup, Option, P, Param, Plaintext, Pre, Rb, Rp, Rt, Rtc, S}
use Rattle.names.specs.declared.tag.Tag.TheVariants.{Script, Search, Section, Select, Small, Source, Strike, Strong, Style, Summary, Svg, Table, Tbody, Td}
use Rattle.names.specs.declared.tag.Tag.TheVariants.{Template, Textarea, Tfoot, Th, Thead, Title, Tr, Track, Tt, U, Ul, Wbr, Xmp}
use Rattle.names.specs.Tags.{tags}
use Rattle.names.specs.Sets.{is_special, is_formatting, has_implied_end, stops_scope, stops_list_item_scope, stops_button_scope, stops_table_scope}
use Rattle.names.specs.Sets.{may_stay_open, is_heading, is_table_section, is_void, refused_name}

row_is_special : filter is_special tags ≡ Address ∷ Applet ∷ Area ∷ Article ∷ Aside ∷ Base ∷ Basefont ∷ Bgsound ∷ Blockquote ∷ Body ∷ Br ∷ Button
    ∷ Caption ∷ Center ∷
    Col ∷ Colgroup ∷ Dd ∷ Details ∷ Dir ∷ Div ∷ Dl ∷ Dt ∷ Embed ∷ Fieldset ∷ Figcaption ∷ Figure ∷ Footer ∷ Form ∷
    H1 ∷ H2 ∷ H3 ∷ H4 ∷ H5 ∷ H6 ∷ Head ∷ Header ∷ Hgroup ∷ Hr ∷ Html ∷ Iframe ∷ Img ∷ Input ∷
    Li ∷ Link ∷ Listing ∷ Main ∷ Marquee ∷ Menu ∷ Meta ∷ Nav ∷ Noembed ∷ Noframes ∷ Noscript ∷ Object ∷ Ol ∷ P ∷
    Param ∷ Plaintext ∷ Pre ∷ Script ∷ Search ∷ Section ∷ Source ∷ Style ∷ Summary ∷ Table ∷ Tbody ∷ Td ∷ Textarea ∷ Tfoot ∷
    Th ∷ Thead ∷ Title ∷ Tr ∷ Track ∷ Ul ∷ Wbr ∷ Xmp ∷ []
row_is_special = refl

row_is_formatting : filter is_formatting tags ≡ A ∷ B ∷ Big ∷ Code ∷ Em ∷ Font ∷ I ∷ Nobr ∷ S ∷ Small ∷ Strike ∷ Strong ∷ Tt ∷ U ∷ []
row_is_formatting = refl

row_has_implied_end : filter has_implied_end tags ≡ Dd ∷ Dt ∷ Li ∷ P ∷ Rb ∷ Rp ∷ Rt ∷ Rtc ∷ []
row_has_implied_end = refl

row_stops_scope : filter stops_scope tags ≡ Applet ∷ Caption ∷ Html ∷ Marquee ∷ Object ∷ Table ∷ Td ∷ Th ∷ []
row_stops_scope = refl

row_stops_list_item_scope : filter stops_list_item_scope tags ≡ Applet ∷ Caption ∷ Html ∷ Marquee ∷ Object ∷ Ol ∷ Table ∷ Td ∷ Th ∷ Ul ∷ []
row_stops_list_item_scope = refl

row_stops_button_scope : filter stops_button_scope tags ≡ Applet ∷ Button ∷ Caption ∷ Html ∷ Marquee ∷ Object ∷ Table ∷ Td ∷ Th ∷ []
row_stops_button_scope = refl

row_stops_table_scope : filter stops_table_scope tags ≡ Html ∷ Table ∷ []
row_stops_table_scope = refl

row_may_stay_open : filter may_stay_open tags ≡ Body ∷ Dd ∷ Dt ∷ Html ∷ Li ∷ P ∷ Rb ∷ Rp ∷ Rt ∷ Rtc ∷ Tbody ∷ Td ∷ Tfoot ∷ Th ∷
    Thead ∷ Tr ∷ []
row_may_stay_open = refl

row_is_heading : filter is_heading tags ≡ H1 ∷ H2 ∷ H3 ∷ H4 ∷ H5 ∷ H6 ∷ []
row_is_heading = refl

row_is_table_section : filter is_table_section tags ≡ Tbody ∷ Tfoot ∷ Thead ∷ []
row_is_table_section = refl

row_is_void : filter is_void tags ≡ Area ∷ Base ∷ Basefont ∷ Bgsound ∷ Br ∷ Col ∷ Embed ∷ Hr ∷ Img ∷ Input ∷ Link ∷ Meta ∷ Param ∷ Source ∷
    Track ∷ Wbr ∷ []
row_is_void = refl

row_refused : filter (λ t. is_some (refused_name t)) tags ≡ Frame ∷ Frameset ∷ Keygen ∷ Math ∷ Optgroup ∷ Option ∷ Select ∷ Svg ∷ Template ∷ []
row_refused = refl
