-- How characters are written (HTML Standard, #serialising-html-fragments, "Escaping a string").
use Rattle.std.specs.Prelude.{ℕ, Bool, true, false, ◌&&◌, ◌==◌, List, if◌then◌else◌, codes, chars, flat_map, encode_utf8}
use Rattle.hserialize.specs.declared.escaping.Escaping.{Escaping}
use Rattle.hserialize.specs.declared.escaping.Escaping.TheVariants as escaping
use Rattle.hserialize.specs.declared.escaping.Setting.{Setting}
use Rattle.hserialize.specs.declared.escaping.Setting.TheVariants as setting

-- whether a quote is escaped, and whether `<` and `>` are
abbrev pub escapes_quote : Setting → Bool
escapes_quote setting.Text = false
escapes_quote setting.Value = true

abbrev pub escapes_angles : Escaping → Setting → Bool
escapes_angles escaping.One setting.Text = true
escapes_angles escaping.One setting.Value = false
escapes_angles escaping.Two _ = true

-- a character as it is written, in UTF-8: `&`, the no-break space, `"`, `<` and `>` by their references, where they are escaped
abbrev pub written_char : Escaping → Setting → ℕ → List ℕ
written_char escaping setting c =
    if c == 0x26 then codes "&amp;"
    else (if c == 0xA0 then codes "&nbsp;"
    else (if c == 0x22 && escapes_quote setting then codes "&quot;"
    else (if c == 0x3C && escapes_angles escaping setting then codes "&lt;"
    else (if c == 0x3E && escapes_angles escaping setting then codes "&gt;"
    else encode_utf8 c))))

-- a text in UTF-8, as it is written: escaping a string (#escapingString)
abbrev pub escaped : Escaping → Setting → List ℕ → List ℕ
escaped escaping setting text = flat_map (written_char escaping setting) (chars text)
