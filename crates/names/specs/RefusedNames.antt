-- The start tags that are left out of the profile, as they are written.
use Rattle.std.specs.Prelude.{ℕ, List, codes}
use Rattle.names.specs.declared.raw.RefusedName.{RefusedName}
use Rattle.names.specs.declared.raw.RefusedName.TheVariants as refused

abbrev pub refused_text : RefusedName → List ℕ
refused_text refused.Math = codes "math"
refused_text refused.Svg = codes "svg"
refused_text refused.Template = codes "template"
refused_text refused.Select = codes "select"
refused_text refused.Option = codes "option"
refused_text refused.Optgroup = codes "optgroup"
refused_text refused.Frame = codes "frame"
refused_text refused.Frameset = codes "frameset"
refused_text refused.Keygen = codes "keygen"
