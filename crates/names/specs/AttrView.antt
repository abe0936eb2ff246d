-- What is seen of an attribute as it is kept.
use Rattle.std.specs.Prelude.{string_bytes}
use Rattle.names.specs.Attr.{AttrParts}
use Rattle.names.specs.declared.attr.Named.{Named}
use Rattle.names.specs.declared.attr.Named.TheVariants as named

abbrev pub attr_parts : Named → AttrParts
attr_parts (named.Short name value) = record { name = name; value = value }
attr_parts (named.Long name value) = record { name = name; value = string_bytes value }
