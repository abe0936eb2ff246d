-- Worked rows of the quirks list: its lines, and what it matches.
use Rattle.std.specs.Prelude.{◌≡◌, true, false, [], ◌∷◌, ◌++◌, refl, codes, Some, None, Ok}
use Rattle.hmarkup.specs.declared.quirks.QuirkKind.TheVariants.{PublicIs, PublicBegins, SystemIs, PublicBeginsWithoutSystem}
use Rattle.hmarkup.specs.Quirks.{lines, ReadsQuirks, read_all, list_matches}

-- the last LF may be missing, and an LF alone is an empty line
one_line : lines (codes "public-is a") ≡ codes "public-is a" ∷ []
one_line = refl

two_lines : lines (codes "public-is a" ++ 10 ∷ codes "system-is b" ++ 10 ∷ []) ≡ codes "public-is a" ∷ codes "system-is b" ∷ []
two_lines = refl

an_empty_line : lines (10 ∷ []) ≡ [] ∷ []
an_empty_line = refl

-- the empty text is the empty list
no_line : ReadsQuirks [] (Ok [])
no_line = read_all [] tt refl

a_list : ReadsQuirks (codes "public-begins -//A//" ++ 10 ∷ []) (Ok (record { kind = PublicBegins; text = codes "-//A//" } ∷ []))
a_list = read_all (record { kind = PublicBegins; text = codes "-//A//" } ∷ []) (record { line_is = refl; has_text = refl; printable = refl }, tt) refl

-- matches
without_case : list_matches (record { kind = PublicIs; text = codes "HTML" } ∷ []) (Some (codes "hTmL")) None ≡ true
without_case = refl

front_alone : list_matches (record { kind = PublicIs; text = codes "HTML" } ∷ []) (Some (codes "HTML 2")) None ≡ false
front_alone = refl

begins_so : list_matches (record { kind = PublicBegins; text = codes "-//a//" } ∷ []) (Some (codes "-//A//DTD")) (Some []) ≡ true
begins_so = refl

system_there : list_matches (record { kind = PublicBeginsWithoutSystem; text = codes "-//a//" } ∷ []) (Some (codes "-//A//DTD")) (Some []) ≡ false
system_there = refl

system_missing : list_matches (record { kind = PublicBeginsWithoutSystem; text = codes "-//a//" } ∷ []) (Some (codes "-//A//DTD")) None ≡ true
system_missing = refl

system_is : list_matches (record { kind = SystemIs; text = codes "http://a" } ∷ []) None (Some (codes "HTTP://A")) ≡ true
system_is = refl
