-- Where the characters of a run go one and the same way.
use Rattle.std.specs.Prelude.{◌≡◌, ℕ, Bool, true, false, not, ◌&&◌, ◌==◌, List}
use Rattle.std.specs.List.{AllByRecursion}
use Rattle.names.specs.declared.placed.Placed.{Placed}
use Rattle.hnodes.specs.declared.node.Place.TheVariants.{LastIn}
use Rattle.hadopt.specs.Inserts.{put_each}
use Rattle.hadopt.specs.Naming.{numbers}
use Rattle.hadopt.specs.Reconstructs.{reconstructed}
use Rattle.hadopt.specs.Site.{Outcome, Goes, SiteOf, and_then}
use Rattle.hmodes.specs.Body.{character_in_body}
use Rattle.hmodes.specs.Perform.{current_node}
use Rattle.hmodes.specs.State.{State}
use Rattle.hmodes.specs.Table.{other_in_table}
use Rattle.hmodes.specs.Words.{Do, Char, put, pend}
use Rattle.hmodes.specs.declared.mode.Mode.{Mode}
use Rattle.hmodes.specs.declared.mode.Mode.TheVariants.{InBody, Text, InTableText, InCaption, InCell}

-- the characters are not NUL
abbrev pub AreSome : List ℕ → Type 0
AreSome cs = AllByRecursion (λ c. (c == 0) ≡ false) cs

-- whether the rules of a mode put a character, maybe after the formatting elements
abbrev pub puts_in : Mode → Bool
puts_in Text = true
puts_in InBody = true
puts_in InCaption = true
puts_in InCell = true
puts_in _ = false

-- the same, and it goes to the current node, where no LF is dropped before it
abbrev pub puts_each : State ℕ → Bool
puts_each s = not s.site.foster && not s.control.drop_lf && puts_in s.control.mode

-- what comes before the first of them: the text of an element is put as it is
abbrev pub before_text : ℕ → Mode → SiteOf ℕ → Outcome (SiteOf ℕ)
before_text at Text x = Goes x
before_text at _ x = reconstructed numbers at x

-- characters of such a mode at the end of the current node, the first of which is at this place
abbrev pub put_all : ℕ → List Placed → State ℕ → Outcome (SiteOf ℕ)
put_all at cs s = and_then (before_text at s.control.mode s.site) (λ x. put_each cs (LastIn (current_node x)) x)

-- whether a mode puts a character, or keeps it as pending
abbrev pub is_for_text : Mode → Bool
is_for_text InTableText = true
is_for_text m = puts_in m

-- how it does that
abbrev pub char_rule : Mode → Do
char_rule Text = put
char_rule InTableText = pend
char_rule _ = character_in_body

-- whether a character goes so, where no LF is dropped before it
abbrev pub takes_char : State ℕ → Bool
takes_char s = not s.control.drop_lf && is_for_text s.control.mode

-- whether a character is kept as pending, where no LF is dropped before it
abbrev pub keeps : Mode → Bool
keeps InTableText = true
keeps _ = false

abbrev pub pends_each : State ℕ → Bool
pends_each s = not s.control.drop_lf && keeps s.control.mode

-- how each pending character is put, where all are white space or not
abbrev pub pending_rule : Bool → Do
pending_rule true = put
pending_rule false = other_in_table Char
