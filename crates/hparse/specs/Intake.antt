-- A feeding as one value.
use Rattle.std.specs.Prelude.{Bool, List}
use Rattle.names.specs.Names.{Texts}
use Rattle.htext.specs.Items.{CharItem}
use Rattle.htoken.specs.declared.tokenizer.Tokenizer.{Tokenizer}

-- A tokenizer, the names of its tokens, the sink that takes them, whether one of the two has refused something, and the characters of a
-- run that were handed over and not fed yet: none between two calls.
pub record Intake (S : Type 0) : Type 0 where
  pub names : Texts
  pub tokenizer : Tokenizer
  pub sink : S
  pub stopped : Bool
  pub unfed : List CharItem
