-- What a reading has read, and what its calls do. It began as `began`.
use Rattle.std.specs.Prelude.{◌≡◌, ◌≤◌, ℕ, List, [], ◌++◌, Result, Ok, Err}
use Rattle.names.specs.declared.refusal.Refusal.{Refusal}
use Rattle.htext.specs.Items.{items}
use Rattle.names.specs.Names.{AreNames}
use Rattle.htext.specs.Decoding.{HasFed}
use Rattle.htext.specs.declared.decoder.TheConstants.{MAX_INPUT}
use Rattle.charref.specs.Reference.{IsTable}
use Rattle.htoken.specs.Token.{Item}
use Rattle.hparse.specs.declared.reading.Reading.{Reading}
use Rattle.hparse.specs.Holding.{HoldsItems}
use Rattle.hparse.specs.Input.{Manner, Began, how_of, settled_in, IsRefusedFor, Comes}

module _ {S : Type 0} (gives : S → Item → Result (Unit {0}) Refusal → S → Type 0) (m : Manner) (began : Began S) where
  -- The bytes were fed, in any pieces: the text that is read of them whatever follows is held.
  pub record HasRead (reading : Reading S) (bytes : List ℕ) : Type 0 where
    pub fits : m.limit ≤ MAX_INPUT
    pub how_is : reading.decoder.how ≡ how_of m
    pub fed : HasFed reading.decoder bytes
    pub holds : HoldsItems gives m began reading.feeding (items (settled_in m bytes))
    pub all_fed : reading.feeding.unfed ≡ []
    pub is_table : IsTable m.table
    pub are_names : AreNames reading.feeding.names

  -- a reading was fed them
  abbrev pub WasRead : List ℕ → Type 0
  WasRead bytes = (reading : Reading S) × HasRead reading bytes

  -- What feeding the last piece of these bytes does: they are refused, whatever comes after, or they have been read.
  pub data FeedsPiece (bytes : List ℕ) (answer : Result (Unit {0}) Refusal) (new : Reading S) : Type 0 where
    piece_refused : (refusal : Refusal) → answer ≡ Err refusal
        → ((more : List ℕ) → IsRefusedFor gives m began (bytes ++ more) new.feeding.names new.feeding.sink refusal) → FeedsPiece bytes answer new
    piece_read : answer ≡ Ok tt → HasRead new bytes → FeedsPiece bytes answer new

  -- What the end of the input does, after these bytes: what they give comes.
  abbrev pub EndsInput : List ℕ → Result (Unit {0}) Refusal → Reading S → Type 0
  EndsInput bytes answer new = Comes gives m began bytes new.feeding.names new.feeding.sink answer
