-- What an index of lines has of the bytes that it has read.
use Rattle.std.specs.Prelude.{◌≡◌, ℕ, ◌+◌, ◌-◌, ◌*◌, ◌^◌, ◌<◌, ◌≤◌, ◌∷◌, List, length, slice_index_or}
use Rattle.hwrite.specs.Columns.{column_at, line_at}
use Rattle.hwrite.specs.ByteKinds.{kind_at, kind_of}
use Rattle.hwrite.specs.declared.line_index.LineIndex.{LineIndex}

-- The index has read these bytes, in any pieces: it has the kind of each, the line and the column of each at a multiple of 256, and the
-- last byte with its line and column. Before the first byte it is as though one that counts for nothing, a byte 128, had been read.
pub record IndexHasRead (index : LineIndex) (bytes : List ℕ) : Type 0 where
  pub length_is : index.length ≡ length bytes
  pub fits : length bytes + 2 ≤ 2 ^ 64
  pub kinds : (at : ℕ) → at < length bytes → kind_at index.kinds.items at ≡ kind_of (slice_index_or bytes at 0)
  pub marks : (k : ℕ) → k * 256 ≤ length bytes - 1
      → slice_index_or index.marks.items k (1, 1) ≡ (line_at bytes (k * 256), column_at bytes (k * 256))
  pub last : index.last ≡ slice_index_or (128 ∷ bytes) (length bytes) 0
  pub line : index.place.0 ≡ line_at (128 ∷ bytes) (length bytes)
  pub column : index.place.1 ≡ column_at (128 ∷ bytes) (length bytes)
