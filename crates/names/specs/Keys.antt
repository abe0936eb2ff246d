-- The keys of hashes.
use Rattle.std.specs.Prelude.{ℕ}
use Rattle.std.specs.List.{fold}
use Rattle.std.specs.Hash as fed
use Rattle.std.specs.Hash.DefaultHasher.{initial, write}
use Rattle.std.specs.declared.hash.DefaultHasher.{DefaultHasher}

-- the hasher with which every hash begins: it was fed a secret
abbrev pub made_of : ℕ → DefaultHasher
made_of secret = fold write initial (fed.u128 secret)
