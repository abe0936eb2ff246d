-- Numbers by which equal entries find each other: the same at equal entries, in whatever order their attributes are, and rarely the
-- same at others. `keys` is a hasher that was fed a secret.
use Rattle.std.specs.Prelude.{ℕ, ◌%◌, ◌^◌, ◌==◌, nat_lt, if◌then◌else◌, List, [], ◌∷◌, Option, Some, None, map}
use Rattle.std.specs.List.{fold, flat_map}
use Rattle.std.specs.Hash as fed
use Rattle.std.specs.Hash.DefaultHasher.{write, finish}
use Rattle.std.specs.declared.hash.DefaultHasher.{DefaultHasher}
use Rattle.hnodes.specs.Forest.{Attribute}
use Rattle.hopen.specs.Formatting.{EntryOf}

-- numbers that ascend, with one more, unless it is among them
abbrev pub hash_put_in : ℕ → List ℕ → List ℕ
hash_put_in n [] = n ∷ []
hash_put_in n (x ∷ xs) = if nat_lt n x then n ∷ x ∷ xs else (if n == x then x ∷ xs else x ∷ hash_put_in n xs)

-- numbers, each once, the least one first
abbrev pub distinct : List ℕ → List ℕ
distinct [] = []
distinct (x ∷ xs) = hash_put_in x (distinct xs)

module _ (keys : DefaultHasher) where
  -- the hasher that was fed the number of a name
  abbrev pub fed_name : ℕ → DefaultHasher
  fed_name name = fold write keys (fed.usize name)

  -- the hash of an attribute: of its name and its value
  abbrev pub hash_of : Attribute ℕ → ℕ
  hash_of a = finish (write (fed_name a.0) a.1)

  -- the hash of a name and of the hashes of attributes
  abbrev pub hash_total : ℕ → List ℕ → ℕ
  hash_total name hashes = finish (fold write (fed_name name) (flat_map fed.u64 hashes)) % 2 ^ 32

-- The hash of a token: of its name and of its attributes' hashes, each once and in their order. Without keys it is the name itself.
abbrev pub token_hash : Option DefaultHasher → ℕ → List (Attribute ℕ) → ℕ
token_hash None name attrs = name
token_hash (Some keys) name attrs = hash_total keys name (distinct (map (hash_of keys) attrs))

abbrev pub entry_hash : Option DefaultHasher → EntryOf ℕ → ℕ
entry_hash keys e = token_hash keys e.name e.attrs
