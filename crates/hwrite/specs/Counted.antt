-- What a clause reads of a `Counted`, and of its one call of the reader or writer inside.
use Rattle.std.specs.Prelude.{◌≡◌, ℕ, List, [], ◌∷◌, Option, Some, None, Result, Ok, Err, zero, suc}
use Rattle.hwrite.specs.declared.counted.Counted.{Counted}

-- the reader or writer inside
abbrev pub inner_of : {T : Type 0} → Counted T → T
inner_of counted = counted.inner

-- how many calls have failed
abbrev pub counted_failures : {T : Type 0} → Counted T → ℕ
counted_failures counted = counted.failures

-- the number of bytes that a write has taken: one that takes none of one or more bytes has failed
abbrev pub taken_of : {E : Type 0} → List ℕ → Result ℕ E → Option ℕ
taken_of bytes (Err _) = None
taken_of bytes (Ok (suc n)) = Some (suc n)
taken_of [] (Ok zero) = Some zero
taken_of (_ ∷ _) (Ok zero) = None

-- A device was called once: its step is that of a call with some answer, of which the result says this much.
pub record CalledOnce {A R : Type 0} (step : A → Type 0) (told : A → R) (result : R) : Type 0 where
  pub answer : A
  pub stepped : step answer
  pub says : result ≡ told answer
