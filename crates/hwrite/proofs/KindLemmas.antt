-- What a byte with four kinds has after one is written.
use Rattle.hwrite.proofs.Vocabulary.{◌≡◌, ℕ, zero, suc, ◌<◌, ◌+◌, ◌-◌, ◌*◌, ◌/◌, ◌%◌, ◌^◌, arith, bit_and, bit_or, and_mask, mod_below, one_shl, or_comm, or_shifted, pow_pos, shl_whole, shr_high}

-- the number with a kind in place of what it had from a place on
abbrev pub written : ℕ → ℕ → ℕ → ℕ
written cell kind i = bit_or (bit_and cell (1 * 2 ^ (i * 2) % 256 - 1)) (kind * 2 ^ (i * 2) % 256)

written_is : (cell kind i : ℕ) → i < 4 → kind < 4 → written cell kind i ≡ kind * 2 ^ (i * 2) + cell % 2 ^ (i * 2)
written_is cell kind i inside few = let below : cell % 2 ^ (i * 2) < 2 ^ (i * 2) = mod_below cell (2 ^ (i * 2)) (pow_pos (i * 2)) in
    rw (one_shl (i * 2) 8 (omega arith), shl_whole kind 2 (i * 2) 8 few (omega arith), and_mask cell (i * 2), or_comm (cell % 2 ^ (i * 2)) (kind * 2 ^ (i * 2)))
    (or_shifted kind (i * 2) (cell % 2 ^ (i * 2)) below)

pub written_here : (cell kind i : ℕ) → i < 4 → kind < 4 → written cell kind i / 2 ^ (i * 2) % 4 ≡ kind
written_here cell kind i inside few = let below : cell % 2 ^ (i * 2) < 2 ^ (i * 2) = mod_below cell (2 ^ (i * 2)) (pow_pos (i * 2)) in
    rw (written_is cell kind i inside few, shr_high kind (i * 2) (cell % 2 ^ (i * 2)) below) (omega arith)

kept : (cell kind i j : ℕ) → i < 4 → j < i → (kind * 2 ^ (i * 2) + cell % 2 ^ (i * 2)) / 2 ^ (j * 2) % 4 ≡ cell / 2 ^ (j * 2) % 4
kept cell kind (suc zero) zero inside before = omega arith
kept cell kind (suc (suc zero)) zero inside before = omega arith
kept cell kind (suc (suc zero)) (suc zero) inside before = omega arith
kept cell kind (suc (suc (suc zero))) zero inside before = omega arith
kept cell kind (suc (suc (suc zero))) (suc zero) inside before = omega arith
kept cell kind (suc (suc (suc zero))) (suc (suc zero)) inside before = omega arith
kept cell kind i j inside before = absurd (omega arith)

pub written_before : (cell kind i j : ℕ) → i < 4 → j < i → kind < 4 → written cell kind i / 2 ^ (j * 2) % 4 ≡ cell / 2 ^ (j * 2) % 4
written_before cell kind i j inside before few = rw (written_is cell kind i inside few) (kept cell kind i j inside before)
