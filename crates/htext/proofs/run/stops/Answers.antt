use Rattle.htext.proofs.Names.{refl, ◌≡◌, ◌∙◌, ℕ, Bool, true, false, not, eqb, List, bit_or, cond, length, map, replicate, arith, zip2_splat, zip2_of_maps, zip2, is_not_of, shares_no_bit, ◌%◌, ◌^◌, Fits, w8, Clean, Alphanumeric, Word, Unquoted, Quoted, CLEAN, ALPHANUMERIC, WORD, UNQUOTED}
use Rattle.std.specs.Prelude.{◌||◌}
use lib.Lanes.{Each1, mask_l, top}
use Rattle.htext.proofs.Lanes.{hit, masked, same_mask}
use Rattle.htext.proofs.run.stops.Goals as goal

-- one of two is met
either : (b c : Bool) → top 7 (bit_or (cond b 255 0) (cond c 255 0)) ≡ not (not (b || c))
either true true = refl
either true false = refl
either false true = refl
either false false = refl

marks : (mark : ℕ) (v : List ℕ) → length v ≡ 16 → Each1 (Fits w8) v
    → mask_l (map (top 7) (zip2 bit_or (zip2 hit v (replicate 16 mark)) (zip2 hit v (replicate 16 38)))) % 2 ^ 64 ≡ mask_l (map (is_not_of (Quoted mark)) v)
marks mark v long fits = masked (λ x. bit_or (hit x mark) (hit x 38)) (is_not_of (Quoted mark)) v _ (omega arith) fits
    (zip2_of_maps bit_or _ _ v (zip2_splat hit v 16 mark long) (zip2_splat hit v 16 38 long)) (λ x _. either (eqb x mark) (eqb x 38))

pub returns-in-Quoted : goal.returns-in-Quoted
returns-in-Quoted c = rw c.in-Quoted.is (marks c.in-Quoted.mark c.args.bytes c.fits-bytes.0 c.fits-bytes.1)

pub returns-in-Clean : goal.returns-in-Clean
returns-in-Clean c = rw c.in-Clean.is (c.outside.ensures ∙ same_mask (shares_no_bit CLEAN) (is_not_of Clean) refl c.args.bytes c.fits-bytes.1)

pub returns-in-Alphanumeric : goal.returns-in-Alphanumeric
returns-in-Alphanumeric c = let same = same_mask (shares_no_bit ALPHANUMERIC) (is_not_of Alphanumeric) refl c.args.bytes c.fits-bytes.1 in
    rw c.in-Alphanumeric.is (c.outside-in-Alphanumeric.ensures ∙ same)

pub returns-in-Word : goal.returns-in-Word
returns-in-Word c = rw c.in-Word.is (c.outside-in-Word.ensures ∙ same_mask (shares_no_bit WORD) (is_not_of Word) refl c.args.bytes c.fits-bytes.1)

pub returns-in-Unquoted : goal.returns-in-Unquoted
returns-in-Unquoted c =
    rw c.in-Unquoted.is (c.outside-in-Unquoted.ensures ∙ same_mask (shares_no_bit UNQUOTED) (is_not_of Unquoted) refl c.args.bytes c.fits-bytes.1)
