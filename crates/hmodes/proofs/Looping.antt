-- What holds between two rules of a token.
use Rattle.hmodes.proofs.Vocabulary.{◌≡◌, ◌⊎◌, inl, inr, ℕ, suc, ◌<◌, false, Result, Ok, Err, sym, subst, IsErrAnd, Refusal, Memory, Gives, numbers, Outcome, Goes, after, Token, State, Done, Again, Refused, Rule, Chain, ends, refuses, goes_again, Step, goes, is_dropped, step_begun, finished, StepGives, ChainGives, HasBegun, IsReprocessed, BuilderStands}
use Rattle.hadopt.specs.Site as site
use Rattle.hmodes.proofs.Between.{Orderly, numbers-all, reached-orderly, orderly-begins, again-orderly}
use Rattle.hmodes.proofs.Ends.{left, rule-falls}
use Rattle.hmodes.proofs.Growing.{step-holds}

-- the rules from here on are rules from the beginning
pub record GoesBy (at : ℕ) (t : Token ℕ) (s : State ℕ) (t' : Token ℕ) (s' : State ℕ) : Type 0 where
  pub orderly : Orderly numbers s'
  pub chain : (o : Outcome (State ℕ)) → Chain numbers at t' s' o → Chain numbers at t s o

module _ (at : ℕ) (t : Token ℕ) (s : State ℕ) where
  pub goes-from : HasBegun s → GoesBy at t s t s
  goes-from h = let o = orderly-begins numbers h.0 (reached-orderly numbers numbers-all h.0 h.1) in
      record { orderly = subst (Orderly numbers) (sym h.2) o; chain = λ o c. c }

  pub chain-again : (u : Token ℕ) (v : State ℕ) (r : Result (Unit {0}) Refusal) (new : State ℕ) → Rule numbers at t s ≡ Again u v → ChainGives at u v r new
      → ChainGives at t s r new
  chain-again u v (Ok x) new rule c = goes_again rule c
  chain-again u v (Err e) new rule (inl m) = inl m
  chain-again u v (Err e) new rule (inr c) = inr (goes_again rule c)

  module _ (t' : Token ℕ) (s' : State ℕ) where
    pub goes-on : (u : Token ℕ) (v : State ℕ) → GoesBy at t s t' s' → Rule numbers at t' s' ≡ Again u v → GoesBy at t s u v
    goes-on u v h rule =
        record { orderly = again-orderly numbers numbers-all at t' u s' v h.orderly rule; chain = λ o c. h.chain o (goes_again rule c) }

    pub goes-lower : (u : Token ℕ) (v : State ℕ) → GoesBy at t s t' s' → Rule numbers at t' s' ≡ Again u v → left numbers at u v < left numbers at t' s'
    goes-lower u v h rule = rule-falls numbers numbers-all.img at t' u s' v h.orderly.sound rule

    pub goes-out : (v : State ℕ) (r : Result (Unit {0}) Refusal) (new : State ℕ) → GoesBy at t s t' s' → Rule numbers at t' s' ≡ Done v
        → Gives r new (Goes (finished at t' v)) → ChainGives at t s r new
    goes-out v (Ok x) new h rule g = h.chain (Goes new) (subst (Chain numbers at t' s') g (ends rule))
    goes-out v (Err e) new h rule (inl m) = inl m
    goes-out v (Err e) new h rule (inr m) = cc

    pub goes-wrong : (e : Refusal) → GoesBy at t s t' s' → (e ≡ Memory) ⊎ (Rule numbers at t' s' ≡ Refused e)
        → (e ≡ Memory) ⊎ Chain numbers at t s (site.Refused e)
    goes-wrong e h (inl m) = inl m
    goes-wrong e h (inr rule) = inr (h.chain (site.Refused e) (refuses rule))

  -- a token from its beginning
  pub step-of : (r : Result (Unit {0}) Refusal) (new : State ℕ) → is_dropped t s ≡ false → ChainGives at t (step_begun s) r new → StepGives at t s r new
  step-of (Ok x) new e c = goes e c
  step-of (Err x) new e (inl m) = inl m
  step-of (Err x) new e (inr c) = inr (goes e c)

  -- what a call hands on that was refused
  pub wrong-chain : (r : Result (Unit {0}) Refusal) (d : Refusal) (new : State ℕ) → IsErrAnd r (λ e. e ≡ d)
      → (d ≡ Memory) ⊎ Chain numbers at t s (site.Refused d) → ChainGives at t s r new
  wrong-chain (Ok c) d new h k = absurd h
  wrong-chain (Err e) d new h k = subst (λ (y : Refusal). (y ≡ Memory) ⊎ Chain numbers at t s (site.Refused y)) (sym h) k

-- the rules after a first one
pub goes-from-again : (at : ℕ) (t : Token ℕ) (s : State ℕ) → IsReprocessed at t s → GoesBy at t s t s
goes-from-again at t s (before, old, h, rule) =
    record { orderly = again-orderly numbers numbers-all at before t old s (goes-from at before old h).orderly rule; chain = λ o c. c }

-- what a step leads to
pub stands-after : (root at : ℕ) (t : Token ℕ) (s new : State ℕ) → BuilderStands root s → Step numbers at t s (Goes new) → BuilderStands root new
stands-after root at t s new h one = record { reached = after h.reached one; made = step-holds (suc root) numbers at t s new h.made one }
