use Rattle.htoken.proofs.Names.{ℕ, chars, IsUtf8, placed, Script, FollowsAll}
use Rattle.htoken.proofs.script.Script.after_text.Given as goal

abbrev pub invariant-loop-ch : goal.invariant-loop-ch
invariant-loop-ch l = record {
  follows : (new : Script) → ((at : ℕ) → FollowsAll l.script (placed at (chars l.ch-iterator.rest.now)) new) → (at : ℕ)
      → FollowsAll l.fn.self (placed at (chars l.text)) new;
  utf8 : IsUtf8 l.ch-iterator.rest.now;
}
