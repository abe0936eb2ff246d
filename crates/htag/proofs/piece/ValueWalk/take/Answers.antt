use Rattle.htag.proofs.Vocabulary.{◌≡◌, ◌++◌, [], List, true, false, refl, sym, ap, ◌∙◌, append-nil, append_assoc, arith, subst, nat_tests, on_ok_weaker, ParseError, is_alphanumeric, IsInValue}
use Rattle.htag.proofs.InValue.{run_on, run_ends}
use Rattle.htag.proofs.piece.ValueWalk.take.Goals as goal

pub returns-then-is_ascii_alphanumeric : goal.returns-then-is_ascii_alphanumeric
returns-then-is_ascii_alphanumeric c = let letter : is_alphanumeric c.args.next.ch ≡ true = grind (arith, nat_tests) in
    record {
      more = [];
      later_is = sym (append-nil c.args.errors.now.items);
      takes = λ text own h. run_on _ h c.in-AmbiguousAmpersand.is refl refl c.in_ok-push-in-AmbiguousAmpersand.ensures.bytes letter;
    }

pub returns-in_ok-keep_if-in-AmbiguousAmpersand : goal.returns-in_ok-keep_if-in-AmbiguousAmpersand
returns-in_ok-keep_if-in-AmbiguousAmpersand c = let other : is_alphanumeric c.args.next.ch ≡ false = grind (arith, nat_tests) in
    on_ok_weaker c.take_next-in-AmbiguousAmpersand.result (λ t. record {
      more = _;
      later_is =
          t.later_is ∙ ap (λ (x : List ParseError). x ++ t.more) c.in_ok-keep_if-in-AmbiguousAmpersand.ensures ∙ append_assoc c.args.errors.now.items _ t.more;
      takes = λ text own h. subst (IsInValue _ _ _ _ []) (append_assoc own _ t.more) (t.takes text _ (run_ends _ h c.in-AmbiguousAmpersand.is refl refl other));
    }) c.take_next-in-AmbiguousAmpersand.ensures
