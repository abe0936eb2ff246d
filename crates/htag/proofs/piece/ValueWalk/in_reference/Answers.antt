use Rattle.htag.proofs.Vocabulary.{◌++◌, ◌≤◌, [], List, ℕ, refl, sym, ap, ◌∙◌, append-nil, append_assoc, arith, subst, Vec, Global, on_ok_weaker, encode_utf8_all, encode_utf8, string_bytes, characters_of, characters, ParseError, IsInValue, kept_none}
use Rattle.htag.proofs.InValue.{other_kept, reference_on, reference_ends, reference_read, run_begins, told_then_given}
use Rattle.htag.proofs.piece.ValueWalk.in_reference.Goals as goal

pub returns-in-None : goal.returns-in-None
returns-in-None c = let number = sym c.is_number.ensures ∙ c.if-is_number.true in
    record {
      more = [];
      later_is = sym (append-nil c.args.errors.now.items);
      takes = λ text own h. reference_on _ h c.args.walk c.requires _ refl (λ taken has. c.in-None.ensures.taken _ _ taken _ has refl)
          (λ taken old. c.clear.ensures.items ∙ ap characters (sym (kept_none _ _ number))) refl refl;
    }

pub returns-in-None-2 : goal.returns-in-None-2
returns-in-None-2 c = let other = sym c.is_number.ensures ∙ c.if-is_number.false in
    record {
      more = [];
      later_is = sym (append-nil c.args.errors.now.items);
      takes = λ text own h. reference_on _ h c.args.walk c.requires _ refl (λ taken has. c.in-None-2.ensures.taken _ _ taken _ has refl)
          (λ taken old. c.in_ok-push-in-None-2.ensures.items ∙ other_kept _ _ taken _ _ c.in-None-2.ensures.number other old) refl refl;
    }

pub returns-then-found : goal.returns-then-found
returns-then-found c = let t = c.in_ok-tell.ensures in
    record {
      more = _;
      later_is = t.later_is;
      takes = λ text own h. run_begins _ h c.args.walk c.requires c.in-Some.found (λ taken has after. c.in-Some.ensures.taken _ _ taken _ has refl after)
          c.in-Some.ensures.number c.if-found.true refl t.at_is
          (c.in_ok-push.ensures.bytes ∙ ap (λ (x : List ℕ). x ++ encode_utf8 c.args.next.ch)
          (c.in_ok-push_all.ensures ∙ ap (λ (x : List ℕ). string_bytes c.tell.new.self.text ++ encode_utf8_all x) c.deref.ensures.value
          ∙ ap (λ (x : List ℕ). x ++ encode_utf8_all c.tell.new.self.held.items) t.bytes ∙ ap (λ (x : Vec ℕ Global).
          (string_bytes c.args.self.now.text ++ encode_utf8_all (characters_of c.in-Some.found.characters)) ++ encode_utf8_all x.items) t.held_is));
    }

pub returns-then-found-eq0 : goal.returns-then-found-eq0
returns-then-found-eq0 c = let t = c.in_ok-tell.ensures in
    record {
      more = _;
      later_is = t.later_is;
      takes = λ text own h. reference_ends _ h c.args.walk c.requires c.in-Some.found (λ taken has after. c.in-Some.ensures.taken _ _ taken _ has refl after)
          c.in-Some.ensures.number c.if-found.false c.if-found-eq0.true refl t.bytes;
    }

pub returns : goal.returns
returns c = let t = c.in_ok-tell.ensures in let some : 1 ≤ c.in-Some.found.left = omega arith in
    on_ok_weaker c.take_next.result (λ n. record {
      more = _;
      later_is = n.later_is ∙ ap (λ (x : List ParseError). x ++ n.more) t.later_is ∙ append_assoc c.args.errors.now.items _ n.more;
      takes = λ text own h. subst (IsInValue _ _ _ _ []) (append_assoc own _ n.more) (n.takes text _ (reference_read _ h c.args.walk c.requires
          c.in-Some.found (λ taken has after. c.in-Some.ensures.taken _ _ taken _ has refl after) c.in-Some.ensures.number c.if-found.false some
          c.in_ok-give_back.ensures.reading_is (told_then_given _ _ _ _ _ _ _ t c.in_ok-give_back.ensures.bytes)));
    }) c.take_next.ensures
