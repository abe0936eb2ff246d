use Rattle.htag.proofs.Vocabulary.{◌≡◌, ◌++◌, ◌∷◌, ◌∙◌, [], ℕ, Bool, List, UnexpectedCharacterInUnquotedAttributeValue, ParseError, error_if, null_errors, append_assoc, all, ap, encode_utf8, string_bytes, true, without_null, refl, sym, append-nil, arith, nat_tests, is_no_reference}
use Rattle.htag.proofs.InValue.{plain_steps, amp_step}
use Rattle.htag.proofs.Pieces.{plain_raises}
use Rattle.htag.proofs.piece.ValueWalk.take_next.Goals as goal

pub returns-then-next-ne38 : goal.returns-then-next-ne38
returns-then-next-ne38 c = let p = c.args.next in let plain : all is_no_reference (c.args.next ∷ []) ≡ true = grind (arith, nat_tests) in
    let before = c.args.errors.now.items in
    let null = null_errors (p ∷ []) in
    let raised = c.in_ok-keep_if.ensures ∙ ap (λ (b : Bool). before ++ error_if b UnexpectedCharacterInUnquotedAttributeValue p.at) c.is_fault.ensures in
    record {
      more = _;
      later_is = c.in_ok-keep_null.ensures ∙ ap (λ (x : List ParseError). x ++ null) raised ∙ append_assoc before _ null
          ∙ ap (λ (x : List ParseError). before ++ x) (sym (plain_raises c.args.quoted _));
      takes = λ text own h. plain_steps h c.requires refl (c.in_ok-push.ensures.bytes
          ∙ ap (λ (x : List ℕ). string_bytes c.args.self.now.text ++ x) (ap encode_utf8 c.kept.ensures ∙ sym (append-nil (encode_utf8 (without_null p.ch)))))
          plain;
    }

pub returns : goal.returns
returns c = record {
  more = [];
  later_is = sym (append-nil c.args.errors.now.items);
  takes = λ text own h. amp_step _ h c.requires refl (omega arith) c.new.ensures.table c.new.ensures.taken refl c.clear.ensures.items refl;
}
