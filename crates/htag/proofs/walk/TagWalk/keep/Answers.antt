use Rattle.htag.proofs.Vocabulary.{◌∷◌, [], ℕ, List, sym, refl, ap, ◌∙◌, append-nil, ◌++◌, error, ParseError, DuplicateAttribute}
use Rattle.htag.proofs.Naming.{first_ends, repeated_ends}
use Rattle.htag.proofs.walk.TagWalk.keep.Goals as goal

pub returns-in_ok-push-clause-keeps : goal.returns-in_ok-push-clause-keeps
returns-in_ok-push-clause-keeps c = λ before after it grows are number value at.
    let seen = (rw (c.index-number.ensures, c.name.ensures) at c.in_ok-add.ensures) in
    record {
      kind_is = refl;
      phase_is = refl;
      name_is = refl;
      ends = λ parts part is h.
          let e = first_ends before after grows are c.args.self.now _ it c.args.attr.name number _ seen refl parts part is h c.args.attr c.if-branch.true refl
          value c.in_ok-push.ensures.items in
          (e.0, sym (ap (λ (x : List ParseError). c.args.errors.now.items ++ x) e.1 ∙ append-nil c.args.errors.now.items));
    }

pub returns-in_ok-keep_if-clause-keeps : goal.returns-in_ok-keep_if-clause-keeps
returns-in_ok-keep_if-clause-keeps c = λ before after it grows are number value at.
    let seen = (rw (c.index-number.ensures, c.name.ensures) at c.in_ok-add.ensures) in
    record {
      kind_is = refl;
      phase_is = refl;
      name_is = refl;
      ends = λ parts part is h.
          let e = repeated_ends before after grows are c.args.self.now _ it c.args.attr.name number _ seen refl parts part is h c.if-branch.false refl in (
            e.0,
            c.in_ok-keep_if.ensures ∙ ap (λ (n : ℕ). c.args.errors.now.items ++ error DuplicateAttribute n ∷ []) (sym at)
                ∙ ap (λ (x : List ParseError). c.args.errors.now.items ++ x) (sym e.1),
          );
    }
