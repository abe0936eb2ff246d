use Rattle.htoken.proofs.Names.{◌≡◌, Bool, List, ◌++◌, refl, ap, ◌∙◌, append_assoc, Result, Ok, Err, Refusal, Memory, MatchResult, EndTagWithAttributes, EndTagWithTrailingSolidus, ParseError, error_if, Hands, Raised, Tokenizer, KeepsFaults, err_is}
use Rattle.htoken.proofs.InMarkup.{keeps, kept, refused}
use Rattle.htoken.proofs.tokenizer.Tokenizer.keep_faults.Goals as goal

faults_kept : (t : Tokenizer) (mid new : Raised) (any closing : Bool) (answer : Result (Unit {0}) Refusal) → any ≡ t.tag.any → closing ≡ t.tag.closing
    → Hands keeps t.raised (error_if any EndTagWithAttributes t.at) (Ok tt) mid → Hands keeps mid (error_if closing EndTagWithTrailingSolidus t.at) answer new
    → MatchResult answer (λ _. KeepsFaults t (record t { raised = new })) (λ e. e ≡ Memory)
faults_kept t mid new any closing (Ok u) any_is closing_is first second = record {
  then = refl;
  raised_is = kept mid new _ second ∙ ap (λ (x : List ParseError). x ++ error_if closing EndTagWithTrailingSolidus t.at) (kept t.raised mid _ first)
      ∙ append_assoc t.raised.errors.items (error_if any EndTagWithAttributes t.at) _
      ∙ ap (λ (x : Bool). t.raised.errors.items ++ (error_if x EndTagWithAttributes t.at ++ error_if closing EndTagWithTrailingSolidus t.at)) any_is
      ∙ ap (λ (x : Bool). t.raised.errors.items ++ (error_if t.tag.any EndTagWithAttributes t.at ++ error_if x EndTagWithTrailingSolidus t.at)) closing_is;
}
faults_kept t mid new any closing (Err e) any_is closing_is first second = refused mid new _ e second

pub returns-in_err-tell_if : goal.returns-in_err-tell_if
returns-in_err-tell_if c = rw (err_is c.from_residual.result _ c.from_residual.ensures.1) (refused _ _ _ _ c.in_err-tell_if.ensures)

pub returns : goal.returns
returns c = faults_kept c.args.self.now _ _ _ _ _ c.has_attributes.ensures c.is_closing.ensures c.in_ok-tell_if.ensures c.tell_if-2.ensures
