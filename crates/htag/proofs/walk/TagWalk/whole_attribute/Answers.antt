use Rattle.htag.proofs.Vocabulary.{◌≡◌, [], Bool, ℕ, List, arith, refl, sym, ap, ◌∙◌, subst, Some, length, slice_get, list_all, string_bytes, Attr, true, if◌then◌else◌, grows_not, chars, is_clean, front_of, IsQuietFront, is_no_reference, err_from_is_err_and, Entities, Texts, TagWalk, ParseError, Refusal, Result, Err, Memory, Grows, TakesFront, not_ended}
use Rattle.htag.proofs.Values.{keeps_tag}
use Rattle.htag.proofs.AtOnce.{attribute_is}
use Rattle.htag.proofs.InRun.{none_cut, none_front, none_taken}
use Rattle.htag.proofs.Keeping.{other_value}
use Rattle.htag.proofs.Whole.{attribute, end_cut, from_edge, long, name_edge, to_edge, value, whole_taken, written_clean, written_is}
use Rattle.htag.proofs.walk.TagWalk.whole_attribute.Goals as goal

pub range-written-requires-clause-start_boundary : goal.range-written-requires-clause-start_boundary
range-written-requires-clause-start_boundary c = λ _. from_edge c.args.run.now _ _ (attribute_is c.args.run.now _ c.word_run-length.result c.in-Some.found
    c.as_bytes-bytes.ensures.value c.word_run-length.ensures.counted c.if-length-eq0.false c.word_run-length.ensures.few c.in-Some.ensures) c.utf8.run

pub range-written-requires-clause-end_boundary : goal.range-written-requires-clause-end_boundary
range-written-requires-clause-end_boundary c = to_edge c.args.run.now _ _ (attribute_is c.args.run.now _ c.word_run-length.result c.in-Some.found
    c.as_bytes-bytes.ensures.value c.word_run-length.ensures.counted c.if-length-eq0.false c.word_run-length.ensures.few c.in-Some.ensures) c.utf8.run

pub range-requires-clause-end_boundary : goal.range-requires-clause-end_boundary
range-requires-clause-end_boundary c = name_edge c.args.run.now _ _ (attribute_is c.args.run.now _ c.word_run-length.result c.in-Some.found
    c.as_bytes-bytes.ensures.value c.word_run-length.ensures.counted c.if-length-eq0.false c.word_run-length.ensures.few c.in-Some.ensures) c.utf8.run

pub read_value-requires-clause-plain : goal.read_value-requires-clause-plain
read_value-requires-clause-plain c =
    let is = attribute_is c.args.run.now _ c.word_run-length.result c.in-Some.found c.as_bytes-bytes.ensures.value c.word_run-length.ensures.counted
    c.if-length-eq0.false c.word_run-length.ensures.few c.in-Some.ensures in
    λ e. ap (list_all is_no_reference) (c.range-written.ensures.value ∙ written_is c.args.run.now _ _ is c.utf8.run) ∙ is.value.plain e

pub read_value-requires-clause-clean : goal.read_value-requires-clause-clean
read_value-requires-clause-clean c =
    let is = attribute_is c.args.run.now _ c.word_run-length.result c.in-Some.found c.as_bytes-bytes.ensures.value c.word_run-length.ensures.counted
    c.if-length-eq0.false c.word_run-length.ensures.few c.in-Some.ensures in
    ap (λ (x : List ℕ). list_all is_clean (chars x)) (c.range-written.ensures.value ∙ written_is c.args.run.now _ _ is c.utf8.run)
    ∙ written_clean c.args.run.now _ _ is c.utf8.run c.requires.clean

pub returns-then-not-branch : goal.returns-then-not-branch
returns-then-not-branch c = record {
  cut = none_cut c.args.run.now c.utf8.run;
  takes = λ body h. none_taken c.args.at c.args.run.now (other_value h _ c.requires.before refl (keeps_tag refl refl refl refl refl));
  grows = grows_not _;
  kind = refl;
}

pub returns-in_default : goal.returns-in_default
returns-in_default c = none_front c.utf8.run

pub returns : goal.returns
returns c = let run = c.args.run.now in let found = c.in-Some.found in
    let is = attribute_is c.args.run.now _ c.word_run-length.result c.in-Some.found c.as_bytes-bytes.ensures.value c.word_run-length.ensures.counted
    c.if-length-eq0.false c.word_run-length.ensures.few c.in-Some.ensures in
    let u = c.utf8.run in
    let table = c.args.table.now in
    let bytes = c.in_ok-attr.attr.value in
    let written = c.range-written.result.now in
    let read = string_bytes c.read_value.new.self.text in
    let text_is : written ≡ value run _ found is u = c.range-written.ensures.value ∙ written_is run _ found is u in
    let bytes_is : bytes ≡ (if found.plain then written else read) = ap (λ (a : Attr). a.value) c.in_ok-attr.ensures ∙ c.value-value.ensures in
    let quiet : IsQuietFront table (value run _ found is u) (length (value run _ found is u)) [] bytes =
    subst (λ (x : List ℕ). IsQuietFront table x (length x) [] bytes) text_is
    (subst (IsQuietFront table written (length written) []) (sym bytes_is) (c.in_ok-read_value.ensures c.if-not-branch.false)) in
    let plain : found.plain ≡ true → bytes ≡ value run _ found is u = λ e. bytes_is ∙ ap (λ (b : Bool). if b then written else read) e ∙ text_is in
    let ends = c.in_ok-keep.ensures.keeps c.args.names.now c.intern.new.self (attribute run _ found is u c.args.at table bytes quiet plain)
    c.in_ok-name.ensures.grows c.in_ok-name.ensures.names (ap (slice_get c.intern.new.self) (ap (λ (a : Attr). a.name) c.in_ok-attr.ensures)
    ∙ c.in_ok-name.ensures.number ∙ ap (λ (x : List ℕ). Some x) (c.range.ensures.value ∙ front_of c.word_run-length.result run)) refl refl in
    record {
      cut = end_cut run _ found is u;
      takes = λ body h. whole_taken run _ found is u c.args.at table bytes quiet plain h c.requires.before refl refl refl refl ends;
      grows = c.in_ok-name.ensures.grows;
      kind = c.in_ok-keep.ensures.kind;
    }

pub returns-then-length-eq0 : goal.returns-then-length-eq0
returns-then-length-eq0 c = none_front c.utf8.run

pub overflow_add-to : goal.overflow_add-to
overflow_add-to c =
    let is = attribute_is c.args.run.now _ c.word_run-length.result c.in-Some.found c.as_bytes-bytes.ensures.value c.word_run-length.ensures.counted
    c.if-length-eq0.false c.word_run-length.ensures.few c.in-Some.ensures in
    omega (arith, c.as_bytes-bytes.ensures.len, long c.args.run.now _ _ is c.utf8.run)

pub overflow_add-result : goal.overflow_add-result
overflow_add-result c =
    let is = attribute_is c.args.run.now _ c.word_run-length.result c.in-Some.found c.as_bytes-bytes.ensures.value c.word_run-length.ensures.counted
    c.if-length-eq0.false c.word_run-length.ensures.few c.in-Some.ensures in
    omega (arith, c.as_bytes-bytes.ensures.len, long c.args.run.now _ _ is c.utf8.run)

refused : {table : Entities} {before after : Texts} {at : ℕ} {run : List ℕ} {old new : TagWalk} {errors later : List ParseError} (answer : Result ℕ Refusal)
    (e : Refusal) → answer ≡ Err e → e ≡ Memory → Grows before after → TakesFront table before after at run old errors (not_ended answer) new later
refused answer e is memory grows = rw is (record { cut = tt; takes = λ body h. memory; grows = grows; kind = tt })

pub returns-in_err-read_value : goal.returns-in_err-read_value
returns-in_err-read_value c = let e = err_from_is_err_and c.from_residual.result c.from_residual.ensures.1 in refused _ e.0 e.1 e.2 (grows_not _)

pub returns-in_err-name : goal.returns-in_err-name
returns-in_err-name c = let e = err_from_is_err_and c.from_residual-in_err-name.result c.from_residual-in_err-name.ensures.1 in
    refused _ e.0 e.1 e.2 c.in_err-name.ensures.grows

pub returns-in_err-attr : goal.returns-in_err-attr
returns-in_err-attr c = let e = err_from_is_err_and c.from_residual-in_err-attr.result c.from_residual-in_err-attr.ensures.1 in
    refused _ e.0 e.1 e.2 c.in_ok-name.ensures.grows

pub returns-in_err-keep : goal.returns-in_err-keep
returns-in_err-keep c = let e = err_from_is_err_and c.from_residual-in_err-keep.result c.from_residual-in_err-keep.ensures.1 in
    refused _ e.0 e.1 (e.2 ∙ c.in_err-keep.ensures.memory) c.in_ok-name.ensures.grows
