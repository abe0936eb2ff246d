-- A span of data, or a tag, is at the front of each text but the empty one.
use Rattle.htoken.proofs.Names.{nat_tests, arith, ◌≡◌, ℕ, ◌≤◌, Bool, true, false, not, ◌&&◌, ◌||◌, eqb, List, [], ◌∷◌, ◌++◌, length, sym, refl, ap, ◌∙◌, subst, codes, append_assoc, append-nil, false≢true, eqb-true, to_ascii_lowercase, ParseError, Placed, characters, lowered, begins, spells, spells_in_any_case, is_letter, is_greater, IsBogus, closed_bogus, and_parts, or_none, Entities, IsTable, Span, IsDataSpan, character, reference, less_than_last, less_than_solidus_last, less_than, nothing, tag, comment, bogus_end_tag, bogus_question, bogus_cdata, bogus_declaration, doctype, is_cdata, is_declaration, some_of, unclosed_bogus, some_span, some_doctype, inl, inr, length-append, stops, all, and_both, Part, parts_text, IsTagFront, ends_name, IsTag, start_tag, end_tag, unfinished, HasTag}
use Rattle.hmarkup.specs.declared.comment.CommentKind.TheVariants as comments
use Rattle.htoken.proofs.Words.{heads, single, is_amp, at_amp}
use Rattle.htoken.proofs.OneTag.{Opens, Ends, Side, mark_of, tag_span, cut_span, tag_text, IsEnding, closed, cut_off, tag_whole}
use Rattle.htoken.proofs.CutClasses.{spells_more}
use Rattle.htoken.proofs.SomePart.{begins_long, split, some_parts, is_stop}
use Rattle.htoken.proofs.RawEnds.{letter_stays}

pub front_long : (xs ys : List Placed) → 1 ≤ length xs → 1 ≤ length (xs ++ ys)
front_long xs ys l = omega (arith, length-append xs ys, l)

mark_long : (side : Side) (opening : List Placed) → characters opening ≡ mark_of side → 1 ≤ length opening
mark_long Opens [] h = absurd cc
mark_long _ [] h = absurd cc
mark_long side (p ∷ ps) h = omega arith

-- a tag of either side is one
tag_of : (table : Entities) (end : ℕ) (side : Side) (opening name : List Placed) (parts : List Part) {after rest : List Placed} {span : Span}
    → IsTagFront table end (mark_of side) opening name parts after → IsEnding end side opening name parts after rest span → IsTag table end rest span
tag_of table end Opens opening name parts front (closed close closing c a is) =
    start_tag opening name parts close closing (subst (λ (x : List Placed). IsTagFront table end (codes "<") opening name parts x) a front) c is
tag_of table end Ends opening name parts front (closed close closing c a is) =
    end_tag opening name parts close closing (subst (λ (x : List Placed). IsTagFront table end (codes "</") opening name parts x) a front) c is
tag_of table end Opens opening name parts front (cut_off a r is) =
    unfinished (codes "<") opening name parts (inl refl) (subst (λ (x : List Placed). IsTagFront table end (codes "<") opening name parts x) a front) r is
tag_of table end Ends opening name parts front (cut_off a r is) =
    unfinished (codes "</") opening name parts (inr refl) (subst (λ (x : List Placed). IsTagFront table end (codes "</") opening name parts x) a front) r is

module _ {table : Entities} {end : ℕ} (side : Side) {opening name : List Placed} {parts : List Part} where
  ended : (after rest : List Placed) (span : Span) (more : List Placed) → IsTagFront table end (mark_of side) opening name parts after
      → IsEnding end side opening name parts after rest span → span.text ≡ opening ++ name ++ parts_text parts ++ more
      → HasTag table end (opening ++ (name ++ (parts_text parts ++ after)))
  ended after rest span more front ends text_is = record {
    span = span;
    rest = rest;
    text_is = sym (tag_whole end side opening name parts after rest ends);
    is_tag = tag_of table end side opening name parts front ends;
    long = rw text_is (front_long (opening ++ name ++ parts_text parts) more
        (front_long (opening ++ name) (parts_text parts) (front_long opening name (mark_long side opening front.opens))));
  }

  close_by : (q : Placed) (qs : List Placed) (greater : Bool) → is_greater q.ch ≡ greater → (greater || (eqb q.ch 47 && begins is_greater qs)) ≡ true
      → IsTagFront table end (mark_of side) opening name parts (q ∷ qs) → HasTag table end (opening ++ (name ++ (parts_text parts ++ (q ∷ qs))))
  close_by q qs true e h front = ended (q ∷ qs) qs (tag_span end side opening name parts (q ∷ []) false) (q ∷ []) front
      (closed (q ∷ []) false (ap (λ (c : ℕ). c ∷ []) (eqb-true q.ch 62 e)) refl refl) (tag_text end side opening name parts (q ∷ []) false)
  close_by q [] false e h front = absurd (false≢true (and_parts (eqb q.ch 47) false h).1)
  close_by q (r ∷ rs) false e h front = let k = and_parts (eqb q.ch 47) (is_greater r.ch) h in
      ended (q ∷ r ∷ rs) rs (tag_span end side opening name parts (q ∷ r ∷ []) true) (q ∷ r ∷ []) front
      (closed (q ∷ r ∷ []) true (cc (eqb-true q.ch 47 k.0, eqb-true r.ch 62 k.1)) refl refl) (tag_text end side opening name parts (q ∷ r ∷ []) true)

  ends_there : (after : List Placed) → is_stop after ≡ true → IsTagFront table end (mark_of side) opening name parts after
      → HasTag table end (opening ++ (name ++ (parts_text parts ++ after)))
  ends_there [] h front = record {
    span = cut_span end opening name parts;
    rest = [];
    text_is = sym (tag_whole end side opening name parts [] [] (cut_off refl refl refl));
    is_tag = tag_of table end side opening name parts front (cut_off refl refl refl);
    long = front_long (opening ++ name) (parts_text parts) (front_long opening name (mark_long side opening front.opens));
  }
  ends_there (q ∷ qs) h front = close_by q qs (is_greater q.ch) refl h front

pub some_tag : (table : Entities) (is_table : IsTable table) (end : ℕ) (side : Side) (opening : List Placed) (p : Placed) (ps : List Placed)
    → characters opening ≡ mark_of side → is_letter p.ch ≡ true → HasTag table end (opening ++ (p ∷ ps))
some_tag table is_table end side opening p ps o l = let k = split ends_name ps in let v = some_parts {table = table} is_table end k.after in
    subst (λ (x : List Placed). HasTag table end (opening ++ (p ∷ x))) (sym (k.text_is ∙ ap (λ (x : List Placed). k.run ++ x) v.text_is))
    (ends_there {table = table} {end = end} side {opening = opening} {name = (p ∷ k.run)} {parts = v.parts} v.after v.stops_there (record {
      opens = o;
      first = l;
      runs = record {
        passes_none = and_both (not (ends_name p.ch)) (all (λ c. not (ends_name c)) k.run) (letter_stays p.ch l) k.runs.passes_none;
        stops_after = subst (λ (x : List Placed). stops ends_name x ≡ true) v.text_is k.runs.stops_after;
      };
      in_parts = v.are;
    }))

pub record HasData (table : Entities) (end : ℕ) (text : List Placed) : Type 0 where
  pub span : Span
  pub rest : List Placed
  pub text_is : text ≡ span.text ++ rest
  pub is_span : IsDataSpan table end rest span
  pub long : 1 ≤ length span.text

-- marks at the front of a text
record IsMarkedBy (view : List Placed → List ℕ) (cs : List ℕ) (text : List Placed) : Type 0 where
  mark : List Placed
  more : List Placed
  text_is : text ≡ mark ++ more
  is : view mark ≡ cs

marked_by : (cs : List ℕ) (text : List Placed) → spells cs text ≡ true → IsMarkedBy characters cs text
marked_by [] text h = record { mark = []; more = text; text_is = refl; is = refl }
marked_by (c ∷ cs) [] h = absurd (false≢true h)
marked_by (c ∷ cs) (p ∷ ps) h = let both = and_parts (eqb p.ch c) (spells cs ps) h in let k = marked_by cs ps both.1 in
    record { mark = p ∷ k.mark; more = k.more; text_is = ap (λ (x : List Placed). p ∷ x) k.text_is; is = cc (eqb-true p.ch c both.0) }

marked_low : (cs : List ℕ) (text : List Placed) → spells_in_any_case cs text ≡ true → IsMarkedBy lowered cs text
marked_low [] text h = record { mark = []; more = text; text_is = refl; is = refl }
marked_low (c ∷ cs) [] h = absurd (false≢true h)
marked_low (c ∷ cs) (p ∷ ps) h = let both = and_parts (eqb (to_ascii_lowercase p.ch) c) (spells_in_any_case cs ps) h in let k = marked_low cs ps both.1 in
    record { mark = p ∷ k.mark; more = k.more; text_is = ap (λ (x : List Placed). p ∷ x) k.text_is; is = cc (eqb-true (to_ascii_lowercase p.ch) c both.0) }

-- what a bogus comment begins with
bogus_some : {rest : List Placed} {contents : List ℕ} {errors : List ParseError} (p : Placed) (ps : List Placed) → IsBogus rest [] contents errors
    → p ∷ ps ≡ [] ++ rest → ⊥
bogus_some p ps (closed_bogus inner close t b c d e) h = no_close inner close t c where
  no_close : (inner close : List Placed) → [] ≡ inner ++ close → characters close ≡ codes ">" → ⊥
  no_close [] [] t c = absurd cc
  no_close _ _ t c = absurd cc
bogus_some p ps (unclosed_bogus r b d e) h = let no_way : p ∷ ps ≡ [] = h ∙ r in absurd cc

bogus_begins : (test : ℕ → Bool) (rest body : List Placed) (contents : List ℕ) (errors : List ParseError) (p : Placed) (ps : List Placed)
    → IsBogus rest body contents errors → p ∷ ps ≡ body ++ rest → test p.ch ≡ true → begins test body ≡ true
bogus_begins test rest [] contents errors p ps b e h = absurd (bogus_some p ps b e)
bogus_begins test rest (x ∷ xs) contents errors p ps b e h = cc (heads p x ps (xs ++ rest) e)

abbrev no_greater : List ℕ → Bool
no_greater [] = true
no_greater (c ∷ cs) = not (eqb 62 c) && no_greater cs

spells_before : (cs : List ℕ) (inner : List Placed) (q : Placed) (more : List Placed) → q.ch ≡ 62 → no_greater cs ≡ true
    → spells cs (inner ++ (q ∷ more)) ≡ true → spells cs inner ≡ true
spells_before [] inner q more g n h = refl
spells_before (c ∷ cs) [] q more g n h = grind (arith, nat_tests)
spells_before (c ∷ cs) (x ∷ xs) q more g n h = grind (arith, nat_tests, spells_before cs xs q more)

bogus_spells : (cs : List ℕ) (rest body : List Placed) {contents : List ℕ} {errors : List ParseError} → no_greater cs ≡ true → IsBogus rest body contents errors
    → spells cs (body ++ rest) ≡ true → spells cs body ≡ true
bogus_spells cs rest body n (closed_bogus inner close t b c d e) h = let k = single close 62 c in
    let whole : body ++ rest ≡ inner ++ (k.p ∷ rest) = cc (append_assoc inner close rest) in
    rw t (spells_more cs inner close (spells_before cs inner k.p rest k.ch_is n (ap (spells cs) (sym whole) ∙ h)))
bogus_spells cs rest body n (unclosed_bogus r b d e) h = cc (append-nil body)

three : (a b c : Bool) → a ≡ false → b ≡ false → c ≡ false → (a || b || c) ≡ false
three a b c h k l = grind arith

four : (a b c d : Bool) → a ≡ false → b ≡ false → c ≡ false → d ≡ false → not (a || b || c || d) ≡ true
four a b c d h k l m = grind arith

module _ {table : Entities} (is_table : IsTable table) (end : ℕ) where
  -- one character
  alone : (p : Placed) (ps : List Placed) (amp : Bool) → eqb p.ch 38 ≡ amp → eqb p.ch 60 ≡ false → HasData table end (p ∷ ps)
  alone p ps true e f = let k = some_of table false is_table p (eqb-true p.ch 38 e) ps in
      record {
        span = _;
        rest = k.rest;
        text_is = k.text_is;
        is_span = reference k.piece k.is_reference refl;
        long = begins_long is_amp k.piece.text (at_amp k.is_reference);
      }
  alone p ps false e f = record
      { span = _; rest = ps; text_is = refl; is_span = character p (or_none (eqb p.ch 60) (eqb p.ch 38) f e) refl; long = omega arith }

  module _ (p : Placed) (is : p.ch ≡ 60) where
    opens_two : (q : Placed) (c : ℕ) → q.ch ≡ c → characters (p ∷ q ∷ []) ≡ 60 ∷ c ∷ []
    opens_two q c h = ap (λ (n : ℕ). n ∷ q.ch ∷ []) is ∙ ap (λ (n : ℕ). 60 ∷ n ∷ []) h

    -- after `</`
    end_by : (q r : Placed) (rs : List Placed) (letter greater : Bool) → q.ch ≡ 47 → is_letter r.ch ≡ letter → is_greater r.ch ≡ greater
        → HasData table end (p ∷ q ∷ r ∷ rs)
    end_by q r rs true greater s e f = let k = some_tag table is_table end Ends (p ∷ q ∷ []) r rs (opens_two q 47 s) e in
        record { span = k.span; rest = k.rest; text_is = k.text_is; is_span = tag k.is_tag; long = k.long }
    end_by q r rs false true s e f = record {
      span = _;
      rest = rs;
      text_is = refl;
      is_span = nothing (p ∷ q ∷ []) (r ∷ []) (opens_two q 47 s) (ap (λ (n : ℕ). n ∷ []) (eqb-true r.ch 62 f)) refl;
      long = omega arith;
    }
    end_by q r rs false false s e f = let k = some_span end comments.Bogus (r ∷ rs) in
        record {
          span = _;
          rest = k.rest;
          text_is = ap (λ (x : List Placed). p ∷ q ∷ x) k.text_is;
          is_span = bogus_end_tag (p ∷ q ∷ []) k.span k.value k.errors (opens_two q 47 s) (bogus_begins (λ c. not (is_letter c || is_greater c)) k.rest k.span
              k.value k.errors r rs k.is_span k.text_is (ap not (or_none (is_letter r.ch) (is_greater r.ch) e f))) k.is_span refl;
          long = omega arith;
        }

    -- after `<!`
    doctype_here : (q : Placed) (qs : List Placed) → q.ch ≡ 33 → spells_in_any_case (codes "doctype") qs ≡ true → HasData table end (p ∷ q ∷ qs)
    doctype_here q qs s h = let m = marked_low (codes "doctype") qs h in let k = some_doctype end m.more in
        record {
          span = _;
          rest = k.rest;
          text_is = ap (λ (x : List Placed). p ∷ q ∷ x) (m.text_is ∙ ap (λ (x : List Placed). m.mark ++ x) k.text_is ∙ sym (append_assoc m.mark k.span k.rest));
          is_span = doctype (p ∷ q ∷ m.mark) k.span k.value k.errors (cc (is)) k.is_span refl;
          long = omega arith;
        }

    comment_here : (q : Placed) (qs : List Placed) → q.ch ≡ 33 → spells (codes "--") qs ≡ true → HasData table end (p ∷ q ∷ qs)
    comment_here q qs s h = let m = marked_by (codes "--") qs h in let k = some_span end comments.Comment m.more in
        record {
          span = _;
          rest = k.rest;
          text_is = ap (λ (x : List Placed). p ∷ q ∷ x) (m.text_is ∙ ap (λ (x : List Placed). m.mark ++ x) k.text_is ∙ sym (append_assoc m.mark k.span k.rest));
          is_span = comment (p ∷ q ∷ m.mark) k.span k.value k.errors (cc (is)) k.is_span refl;
          long = omega arith;
        }

    bang_by : (q : Placed) (qs : List Placed) (word dashes cdata : Bool) → q.ch ≡ 33 → spells_in_any_case (codes "doctype") qs ≡ word
        → spells (codes "--") qs ≡ dashes → is_cdata qs ≡ cdata → HasData table end (p ∷ q ∷ qs)
    bang_by q qs true dashes cdata s e f g = doctype_here q qs s e
    bang_by q qs false true cdata s e f g = comment_here q qs s f
    bang_by q qs false false true s e f g = let k = some_span end comments.Bogus qs in
        record {
          span = _;
          rest = k.rest;
          text_is = ap (λ (x : List Placed). p ∷ q ∷ x) k.text_is;
          is_span = bogus_cdata (p ∷ q ∷ []) k.span k.value k.errors (opens_two q 33 s)
              (bogus_spells (codes "[CDATA[") k.rest k.span refl k.is_span (ap is_cdata (sym k.text_is) ∙ g)) k.is_span refl;
          long = omega arith;
        }
    bang_by q qs false false false s e f g = let k = some_span end comments.Bogus qs in
        record {
          span = _;
          rest = k.rest;
          text_is = ap (λ (x : List Placed). p ∷ q ∷ x) k.text_is;
          is_span = bogus_declaration (p ∷ q ∷ []) k.span k.value k.errors (opens_two q 33 s)
              (ap is_declaration (sym k.text_is) ∙ three (spells (codes "--") qs) (spells_in_any_case (codes "doctype") qs) (is_cdata qs) f e g) k.is_span refl;
          long = omega arith;
        }

    -- after `<`
    markup_by : (q : Placed) (qs : List Placed) (letter slash bang question : Bool) → is_letter q.ch ≡ letter → eqb q.ch 47 ≡ slash → eqb q.ch 33 ≡ bang
        → eqb q.ch 63 ≡ question → HasData table end (p ∷ q ∷ qs)
    markup_by q qs true slash bang question e f g h = let k = some_tag table is_table end Opens (p ∷ []) q qs (ap (λ (n : ℕ). n ∷ []) is) e in
        record { span = k.span; rest = k.rest; text_is = k.text_is; is_span = tag k.is_tag; long = k.long }
    markup_by q [] false true bang question e f g h = record {
      span = _;
      rest = q ∷ [];
      text_is = refl;
      is_span = less_than_solidus_last p is (ap (λ (n : ℕ). n ∷ []) (eqb-true q.ch 47 f)) refl;
      long = omega arith;
    }
    markup_by q (r ∷ rs) false true bang question e f g h = end_by q r rs (is_letter r.ch) (is_greater r.ch) (eqb-true q.ch 47 f) refl refl
    markup_by q qs false false true question e f g h =
        bang_by q qs (spells_in_any_case (codes "doctype") qs) (spells (codes "--") qs) (is_cdata qs) (eqb-true q.ch 33 g) refl refl refl
    markup_by q qs false false false true e f g h = let k = some_span end comments.Bogus (q ∷ qs) in
        record {
          span = _;
          rest = k.rest;
          text_is = ap (λ (x : List Placed). p ∷ x) k.text_is;
          is_span = bogus_question (p ∷ []) k.span k.value k.errors (ap (λ (n : ℕ). n ∷ []) is)
              (bogus_begins (λ c. eqb c 63) k.rest k.span k.value k.errors q qs k.is_span k.text_is h) k.is_span refl;
          long = omega arith;
        }
    markup_by q qs false false false false e f g h = record {
      span = _;
      rest = q ∷ qs;
      text_is = refl;
      is_span = less_than p is (four (is_letter q.ch) (eqb q.ch 47) (eqb q.ch 33) (eqb q.ch 63) e f g h) refl;
      long = omega arith;
    }

    less_here : (ps : List Placed) → HasData table end (p ∷ ps)
    less_here [] = record { span = _; rest = []; text_is = refl; is_span = less_than_last p is refl refl; long = omega arith }
    less_here (q ∷ qs) = markup_by q qs (is_letter q.ch) (eqb q.ch 47) (eqb q.ch 33) (eqb q.ch 63) refl refl refl refl

  pub data_by : (p : Placed) (ps : List Placed) (less : Bool) → eqb p.ch 60 ≡ less → HasData table end (p ∷ ps)
  data_by p ps true e = less_here p (eqb-true p.ch 60 e) ps
  data_by p ps false e = alone p ps (eqb p.ch 38) refl e
