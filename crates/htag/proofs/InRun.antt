-- A run of clean characters in a tag.
use Rattle.htag.proofs.Vocabulary.{◌≡◌, ◌<◌, ◌≤◌, ℕ, ◌+◌, Bool, true, false, not, eqb, List, [], ◌∷◌, ◌++◌, length, take, drop, map, sym, refl, ap, ◌∙◌, subst, transport, append_assoc, append-nil, arith, Some, slice_get, length-drop, and_both, and_parts, slice_index, encode_utf8_all, flat_map, list_all, prefix_len, len_utf8, length-take-le, to_ascii_lowercase, string_bytes, nat_tests, ParseError, Placed, Texts, Grows, grows_not, grows_on, on_ok_weaker, is_equals, name_bytes, null_errors, placed, without_null, is_plain_byte, is_word_byte, all_weaker, all_placed, Entities, TagWalk, IsInTag, WholeOrNot, ends_name, name_errors_here, is_ascii, chars, IsUtf8, IsCut, next_at, drop-drop, chars-nil, nil_from_length, len_utf8_ascii, counted, plain_bytes, chars_cut, cut_more, first_char, first_cut, has_characters, placed_more, Refusal, Memory, Result, Ok, Err, EndsOrNot, TakesFront}
-- under the names by which the crates above cite them
pub use Rattle.charref.proofs.AtOnce.{characters-placed as characters_placed}
pub use Rattle.htext.proofs.Runs.{counted as prefix_all}
use Rattle.htag.specs.declared.tag_state.TagState.TheVariants as phase
use Rattle.htag.proofs.Ascii.{ascii_chars, ascii_cut, ascii_taken}
use Rattle.htag.proofs.Keeping.{looks_further}
use Rattle.htag.proofs.Names.{name_grows, no_nulls}

-- a byte that only stands for itself
module _ (c : ℕ) (h : is_word_byte c ≡ true) where
  pub word_plain : is_plain_byte c ≡ true
  word_plain = grind (arith, nat_tests)

  word_null : eqb c 0 ≡ false
  word_null = grind (arith, nat_tests)

  pub word_ascii : is_ascii c ≡ true
  word_ascii = grind (arith, nat_tests)

  pub word_in_name : not (ends_name c) ≡ true
  word_in_name = grind (arith, nat_tests)

  pub word_no_equals : is_equals c ≡ false
  word_no_equals = grind (arith, nat_tests)

  word_lowered : to_ascii_lowercase (without_null c) ≡ c
  word_lowered = grind (arith, nat_tests)

pub counted_all : (test : ℕ → Bool) (run : List ℕ) (count : ℕ) → count ≡ prefix_len test run → list_all test (take count run) ≡ true
counted_all test run count is = ap (λ (n : ℕ). list_all test (take n run)) is ∙ counted test run

-- the bytes of a name that is such a run, and its errors
pub word_bytes : (at : ℕ) (run : List ℕ) → list_all is_word_byte run ≡ true → name_bytes (placed at run) ≡ run
word_bytes at run words = ap encode_utf8_all (lowered at run words) ∙ plain_bytes run (all_weaker is_word_byte is_plain_byte word_plain run words) where
  lowered : (at : ℕ) (xs : List ℕ) → list_all is_word_byte xs ≡ true → map (λ (p : Placed). to_ascii_lowercase (without_null p.ch)) (placed at xs) ≡ xs
  lowered at [] h = refl
  lowered at (x ∷ xs) h = let k = and_parts (is_word_byte x) (list_all is_word_byte xs) h in
      ap (λ (c : ℕ). c ∷ map (λ (p : Placed). to_ascii_lowercase (without_null p.ch)) (placed (at + len_utf8 x) xs)) (word_lowered x k.0)
      ∙ ap (λ (cs : List ℕ). x ∷ cs) (lowered (at + len_utf8 x) xs k.1)

pub word_nulls : (at : ℕ) (run : List ℕ) → list_all is_word_byte run ≡ true → null_errors (placed at run) ≡ []
word_nulls at run words = no_nulls is_word_byte word_null (placed at run) (all_placed is_word_byte at run words)

pub word_errors : (at : ℕ) (run : List ℕ) → list_all is_word_byte run ≡ true → flat_map name_errors_here (placed at run) ≡ []
word_errors at [] h = refl
word_errors at (x ∷ xs) h = let k = and_parts (is_word_byte x) (list_all is_word_byte xs) h in let word : is_word_byte x ≡ true = k.0 in
    let double : eqb x 34 ≡ false = grind (arith, nat_tests) in
    let single : eqb x 39 ≡ false = grind (arith, nat_tests) in
    let less : eqb x 60 ≡ false = grind (arith, nat_tests) in
    let some : eqb x 0 ≡ false = word_null x word in
    rw (double, single, less, some) (word_errors (at + len_utf8 x) xs k.1)

-- what a run begins with is what comes next
pub next_then : (at count : ℕ) (run : List ℕ) → IsCut count run → 0 < count
    → placed at (chars (take count run)) ≡ next_at at run 0 ++ drop 1 (placed at (chars (take count run)))
next_then at count run cut some = by (chars (take count run)) refl where
  by : (cs : List ℕ) → chars (take count run) ≡ cs → placed at (chars (take count run)) ≡ next_at at run 0 ++ drop 1 (placed at (chars (take count run)))
  by [] e = let long : length (take count run) ≡ count = length-take-le count run cut.within in
      let one : false ≡ eqb (length (take count run)) 0 = grind (arith, nat_tests, long, some) in
      let never : false ≡ true = has_characters (take count run) cut.front one ∙ ap (λ (x : List ℕ). eqb (length x) 0) e in
      absurd cc
  by (c ∷ cs) e = let here : at + 0 ≡ at = omega arith in
      let all : chars run ≡ c ∷ (cs ++ chars (drop count run)) = chars_cut count run cut ∙ ap (λ (x : List ℕ). x ++ chars (drop count run)) e in
      ap (placed at) e ∙ sym (ap (λ (x : List ℕ). placed (at + 0) (take 1 x) ++ drop 1 (placed at (chars (take count run)))) all
      ∙ ap (λ (x : List ℕ). record { ch = c; at = at + 0 } ∷ drop 1 (placed at x)) e
      ∙ ap (λ (n : ℕ). record { ch = c; at = n } ∷ placed (at + len_utf8 c) cs) here)

-- nothing has been taken
pub none_cut : (run : List ℕ) → IsUtf8 run → IsCut 0 run
none_cut run u = ascii_cut 0 run (omega arith) refl u

pub none_taken : {table : Entities} {names : Texts} {walk : TagWalk} {body ahead : List Placed} {errors : List ParseError} (at : ℕ) (run : List ℕ)
    → IsInTag table names walk body ahead errors → IsInTag table names walk (body ++ placed at (chars (take 0 run))) ahead errors
none_taken {body = body} at run h = rw (chars-nil, append-nil body) h

-- what comes next in what is left is what comes next in all
module _ (at count : ℕ) (run : List ℕ) where
  pub next_on : next_at at run count ≡ next_at (at + count) (drop count run) 0
  next_on = let same : at + count ≡ at + count + 0 = omega arith in ap (λ (n : ℕ). placed n (take 1 (chars (drop count run)))) same

  pub next_more : (more : ℕ) → next_at (at + count) (drop count run) more ≡ next_at at run (count + more)
  next_more more = let same : at + count + more ≡ at + (count + more) = omega arith in
      ap (λ (n : ℕ). placed n (take 1 (chars (drop more (drop count run))))) same
      ∙ ap (λ (x : List ℕ). placed (at + (count + more)) (take 1 (chars x))) (drop-drop more count run)

  pub next_end : length run ≤ count → next_at at run count ≡ []
  next_end all = ap (λ (x : List ℕ). placed (at + count) (take 1 (chars x))) (nil_from_length (drop count run) (omega (arith, all, length-drop count run)))
      ∙ ap (λ (x : List ℕ). placed (at + count) (take 1 x)) chars-nil

  pub text_more : (body : List Placed) (more : ℕ) → IsCut count run → IsCut more (drop count run) → (body ++ placed at (chars (take count run)))
      ++ placed (at + count) (chars (take more (drop count run))) ≡ body ++ placed at (chars (take (count + more) run))
  text_more body more cut again = append_assoc body (placed at (chars (take count run))) (placed (at + count) (chars (take more (drop count run))))
      ∙ ap (λ (x : List Placed). body ++ x) (sym (placed_more count more run cut again at))

-- the front of a run has been taken, and what is left of it comes next
pub known_in_rest : {table : Entities} {names : Texts} {walk : TagWalk} {body : List Placed} {errors : List ParseError} (at count : ℕ) (run : List ℕ)
    {rest : List ℕ} → rest ≡ drop count run → IsInTag table names walk body (next_at at run count) errors
    → IsInTag table names walk body (next_at (at + count) rest 0) errors
known_in_rest at count run rest_is h = rw (rest_is, ← next_on at count run) h

-- nothing has been taken, and then this is
pub none_front : {table : Entities} {names : Texts} {at : ℕ} {run : List ℕ} {walk : TagWalk} {errors : List ParseError} → IsUtf8 run
    → TakesFront table names names at run walk errors (Ok (0, false)) walk errors
none_front {names} {at} {run} u = record { cut = none_cut run u; takes = λ body h. none_taken at run h; grows = grows_not names; kind = refl }

module _ {table : Entities} {before mid after : Texts} {at count : ℕ} {run : List ℕ} {old walk new : TagWalk} {errors now later : List ParseError}
    (first : TakesFront table before mid at run old errors (Ok (count, false)) walk now) where
  pub after_none : {answer : Result (ℕ × Bool) Refusal} → count ≡ 0 → TakesFront table mid after at run walk now answer new later
      → TakesFront table before after at run old errors answer new later
  after_none {answer} none then = record {
    cut = then.cut;
    takes = λ body h. then.takes body (rw (none, chars-nil, append-nil body) at (first.takes body h));
    grows = grows_on before mid after first.grows then.grows;
    kind = on_ok_weaker answer (λ is. is ∙ first.kind) then.kind;
  }

  -- so much of a run, and more of it
  pub front_more : {rest : List ℕ} → rest ≡ drop count run → {more : ℕ} {ended : Bool}
      → TakesFront table mid after (at + count) rest walk now (Ok (more, ended)) new later
      → TakesFront table before after at run old errors (Ok (count + more, ended)) new later
  front_more {rest} rest_is {more} {ended} then = let again : IsCut more (drop count run) = subst (IsCut more) rest_is then.cut in
      record {
        cut = cut_more count more run first.cut again;
        takes = λ body h. transport
            (λ t. EndsOrNot ended table after new (((λ i. (body ++ placed at (chars (take count run))) ++ placed (at + count) (chars (take more (rest_is i))))
            ∙ text_more at count run body more first.cut again) t) (((λ i. next_at (at + count) (rest_is i) more) ∙ next_more at count run more) t) later)
            (then.takes (body ++ placed at (chars (take count run))) (known_in_rest at count run rest_is (first.takes body h)));
        grows = grows_on before mid after first.grows then.grows;
        kind = then.kind ∙ first.kind;
      }

-- the first character of a run
pub begins_with : (cs : List ℕ) (c : ℕ) → slice_get cs 0 ≡ Some c → (rest : List ℕ) × (cs ≡ c ∷ rest)
begins_with [] c e = absurd cc
begins_with (d ∷ ds) c e = (ds, cc)

pub next_first : (at : ℕ) (run rest : List ℕ) (c : ℕ) → chars run ≡ c ∷ rest → next_at at run 0 ≡ record { ch = c; at = at } ∷ []
next_first at run rest c is = let same : at + 0 ≡ at = omega arith in
    ap (λ (x : List ℕ). placed (at + 0) (take 1 x)) is ∙ ap (λ (n : ℕ). record { ch = c; at = n } ∷ []) same

-- and where it is ASCII
pub begins_ascii : (run : List ℕ) (ch : ℕ) → 0 < length run → ch ≡ slice_index run 0 → is_ascii ch ≡ true → IsUtf8 run
    → (chars run ≡ ch ∷ chars (drop 1 run)) × (1 ≡ len_utf8 ch)
begins_ascii [] ch some is ascii u = absurd (omega (arith, some))
begins_ascii (x ∷ xs) ch some is ascii u = let small : ch < 128 = grind (arith, ascii, nat_tests) in
    let one : list_all is_ascii (ch ∷ []) ≡ true = and_both (is_ascii ch) true ascii refl in
    (ap (λ (c : ℕ). chars (c ∷ xs)) (sym is) ∙ (ascii_chars (ch ∷ []) xs one (subst (λ (c : ℕ). IsUtf8 (c ∷ xs)) (sym is) u)).1, sym (len_utf8_ascii ch small))

-- as where it ends a name
pub begins_end : (run : List ℕ) (ch : ℕ) → 0 < length run → ch ≡ slice_index run 0 → ends_name ch ≡ true → IsUtf8 run
    → (chars run ≡ ch ∷ chars (drop 1 run)) × (1 ≡ len_utf8 ch)
begins_end run ch some is ends u = begins_ascii run ch some is (grind (arith, ends, nat_tests)) u

-- it is known to come next, and is taken
first_known : {table : Entities} {names : Texts} {walk : TagWalk} {body : List Placed} {errors : List ParseError} (at : ℕ) (run : List ℕ) {rest : List ℕ}
    {ch : ℕ} → chars run ≡ ch ∷ rest → IsInTag table names walk body (next_at at run 0) errors
    → IsInTag table names walk body (record { ch = ch; at = at } ∷ []) errors
first_known at run {rest} {ch} is h = rw (next_first at run rest ch is) at h

module _ {table : Entities} {before after : Texts} {at : ℕ} {run rest : List ℕ} {old new : TagWalk} {errors later : List ParseError} {ch : ℕ}
    (is : chars run ≡ ch ∷ rest) where
  pub first_front : {count : ℕ} {ended : Bool} → count ≡ len_utf8 ch → IsUtf8 run → Grows before after → new.kind ≡ old.kind
      → ((body : List Placed) → IsInTag table before old body (record { ch = ch; at = at } ∷ []) errors
      → WholeOrNot ended table after new (body ++ record { ch = ch; at = at } ∷ []) later)
      → TakesFront table before after at run old errors (Ok (count, ended)) new later
  first_front {count} {ended} long u grows kind takes = record {
    cut = subst (λ (n : ℕ). IsCut n run) (sym long) (first_cut run u ch rest is);
    takes = λ body h.
        transport (λ t. EndsOrNot ended table after new (body ++ (first_char run u ch rest is at ∙ (λ i. placed at (chars (take (sym long i) run)))) t)
        (next_at at run count) later) (ahead body ended (takes body (first_known at run is h)));
    grows = grows;
    kind = kind;
  } where
    ahead : (body : List Placed) (b : Bool) → WholeOrNot b table after new (body ++ record { ch = ch; at = at } ∷ []) later
        → EndsOrNot b table after new (body ++ record { ch = ch; at = at } ∷ []) (next_at at run count) later
    ahead body true it = it
    ahead body false it = looks_further it (next_at at run count)

  pub first_refused : {e : Refusal} → Grows before after
      → ((body : List Placed) → IsInTag table before old body (record { ch = ch; at = at } ∷ []) errors → e ≡ Memory)
      → TakesFront table before after at run old errors (Err e) new later
  first_refused grows none = record { cut = tt; takes = λ body h. none body (first_known at run is h); grows = grows; kind = tt }

-- the tag's name goes on
pub words_in_name : {table : Entities} {names : Texts} {walk new : TagWalk} {body ahead : List Placed} {errors : List ParseError}
    → IsInTag table names walk body ahead errors → walk.phase ≡ phase.TagName → new.phase ≡ walk.phase → new.seen ≡ walk.seen → new.attrs ≡ walk.attrs
    → new.any ≡ walk.any → (at count : ℕ) (run : List ℕ) → count ≤ length run → list_all is_word_byte (take count run) ≡ true
    → string_bytes new.name ≡ string_bytes walk.name ++ take count run
    → IsInTag table names new (body ++ placed at (chars (take count run))) (next_at at run count) errors
words_in_name {table} {names} {walk} {new} {body} {errors = errors} h before same seen attrs any at count run few are bytes = let words = take count run in
    let text : chars words ≡ words = ascii_taken count run few (all_weaker is_word_byte is_ascii word_ascii words are) in
    subst (λ (x : List ℕ). IsInTag table names new (body ++ placed at x) (next_at at run count) errors) (sym text) (looks_further
    (name_grows h before (placed at words) same seen attrs any (bytes ∙ ap (λ (x : List ℕ). string_bytes walk.name ++ x) (sym (word_bytes at words are)))
    (sym (append-nil errors) ∙ ap (λ (x : List ParseError). errors ++ x) (sym (word_nulls at words are)))
    (all_placed _ at words (all_weaker is_word_byte _ word_in_name words are))) (next_at at run count))
