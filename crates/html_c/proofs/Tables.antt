-- Tables of character references, by what says them.
use Rattle.html_c.proofs.Names.{◌≡◌, ◌∙◌, ℕ, List, Result, Ok, Err, inl, inr, ap, length, refl, rules, subst, sym, Refusal, table_of_json, ReadsQuirks, ParseOptions, AllowsContext, IsPieceSize, Tells, context_told, ReadsTableBytes, Given, ◌↔◌, nat_le, TableFault, MAX_INPUT, flat_of, IsReadable, IsRefusedWith, Entities, AreLimits, AreSameButTables, bad_told, put_over, room_answer, AnswersTable, Core, Flat, IsTableOf, Json, TableForm, table_form, table_answered, table_read, table_ran_out, no_flat, no_json, no_text, Answer}
use Rattle.html_c.specs.declared.fault.CallFault.TheVariants as fault

-- a JSON text is refused for its first fault
refused_json : (bytes : List ℕ) (e : Refusal) (read : Result Entities TableFault) → table_of_json bytes ≡ read → table_form bytes ≡ Json → IsRefusedWith read e
    → ReadsTableBytes bytes (Err (fault.Refused e))
refused_json bytes e (Ok table) read is memory = table_ran_out (ap (λ (x : Refusal). Err (fault.Refused x)) memory)
refused_json bytes e (Err cause) read is (inl memory) = table_ran_out (ap (λ (x : Refusal). Err (fault.Refused x)) memory)
refused_json bytes e (Err cause) read is (inr its) = no_json cause is read (ap (λ (x : Refusal). Err (fault.Refused x)) its)

pub json_refused : {bytes text : List ℕ} {e : Refusal} → table_form bytes ≡ Json → text ≡ bytes → IsRefusedWith (table_of_json text) e
    → ReadsTableBytes bytes (Err (fault.Refused e))
json_refused {bytes} {e = e} is same refused = refused_json bytes e (table_of_json bytes) refl is (subst (λ t. IsRefusedWith (table_of_json t) e) same refused)

-- the table of a form is what is read
pub table_is : {bytes : List ℕ} {table : Entities} (f : TableForm) → table_form bytes ≡ f → IsTableOf f bytes table → ReadsTableBytes bytes (Ok table)
table_is {bytes} {table} f is its = table_read table (subst (λ (x : TableForm). IsTableOf x bytes table) (sym is) its) refl

-- with the bytes that are its flat form
pub answered : {bytes old new flat : List ℕ} {answer : Answer} {table : Entities} → ReadsTableBytes bytes (Ok table) → IsReadable table → flat ≡ flat_of table
    → new ≡ put_over (nat_le (length flat) (length old)) flat old → answer ≡ room_answer (nat_le (length flat) (length old)) (length flat) 0
    → AnswersTable bytes old new answer
answered {old = old} {new} {answer = answer} {table} read readable is put its =
    table_answered table read readable (subst (λ t. new ≡ put_over (nat_le (length t) (length old)) t old) is put)
    (subst (λ t. answer ≡ room_answer (nat_le (length t) (length old)) (length t) 0) is its)

said : (bytes : List ℕ) (table : Entities) → ReadsTableBytes bytes (Ok table) → IsTableOf (table_form bytes) bytes table
said bytes table (table_read other is same) = let one : table ≡ other = cc in rw one is
said bytes table (table_ran_out same) = absurd cc
said bytes table (no_flat is none same) = absurd cc
said bytes table (no_json cause is its same) = absurd cc
said bytes table (no_text is none same) = absurd cc

told : (given other : Given) (opts : ParseOptions) → AreSameButTables given other → ReadsTableBytes other.entities.now (Ok opts.table) → Tells given opts
    → Tells other opts
told given other opts same read t = record {
  size = sym same.size ∙ t.size;
  context = subst (λ c. AllowsContext (context_told c)) same.context t.context;
  piece = subst IsPieceSize same.piece t.piece;
  table = read;
  quirks = subst (λ q. ReadsQuirks q (Ok opts.quirks)) same.quirks t.quirks;
  bad_bytes = ap bad_told (sym same.bad_bytes) ∙ t.bad_bytes;
  input_limit = t.input_limit;
  limits = t.limits ∙ (λ i. record { nodes = same.nodes i; depth = same.depth i });
  in_range = subst AreLimits (λ i. record { input = MAX_INPUT; tree = record { nodes = same.nodes i; depth = same.depth i } }) t.in_range;
}

flipped : (given other : Given) → AreSameButTables given other → AreSameButTables other given
flipped given other same = search (rules, sym)

module _ (one : (table other : Entities) → IsReadable table → IsReadable other → flat_of table ≡ flat_of other → table ≡ other) where
  one_of : (f : TableForm) (bytes : List ℕ) (table other : Entities) → IsTableOf f bytes table → IsTableOf f bytes other → table ≡ other
  one_of Core bytes table other is its = is ∙ sym its
  one_of Flat bytes table other (readable, is) (its, same) = one table other readable its (is ∙ sym same)
  one_of Json bytes table other is its = let whole = sym is ∙ its in cc

  one_read : (bytes : List ℕ) (table other : Entities) → ReadsTableBytes bytes (Ok table) → ReadsTableBytes bytes (Ok other) → table ≡ other
  one_read bytes table other read its = one_of (table_form bytes) bytes table other (said bytes table read) (said bytes other its)

  -- with the flat form in the place of other bytes of a table the options are the same
  pub same_told : (given flat : Given) (table : Entities) (opts : ParseOptions) → ReadsTableBytes given.entities.now (Ok table) → IsReadable table
      → flat.entities.now ≡ flat_of table → AreSameButTables given flat → Tells given opts ↔ Tells flat opts
  same_told given flat table opts read readable is same =
      let its = subst (λ bs. ReadsTableBytes bs (Ok table)) (sym is) (table_is Flat refl (readable, refl)) in (
        λ t. told given flat opts same
            (subst (λ (x : Entities). ReadsTableBytes flat.entities.now (Ok x)) (one_read given.entities.now table opts.table read t.table) its) t,
        λ t. told flat given opts (flipped given flat same)
            (subst (λ (x : Entities). ReadsTableBytes given.entities.now (Ok x)) (one_read flat.entities.now table opts.table its t.table) read) t,
      )
