use Rattle.names.proofs.Vocabulary.{◌≡◌, false, ℕ, ◌+◌, ◌++◌, ◌∷◌, [], map, sym, ◌∙◌, ap, string_bytes, subst, arith, length, slice_get_within, List, String, Some, slice_get, position, bytes_eq, list_any, AreOthers, Texts, known, keys, keys_of, length-keys_of, Global}
use Rattle.names.proofs.TableLemmas.{interned-there, interned-last, number_from_position, slice_get-after, table_length, table_grown, others_grown, grown}
use Rattle.names.proofs.table.Names.number_of.Goals as goal

there : (c : goal.In-Some) → slice_get c.args.self.now c.in-Some.id ≡ Some c.args.text.now
there c = number_from_position c.args.self.now c.in-Some.id c.args.text.now (sym c.in-Some.ensures.place)

pub returns-in-Some-clause-number : goal.returns-in-Some-clause-number
returns-in-Some-clause-number c = there c

pub returns-in-Some-clause-added : goal.returns-in-Some-clause-added
returns-in-Some-clause-added c =
    interned-there c.args.self.now c.in-Some.id c.args.text.now (slice_get_within c.args.self.now c.in-Some.id c.args.text.now (there c))

pub invariant_of-self-in_err-insert : goal.invariant_of-self-in_err-insert
invariant_of-self-in_err-insert c = (
  subst (λ (keys : List (String Global)). AreOthers keys) (sym (ap keys_of c.in_err-insert.ensures.err)) c.self.invariant.0,
  c.insert.ensures.hasher ∙ c.self.invariant.1,
)

-- the text is no known name, and its key comes last
grown_keys : (c : goal.In_ok-insert) → (list_any (bytes_eq (string_bytes c.in_ok-from_str.field-0)) known ≡ false)
    × (keys c.insert.new.self ≡ keys c.self.inside.others ++ c.in_ok-from_str.field-0 ∷ [])
grown_keys c = grown c.self.inside.others c.insert.new.self c.in_ok-from_str.field-0
    (ap (λ (x : List ℕ). position (bytes_eq x) (known ++ map string_bytes (keys c.self.inside.others))) c.in_ok-from_str.ensures.ok
    ∙ ap (position (bytes_eq c.args.text.now)) c.self.view_is ∙ sym c.in_default.ensures.place) c.in_ok-insert.ensures.entries

-- how many there were
number : (c : goal.In_ok-insert) → c.in-Ok.index ≡ length known + length (keys c.self.inside.others)
number c = c.in-Ok.ensures.1 ∙ ap (λ n. length known + n) (c.len.ensures.len ∙ sym (length-keys_of c.self.inside.others.entries))

count : (c : goal.In_ok-insert) → length c.args.self.now ≡ c.in-Ok.index
count c = table_length (keys c.self.inside.others) c.args.self.now c.self.view_is ∙ sym (number c)

grown_table : (c : goal.In_ok-insert) → known ++ map string_bytes (keys c.insert.new.self) ≡ c.args.self.now ++ c.args.text.now ∷ []
grown_table c = table_grown (keys c.self.inside.others) _ _ c.args.self.now c.self.view_is (grown_keys c).1
    ∙ ap (λ (x : List ℕ). c.args.self.now ++ x ∷ []) c.in_ok-from_str.ensures.ok

pub invariant_of-self-2 : goal.invariant_of-self-2
invariant_of-self-2 c = (
  others_grown (keys c.self.inside.others) _ _ c.self.invariant.0 (let fits = c.in-Ok.ensures in omega (arith, fits, number c)) (grown_keys c).0
      c.insert.ensures.unique (grown_keys c).1,
  c.insert.ensures.hasher ∙ c.self.invariant.1,
)

pub returns-clause-added : goal.returns-clause-added
returns-clause-added c = grown_table c ∙ sym (interned-last c.args.self.now c.in-Ok.index c.args.text.now (omega (arith, count c)))

pub returns-clause-number : goal.returns-clause-number
returns-clause-number c = let last : c.in-Ok.index ≡ length c.args.self.now + 0 = omega (arith, count c) in
    ap (λ (x : Texts). slice_get x c.in-Ok.index) (grown_table c) ∙ ap (slice_get (c.args.self.now ++ c.args.text.now ∷ [])) last
    ∙ slice_get-after c.args.self.now (c.args.text.now ∷ []) 0
