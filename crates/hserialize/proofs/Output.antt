-- Writes one after another.
use Rattle.hserialize.proofs.Names.{◌≡◌, ℕ, List, [], ◌∷◌, ◌++◌, Option, Some, Result, Ok, Err, refl, sym, ap, subst, ◌∙◌, length, drop, get_or, drop-cons, add-one, ◌+◌, ◌<◌, flat_map, IsErrAnd, Appends, Appends-trans, What, what_is, Refusal, Write, counted, Taken, AddsBytes, Fails, Puts, append_assoc, append-nil, Bor, ◌≢◌, IfErr, OnErr, OnOk, Appends-nil, counted_by_result, AppendsBeginning, NodeView}

-- The known bytes grew by a beginning of these bytes, and the others are left; no call has failed.
abbrev pub HasLeft : Taken → Taken → (bytes left : List ℕ) → Type 0
HasLeft old new bytes left = (done : List ℕ) × (bytes ≡ done ++ left) × AddsBytes old new done

-- the bytes of some parts
abbrev pub all_parts : List (Bor (List ℕ)) → List ℕ
all_parts parts = flat_map (λ (p : Bor (List ℕ)). p.now) parts

pub none_added : (old : Taken) → AddsBytes old old []
none_added old = record { name = refl; done = []; split = append-nil old.held; appended = Appends-nil old.bytes; unfailed = refl }

pub none_put : (old : Taken) (bytes : List ℕ) → HasLeft old old bytes bytes
none_put old bytes = ([], refl, none_added old)

not_nil : (xs ys : List ℕ) → xs ≢ [] → xs ++ ys ≢ []
not_nil [] ys h e = h refl
not_nil (x ∷ xs) ys h e = cc

-- what was held, and what comes after it, where a first part of that was added
moved : (held first done held' part : List ℕ) → held ++ first ≡ done ++ held' → held ++ (first ++ part) ≡ done ++ (held' ++ part)
moved held first done held' part e = sym (append_assoc held first part) ∙ ap (λ l. l ++ part) e ∙ append_assoc done held' part

-- two parts
pub both_added : (old mid new : Taken) (first part : List ℕ) → AddsBytes old mid first → AddsBytes mid new part → AddsBytes old new (first ++ part)
both_added old mid new first part h k = record {
  name = k.name ∙ h.name;
  done = h.done ++ k.done;
  split = moved old.held first h.done mid.held part h.split ∙ ap (λ l. h.done ++ l) k.split ∙ sym (append_assoc h.done k.done new.held);
  appended = Appends-trans old.bytes mid.bytes new.bytes h.done k.done h.appended k.appended;
  unfailed = k.unfailed ∙ h.unfailed;
}

-- a part, and then one of which a write failed
pub then_failed : (old mid new : Taken) (first part rest : List ℕ) {e : Refusal} → AddsBytes old mid first → Fails e mid new part
    → Fails e old new (first ++ (part ++ rest))
then_failed old mid new first part rest h k = let (done, other, split, more, appended) = k.beginning in
    record {
      why = k.why;
      name = k.name ∙ h.name;
      beginning = (
        h.done ++ done,
        other ++ rest,
        moved old.held first h.done mid.held (part ++ rest) h.split
            ∙ ap (λ l. h.done ++ l) (sym (append_assoc mid.held part rest) ∙ ap (λ l. l ++ rest) split ∙ append_assoc done other rest)
            ∙ sym (append_assoc h.done done (other ++ rest)),
        not_nil other rest more,
        Appends-trans old.bytes mid.bytes new.bytes h.done done h.appended appended,
      );
      failed = k.failed ∙ ap counted h.unfailed;
    }

-- one part more
pub part_put : (old mid new : Taken) (bytes left part rest : List ℕ) → HasLeft old mid bytes left → left ≡ part ++ rest → AddsBytes mid new part
    → HasLeft old new bytes rest
part_put old mid new bytes left part rest (done, split, added) is more =
    (done ++ part, split ∙ ap (λ l. done ++ l) is ∙ sym (append_assoc done part rest), both_added old mid new done part added more)

-- a part of which a write failed
pub part_failed : (old mid new : Taken) (bytes left part rest : List ℕ) {e : Refusal} → HasLeft old mid bytes left → left ≡ part ++ rest → Fails e mid new part
    → Fails e old new bytes
part_failed old mid new bytes left part rest {e} (done, split, added) is failed =
    subst (Fails e old new) (sym (split ∙ ap (λ l. done ++ l) is)) (then_failed old mid new done part rest added failed)

-- nothing is left
pub all_put : (old new : Taken) (bytes left : List ℕ) → HasLeft old new bytes left → left ≡ [] → AddsBytes old new bytes
all_put old new bytes left (done, split, added) empty = subst (AddsBytes old new) (sym (split ∙ ap (λ l. done ++ l) empty ∙ append-nil done)) added

-- the last part
pub last_put : (old mid new : Taken) (bytes left part : List ℕ) (r : Result (Unit {0}) Refusal) → HasLeft old mid bytes left → left ≡ part → Puts mid new part r
    → Puts old new bytes r
last_put old mid new bytes left part (Ok _) before is more =
    all_put old new bytes [] (part_put old mid new bytes left part [] before (is ∙ sym (append-nil part)) more) refl
last_put old mid new bytes left part (Err _) before is more = part_failed old mid new bytes left part [] before (is ∙ sym (append-nil part)) more

-- an error that is passed on
pub passed_on : {e : Refusal} (old new : Taken) (bytes : List ℕ) (r : Result (Unit {0}) Refusal) → IsErrAnd r (λ y. y ≡ e) → Fails e old new bytes
    → Puts old new bytes r
passed_on old new bytes (Ok _) is h = absurd is
passed_on old new bytes (Err y) is h = record { why = is ∙ h.why; name = h.name; beginning = h.beginning; failed = h.failed }

-- a first part of which a write failed
pub first_failed : {e : Refusal} (old new : Taken) (bytes part rest : List ℕ) (r : Result (Unit {0}) Refusal) → IsErrAnd r (λ y. y ≡ e) → bytes ≡ part ++ rest
    → Fails e old new part → Puts old new bytes r
first_failed old new bytes part rest r is split h = passed_on old new bytes r is (part_failed old old new bytes bytes part rest (none_put old bytes) split h)

-- a first part, and what comes of the rest
pub then_put : (old mid new : Taken) (bytes part rest : List ℕ) (r : Result (Unit {0}) Refusal) → bytes ≡ part ++ rest → AddsBytes old mid part
    → Puts mid new rest r → Puts old new bytes r
then_put old mid new bytes part rest r split h more =
    last_put old mid new bytes rest rest r (part_put old old mid bytes bytes part rest (none_put old bytes) split h) refl more

-- a call failed before what was held was handed over
pub not_handed : (old new : Taken) (lent : List ℕ) {e : Refusal} → lent ≡ old.held → new.name ≡ old.name → e ≡ Write → AppendsBeginning old.bytes new.bytes lent
    → new.failures ≡ counted old.failures → Fails e old new []
not_handed old new lent same name why beginning count = record
    { why = why; name = name; beginning = subst (AppendsBeginning old.bytes new.bytes) (same ∙ sym (append-nil old.held)) beginning; failed = count }

-- bytes were handed over while none were held
pub passed_over : (old new : Taken) (bytes : List ℕ) (r : Result (Unit {0}) Refusal) → old.held ≡ [] → new.held ≡ [] → new.name ≡ old.name
    → new.failures ≡ counted_by_result old.failures r → OnOk r (Appends old.bytes new.bytes bytes) → IfErr r (λ refusal. refusal ≡ Write)
    → OnErr r (AppendsBeginning old.bytes new.bytes bytes) → Puts old new bytes r
passed_over old new bytes (Ok _) none none' name count all why beginning = record {
  name = name;
  done = bytes;
  split = ap (λ l. l ++ bytes) none ∙ sym (append-nil bytes) ∙ ap (λ l. bytes ++ l) (sym none');
  appended = all;
  unfailed = count;
}
passed_over old new bytes (Err e) none none' name count all why beginning = record
    { why = why; name = name; beginning = subst (AppendsBeginning old.bytes new.bytes) (ap (λ l. l ++ bytes) (sym none)) beginning; failed = count }

-- what is written from an index on, by the first of it
pub next_lines : {A : Type 0} (f : A → List ℕ) (xs : List A) (i : ℕ) (d : A) → i < length xs
    → flat_map f (drop i xs) ≡ f (get_or xs i d) ++ flat_map f (drop (i + 1) xs)
next_lines f xs i d h = ap (flat_map f) (drop-cons xs i d h ∙ (λ k. get_or xs i d ∷ drop (sym (add-one i) k) xs))

-- a text between bytes, as it is lent
pub between : (before lent text after : List ℕ) → lent ≡ text → before ++ (lent ++ (after ++ [])) ≡ before ++ text ++ after
between before lent text after same =
    ap (λ t. before ++ (lent ++ t)) (append-nil after) ∙ ap (λ t. before ++ (t ++ after)) same ∙ sym (append_assoc before text after)

-- what was put for what a node is was put for the node
pub put_for : (old new : Taken) (bytes : Option (What ℕ) → List ℕ) (r : Result (Unit {0}) Refusal) (at n : NodeView) (o : Option (What ℕ)) → at ≡ n
    → Some (what_is at) ≡ o → Puts old new (bytes (Some (what_is n))) r → Puts old new (bytes o) r
put_for old new bytes r at n o is of put = subst (λ w. Puts old new (bytes w) r) (sym (ap (λ m. Some (what_is m)) is) ∙ of) put
