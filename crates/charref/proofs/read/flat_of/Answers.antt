use Rattle.charref.proofs.Names.{rules, [], ◌∷◌, ◌++◌, sym, ap, ◌∙◌, subst, Entities, entry_of_json, IsRefusedWith, flat_entry, view, err_from_is_err_and, arith}
use Rattle.charref.proofs.Forms.{flat_more}
use Rattle.charref.proofs.Members.{Pair, HasReadMembers, read_member, read_refused, read_all, readable_table}
use Rattle.charref.proofs.read.flat_of.Goals as goal

pub loop-key-preserved : goal.loop-key-preserved
loop-key-preserved c = let l = c.loop-key in let pair : Pair = (c.in-Some.key.now, c.in-Some.value.now) in let added = c.in_ok-add_entry.ensures.ok in (
  l.invariant.0 ++ added.0 ∷ [],
  read_member c.args.members.now.entries c.next.new.self pair l.invariant.0 added.0
      (subst (λ rest. HasReadMembers c.args.members.now.entries rest l.invariant.0) c.in-Some.ensures.steps l.invariant.1)
      (ap (λ k. entry_of_json k (view c.in-Some.value.now)) (sym c.as_str.ensures.value) ∙ added.1) (added.2 ∙ c.as_str.ensures.value) added.3,
  added.4 ∙ ap (λ bs. bs ++ flat_entry added.0) l.invariant.2 ∙ flat_more l.invariant.0 added.0,
)

pub returns-clause-ok : goal.returns-clause-ok
returns-clause-ok c = let l = c.loop-key in let entries = c.args.members.now.entries in
    let read : HasReadMembers entries [] l.invariant.0 = subst (λ rest. HasReadMembers entries rest l.invariant.0) c.in-None.ensures.steps.0 l.invariant.1 in
    (l.invariant.0, read_all entries l.invariant.0 read, readable_table entries l.invariant.0 (search rules) read, sym l.invariant.2)

pub returns-in_err-add_entry-clause-err : goal.returns-in_err-add_entry-clause-err
returns-in_err-add_entry-clause-err c = let table : Entities = c.loop-key.invariant.0 in let pair : Pair = (c.in-Some.key.now, c.in-Some.value.now) in
    let p = err_from_is_err_and c.from_residual-in_err-add_entry.result c.from_residual-in_err-add_entry.ensures.1 in
    rw (p.1, p.2) (read_refused c.args.members.now.entries c.next.new.self pair table c.in_err-add_entry.field-0.0
    (subst (λ rest. HasReadMembers c.args.members.now.entries rest table) c.in-Some.ensures.steps c.loop-key.invariant.1) (subst
    (λ k. IsRefusedWith (entry_of_json k (view c.in-Some.value.now)) c.in_err-add_entry.field-0.0) c.as_str.ensures.value c.in_err-add_entry.ensures.err))

pub loop-key-init : goal.loop-key-init
loop-key-init c = grind arith
