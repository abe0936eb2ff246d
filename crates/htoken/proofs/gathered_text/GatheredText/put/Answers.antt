use Rattle.htoken.proofs.Names.{◌+◌, ◌-◌, length, ap, sym, subst, arith, IsUtf8-had, IsUtf8-append}
use Rattle.std.proofs.Common.{IsUtf8}
use Rattle.htoken.proofs.Gathering.{written}
use Rattle.htoken.proofs.gathered_text.GatheredText.put.Goals as goal

pub invariant_of-self : goal.invariant_of-self
invariant_of-self c = (c.make_room.ensures.within, ∣ subst IsUtf8 (sym c.make_room.ensures.kept) (IsUtf8-had _ c.self.invariant.1) ∣₁)

pub returns-in_err-make_room-clause-utf8 : goal.returns-in_err-make_room-clause-utf8
returns-in_err-make_room-clause-utf8 c = subst IsUtf8 (sym c.make_room.ensures.kept) (IsUtf8-had _ c.self.invariant.1)

pub invariant_of-self-2 : goal.invariant_of-self-2
invariant_of-self-2 c =
    let put = written c.make_room.new.bytes c.self.inside.len (c.self.inside.len + length c.args.bytes.now - c.self.inside.len) c.args.count
    c.self.inside.bytes.items c.deref_mut.result.now c.copy_from_slice.new.self c.args.bytes.now c.deref_mut.ensures.len
    (omega (arith, c.in_ok-make_room.ensures.room, ap length c.deref_mut.ensures.value)) c.deref_mut.ensures.value c.make_room.ensures.kept
    c.copy_from_slice.ensures.after (omega arith) (omega (arith, c.requires.few)) in
    (put.0, ∣ subst IsUtf8 (sym put.1) (IsUtf8-append _ _ (IsUtf8-had _ c.self.invariant.1) c.requires.utf8) ∣₁)

pub returns-clause-text : goal.returns-clause-text
returns-clause-text c =
    let put = written c.make_room.new.bytes c.self.inside.len (c.self.inside.len + length c.args.bytes.now - c.self.inside.len) c.args.count
    c.self.inside.bytes.items c.deref_mut.result.now c.copy_from_slice.new.self c.args.bytes.now c.deref_mut.ensures.len
    (omega (arith, c.in_ok-make_room.ensures.room, ap length c.deref_mut.ensures.value)) c.deref_mut.ensures.value c.make_room.ensures.kept
    c.copy_from_slice.ensures.after (omega arith) (omega (arith, c.requires.few)) in
    cc (put.1, c.self.view_is)

pub returns-clause-utf8 : goal.returns-clause-utf8
returns-clause-utf8 c =
    let put = written c.make_room.new.bytes c.self.inside.len (c.self.inside.len + length c.args.bytes.now - c.self.inside.len) c.args.count
    c.self.inside.bytes.items c.deref_mut.result.now c.copy_from_slice.new.self c.args.bytes.now c.deref_mut.ensures.len
    (omega (arith, c.in_ok-make_room.ensures.room, ap length c.deref_mut.ensures.value)) c.deref_mut.ensures.value c.make_room.ensures.kept
    c.copy_from_slice.ensures.after (omega arith) (omega (arith, c.requires.few)) in
    subst IsUtf8 (sym put.1) (IsUtf8-append _ _ (IsUtf8-had _ c.self.invariant.1) c.requires.utf8)
