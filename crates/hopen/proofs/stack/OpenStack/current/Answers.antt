use Rattle.hopen.proofs.Names.{◌≡◌, ℕ, ◌-◌, Some, length, ap, sym, ◌∙◌, current, slice_get, KeptNode, List, OpenNodes}
use Rattle.hopen.proofs.OpenLevels.{current-last}
use Rattle.hopen.proofs.stack.OpenStack.current.Goals as goal

pub returns : goal.returns
returns c = let items = c.self.inside.items.items in let x = c.in_ok-last.field-0.now in
    let there : slice_get items (length items - 1) ≡ Some x =
    ap (λ (l : List KeptNode). slice_get l (length l - 1)) (sym c.deref.ensures.value) ∙ sym c.in_ok-last.ensures.value in
    sym (current-last items x c.self.invariant.rests.ends there) ∙ ap (λ (n : OpenNodes ℕ). current n.stack) c.self.view_is
