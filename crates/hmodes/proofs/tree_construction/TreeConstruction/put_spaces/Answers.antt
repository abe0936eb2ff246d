use Rattle.hmodes.proofs.Vocabulary.{◌≡◌, ◌∙◌, ℕ, List, [], sym, ap, subst, chars, characters, placed, slice_get, AreNodes, IsPlace, IsTextWithReferences, Place, Placed, Gives, each_of, put_each, Outcome, SiteOf, Flow, State, StateGives, with_control, with_site, state_of, encode_utf8_all, TreeConstruction, arith, common_steps}
use Rattle.hmodes.proofs.Flowing.{on-site}
use Rattle.hmodes.proofs.OnePut.{here}
use Rattle.hmodes.proofs.Pending.{each_put, put_one, starts, written}
use Rattle.hmodes.proofs.TextRun.{with_references_put}
use Rattle.hmodes.proofs.tree_construction.TreeConstruction.put_spaces.Goals as goal

pub returns : goal.returns
returns c = let t : TreeConstruction = c.args.self.now in let pending : List Placed = t.control.pending in let first : Placed = c.in-Some.first.now in
    let run : List ℕ = c.deref-3.result.now in
    let to : Place = c.place_in_current-place.result in
    let r = c.put_text.result in
    let x : SiteOf ℕ = c.put_text.new.self in
    let s : State ℕ = with_control (record t.control { pending = [] }) (state_of t) in
    let view = ap (λ (u : TreeConstruction). u.control.pending) c.self.view_is in
    let text : IsTextWithReferences pending run first.at = record {
      characters_are = sym (written pending c.requires.spaces run
          (c.deref-3.ensures ∙ c.in_ok-write.ensures ∙ ap (λ (l : List Placed). encode_utf8_all (characters l)) (c.deref-2.ensures.value ∙ view)));
      starts = starts pending first (c.in-Some.ensures.value ∙ ap (λ (l : List Placed). slice_get l 0) (c.deref.ensures.value ∙ view));
    } in
    let nodes : AreNodes t.site.nodes =
    subst (λ (u : TreeConstruction). AreNodes u.site.nodes) c.self.view_is (subst AreNodes c.tree.ensures c.are_nodes.ensures.nodes) in
    let within : IsPlace to t.site.nodes = subst (λ (u : TreeConstruction). IsPlace to u.site.nodes) c.self.view_is c.place_in_current-place.ensures.within in
    let place : to ≡ here t.site = c.place_in_current-place.ensures.place ∙ ap (λ (u : TreeConstruction). here u.site) c.self.view_is in
    let done : Gives r x (put_each (placed first.at (chars run)) to t.site) =
    subst (λ (u : TreeConstruction). Gives r x (put_each (placed first.at (chars run)) to u.site)) c.self.view_is c.put_text.ensures.done in
    let whole : Gives r x (put_each pending (here t.site) t.site) = subst (λ (p : Place). Gives r x (put_each pending p t.site)) place
    (subst (λ (o : Outcome (SiteOf ℕ)). Gives r x o) (with_references_put pending run first.at to t.site text nodes within) done) in
    subst (λ (w : State ℕ). StateGives r w (each_of put_one pending s)) (λ i.
    let u : TreeConstruction = sym c.self.view_is i in with_site x (with_control (record u.control { pending = sym c.clear.ensures.items i }) (state_of u)))
    (subst (λ (f : Flow ℕ). StateGives r (with_site x s) f) (sym (each_put pending s c.requires.unfostered))
    (on-site r x s (put_each pending (here t.site) t.site) whole))

pub returns-in_default : goal.returns-in_default
returns-in_default c = grind (arith, common_steps)
