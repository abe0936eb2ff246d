use Rattle.hserialize.proofs.Names.{◌≡◌, ◌∙◌, Bool, Tag, Around, Content, Role, ap, cond, false, is_phrasing, marked, refl, row, sym}
use Rattle.hserialize.specs.declared.content.Content.TheVariants as content
use Rattle.names.specs.declared.tag.Tag.TheVariants as tag
use Rattle.hserialize.proofs.around.Around.marked.Goals as goal
use Rattle.hserialize.proofs.around.Around.marked.Goals.{in-Phrasing, in_default-matches}

other : (t : Tag) (inside : Bool) (a : Around) → (t ≡ tag.A → ⊥) → (t ≡ tag.Button → ⊥)
    → marked t inside a ≡ cond (is_phrasing (row t).1) (record a { in_phrasing = inside }) a
other tag.A inside a h k = absurd (h refl)
other tag.Button inside a h k = absurd (k refl)
other _ inside a h k = refl

chosen : (t : Tag) (inside : Bool) (a : Around) → (t ≡ tag.A → ⊥) → (t ≡ tag.Button → ⊥) → {r : Role × Content} → r ≡ row t
    → {m b : Bool} → m ≡ b → is_phrasing r.1 ≡ m → cond b (record a { in_phrasing = inside }) a ≡ marked t inside a
chosen t inside a h k at_row branch is =
    ap (λ m. cond m (record a { in_phrasing = inside }) a) (sym branch ∙ sym is ∙ ap (λ r. is_phrasing r.1) at_row) ∙ sym (other t inside a h k)

not_phrasing : (c : Content) → (c ≡ content.Phrasing → ⊥) → is_phrasing c ≡ false
not_phrasing content.Phrasing h = absurd (h refl)
not_phrasing _ h = refl

pub returns-else-matches : goal.returns-else-matches
returns-else-matches c =
    chosen c.args.tag c.args.inside c.args.self c.in_default.not-A c.in_default.not-Button c.row.ensures c.if-matches.false (elim c.match-matches.branch [
      | in-Phrasing w ↦ ap is_phrasing w.in-Phrasing.is ∙ sym w.matches-is
      | in_default-matches w ↦ not_phrasing _ w.in_default-matches.not-Phrasing ∙ sym w.matches-is
    ])

pub returns-in_default : goal.returns-in_default
returns-in_default c =
    chosen c.args.tag c.args.inside c.args.self c.in_default.not-A c.in_default.not-Button c.row.ensures c.if-matches.true (elim c.match-matches.branch [
      | in-Phrasing w ↦ ap is_phrasing w.in-Phrasing.is ∙ sym w.matches-is
      | in_default-matches w ↦ not_phrasing _ w.in_default-matches.not-Phrasing ∙ sym w.matches-is
    ])
