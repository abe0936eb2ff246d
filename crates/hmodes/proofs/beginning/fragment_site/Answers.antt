use Rattle.hmodes.proofs.Vocabulary.{ℕ, arith, inl, inr, ap, ◌∙◌, length, nat_le, SiteOf, stack}
use Rattle.hmodes.proofs.Root.{above, fits}
use Rattle.hmodes.proofs.beginning.fragment_site.Goals as goal

pub returns-in-Err : goal.returns-in-Err
returns-in-Err c = let is = c.in_ok-site.ensures.site in
    elim c.in-Err.ensures.done [
      | inl m ↦ m
      | inr wrong ↦ absurd (fits _ _ _ _ c.in_ok-site.site _
          (ap (λ (s : SiteOf ℕ). nat_le s.nodes.limit s.nodes.made) is ∙ above 1 c.nodes.result (omega arith) c.nodes.ensures.some)
          (ap (λ (s : SiteOf ℕ). nat_le s.open_nodes.limit (length (stack s))) is ∙ above 0 c.depth.result (omega arith) c.depth.ensures.some) wrong)
    ]
