use Rattle.charref.proofs.Names.{true≢false, refl, in_name}
use Rattle.charref.proofs.walk.Walk.new.Goals as goal

pub returns-clause-taken : goal.returns-clause-taken
returns-clause-taken c = record { table_is = refl; in_value_is = refl; held = in_name _ _ c.after_ampersand.ensures.read refl (λ p q. absurd (true≢false q)) }
