-- The open nodes as one value of a stored kind.
use Rattle.std.specs.Prelude.{ℕ, List, refl}
use Rattle.std.specs.Coded.{Coded, code_by, coded×, coded_ℕ, coded_list}
use Rattle.hopen.specs.Stack.{OpenNode, OpenNodes}

abbrev coded_open_node : Coded (OpenNode ℕ)
coded_open_node = code_by (ℕ × ℕ) (coded× coded_ℕ coded_ℕ) (λ x. (x.node, x.name)) (λ p. record { node = p.0; name = p.1 }) (λ _. refl)

abbrev pub coded_open_nodes : Coded (OpenNodes ℕ)
coded_open_nodes = code_by (ℕ × List (OpenNode ℕ)) (coded× coded_ℕ (coded_list coded_open_node)) (λ s. (s.limit, s.stack))
    (λ p. record { limit = p.0; stack = p.1 }) (λ _. refl)
