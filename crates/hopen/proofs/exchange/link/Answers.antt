use Rattle.hopen.proofs.Names.{ap, map-set, map-set_same, opened_by, same_name_of, same_node_of, sets_at, kept_kind_at}
use Rattle.hopen.proofs.exchange.link.Goals as goal

pub returns-clause-same_names : goal.returns-clause-same_names
returns-clause-same_names c = map-set same_name_of c.args.items.now c.args.index _

pub returns-clause-rest : goal.returns-clause-rest
returns-clause-rest c = let items = c.args.items.now in let i = c.args.index in let x = c.index-items-index.result in let is = c.index-items-index.is in
    record {
      opened = map-set_same opened_by items i _ x (ap opened_by is);
      same_nodes = map-set_same same_node_of items i _ x (ap same_node_of is);
      sets = map-set_same sets_at items i _ x (ap sets_at is);
      kinds = map-set_same kept_kind_at items i _ x (ap kept_kind_at is);
    }
