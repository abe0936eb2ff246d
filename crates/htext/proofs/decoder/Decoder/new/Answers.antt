use Rattle.htext.proofs.Names.{ap, length, arith, refl}
use Rattle.htext.proofs.Advancing.{nothing_read, nothing_settled, nothing_decided}
use Rattle.htext.proofs.decoder.Decoder.new.Goals as goal

pub returns-clause-fed : goal.returns-clause-fed
returns-clause-fed c = record {
  front = nothing_read c.args.bom c.args.bad_bytes c.args.limit;
  undecoded = c.new.ensures.items;
  few = omega (arith, ap length c.new.ensures.items);
  undecided = nothing_decided c.args.bom c.args.bad_bytes c.args.limit;
  accepts = refl;
}

pub returns-clause-nothing : goal.returns-clause-nothing
returns-clause-nothing c = nothing_settled c.args.bom c.args.bad_bytes c.args.limit
