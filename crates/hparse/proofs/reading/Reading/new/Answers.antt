use Rattle.hparse.proofs.Names.{[], refl, ap, sym, ◌∙◌, items, nothing_settled, bom_of}
use Rattle.hparse.proofs.Handing.{handed_none}
use Rattle.hparse.proofs.reading.Reading.new.Goals as goal

pub returns : goal.returns
returns g c = record {
  fits = rw (← c.input.ensures.value) c.input.ensures.most;
  how_is = c.new.ensures.how ∙ rw (c.bom.ensures, c.input.ensures.value) refl;
  fed = c.new.ensures.fed;
  holds = record {
    fed = [];
    items_are = ap items (sym (nothing_settled (bom_of c.args.start) c.args.options.now.bad_bytes c.args.options.now.limits.input));
    was_fed = record { taken = []; has_taken = c.new-2.ensures.taken c.args.names; handed = handed_none _; unstopped = refl };
  };
  all_fed = refl;
  is_table = c.new-2.ensures.table;
  are_names = c.are_names.ensures.names;
}
