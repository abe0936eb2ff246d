use Rattle.hparse.proofs.Names.{◌∙◌, ap, sym, subst, Building, document, BeginsIn, a_document, options_of, makings_if}
use Rattle.hparse.proofs.parser.Parser.document.Goals as goal

pub returns : goal.returns
returns c = let begun = c.in_ok-begun.ensures in let e = begun.builder_is ∙ c.in_ok-builder.ensures in
    record {
      accepts = begun.accepts;
      began = record { names = c.new-names.result; sink = begun.sink };
      unrefused = ap (λ (b : Building). b.refused) e;
      none_told = ap (λ (b : Building). b.tokenizer_errors) e;
      root_is = ap (λ (b : Building). b.root) e;
      begins = subst (λ (b : Building). BeginsIn (options_of c.args.options.now) c.new-names.result document b.state) (sym e) a_document;
      places = begun.places ∙ ap (λ (b : Building). makings_if c.args.options.now.places b.state) (sym begun.builder_is);
      has_read = begun.has_read;
    }
