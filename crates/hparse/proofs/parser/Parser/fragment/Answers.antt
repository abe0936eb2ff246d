use Rattle.hparse.proofs.Names.{◌≡◌, [], true, ap, sym, ◌∙◌, subst, tag_named, RawKind, Building, BuilderWithOrigins, HasRead, Began, fragment, BeginsIn, a_fragment, takes_item_with_origins, options_of, raw_kind, is_context, makings_if, arith}
use Rattle.htoken.specs.declared.token.Start.TheVariants as start
use Rattle.hparse.proofs.parser.Parser.fragment.Goals as goal

pub returns : goal.returns
returns c = let begun = c.in_ok-begun.ensures in let e = begun.builder_is ∙ c.in_ok-builder.ensures in
    let allowed : is_context c.args.context.now ≡ true = sym c.if-not-is_context.ensures in
    let kind : c.raw_kind.result ≡ raw_kind (tag_named c.args.context.now) = c.raw_kind.ensures ∙ ap raw_kind (c.tag.ensures ∙ c.in_ok-name.ensures.tag) in
    let began : Began BuilderWithOrigins = record { names = c.intern.new.self; sink = begun.sink } in (
      allowed,
      record {
        accepts = begun.accepts;
        began = began;
        unrefused = ap (λ (b : Building). b.refused) e;
        none_told = ap (λ (b : Building). b.tokenizer_errors) e;
        root_is = ap (λ (b : Building). b.root) e;
        begins = subst (λ (b : Building). BeginsIn (options_of c.args.options.now) began.names (fragment c.args.context.now) b.state) (sym e)
            (a_fragment c.args.context.now c.in_ok-name.name c.in_ok-name.ensures.number);
        places = begun.places ∙ ap (λ (b : Building). makings_if c.args.options.now.places b.state) (sym begun.builder_is);
        has_read = subst (λ (k : RawKind). HasRead takes_item_with_origins (record
            { table = c.args.options.now.table.now; start = start.Context k; bad = c.args.options.now.bad_bytes; limit = c.args.options.now.limits.input })
            began c.in_ok-begun.field-0.reading.value []) kind begun.has_read;
      },
    )

pub returns-in_err-begun : goal.returns-in_err-begun
returns-in_err-begun c = grind arith

pub returns-in_err-builder : goal.returns-in_err-builder
returns-in_err-builder c = grind arith

pub returns-in_err-name : goal.returns-in_err-name
returns-in_err-name c = grind arith
