use Rattle.htoken.proofs.Names.{◌∙◌, [], refl, take, front_of, ascii_cut, edge_of, named_alone, named_plain, named_within, rules}
use Rattle.htoken.proofs.Fronts.{plain_ascii}
use Rattle.htoken.proofs.tokenizer.Tokenizer.begin_start_tag.Goals as goal

pub returns : goal.returns
returns c = let run = c.args.run.now.text.now in let size = c.args.size in let part_is = c.range.ensures.value ∙ front_of size run in (
  refl,
  record {
    named = c.requires.named;
    then = refl;
    kind_is = c.in_ok-begin_start.ensures.kind;
    begun = λ table names at. rw (← part_is) (c.in_ok-begin_start.ensures.begun table names at (rw part_is (named_alone [] run size c.requires.named)));
  },
)

pub range-requires-clause-end_boundary : goal.range-requires-clause-end_boundary
range-requires-clause-end_boundary c = let run = c.args.run.now.text.now in let size = c.args.size in
    edge_of size run
    (ascii_cut size run (named_within [] run size c.requires.named) (plain_ascii (take size run) (named_plain [] run size c.requires.named)) (search rules))
