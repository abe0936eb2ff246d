use Rattle.hparse.proofs.Meant.{stand_for}
use Rattle.model_runs.proofs.texts.Texts.has_tokens.Goals as goal

pub token_lines-requires : goal.token_lines-requires
token_lines-requires c = stand_for _ _ _ _ c.in_ok-run.ensures
