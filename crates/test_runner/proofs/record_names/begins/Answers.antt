use Rattle.std.proofs.lemmas.Bool.Decides.{Decides-eqb}
use Rattle.std.proofs.lemmas.Slice.Eq.{starts_is}
use Rattle.std.proofs.lemmas.Str.Pattern.{starts_text}
use Rattle.test_runner.proofs.record_names.begins.Goals as goal

pub returns : goal.returns
returns c rest is =
    (starts_is Decides-eqb c.args.text.now c.args.front.now _ (starts_text _ _ _ c.starts_with.ensures.cases)).1 rest is
