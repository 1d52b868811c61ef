use Rattle.std.proofs.Common.{◌≡◌, drop}
use Rattle.line_words.specs.Values.{words_in}
use Rattle.line_words.proofs.words.skip_gap.Given as goal

abbrev pub invariant-loop-i : goal.invariant-loop-i
invariant-loop-i l = words_in (drop l.i l.text) ≡ words_in l.text
