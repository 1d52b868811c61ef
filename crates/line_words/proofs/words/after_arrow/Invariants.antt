use Rattle.std.proofs.Common.{◌≡◌, length}
use Rattle.line_words.specs.Values.{after_arrow, words_in}
use Rattle.line_words.proofs.words.after_arrow.Given as goal

abbrev pub invariant-loop-word : goal.invariant-loop-word
invariant-loop-word l = after_arrow (words_in l.rest) ≡ after_arrow (words_in l.text)

abbrev pub decreases-loop-word : goal.decreases-loop-word
decreases-loop-word l = length l.rest
