use Rattle.std.proofs.Common.{◌≡◌, ◌+◌, drop}
use Rattle.line_words.specs.Inside.Scanning.{word_length}
use Rattle.line_words.proofs.words.word_len.Given as goal

abbrev pub invariant-loop-i : goal.invariant-loop-i
invariant-loop-i l = l.i + word_length (drop l.i l.text) ≡ word_length l.text
