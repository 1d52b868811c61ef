use Rattle.std.proofs.Common.{◌≡◌, take}
use Rattle.std.specs.List.{list_all}
use Rattle.line_words.specs.Words.{is_allowed}
use Rattle.line_words.proofs.text.is_clean.Given as goal

abbrev pub invariant-loop-byte : goal.invariant-loop-byte
invariant-loop-byte l = l.clean ≡ list_all is_allowed (take l.byte-index l.text)
