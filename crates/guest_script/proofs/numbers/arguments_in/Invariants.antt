use Rattle.std.proofs.Common.{length}
use Rattle.guest_script.specs.Values.{words_in}
use Rattle.guest_script.specs.Values.{words_until}
use Rattle.guest_script.proofs.ArgumentsIn.{AreRead}
use Rattle.guest_script.proofs.numbers.arguments_in.Given as goal

abbrev pub invariant-loop-word : goal.invariant-loop-word
invariant-loop-word l = AreRead l.places.most l.places.may_be_absent l.places.limit (words_until l.until_arrow (words_in l.text)) l.found.items l.all_good (words_until l.until_arrow (words_in l.rest))

abbrev pub decreases-loop-word : goal.decreases-loop-word
decreases-loop-word l = length l.rest
