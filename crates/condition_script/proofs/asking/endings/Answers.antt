use Rattle.std.proofs.Common.{◌≡◌, ◌+◌, inr, arith}
use Rattle.condition_script.specs.Grammar.{ending_named, ending_word}
use Rattle.condition_script.proofs.Asked.{text_of, zip_none, zip_push}
use Rattle.condition_script.proofs.Named.{ending_own, none_named}
use Rattle.condition_script.proofs.asking.endings.Goals as goal

pub returns-in-None : goal.returns-in-None
returns-in-None c = inr (λ ends are. zip_none text_of (λ word ending. word ≡ ending_word ending) c.args.words.now c.loop-word.word-index _ c.loop-word-test.true (λ ending is. none_named ending_named ending_word ending_own _ ending c.in-None.ensures is) ends are)

pub loop-word-preserved : goal.loop-word-preserved
loop-word-preserved c = rw c.in_ok-push-in-Some.ensures.items (zip_push text_of (λ word ending. word ≡ ending_word ending) c.args.words.now c.loop-word.word-index (c.loop-word.word-index + 1) _ _ _ c.loop-word-test.true c.loop-word.invariant c.in-Some.ensures (omega arith))
