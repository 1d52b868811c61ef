use Rattle.std.proofs.Common.{sym, ap}
use Rattle.access_marks.specs.declared.words.WordNote.TheVariants.{Changed}
use Rattle.access_marks.specs.Inside.Words.{is_note}
use Rattle.access_marks.proofs.words.is_change.Goals as goal

pub returns-in-Changed : goal.returns-in-Changed
returns-in-Changed c = ap (is_note (Changed c.args.at)) (sym c.in-Changed.is)

pub returns-in-Fenced : goal.returns-in-Fenced
returns-in-Fenced c = ap (is_note (Changed c.args.at)) (sym c.in-Fenced.is)
