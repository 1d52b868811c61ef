use Rattle.std.proofs.Common.{◌≡◌, false, take}
use Rattle.std.specs.List.{fold}
use Rattle.access_marks.specs.Inside.Words.{differs_by}
use Rattle.access_marks.proofs.words.differs.Given as goal

abbrev pub invariant-loop-note : goal.invariant-loop-note
invariant-loop-note l = l.found ≡ fold (differs_by l.at.hart l.at.address) false (take l.note-index l.notes)
