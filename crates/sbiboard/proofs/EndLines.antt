-- The line of a run's end is a comment.
use Rattle.std.proofs.Common.{[], ◌∷◌, codes, refl}
use Rattle.guest_programs.specs.declared.ends.End.{End}
use Rattle.guest_programs.specs.declared.ends.End.TheVariants as ends
use Rattle.script_tasks.specs.PrintedScripts.{AreComments}
use Rattle.sbiboard.specs.Threaded.{end_line}
use Rattle.script_tasks.proofs.Comments.{pass_line, written_shown}

pub end_passes : (end : End) → AreComments (end_line end)
end_passes ends.GateLimit = pass_line (codes "end" ∷ codes "gate-limit" ∷ []) (written_shown (codes "end") refl, (written_shown (codes "gate-limit") refl, tt)) [] tt
end_passes ends.Off = pass_line (codes "end" ∷ codes "off" ∷ []) (written_shown (codes "end") refl, (written_shown (codes "off") refl, tt)) [] tt
end_passes ends.HistoryFull = pass_line (codes "end" ∷ codes "history-full" ∷ []) (written_shown (codes "end") refl, (written_shown (codes "history-full") refl, tt)) [] tt
end_passes ends.Quiet = pass_line (codes "end" ∷ codes "quiet" ∷ []) (written_shown (codes "end") refl, (written_shown (codes "quiet") refl, tt)) [] tt
end_passes ends.Stuck = pass_line (codes "end" ∷ codes "stuck" ∷ []) (written_shown (codes "end") refl, (written_shown (codes "stuck") refl, tt)) [] tt
