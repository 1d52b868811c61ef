-- What stopped the actors of a run (profile).
use Rattle.board_terms.specs.declared.reply.Refusal.{Refusal}
use Rattle.board_terms.specs.declared.reply.Refusal.TheVariants.{HistoryFull}
use Rattle.guest_programs.specs.declared.met.Met.{Met}
use Rattle.guest_programs.specs.declared.met.Met.TheVariants.{Nothing, FullHistory, ClosedGate}

-- What an actor met by a refusal: a full history, or nothing by any other.
abbrev pub met_by_refusal : Refusal → Met
met_by_refusal HistoryFull = FullHistory
met_by_refusal r = Nothing

-- What two actors met together: a closed gate comes first, then a full history.
abbrev pub met_by_both : Met → Met → Met
met_by_both ClosedGate other = ClosedGate
met_by_both FullHistory ClosedGate = ClosedGate
met_by_both FullHistory FullHistory = FullHistory
met_by_both FullHistory Nothing = FullHistory
met_by_both Nothing other = other
