use Rattle.board_core.specs.Opening.{opening_at}
use Rattle.guest_script.specs.Grammar.{content}
use Rattle.guest_programs.specs.Programs.{blocks_of, ticks_of}
use Rattle.hart_threads.proofs.program_run.run.Given as goal

-- the room that was just made
abbrev pub ghosts-run_in-K-Ledger : goal.ghosts-run_in-K-Ledger
ghosts-run_in-K-Ledger g a = record { name = a.room.ledger; parts = a.room.parts }

abbrev pub ghosts-run_in-K-Plan : goal.ghosts-run_in-K-Plan
ghosts-run_in-K-Plan g a = record {
  ticks = ticks_of (content a.body.now);
  guests = blocks_of (content a.body.now);
  lets = λ number ordinal answer. g.G.Gate.lets a.gate.now number ordinal answer;
  heard = λ call. g.G.Gate.heard a.gate.now call;
}

abbrev pub ghosts-run_in-K-Room : goal.ghosts-run_in-K-Room
ghosts-run_in-K-Room g a = record { opening = opening_at a.room.config; log = a.room.log; all = a.room.parts }
