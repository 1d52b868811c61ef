-- The counts that the board's table shows (profile).
use Rattle.std.specs.Prelude.{◌+◌, List, length, sum_by}
use Rattle.rfence.specs.State.{total_applied, total_asked}
use Rattle.board_rules.specs.Opening.{Opening}
use Rattle.board_rules.specs.History.{Event}
use Rattle.board_rules.specs.declared.totals.Totals.{Totals}
use Rattle.board_rules.specs.Course.{harts_of}
use Rattle.board_rules.specs.Fences.{turns, waiting}
use Rattle.board_rules.specs.Starts.{all_pending, entered_before, entries, starts}

-- The counts (profile). A remote fence counts once for each hart that it asks: as asked, and as applied or waiting.
abbrev pub totals : Opening → List Event → Totals
totals o past = record {
  starts = length (starts o past) + entered_before o past;
  entries = length (entries o past) + entered_before o past;
  pending = length (all_pending o past);
  asked = total_asked o.fences (turns o past);
  applied = total_applied o.fences o.config.harts (turns o past);
  waiting = sum_by (λ h. length (waiting o past h)) (harts_of o.config);
}
