-- A task that ran no line wrote nothing.
use Rattle.std.proofs.Common.{◌≡◌, ◌≢◌, ℕ, List, [], take, Option, Some, None, IfSome, Ok, Err, refl, ap, subst, inr}
use Rattle.std.specs.Prelude.{is_some}
use Rattle.std.proofs.KnownBytes.{Appends-nil}
use Rattle.board_terms.specs.declared.config.Config.{Config}
use Rattle.board_terms.specs.Limits.{IsGood}
use Rattle.guest_script.specs.declared.fault.FaultKind.{FaultKind}
use Rattle.guest_script.specs.declared.fault.FaultKind.TheVariants.{BadByte, NoBoardLine, UnknownWord, BadNumber, WordCount, OtherKind, SecondBlock, TooLong, NoMemory}
use Rattle.script_lines.specs.declared.script.Script.{Script}
use Rattle.guest_script.specs.FirstFault.{first_fault}
use Rattle.guest_script.specs.Grammar.{Content, Reads, Written, written}
use Rattle.script_tasks.specs.declared.device.pieces.ReadFault.{ReadFault}
use Rattle.script_tasks.specs.declared.device.pieces.ReadFault.TheVariants.{Failed, Script as NoScript}
use Rattle.script_tasks.specs.Sources.{ReadsScript, read_limit}
use Rattle.script_tasks.specs.declared.outcome.Outcome.{Outcome}
use Rattle.script_tasks.specs.declared.outcome.Outcome.TheVariants as outcomes
use Rattle.script_tasks.specs.Running.{ended_as, EndsAs, Stops, unread_as, Writes}

module _ {A : Type 0} (lines_of : Content → Option A) (bytes : List ℕ) where
  pub writes_stopped : (Ends : Config → A → Outcome → List ℕ → Type 0) (known : Option (List ℕ)) (outcome : Outcome)
      → Stops lines_of bytes outcome → Writes (EndsAs lines_of Ends bytes) outcome known known
  writes_stopped Ends known outcomes.Good stops = absurd stops
  writes_stopped Ends known (outcomes.Script line number) stops = ([], inr (stops, refl), Appends-nil known)
  writes_stopped Ends known outcomes.BadBoard stops = ([], inr (stops, refl), Appends-nil known)
  writes_stopped Ends known outcomes.WrongKind stops = ([], inr (stops, refl), Appends-nil known)
  writes_stopped Ends known outcomes.HistoryFull stops = absurd stops
  writes_stopped Ends known outcomes.Stuck stops = absurd stops
  writes_stopped Ends known outcomes.Differs stops = absurd stops
  writes_stopped Ends known outcomes.NoMemory stops = ([], inr (stops, refl), Appends-nil known)
  writes_stopped Ends known outcomes.Io stops = tt

  pub stops_at : (line : ℕ) (fault : FaultKind) → (fault ≢ NoMemory → first_fault bytes ≡ Some (record { line = line; fault = fault }))
      → Stops lines_of bytes (ended_as line fault)
  stops_at line BadByte first = (record { line = line; fault = BadByte }, first (λ e. cc), refl, refl)
  stops_at line NoBoardLine first = (record { line = line; fault = NoBoardLine }, first (λ e. cc), refl, refl)
  stops_at line UnknownWord first = (record { line = line; fault = UnknownWord }, first (λ e. cc), refl, refl)
  stops_at line BadNumber first = (record { line = line; fault = BadNumber }, first (λ e. cc), refl, refl)
  stops_at line WordCount first = (record { line = line; fault = WordCount }, first (λ e. cc), refl, refl)
  stops_at line OtherKind first = (record { line = line; fault = OtherKind }, first (λ e. cc), refl, refl)
  stops_at line SecondBlock first = (record { line = line; fault = SecondBlock }, first (λ e. cc), refl, refl)
  stops_at line TooLong first = (record { line = line; fault = TooLong }, first (λ e. cc), refl, refl)
  stops_at line NoMemory first = tt

  pub bad_board : (script : Written) (lines : A) → Reads bytes script → lines_of script.content ≡ Some lines → ¬ IsGood script.config
      → Stops lines_of bytes outcomes.BadBoard
  bad_board script lines reads are bad = (script, reads, ap is_some are, bad)

-- ---- a source whose bytes may be known

-- what a script's run ends with
pub known_read : (P : List ℕ → Type 0) (old : Option (List ℕ)) (script : Script) → ReadsScript old (Ok script) → ((bytes : List ℕ) → Reads bytes (written script) → P bytes)
    → IfSome old (λ bytes. P (take read_limit bytes))
known_read P None script reads run = tt
known_read P (Some all) script (bytes, answered, is) run = subst P is (run bytes answered.script)

-- what is no script
pub known_fault : {A : Type 0} (lines_of : Content → Option A) (Ends : Config → A → Outcome → List ℕ → Type 0) (known old : Option (List ℕ)) (fault : ReadFault)
    (outcome : Outcome) → outcome ≡ unread_as fault → ReadsScript old (Err fault) → IfSome old (λ bytes. Writes (EndsAs lines_of Ends (take read_limit bytes)) outcome known known)
known_fault lines_of Ends known None fault outcome ends reads = tt
known_fault lines_of Ends known (Some all) Failed outcome ends reads = rw ends tt
known_fault lines_of Ends known (Some all) (NoScript fault) outcome ends (bytes, answered, is) =
    let stops = stops_at lines_of bytes fault.line fault.fault answered.fault in
    rw ends (subst (λ (b : List ℕ). Writes (EndsAs lines_of Ends b) (ended_as fault.line fault.fault) known known) is
    (writes_stopped lines_of bytes Ends known (ended_as fault.line fault.fault) stops))
