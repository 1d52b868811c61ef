-- What the words of a command line ask for: one of three tasks, its FILE, and for `run` the file in which to keep the record, if
-- one is named.
use Rattle.std.specs.Prelude.{◌==◌, ◌&&◌, ◌||◌, Bool, true, false, not, List, [], ◌∷◌, Option, Some, None, codes, option_and_then, option_map, if◌then◌else◌}
use Rattle.std.specs.Str.{bytes_eq}
use Rattle.clap.specs.Lexer.{long_of}
use Rattle.clap.specs.Words.{App, Kinds, Row, Rule, Shape, Text, fault_of, first_of, new_app, new_rule, subcommand_of, with_rule, with_subcommand}
use Rattle.command_line.specs.declared.words.Subcommand.{Subcommand}
use Rattle.command_line.specs.declared.words.Subcommand.TheVariants.{Run, Replay, Check}

-- A task: a subcommand, its FILE, and the file in which a record is kept.
pub record Invocation : Type 0 where
  pub task : Text
  pub file : Text
  pub keep : Option Text

abbrev pub asking : Text → Text → Option Text → Invocation
asking name path kept = record { task = name; file = path; keep = kept }

-- ---- as clap reads them

-- The argument FILE, which is required: one word, as it stands.
abbrev pub file : Rule
file = record (new_rule (codes "FILE")) { required = true }

-- The option `--keep`, whose value is FILE2.
abbrev pub keep : Rule
keep = record (new_rule (codes "keep")) { long = Some (codes "keep"); value_names = 1 }

-- A subcommand with FILE.
abbrev pub of_one_file : (name : Text) → Shape
of_one_file name = (with_rule (new_app name) file).top

-- The subcommand of a run, with FILE and `--keep`.
abbrev pub of_a_run : Shape
of_a_run = (with_rule (with_rule (new_app (codes "run")) file) keep).top

-- The program without its subcommands: it has a version, and wants a subcommand.
abbrev pub program : App
program =
    let new = new_app (codes "sbiboard") in
    record new { top = record new.top { has_version = true; subcommand_required = true } }

-- The program's command: `sbiboard run [--keep FILE2] FILE`, `sbiboard replay FILE`, and `sbiboard check FILE`.
abbrev pub sbiboard : App
sbiboard =
    let run = with_subcommand program of_a_run in
    let replay = with_subcommand run (of_one_file (codes "replay")) in
    with_subcommand replay (of_one_file (codes "check"))

-- the value of `--keep`, which a run has
abbrev pub keep_option : Text × List Row → Option Text
keep_option met = if bytes_eq (codes "run") met.0 then first_of (codes "keep") met.1 else None

-- A subcommand that was met, with the value of its FILE, and of its `--keep`.
abbrev pub with_file : Text × List Row → Option Invocation
with_file met = option_map (λ path. asking met.0 path (keep_option met)) (first_of (codes "FILE") met.1)

-- The task, if there is no fault.
abbrev pub unless_faulty : Kinds → Option Invocation → Option Invocation
unless_faulty [] found = found
unless_faulty (fault ∷ faults) found = None

-- The task that clap's rules give for the words of a command line, the program's own name first. None: clap finds a
-- fault, or shows help or the version.
abbrev pub asked : List Text → Option Invocation
asked words = unless_faulty (fault_of sbiboard words) (option_and_then with_file (subcommand_of sbiboard words))

-- The task of a subcommand.
abbrev pub task_words : Subcommand → Invocation
task_words (Run path kept) = asking (codes "run") path.now (option_map (λ name. name.now) kept)
task_words (Replay path) = asking (codes "replay") path.now None
task_words (Check path) = asking (codes "check") path.now None

-- ---- as they are written

-- The word begins with `-` (45), and isn't `-` alone.
abbrev pub is_dashed : Text → Bool
is_dashed (first ∷ second ∷ rest) = first == 45
is_dashed word = false

-- The word is `--`.
abbrev pub is_dashes : Text → Bool
is_dashes word = bytes_eq word (codes "--")

-- FILE in the words after a subcommand: the one word, as it stands. A word `--` may follow it, or stand before it, and only behind one
-- may FILE begin with `-`.
abbrev pub file_in : List Text → Option Text
file_in (word ∷ []) = if is_dashed word then None else Some word
file_in (first ∷ second ∷ []) =
    if is_dashes first then Some second
    else (if is_dashes second && not (is_dashed first) then Some first else None)
file_in words = None

-- The word is a subcommand's name.
abbrev pub is_task : Text → Bool
is_task word = bytes_eq (codes "run") word || (bytes_eq (codes "replay") word || bytes_eq (codes "check") word)

-- A name that is one word, which doesn't begin with `-`, and the words behind it.
abbrev pub name_in : List Text → Option (Text × List Text)
name_in [] = None
name_in (name ∷ rest) = if is_dashed name then None else Some (name, rest)

-- The value of an option, in its own word behind `=`, or the next word.
abbrev pub value_in : Option Text → List Text → Option (Text × List Text)
value_in None rest = name_in rest
value_in (Some name) rest = Some (name, rest)

abbrev pub keep_named : Option (Text × Option Text) → List Text → Option (Text × List Text)
keep_named None rest = None
keep_named (Some p) rest = if bytes_eq (codes "keep") p.0 then value_in p.1 rest else None

-- `--keep NAME` or `--keep=NAME` at the head of the words: NAME, and the words behind it.
abbrev pub keep_at_head : List Text → Option (Text × List Text)
keep_at_head [] = None
keep_at_head (word ∷ rest) = keep_named (long_of word) rest

-- FILE, with NAME of `--keep` before it or behind it, in the words after `run`.
abbrev pub run_before : (kept : Option (Text × List Text)) → (unkept : Option (Text × Option Text))
    → Option (Text × Option Text)
run_before None unkept = unkept
run_before (Some p) unkept = option_map (λ path. (path, Some p.0)) (file_in p.1)

-- The words end, but for a word `--`.
abbrev pub are_over : List Text → Bool
are_over [] = true
are_over (word ∷ []) = is_dashes word
are_over words = false

abbrev pub run_behind : (path : Text) → (kept : Option (Text × List Text)) → (unkept : Option (Text × Option Text))
    → Option (Text × Option Text)
run_behind path None unkept = unkept
run_behind path (Some p) unkept = if is_dashed path then unkept else
    (if are_over p.1 then Some (path, Some p.0) else None)

abbrev pub run_in : List Text → Option (Text × Option Text)
run_in [] = None
run_in (word ∷ rest) =
    run_before (keep_at_head (word ∷ rest))
    (run_behind word (keep_at_head rest) (option_map (λ path. (path, None)) (file_in (word ∷ rest))))

-- What a subcommand's words ask for: a run may keep its record.
abbrev pub invocation_by : (name : Text) → List Text → Option Invocation
invocation_by name rest =
    if bytes_eq (codes "run") name then option_map (λ found. asking name found.0 found.1) (run_in rest)
    else option_map (λ path. asking name path None) (file_in rest)

-- The task that a command line names: the program's own name, a subcommand's name, and its words.
abbrev pub invocation_of : List Text → Option Invocation
invocation_of (own ∷ name ∷ rest) = if is_task name then invocation_by name rest else None
invocation_of words = None
