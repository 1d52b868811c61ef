-- What is read of a script may be written in a trace.
use Rattle.std.proofs.Common.{◌≡◌, ℕ, ◌+◌, ◌≤◌, Bool, true, false, List, [], ◌∷◌, ◌++◌, Some, subst, sym, arith, inl, inr}
use Rattle.std.specs.Prelude.{◌⊎◌, Result}
use Rattle.std.specs.List.{AllByRecursion}
use Rattle.std.specs.Str.Lines.{lines}
use Rattle.board_terms.specs.declared.op.Actor.{Actor}
use Rattle.board_terms.specs.declared.op.Actor.TheVariants.{Hart, Clock}
use Rattle.board_terms.specs.declared.reply.Refusal.{Refusal}
use Rattle.board_terms.specs.declared.reply.Reply.{Reply}
use Rattle.board_core.specs.Course.{Course}
use Rattle.board_terms.specs.declared.config.Config.{Config}
use Rattle.board_terms.specs.Limits.{IsGood, first_numbers, numbers_of}
use Rattle.script_lines.specs.declared.script.Doing.{Doing}
use Rattle.script_lines.specs.declared.script.Doing.TheVariants.{Step, Cut}
use Rattle.script_lines.specs.declared.script.Line.{Line}
use Rattle.guest_script.specs.Grammar.{AreLines, AreScript, Content, content_of, Draft, Empty, Nothing, Blocked, IsActor, IsDoing, IsNext, IsStepLine, HasUsualSpaces, IsBoard, Program, Reads, Schedule, Stepped, Trace, Traced, Written}
use Rattle.guest_script.specs.Words.{AreNumbers, last_number}
use Rattle.script_tasks.specs.declared.running.Job.{Job}
use Rattle.script_tasks.specs.declared.running.Job.TheVariants.{Check, Replay}
use Rattle.script_tasks.specs.Inside.Fitting.{ActorsFit, AllFit, AreRead}
use Rattle.script_tasks.specs.Inside.Jobs.{lines_for}
use Rattle.script_tasks.specs.PrintedScripts.{ActorFits, FitsActor, FitsAnswer, FitsConfig, OpFits}
use Rattle.script_tasks.specs.Running.{after_line, answer_of}
use Rattle.guest_script.proofs.PlainWords.{append_all}

actor_read : (word : List ℕ) (actor : Actor) → IsActor word actor → FitsActor actor
actor_read word (Hart h) is = is.0
actor_read word Clock is = tt

doing_read : (words : List (List ℕ)) (doing : Doing) → IsDoing words doing → ActorFits doing
doing_read words Cut is = tt
doing_read words (Step actor op) is = actor_read is.first actor is.is_actor

step_read : (n : ℕ) (in_trace : Bool) (words : List (List ℕ)) (line : Line) → IsStepLine n in_trace words line → ActorFits line.doing
step_read n false words line is = doing_read words line.doing is.2
step_read n true words line is = doing_read is.0 line.doing is.6

abbrev DraftFits : Draft → Type 0
DraftFits Nothing = Unit {0}
DraftFits (Blocked p) = Unit {0}
DraftFits (Stepped lines) = ActorsFit lines
DraftFits (Traced lines) = ActorsFit lines

more_read : (before lines : List Line) (line : Line) → lines ≡ before ++ line ∷ [] → ActorsFit before → ActorFits line.doing → ActorsFit lines
more_read before lines line are fits more = subst ActorsFit (sym are) (append_all (λ l. ActorFits l.doing) before (line ∷ []) fits (more, tt))

next_read : (n : ℕ) (draft : Draft) (words : List (List ℕ)) (next : Draft) → DraftFits draft → IsNext n draft words next → DraftFits next
next_read n draft words Nothing fits is = tt
next_read n draft words (Blocked next) fits is = tt
next_read n Nothing words (Stepped lines) fits is = more_read [] lines is.0 is.2 tt (step_read n false words is.0 is.1)
next_read n (Blocked p) words (Stepped lines) fits is = absurd is
next_read n (Stepped before) words (Stepped lines) fits is = more_read before lines is.0 is.2 fits (step_read n false words is.0 is.1)
next_read n (Traced before) words (Stepped lines) fits is = absurd is
next_read n Nothing words (Traced lines) fits is = more_read [] lines is.0 is.2 tt (step_read n true words is.0 is.1)
next_read n (Blocked p) words (Traced lines) fits is = absurd is
next_read n (Stepped before) words (Traced lines) fits is = absurd is
next_read n (Traced before) words (Traced lines) fits is = more_read before lines is.0 is.2 fits (step_read n true words is.0 is.1)

lines_read : (n : ℕ) (draft : Draft) (texts : List (List ℕ)) (last : Draft) → DraftFits draft → AreLines n draft texts last → DraftFits last
lines_read n draft [] last fits are = subst DraftFits (sym are) fits
lines_read n draft (text ∷ texts) last fits (inl empty) = lines_read (n + 1) draft texts last fits empty.1
lines_read n draft (text ∷ texts) last fits (inr line) = lines_read (n + 1) line.1 texts last (next_read n draft line.0 line.1 fits line.3) line.4

numbers_read : (limit : ℕ) (words : List (List ℕ)) (ns : List ℕ) → AreNumbers limit words ns → AllByRecursion (λ n. n ≤ limit) ns
numbers_read limit [] [] are = tt
numbers_read limit [] (n ∷ ns) are = absurd are
numbers_read limit (word ∷ words) [] are = absurd are
numbers_read limit (word ∷ words) (n ∷ ns) are = (are.0.0, numbers_read limit words ns are.1)

abbrev ContentFits : Content → Type 0
ContentFits Empty = Unit {0}
ContentFits (Program blocks clock) = Unit {0}
ContentFits (Schedule lines) = ActorsFit lines
ContentFits (Trace lines) = ActorsFit lines

content_read : (draft : Draft) → DraftFits draft → ContentFits (content_of draft)
content_read Nothing fits = tt
content_read (Blocked p) fits = tt
content_read (Stepped lines) fits = fits
content_read (Traced lines) fits = fits

board_read : (words : List (List ℕ)) (c : Config) → IsBoard words c → FitsConfig c
board_read words c board = by_numbers board.are_numbers
  where
    by_numbers : AreNumbers last_number board.arguments (numbers_of c) ⊎ (AreNumbers last_number board.arguments (first_numbers c) × HasUsualSpaces c) → FitsConfig c
    by_numbers (inl all) = numbers_read _ board.arguments (numbers_of c) all
    by_numbers (inr first) =
        let fits = numbers_read _ board.arguments (first_numbers c) first.0 in
        let usual = first.1 in
        (fits.0, (fits.1.0, (fits.1.1.0, (fits.1.1.1.0, (fits.1.1.1.1.0, (fits.1.1.1.1.1.0, (rw usual.asid_len (omega arith), (rw usual.width (omega arith), tt))))))))

script_read : (n : ℕ) (texts : List (List ℕ)) (s : Written) → AreScript n texts s → FitsConfig s.config × ContentFits s.content
script_read n [] s are = absurd are
script_read n (text ∷ texts) s (inl empty) = script_read (n + 1) texts s empty.1
script_read n (text ∷ texts) s (inr board) = (
  board_read _ s.config board.3,
  subst ContentFits (sym board.5) (content_read board.1 (lines_read (n + 1) Nothing texts board.1 tt board.4)),
)

job_read : (job : Job) (content : Content) (lines : List Line) → Some lines ≡ lines_for job content → ContentFits content → ActorsFit lines
job_read Replay Empty lines are fits = let e : lines ≡ [] = cc in rw e tt
job_read Replay (Program blocks clock) lines are fits = absurd cc
job_read Replay (Schedule steps) lines are fits = let e : lines ≡ steps = cc in rw e fits
job_read Replay (Trace steps) lines are fits = absurd cc
job_read Check Empty lines are fits = let e : lines ≡ [] = cc in rw e tt
job_read Check (Program blocks clock) lines are fits = absurd cc
job_read Check (Schedule steps) lines are fits = absurd cc
job_read Check (Trace steps) lines are fits = let e : lines ≡ steps = cc in rw e fits

-- a script's board is as it is read
pub config_read : (bytes : List ℕ) (s : Written) → Reads bytes s → FitsConfig s.config
config_read bytes s reads = (script_read 1 (lines bytes) s reads.1).0

-- a script's lines are as they are read
pub are_read : (job : Job) (bytes : List ℕ) (s : Written) (lines : List Line) → Reads bytes s → Some lines ≡ lines_for job s.content → IsGood s.config → AreRead s.config lines
are_read job bytes s found reads are good =
    let fits = script_read 1 (lines bytes) s reads.1 in record { good = good; config = fits.0; actors = job_read job s.content found are fits.1 }

-- the lines from a line on fit, if it and those after it do
pub all_fit-more : (b next : Course) (others rest : List Line) (line : Line) → others ≡ line ∷ rest → next ≡ after_line b line
    → (answer : Result Reply Refusal) → answer ≡ answer_of b line → OpFits line.doing → FitsAnswer answer → AllFit next rest → AllFit b others
all_fit-more b next others rest line are next_is answer is op fits later =
    subst (AllFit b) (sym are) (op, subst FitsAnswer is fits, subst (λ c. AllFit c rest) next_is later)
