-- What a run writes is a trace with which the board agrees.
use Rattle.std.proofs.Common.{◌≡◌, ℕ, suc, ◌+◌, ◌<◌, ◌≤◌, Bool, true, false, List, [], ◌∷◌, ◌++◌, length, map, drop, get_or, reverse, Some, Result, Ok, subst, refl, sym, ap, ◌∙◌, inl, arith}
use Rattle.std.specs.List.{AllByRecursion, flat_map}
use Rattle.std.specs.Prelude.{nat_le}
use Rattle.std.proofs.lemmas.Bool.{leb-false}
use Rattle.std.proofs.lemmas.List.{append_assoc, append-nil, at_drop_more, length-reverse, reverse-append, reverse-reverse}
use Rattle.board_terms.specs.declared.config.Config.{Config}
use Rattle.board_terms.specs.declared.op.Actor.{Actor}
use Rattle.board_terms.specs.declared.op.Actor.TheVariants.{Hart, Clock}
use Rattle.board_terms.specs.declared.op.Op.{Op}
use Rattle.board_terms.specs.declared.reply.Refusal.{Refusal}
use Rattle.board_terms.specs.declared.reply.Refusal.TheVariants as refusals
use Rattle.board_terms.specs.declared.reply.Reply.{Reply}
use Rattle.board_core.specs.Course.{Course}
use Rattle.board_core.specs.History.{Event}
use Rattle.board_terms.specs.Limits.{IsGood}
use Rattle.board_core.specs.Opening.{Opening, opening_at}
use Rattle.board_core.specs.Refusals.{first_that_holds, is_full, refusals_in, situation}
use Rattle.board_core.specs.Replies.{IsLegal, answer, recorded, refused_or, reply, stepped}
use Rattle.board_core.specs.Resets.{is_off}
use Rattle.script_lines.specs.declared.script.Doing.TheVariants as doings
use Rattle.script_lines.specs.Agreeing.{said_of}
use Rattle.guest_script.specs.Grammar.{most_bytes}
use Rattle.guest_programs.specs.declared.ends.End.{End}
use Rattle.monitor.specs.Table.{table}
use Rattle.printed_lines.specs.Words.{board_line_words, event_words, as_line}
use Rattle.script_tasks.specs.declared.outcome.Outcome.TheVariants.{Good}
use Rattle.script_tasks.specs.Check.{AllAgree, EndsCheck, agrees_text}
use Rattle.sbiboard.specs.Inside.Fitting.{EventFits}
use Rattle.script_tasks.specs.PrintedScripts.{Answered, AreComments, FitsActor, FitsAnswered, FitsConfig, printed, trace_lines, trace_of, answered_words}
use Rattle.sbiboard.specs.Threaded.{end_line, events_text, run_text}
use Rattle.sbiboard.proofs.EndLines.{end_passes}
use Rattle.script_tasks.proofs.Comments.{table_passes}
use Rattle.script_tasks.proofs.ReadBack.{trace_read_back}
use Rattle.script_tasks.proofs.Retraced.{traced_of}

-- ---- the events fit lines of a trace

-- the events from one on fit, if it and those after it do
pub events_fit-more : (events : List Event) (i : ℕ) (e : Event) → e ≡ get_or events i e → i < length events → EventFits e
    → AllByRecursion EventFits (drop (i + 1) events) → AllByRecursion EventFits (drop i events)
events_fit-more events i e is below fits later =
    let one : drop i events ≡ get_or events i e ∷ drop (i + 1) events = at_drop_more (λ (es : List Event). es) events i e below in
    subst (AllByRecursion EventFits) (sym one) (subst EventFits is fits, later)

is-there : (off missing : Bool) (rest : List (Bool × Refusal)) (r r' : Reply)
    → refused_or (first_that_holds ((off, refusals.Off) ∷ (missing, refusals.WrongPhase) ∷ rest)) r ≡ Ok r' → missing ≡ false
is-there true missing rest r r' is = absurd (let t = is in cc)
is-there false true rest r r' is = absurd (let t = is in cc)
is-there false false rest r r' is = refl

actor-fits : (o : Opening) → IsGood o.config → (past : List Event) (a : Actor) (op : Op) (r : Reply) → answer o past a op ≡ Ok r → FitsActor a
actor-fits o good past Clock op r is = tt
actor-fits o good past (Hart h) op r is =
    let there = is-there (is_off o past) (nat_le o.config.harts h) (refusals_in (situation o past h) op (is_full o past)) (reply o past h op) r is in
    let below : h < o.config.harts = leb-false o.config.harts h there in
    let few = good.at_most_128_harts in
    omega arith

-- ---- the board agrees

abbrev step_of : Event → Answered
step_of e = record { doing = doings.Step e.actor e.op; answer = Ok e.reply }

abbrev at : Opening → List Event → Course
at o past = record { opening = o; past = past }

earlier-legal : (o : Opening) (since past : List Event) → IsLegal o (since ++ past) → IsLegal o past
earlier-legal o [] past legal = legal
earlier-legal o (e ∷ since) past legal = earlier-legal o since past legal.2

stepped-to : (o : Opening) (past : List Event) (e : Event) → IsLegal o (e ∷ past) → stepped (at o past) e.actor e.op ≡ at o (e ∷ past)
stepped-to o past e legal =
    ap (λ (r : Result Reply Refusal). recorded (at o past) e.actor e.op r) legal.0
    ∙ (λ i. at o (record { actor = e.actor; op = e.op; reply = e.reply; translation = sym legal.1 i } ∷ past))

one-more : (e : Event) (es past : List Event) → reverse (e ∷ es) ++ past ≡ reverse es ++ (e ∷ past)
one-more e es past = ap (λ (front : List Event). front ++ past) (reverse-append (e ∷ []) es) ∙ append_assoc (reverse es) (e ∷ []) past

module _ (o : Opening) (good : IsGood o.config) where
  steps-fit : (es past : List Event) → IsLegal o (reverse es ++ past) → AllByRecursion EventFits es → AllByRecursion FitsAnswered (map step_of es)
  steps-fit [] past legal fits = tt
  steps-fit (e ∷ es) past legal fits =
      let rest : IsLegal o (reverse es ++ (e ∷ past)) = subst (IsLegal o) (one-more e es past) legal in
      let now : IsLegal o (e ∷ past) = earlier-legal o (reverse es) (e ∷ past) rest in (
        record { actor = actor-fits o good past e.actor e.op e.reply now.0; op = fits.0.op; answer = fits.0.answer },
        steps-fit es (e ∷ past) rest fits.1,
      )

all-agree : (o : Opening) (n : ℕ) (es past : List Event) → IsLegal o (reverse es ++ past) → AllAgree (at o past) (trace_lines n (map step_of es))
all-agree o n [] past legal = tt
all-agree o n (e ∷ es) past legal =
    let rest : IsLegal o (reverse es ++ (e ∷ past)) = subst (IsLegal o) (one-more e es past) legal in
    let now : IsLegal o (e ∷ past) = earlier-legal o (reverse es) (e ∷ past) rest in (
      ap (λ (r : Result Reply Refusal). Some (said_of r)) (sym now.0),
      subst (λ (b : Course). AllAgree b (trace_lines (n + 1) (map step_of es))) (sym (stepped-to o past e now)) (all-agree o (n + 1) es (e ∷ past) rest),
    )

as-many : (n : ℕ) (es : List Event) → length (trace_lines n (map step_of es)) ≡ length es
as-many n [] = refl
as-many n (e ∷ es) = ap suc (as-many (n + 1) es)

events-printed : (es : List Event) → events_text es ≡ flat_map (λ step. as_line (answered_words step)) (map step_of es)
events-printed [] = refl
events-printed (e ∷ es) = ap (λ text. as_line (event_words e.actor e.op (Ok e.reply)) ++ text) (events-printed es)

-- ---- what a run writes

pub run_accepted : (c : Config) (past : List Event) (end : End) → IsGood c → FitsConfig c → IsLegal (opening_at c) past → AllByRecursion EventFits (reverse past)
    → length (run_text (opening_at c) past end) ≤ most_bytes → EndsCheck (run_text (opening_at c) past end) Good (agrees_text (length past))
run_accepted c past end good config legal fits short =
    let o : Opening = opening_at c in
    let es : List Event = reverse past in
    let steps : List Answered = map step_of es in
    let comments : List ℕ = table o past ++ end_line end in
    let same : run_text o past end ≡ printed c steps comments = ap (λ body. as_line (board_line_words c) ++ (body ++ comments)) (events-printed es) in
    let whole : IsLegal o (reverse es ++ []) = subst (IsLegal o) (sym (append-nil (reverse es) ∙ reverse-reverse past)) legal in
    let are : AreComments comments = table_passes o past (end_line end) (end_passes end) in
    let reads = trace_read_back c steps comments config (steps-fit o good es [] whole fits) are (subst (λ t. length t ≤ most_bytes) same short) in
    let many : length past ≡ length (trace_lines 2 steps) = sym (as-many 2 es ∙ length-reverse past) in
    subst (λ t. EndsCheck t Good (agrees_text (length past))) (sym same)
    (inl (
      c,
      trace_lines 2 steps,
      record { script = record { config = c; content = trace_of (trace_lines 2 steps) }; reads = reads; config_is = refl; lines_are = traced_of (trace_lines 2 steps); good = good },
      (all-agree o 2 es [] whole, ap agrees_text many),
    ))
