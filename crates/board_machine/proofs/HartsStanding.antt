-- How the harts of a machine that stands for a past stand for one event more.
use Rattle.std.proofs.Common.{◌≡◌, ◌≢◌, ℕ, ◌<◌, Bool, true, false, List, [], ◌∷◌, length, map, refl, sym, ap, ◌∙◌, arith}
use Rattle.std.specs.Prelude.{Option, Some, None, count_by, find, unwrap_or, ◌==◌, if◌then◌else◌, slice_set}
use Rattle.std.proofs.lemmas.List.FromFn.{get_or-map-range_with_len, length-map-range_with_len}
use Rattle.hsm.specs.declared.hart.HartState.{HartState}
use Rattle.hsm.specs.declared.hart.HartState.TheVariants.{StartPending, Stopped}
use Rattle.hsm.specs.declared.hart.EntryPoint.{EntryPoint}
use Rattle.hsm.specs.Harts.{Hart, resting, starting}
use Rattle.hsm.specs.States.{is_start_pending}
use Rattle.hsm.specs.Transitions.{hart_at, hart_at_opening}
use Rattle.board_terms.specs.declared.config.Config.{Config}
use Rattle.board_rules.specs.Opening.{Opening}
use Rattle.board_terms.specs.declared.op.Actor.TheVariants as actors
use Rattle.board_rules.specs.History.{Event}
use Rattle.sbi_abi.specs.declared.reset.Reset.{Reset}
use Rattle.board_rules.specs.Course.{harts_of}
use Rattle.board_rules.specs.Starts.{Anew, More, all_pending, boot_start, hart_of, is_of, kept_in, last_start, start_by, starts_at}
use Rattle.board_machine.specs.Stands.{HartsStand}
use Rattle.board_rules.specs.States.{Each, One, move_of, state, state_at_boot, state_at_reset}
use Rattle.board_rules.specs.Resets.{begins_anew}
use Rattle.board_rules.specs.Writes.{latest}
use Rattle.board_rules.specs.Suspends.{resume_by, resume_point}
use Rattle.board_rules.proofs.Events.{Deed, HartsDeed, deed, still}
use Rattle.fence_queue.proofs.Tables.{tabulate-set}
use Rattle.board_rules.proofs.Tables.{count_by-map, eqb-other, eqb-same, length-filter_map, tabulate-same}

-- ---- harts

module _ (o : Opening) (past : List Event) (harts : List Hart) (stand : HartsStand o past harts) where
  -- there are as many as the board has
  pub length-harts : length harts ≡ o.config.harts
  length-harts = ap length stand.each ∙ length-map-range_with_len (hart_of o past) 0 o.config.harts

  -- each is as the past makes it
  pub hart_at-stand : (h : ℕ) → h < o.config.harts → hart_at harts h ≡ hart_of o past h
  hart_at-stand h inside =
      ap (λ hs. hart_at hs h) stand.each ∙ get_or-map-range_with_len (hart_of o past) 0 o.config.harts h h resting inside (omega arith)

  pub hart_at-inside : (h : ℕ) → h < length harts → hart_at harts h ≡ hart_of o past h
  hart_at-inside h inside = hart_at-stand h (omega (arith, length-harts))

  -- those with a pending start are as many as the pending starts
  pub count_by-pending : count_by (λ (hart : Hart). is_start_pending hart.state) harts ≡ length (all_pending o past)
  count_by-pending =
      ap (count_by (λ (hart : Hart). is_start_pending hart.state)) stand.each
      ∙ count_by-map (λ (hart : Hart). is_start_pending hart.state) (hart_of o past) (harts_of o.config)
      ∙ sym (length-filter_map (λ h. is_start_pending (state o past h)) (last_start o past) (harts_of o.config))

  -- an event that moves one hart changes that one alone
  harts-moved : (event : Event) (t : ℕ) (hart : Hart) → hart_of o (event ∷ past) t ≡ hart → ((j : ℕ) → t ≢ j → hart_of o (event ∷ past) j ≡ hart_of o past j)
      → HartsStand o (event ∷ past) (slice_set harts t hart)
  harts-moved event t hart is others = record {
    each =
        ap (slice_set harts t) (sym is)
        ∙ ap (λ hs. slice_set hs t (hart_of o (event ∷ past) t)) stand.each
        ∙ tabulate-set (hart_of o past) (hart_of o (event ∷ past)) o.config.harts t others;
  }

-- a hart as a reset makes it
abbrev pub hart_at_reset : Config → Reset → ℕ → Hart
hart_at_reset c reset h = if begins_anew reset.kind then hart_at_opening c.boot_hart (record { addr = c.boot_addr; opaque = c.boot_opaque }) h else resting

as_reset : (c : Config) (reset : Reset) (h : ℕ) (resume : Option EntryPoint)
    → (let s = state_at_reset c reset h in let hart : Hart = record { state = s; kept = kept_in s (unwrap_or (find (is_of h) (starts_at c reset)) (boot_start c)) resume } in hart)
    ≡ hart_at_reset c reset h
as_reset c reset h resume = by_kind (begins_anew reset.kind)
  where
    by_own : (own : Bool)
        → (let s = (if own then StartPending else Stopped) in let hart : Hart = record { state = s; kept = kept_in s (unwrap_or (if own then Some (boot_start c) else None) (boot_start c)) resume } in
        hart)
        ≡ (if own then starting (record { addr = c.boot_addr; opaque = c.boot_opaque }) else resting)
    by_own true = refl
    by_own false = refl

    by_kind : (anew : Bool)
        → (let s = (if anew then state_at_boot c h else Stopped) in let
        hart : Hart = record { state = s; kept = kept_in s (unwrap_or (find (is_of h) (if anew then boot_start c ∷ [] else [])) (boot_start c)) resume } in hart)
        ≡ (if anew then hart_at_opening c.boot_hart (record { addr = c.boot_addr; opaque = c.boot_opaque }) h else resting)
    by_kind true = by_own (h == c.boot_hart)
    by_kind false = refl

-- ---- one event more

module _ (o : Opening) (past : List Event) (event : Event) (d : Deed) (does : deed o past event ≡ d) where
  -- what the event does, part by part
  moves : move_of o.config event.actor event.op event.reply ≡ d.harts.move
  moves = ap (λ (e : Deed). e.harts.move) does

  is_start : start_by o.config event.op event.reply ≡ d.harts.start
  is_start = ap (λ (e : Deed). e.harts.start) does

  resumes : resume_by event.op event.reply ≡ d.harts.resume
  resumes = ap (λ (e : Deed). e.harts.resume) does

  -- what moves no hart
  pub harts-quiet : (harts : List Hart) → d.harts.move ≡ None → d.harts.start ≡ None → d.harts.resume ≡ None
      → HartsStand o past harts → HartsStand o (event ∷ past) harts
  harts-quiet harts no_move no_start no_resume stand = record {
    each = stand.each ∙ tabulate-same (hart_of o past) (hart_of o (event ∷ past)) (λ j. rw (moves, is_start, resumes, no_move, no_start, no_resume) refl) (harts_of o.config);
  }

  -- a start makes its hart START_PENDING, and is kept
  pub harts-started : (harts : List Hart) (t addr opaque : ℕ) → d.harts.move ≡ Some (One t StartPending)
      → d.harts.start ≡ Some (More (record { hart = t; addr = addr; opaque = opaque })) → d.harts.resume ≡ None
      → HartsStand o past harts → HartsStand o (event ∷ past) (slice_set harts t (starting (record { addr = addr; opaque = opaque })))
  harts-started harts t addr opaque move start resume stand =
      harts-moved o past harts stand event t _
      (rw (moves, is_start, move, start, eqb-same t) refl)
      (λ j other. rw (moves, is_start, resumes, move, start, resume, eqb-other j t (λ e. other (sym e))) refl)

  -- a hart's own move, which may say where it is to go on
  pub harts-own : (harts : List Hart) (x : ℕ) (s : HartState) → event.actor ≡ actors.Hart x
      → d.harts.move ≡ Some (One x s) → d.harts.start ≡ None → ((j : ℕ) → latest d.harts.resume false (resume_point o past j) ≡ resume_point o past j) → HartsStand o past harts
      → HartsStand o (event ∷ past) (slice_set harts x (record { state = s; kept = kept_in s (last_start o past x) (latest d.harts.resume true (resume_point o past x)) }))
  harts-own harts x s own move start spared stand =
      harts-moved o past harts stand event x _
      (rw (moves, is_start, resumes, own, move, start, eqb-same x) refl)
      (λ j other. rw (moves, is_start, resumes, own, move, start, eqb-other j x (λ e. other (sym e)), spared j) refl)

  pub harts-still : (harts : List Hart) → d.harts ≡ still.harts → HartsStand o past harts → HartsStand o (event ∷ past) harts
  harts-still harts none stand =
      harts-quiet harts (ap (λ (e : HartsDeed). e.move) none) (ap (λ (e : HartsDeed). e.start) none) (ap (λ (e : HartsDeed). e.resume) none) stand

  -- each hart is as the reset makes it
  pub harts-reset : (harts : List Hart) (reset : Reset) → d.harts.move ≡ Some (Each (state_at_reset o.config reset)) → d.harts.start ≡ Some (Anew (starts_at o.config reset))
      → harts ≡ map (hart_at_reset o.config reset) (harts_of o.config) → HartsStand o (event ∷ past) harts
  harts-reset harts reset move start are = record {
    each = are ∙ tabulate-same (hart_at_reset o.config reset) (hart_of o (event ∷ past)) (λ j. rw (moves, is_start, move, start) (as_reset o.config reset j (resume_point o (event ∷ past) j)))
        (harts_of o.config);
  }
