-- How a machine that stands for a past stands for one event more: its fences and counts, and all of it, by the components that
-- the event touches.
use Rattle.std.proofs.Common.{◌≡◌, ℕ, ◌+◌, ◌<◌, Bool, true, false, List, [], ◌∷◌, length, subst, refl, sym, ap, ◌∙◌, arith}
use Rattle.std.specs.Prelude.{Option, Some, None, if◌then◌else◌}
use Rattle.hsm.specs.Harts.{Hart}
use Rattle.rfence.specs.Right.{IsRight, IsRightTurn}
use Rattle.rfence.specs.State as fences
use Rattle.rfence.specs.Opening as fence_openings
use Rattle.rfence.specs.State.{IsTaken, IsTakenAt, State}
use Rattle.rfence.specs.Turns.{Turn, Own, Quiet}
use Rattle.rfence.proofs.Stands as fence_stands
use Rattle.board_rules.specs.Opening.{Opening, place_after}
use Rattle.board_rules.specs.History.{Event, by_hart}
use Rattle.sbi_abi.specs.declared.call.Call.{Call}
use Rattle.sbi_abi.specs.declared.call.Regs.{Regs}
use Rattle.sbi_abi.specs.declared.reset.Reset.{Reset}
use Rattle.sbi_abi.specs.Calls.{call_of}
use Rattle.board_terms.specs.declared.op.Op.TheVariants.{Ecall}
use Rattle.board_terms.specs.declared.reply.Reply.{Reply}
use Rattle.board_machine.specs.declared.counts.Counts.{Counts}
use Rattle.board_machine.specs.declared.interrupt_state.Interrupts.{Interrupts}
use Rattle.board_machine.specs.declared.machine.Machine.{Machine}
use Rattle.board_machine.specs.declared.memory.Memory.{Memory}
use Rattle.board_rules.specs.Fences.{turn_of, turns}
use Rattle.tlb_model.specs.declared.fence.Flush.{Flush}
use Rattle.board_rules.specs.Memory.{memory}
use Rattle.board_rules.specs.Starts.{Anew, More, Start, boot_start, entry_by, start_by, starts_at}
use Rattle.board_machine.specs.Stands.{CountsStand, FencesStand, HartsStand, InterruptsStand, MemoryStand, StandsFor}
use Rattle.board_rules.specs.States.{is_starting}
use Rattle.board_rules.specs.Resets.{begins_anew, last_reset, newer_or, reset_by}
use Rattle.board_rules.proofs.Events.{CountsDeed, Deed, deed, deed_of_call, does_call, still}
use Rattle.board_machine.proofs.HartsStanding.{harts-still}
use Rattle.board_machine.proofs.InterruptsStanding.{interrupts-still}
use Rattle.board_machine.proofs.MemoryStanding.{memory-still}
use Rattle.board_rules.proofs.Lengths.{length-turns}

module _ (o : Opening) (past : List Event) (event : Event) (d : Deed) (does : deed o past event ≡ d) where
  -- what the event does, part by part
  turned : turn_of o past event.actor event.op event.reply ≡ d.turn
  turned = ap (λ (e : Deed). e.turn) does

  resets : reset_by event.op event.reply ≡ d.reset
  resets = ap (λ (e : Deed). e.reset) does

  counted_start : start_by o.config event.op event.reply ≡ d.counts.start
  counted_start = ap (λ (e : Deed). e.counts.start) does

  counted_entry : entry_by event.op event.reply (is_starting o past event.actor) ≡ d.counts.entry
  counted_entry = ap (λ (e : Deed). e.counts.entry) does

  -- ---- fences

  -- what a turn makes of them
  pub fences-turned : (f f' : State Flush) (turn : Turn Flush) → d.turn ≡ turn → IsTaken f turn f' → IsRightTurn o.fences o.config.harts (turns o past) turn → FencesStand o past f
      → FencesStand o (event ∷ past) f'
  fences-turned f f' turn is taken right stand =
      let same = sym (turned ∙ is) in
      record {
        stands = subst (λ t. fences.StandsFor o.fences o.config.harts (t ∷ turns o past) f') same (taken o.fences o.config.harts (turns o past) stand.stands (right, stand.right));
        right = subst (λ t. IsRight o.fences o.config.harts (t ∷ turns o past)) same (right, stand.right);
        places = stand.places;
      }

  -- and one that is made at a place
  pub fences-asked : (f f' : State Flush) (turn : Turn Flush) (place : ℕ) → d.turn ≡ turn → IsTakenAt place f turn f' → place ≡ place_after o past
      → IsRightTurn o.fences o.config.harts (turns o past) turn → FencesStand o past f → FencesStand o (event ∷ past) f'
  fences-asked f f' turn place is taken at right stand =
      let same = sym (turned ∙ is) in
      let here : place ≡ fence_openings.place_after o.fences (turns o past) = omega (arith, at, stand.places, length-turns o past) in
      record {
        stands = subst (λ t. fences.StandsFor o.fences o.config.harts (t ∷ turns o past) f') same (taken o.fences o.config.harts (turns o past) stand.stands (right, stand.right) here);
        right = subst (λ t. IsRight o.fences o.config.harts (t ∷ turns o past)) same (right, stand.right);
        places = stand.places;
      }

  pub fences-own : (f : State Flush) (x : ℕ) (flush : Flush) → x < o.config.harts → d.turn ≡ Own x flush → FencesStand o past f → FencesStand o (event ∷ past) f
  fences-own f x flush inside is stand = fences-turned f f (Own x flush) is (λ fs n turns stands right. fence_stands.stands-own fs n turns f stands x flush) inside stand

  pub fences-still : (f : State Flush) → d.turn ≡ Quiet → FencesStand o past f → FencesStand o (event ∷ past) f
  fences-still f none stand = fences-turned f f Quiet none (λ fs n turns stands right. fence_stands.stands-quiet fs n turns f stands) tt stand

  -- ---- counts

  pub counts-still : (counts : Counts) → d.counts ≡ still.counts → d.reset ≡ None → CountsStand o past counts → CountsStand o (event ∷ past) counts
  counts-still counts none unreset stand = record {
    starts = rw (counted_start, ap (λ (e : CountsDeed). e.start) none, resets, unreset) stand.starts;
    entries = rw (counted_entry, ap (λ (e : CountsDeed). e.entry) none, resets, unreset) stand.entries;
  }

  -- one start more, and one entry more
  pub counts-started : (counts : Counts) (start : Start) → d.counts ≡ record still.counts { start = Some (More start) } → d.reset ≡ None → CountsStand o past counts
      → CountsStand o (event ∷ past) (record counts { starts = counts.starts + 1 })
  counts-started counts start is unreset stand = record {
    starts = let before = stand.starts in rw (counted_start, ap (λ (e : CountsDeed). e.start) is, resets, unreset) (omega arith);
    entries = rw (counted_entry, ap (λ (e : CountsDeed). e.entry) is, resets, unreset) stand.entries;
  }

  pub counts-entered : (counts : Counts) (start : Start) → d.counts ≡ record still.counts { entry = Some (More start) } → d.reset ≡ None → CountsStand o past counts
      → CountsStand o (event ∷ past) (record counts { entries = counts.entries + 1 })
  counts-entered counts start is unreset stand = record {
    starts = rw (counted_start, ap (λ (e : CountsDeed). e.start) is, resets, unreset) stand.starts;
    entries = let before = stand.entries in rw (counted_entry, ap (λ (e : CountsDeed). e.entry) is, resets, unreset) (omega arith);
  }

  -- ---- resets

  pub last-still : (last : Option Reset) → d.reset ≡ None → last ≡ last_reset o past → last ≡ last_reset o (event ∷ past)
  last-still last none stand = stand ∙ sym (ap (λ reset. newer_or reset (last_reset o past)) (resets ∙ none))

  pub last-reset : (reset : Reset) → d.reset ≡ Some reset → Some reset ≡ last_reset o (event ∷ past)
  last-reset reset is = sym (ap (λ reset. newer_or reset (last_reset o past)) (resets ∙ is))

  -- the counts begin anew
  pub counts-reset : (reset : Reset) → d.counts ≡ record { start = Some (Anew (starts_at o.config reset)); entry = Some (Anew []) } → d.reset ≡ Some reset
      → CountsStand o (event ∷ past) (record { starts = if begins_anew reset.kind then 1 else 0; entries = 0 })
  counts-reset reset is was = record {
    starts = rw (counted_start, ap (λ (e : CountsDeed). e.start) is, resets, was) (by_kind (begins_anew reset.kind));
    entries = rw (counted_entry, ap (λ (e : CountsDeed). e.entry) is, resets, was) refl;
  }
    where
      by_kind : (anew : Bool) → (if anew then 1 else 0) ≡ length (if anew then boot_start o.config ∷ [] else []) + 0
      by_kind true = refl
      by_kind false = refl

  -- ---- the machine, by the components that an event touches; the others have no deed

  pub stands-quiet : (m : Machine) → d ≡ still → StandsFor o past m → StandsFor o (event ∷ past) m
  stands-quiet m none stands = record {
    harts = harts-still o past event d does m.hsm (ap (λ (e : Deed). e.harts) none) stands.harts;
    interrupts = interrupts-still o past event d does m.interrupts (ap (λ (e : Deed). e.interrupts) none) stands.interrupts;
    memory = memory-still o past event d does m.memory (ap (λ (e : Deed). e.memory) none) stands.memory;
    fences = fences-still m.fences (ap (λ (e : Deed). e.turn) none) stands.fences;
    counts = counts-still m.counts (ap (λ (e : Deed). e.counts) none) (ap (λ (e : Deed). e.reset) none) stands.counts;
    last_reset = last-still m.last_reset (ap (λ (e : Deed). e.reset) none) stands.last_reset;
  }

  pub stands-interrupts : (m : Machine) (i : Interrupts) → d ≡ record still { interrupts = d.interrupts } → StandsFor o past m
      → InterruptsStand o (event ∷ past) i → StandsFor o (event ∷ past) (record m { interrupts = i })
  stands-interrupts m i alone stands changed = record {
    harts = harts-still o past event d does m.hsm (ap (λ (e : Deed). e.harts) alone) stands.harts;
    interrupts = changed;
    memory = memory-still o past event d does m.memory (ap (λ (e : Deed). e.memory) alone) stands.memory;
    fences = fences-still m.fences (ap (λ (e : Deed). e.turn) alone) stands.fences;
    counts = counts-still m.counts (ap (λ (e : Deed). e.counts) alone) (ap (λ (e : Deed). e.reset) alone) stands.counts;
    last_reset = last-still m.last_reset (ap (λ (e : Deed). e.reset) alone) stands.last_reset;
  }

  pub stands-harts : (m : Machine) (hsm : List Hart) → d ≡ record still { harts = d.harts } → StandsFor o past m
      → HartsStand o (event ∷ past) hsm → StandsFor o (event ∷ past) (record m { hsm = hsm })
  stands-harts m hsm alone stands changed = record {
    harts = changed;
    interrupts = interrupts-still o past event d does m.interrupts (ap (λ (e : Deed). e.interrupts) alone) stands.interrupts;
    memory = memory-still o past event d does m.memory (ap (λ (e : Deed). e.memory) alone) stands.memory;
    fences = fences-still m.fences (ap (λ (e : Deed). e.turn) alone) stands.fences;
    counts = counts-still m.counts (ap (λ (e : Deed). e.counts) alone) (ap (λ (e : Deed). e.reset) alone) stands.counts;
    last_reset = last-still m.last_reset (ap (λ (e : Deed). e.reset) alone) stands.last_reset;
  }

  pub stands-memory : (m : Machine) (memory : Memory) → d ≡ record still { memory = d.memory } → StandsFor o past m
      → MemoryStand o (event ∷ past) memory → StandsFor o (event ∷ past) (record m { memory = memory })
  stands-memory m memory alone stands changed = record {
    harts = harts-still o past event d does m.hsm (ap (λ (e : Deed). e.harts) alone) stands.harts;
    interrupts = interrupts-still o past event d does m.interrupts (ap (λ (e : Deed). e.interrupts) alone) stands.interrupts;
    memory = changed;
    fences = fences-still m.fences (ap (λ (e : Deed). e.turn) alone) stands.fences;
    counts = counts-still m.counts (ap (λ (e : Deed). e.counts) alone) (ap (λ (e : Deed). e.reset) alone) stands.counts;
    last_reset = last-still m.last_reset (ap (λ (e : Deed). e.reset) alone) stands.last_reset;
  }

  -- a turn touches the fences, and the caches of the memory
  pub stands-fences : (m : Machine) (memory : Memory) (f : State Flush) → d ≡ record still { memory = d.memory; turn = d.turn } → StandsFor o past m
      → MemoryStand o (event ∷ past) memory → FencesStand o (event ∷ past) f → StandsFor o (event ∷ past) (record m { memory = memory; fences = f })
  stands-fences m memory f alone stands changed turned = record {
    harts = harts-still o past event d does m.hsm (ap (λ (e : Deed). e.harts) alone) stands.harts;
    interrupts = interrupts-still o past event d does m.interrupts (ap (λ (e : Deed). e.interrupts) alone) stands.interrupts;
    memory = changed;
    fences = turned;
    counts = counts-still m.counts (ap (λ (e : Deed). e.counts) alone) (ap (λ (e : Deed). e.reset) alone) stands.counts;
    last_reset = last-still m.last_reset (ap (λ (e : Deed). e.reset) alone) stands.last_reset;
  }

  -- all but the counts
  pub stands-but-counts : (m : Machine) (hsm : List Hart) (i : Interrupts) (memory : Memory) (f : State Flush) → d.counts ≡ still.counts → d.reset ≡ None → StandsFor o past m
      → HartsStand o (event ∷ past) hsm → InterruptsStand o (event ∷ past) i → MemoryStand o (event ∷ past) memory → FencesStand o (event ∷ past) f
      → StandsFor o (event ∷ past) (record m { hsm = hsm; interrupts = i; memory = memory; fences = f })
  stands-but-counts m hsm i memory f alone unreset stands harts interrupts changed turned = record {
    harts = harts;
    interrupts = interrupts;
    memory = changed;
    fences = turned;
    counts = counts-still m.counts alone unreset stands.counts;
    last_reset = last-still m.last_reset unreset stands.last_reset;
  }

  pub stands-harts-counts : (m : Machine) (hsm : List Hart) (counts : Counts) → d ≡ record still { harts = d.harts; counts = d.counts }
      → StandsFor o past m → HartsStand o (event ∷ past) hsm → CountsStand o (event ∷ past) counts
      → StandsFor o (event ∷ past) (record m { hsm = hsm; counts = counts })
  stands-harts-counts m hsm counts alone stands harts counted = record {
    harts = harts;
    interrupts = interrupts-still o past event d does m.interrupts (ap (λ (e : Deed). e.interrupts) alone) stands.interrupts;
    memory = memory-still o past event d does m.memory (ap (λ (e : Deed). e.memory) alone) stands.memory;
    fences = fences-still m.fences (ap (λ (e : Deed). e.turn) alone) stands.fences;
    counts = counted;
    last_reset = last-still m.last_reset (ap (λ (e : Deed). e.reset) alone) stands.last_reset;
  }

-- a call that does nothing
pub call-quiet : (o : Opening) (past : List Event) (x : ℕ) (regs : Regs) (call : Call) (reply : Reply) (m : Machine) → call ≡ call_of regs
    → deed_of_call o past x call reply ≡ still → StandsFor o past m → StandsFor o (by_hart x (Ecall regs) reply ∷ past) m
call-quiet o past x regs call reply m is none stands =
    stands-quiet o past (by_hart x (Ecall regs) reply) (deed_of_call o past x call reply) (does_call o past x regs call reply is) m none stands
