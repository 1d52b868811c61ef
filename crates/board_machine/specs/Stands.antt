-- How each component of a machine stands for an opening and a history.
use Rattle.std.specs.Prelude.{Option, slice_index_or, ◌≡◌, ◌+◌, ◌<◌, ◌^◌, List, map, length, ℕ}
use Rattle.hart_mask.specs.Ids.{has, ids_where}
use Rattle.hsm.specs.Harts.{Hart}
use Rattle.hsm.specs.Transitions.{hart_at}
use Rattle.interrupts.specs.Timing.{Timing, is_timer_pending}
use Rattle.fence_queue.specs.Queues.{queue_at}
use Rattle.rfence.specs.Cuts as fence_cuts
use Rattle.rfence.specs.Right.{IsRight}
use Rattle.rfence.specs.State as fences
use Rattle.rfence.specs.State.{State, call_at}
use Rattle.sv39.specs.Memory.{pages_of, word_in}
use Rattle.tlb_model.specs.declared.caches.Caches.{Caches}
use Rattle.tlb_model.specs.declared.entry.Address.{Address}
use Rattle.tlb_model.specs.declared.fence.Flush.{Flush}
use Rattle.tlb_model.specs.declared.word.FetchWord.{FetchWord}
use Rattle.tlb_model.specs.Contents.{hit}
use Rattle.tlb_model.specs.Entries.{Entry, matches}
use Rattle.tlb_model.specs.Words.{is_at}
use Rattle.board_terms.specs.declared.config.Config.{Config}
use Rattle.board_rules.specs.Opening.{IsOpening, Opening, on, place_after}
pub use Rattle.board_rules.specs.Opening.{no_caches}
use Rattle.board_rules.specs.History.{Event}
use Rattle.board_machine.specs.declared.counts.Counts.{Counts}
use Rattle.board_machine.specs.declared.csrs.Csrs.{Csrs}
use Rattle.board_machine.specs.declared.interrupt_state.Interrupts.{Interrupts}
use Rattle.board_machine.specs.declared.machine.Machine.{Machine}
use Rattle.board_machine.specs.declared.memory.Memory.{Memory}
pub use Rattle.board_rules.specs.Cuts.{IsKept}
use Rattle.board_rules.specs.Course.{harts_of}
use Rattle.board_rules.specs.Csrs.{enables, sie, sstatus_sie}
use Rattle.board_rules.specs.Fences.{turns}
use Rattle.board_rules.specs.Interrupts.{deadline, ssip, time}
use Rattle.board_rules.specs.Memory.{memory, satp}
pub use Rattle.board_rules.specs.Memory.{caches_of}
use Rattle.board_rules.specs.Refusals.{Situation}
use Rattle.board_rules.specs.Resets.{last_reset}
use Rattle.board_rules.specs.Starts.{entered_before, entries, hart_of, starts}

-- the harts are those of the past
pub record HartsStand (o : Opening) (past : List Event) (harts : List Hart) : Type 0 where
  pub each : harts ≡ map (hart_of o past) (harts_of o.config)

-- the CSRs have the values of the past
pub record CsrsStand (o : Opening) (past : List Event) (csrs : Csrs) : Type 0 where
  pub sstatus_sie : csrs.sstatus_sie ≡ ids_where (sstatus_sie o past)
  pub ssie : csrs.ssie ≡ ids_where (λ h. (sie o past h).ssie)
  pub stie : csrs.stie ≡ ids_where (λ h. (sie o past h).stie)

-- SSIP is 1 at the harts at which the past has it
pub record IpisStand (o : Opening) (past : List Event) (ipis : List ℕ) : Type 0 where
  pub ssip : ipis ≡ ids_where (ssip o past)

-- the time and the deadlines are those of the past
pub record TimersStand (o : Opening) (past : List Event) (timers : Timing) : Type 0 where
  pub time : timers.time ≡ time o past
  pub deadlines : timers.deadlines ≡ map (deadline o past) (harts_of o.config)

-- the interrupt state is that of the past
pub record InterruptsStand (o : Opening) (past : List Event) (i : Interrupts) : Type 0 where
  pub csrs : CsrsStand o past i.csrs
  pub ipis : IpisStand o past i.ipis
  pub timers : TimersStand o past i.timers

-- satp of hart h
abbrev pub satp_at : Memory → ℕ → ℕ
satp_at m h = slice_index_or m.satps.items h 0

-- the caches of hart h
abbrev pub caches_at : Memory → ℕ → Caches
caches_at m h = slice_index_or m.caches.items h no_caches

-- the entry that an address hits in these caches
abbrev pub tlb_hit : Caches → Address → Option Entry
tlb_hit caches at = hit matches at caches.tlb

-- the word that a physical address hits in these caches
abbrev pub word_hit : Caches → ℕ → Option FetchWord
word_hit caches pa = hit is_at pa caches.words

-- the RAM's words, each hart's satp and its caches are those of the past
pub record MemoryStand (o : Opening) (past : List Event) (m : Memory) : Type 0 where
  pub pages : pages_of m.ram ≡ o.config.pages
  pub ram : word_in m.ram ≡ memory o past
  pub satps : m.satps.items ≡ map (satp o past) (harts_of o.config)
  pub caches : m.caches.items ≡ map (caches_of o past) (harts_of o.config)

-- the fences stand for the turns of the past; each turn was possible, and has the place of its event
pub record FencesStand (o : Opening) (past : List Event) (f : State Flush) : Type 0 where
  pub stands : fences.StandsFor o.fences o.config.harts (turns o past) f
  pub right : IsRight o.fences o.config.harts (turns o past)
  pub places : o.fences.first ≡ o.places

-- the counts are those of the past, plus the starts entered before it
pub record CountsStand (o : Opening) (past : List Event) (counts : Counts) : Type 0 where
  pub starts : counts.starts ≡ length (starts o past) + entered_before o past
  pub entries : counts.entries ≡ length (entries o past) + entered_before o past

-- each component has the values that the definitions give on the past
pub record StandsFor (o : Opening) (past : List Event) (m : Machine) : Type 0 where
  pub harts : HartsStand o past m.hsm
  pub interrupts : InterruptsStand o past m.interrupts
  pub memory : MemoryStand o past m.memory
  pub fences : FencesStand o past m.fences
  pub counts : CountsStand o past m.counts
  pub last_reset : m.last_reset ≡ last_reset o past

-- each hart id has a hart, a deadline, a satp, a pair of caches, a call and a queue
pub record IsSized (c : Config) (m : Machine) : Type 0 where
  pub harts : length m.hsm ≡ c.harts
  pub deadlines : length m.interrupts.timers.deadlines ≡ c.harts
  pub satps : length m.memory.satps.items ≡ c.harts
  pub caches : length m.memory.caches.items ≡ c.harts
  pub calls : length m.fences.calls ≡ c.harts
  pub queues : length m.fences.queues ≡ c.harts

-- the machines have as many pages, and as many harts
pub record AreAlike (a b : Machine) : Type 0 where
  pub harts : length a.hsm ≡ length b.hsm
  pub deadlines : length a.interrupts.timers.deadlines ≡ length b.interrupts.timers.deadlines
  pub pages : pages_of a.memory.ram ≡ pages_of b.memory.ram
  pub satps : length a.memory.satps.items ≡ length b.memory.satps.items
  pub caches : length a.memory.caches.items ≡ length b.memory.caches.items
  pub calls : length a.fences.calls ≡ length b.fences.calls

-- the situation of hart h, from the machine's components
abbrev pub situation_in : Machine → ℕ → Situation
situation_in m h = record {
  state = (hart_at m.hsm h).state;
  wake = enables (record { ssie = has m.interrupts.csrs.ssie h; stie = has m.interrupts.csrs.stie h })
      (has m.interrupts.ipis h) (is_timer_pending m.interrupts.timers h);
  call = call_at m.fences h;
  fences = queue_at m.fences.queues h;
}

-- The machine stands for some opening of a board with these numbers and some past. Fewer than 2^56 events were
-- accepted, with those before the opening.
pub record IsStanding (c : Config) (m : Machine) : Type 0 where
  pub o : Opening
  pub past : List Event
  pub opens : IsOpening (on c o)
  pub stands : StandsFor (on c o) past m
  pub few : place_after o past < 2 ^ 56

-- The machine stands for some opening of a board with these numbers and some past, and the number of events accepted is
-- this place.
pub record IsStandingAt (c : Config) (place : ℕ) (m : Machine) : Type 0 where
  pub standing : IsStanding c m
  pub at : place ≡ place_after standing.o standing.past

-- the caches of hart h have room for one more fill
pub record CanFill (memory : Memory) (h : ℕ) : Type 0 where
  pub satps : h < length memory.satps.items
  pub caches : h < length memory.caches.items
  pub tlb : (caches_at memory h).tlb.next < 2 ^ 63
  pub words : (caches_at memory h).words.next < 2 ^ 63

-- the counts have room for one more
pub record HasRoom (counts : Counts) : Type 0 where
  pub starts : counts.starts < 2 ^ 63
  pub entries : counts.entries < 2 ^ 63

-- The machine's values as the opening of the events from this place on.
abbrev pub opening_in : Config → (places : ℕ) → Machine → Opening
opening_in c places m = record {
  config = c;
  places = places;
  harts = m.hsm;
  sstatus_sie = m.interrupts.csrs.sstatus_sie;
  ssie = m.interrupts.csrs.ssie;
  stie = m.interrupts.csrs.stie;
  ssip = m.interrupts.ipis;
  timers = m.interrupts.timers;
  ram = m.memory.ram;
  satps = m.memory.satps.items;
  caches = m.memory.caches.items;
  fences = fence_cuts.opening_in places m.fences;
  entered = m.counts.entries;
  last_reset = m.last_reset;
}
