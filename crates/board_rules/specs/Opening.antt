-- The opening of a board: its state before the first event of its kept history (profile).
use Rattle.std.specs.Prelude.{◌≡◌, ℕ, ◌+◌, ◌<◌, ◌≤◌, true, List, [], length, replicate, slice_index_or, Option, None, is_some}
use Rattle.sbi_abi.specs.declared.reset.Reset.{Reset}
use Rattle.std.specs.List.{All}
use Rattle.hsm.specs.declared.hart.HartState.TheVariants.{StartPending, Started}
use Rattle.hsm.specs.Harts.{Hart}
use Rattle.hsm.specs.States.{is_interruptible}
use Rattle.hsm.specs.Transitions.{hart_at, opening}
use Rattle.interrupts.specs.Timing.{Timing, opening_timing}
use Rattle.sv39.specs.Memory.{zero_words}
use Rattle.tlb_model.specs.declared.cache.Numbered.{Numbered}
use Rattle.tlb_model.specs.declared.caches.Caches.{Caches}
use Rattle.tlb_model.specs.Entries.{Entry}
use Rattle.tlb_model.specs.declared.fence.Flush.{Flush}
use Rattle.tlb_model.specs.declared.word.FetchWord.{FetchWord}
use Rattle.tlb_model.specs.Contents.{Contents, empty}
use Rattle.rfence.specs.Opening as fences
use Rattle.rfence.specs.Opening.{called_at, waited_at}
use Rattle.board_terms.specs.declared.config.Config.{Config}
use Rattle.board_rules.specs.History.{Event}

-- The board's numbers, and the number of events accepted before. Each hart's state and entry point. The ids of the
-- harts whose sstatus.SIE, SSIE, STIE and SSIP are 1. The time, and each hart's deadline. The words of the RAM. Each
-- hart's satp and caches. The waiting fences and open calls. The number of starts entered since the last reset, and
-- that reset, if there was one.
pub record Opening : Type 0 where
  pub config : Config
  pub places : ℕ
  pub harts : List Hart
  pub sstatus_sie : List ℕ
  pub ssie : List ℕ
  pub stie : List ℕ
  pub ssip : List ℕ
  pub timers : Timing
  pub ram : List ℕ
  pub satps : List ℕ
  pub caches : List Caches
  pub fences : fences.Opening Flush
  pub entered : ℕ
  pub last_reset : Option Reset

-- the same opening with other numbers of the board
abbrev pub on : Config → Opening → Opening
on c o = record o { config = c }

-- The place of the event after these: the number of all events before it.
abbrev pub place_after : Opening → List Event → ℕ
place_after o past = o.places + length past

-- empty caches
abbrev pub no_caches : Caches
no_caches = record { tlb = empty; words = empty }

-- satp of a hart, and its caches
abbrev pub opened_satp : Opening → ℕ → ℕ
opened_satp o h = slice_index_or o.satps h 0

abbrev pub opened_caches : Opening → ℕ → Caches
opened_caches o h = slice_index_or o.caches h no_caches

abbrev pub tlb_at : Opening → ℕ → Contents Entry
tlb_at o h = (opened_caches o h).tlb

abbrev pub words_at : Opening → ℕ → Contents FetchWord
words_at o h = (opened_caches o h).words

-- A board's first opening: the boot hart's start is pending, and all else is 0, empty or none (profile).
abbrev pub opening_at : Config → Opening
opening_at c = record {
  config = c;
  places = 0;
  harts = opening c.harts c.boot_hart (record { addr = c.boot_addr; opaque = c.boot_opaque });
  sstatus_sie = [];
  ssie = [];
  stie = [];
  ssip = [];
  timers = opening_timing c.harts;
  ram = zero_words c.pages;
  satps = replicate c.harts 0;
  caches = replicate c.harts no_caches;
  fences = fences.nothing_before c.harts;
  entered = 0;
  last_reset = None;
}

-- A consistent opening. Each id has a hart, a satp and caches, and a deadline or none. A pending start has its entry
-- point. The fences are consistent, with the same place; they wait at harts in an interruptible state, and a hart
-- inside a call is STARTED. Live fills were made before. There are no more fills in a cache, and no more entered
-- starts, than events.
pub record IsOpening (o : Opening) : Type 0 where
  pub harts : length o.harts ≡ o.config.harts
  pub starts : (h : ℕ) → (hart_at o.harts h).state ≡ StartPending → is_some (hart_at o.harts h).kept ≡ true
  pub deadlines : length o.timers.deadlines ≡ o.config.harts
  pub satps : length o.satps ≡ o.config.harts
  pub caches : length o.caches ≡ o.config.harts
  pub fences : fences.IsOpening o.fences o.config.harts
  pub places : o.fences.first ≡ o.places
  pub waits : (h : ℕ) → 0 < length (waited_at o.fences h) → is_interruptible (hart_at o.harts h).state ≡ true
  pub calls : (h : ℕ) → is_some (called_at o.fences h) ≡ true → (hart_at o.harts h).state ≡ Started
  pub entries_dated : (h : ℕ) → All (λ (x : Numbered Entry). x.date < o.places) (tlb_at o h).live
  pub words_dated : (h : ℕ) → All (λ (x : Numbered FetchWord). x.date < o.places) (words_at o h).live
  pub entries_few : (h : ℕ) → (tlb_at o h).next ≤ o.places
  pub words_few : (h : ℕ) → (words_at o h).next ≤ o.places
  pub entered_few : o.entered ≤ o.places
