-- Cuts of the history: the opening that the events before a cut leave (profile).
use Rattle.std.specs.Prelude.{◌≡◌, ℕ, zero, suc, ◌+◌, ◌-◌, ◌*◌, ◌^◌, ◌<◌, ◌≤◌, Bool, List, [], length, map, Option, unwrap_or}
use Rattle.std.specs.List.{range_with_len}
use Rattle.hart_mask.specs.Ids.{ids_where}
use Rattle.sv39.specs.declared.ram.TheConstants.{PAGE_WORDS, RAM_START}
use Rattle.sv39.specs.Memory.{IsRam, pages_of, word_in}
use Rattle.rfence.specs.Cuts as fence_cuts
use Rattle.rfence.specs.Right.{IsRight}
use Rattle.board_rules.specs.Course.{harts_of}
use Rattle.board_rules.specs.Csrs as csrs
use Rattle.board_rules.specs.Csrs.{sie, sstatus_sie}
use Rattle.board_terms.specs.declared.op.Actor.{Actor}
use Rattle.board_terms.specs.declared.op.Op.{Op}
use Rattle.board_rules.specs.Fences as fences
use Rattle.board_rules.specs.Fences.{turns}
use Rattle.board_rules.specs.History.{Event}
use Rattle.board_rules.specs.Interrupts as interrupts
use Rattle.board_rules.specs.Interrupts.{deadline, ssip, time}
use Rattle.board_terms.specs.Limits.{IsGood}
use Rattle.board_rules.specs.Memory as memory
use Rattle.board_rules.specs.Memory.{caches_of, satp}
use Rattle.board_rules.specs.Opening.{Opening, opening_at, place_after}
use Rattle.board_rules.specs.Need.{need}
use Rattle.board_rules.specs.Replies.{IsLegal, answer_when}
use Rattle.board_rules.specs.Resets.{last_reset}
use Rattle.board_rules.specs.Starts as starts
use Rattle.board_rules.specs.States as states
use Rattle.board_rules.specs.Totals.{totals}
use Rattle.board_rules.specs.Starts.{entered_before, entries, hart_of}

-- the words of the RAM, from its first address on
abbrev pub words_of : (pages : ℕ) → (word : ℕ → Option ℕ) → List ℕ
words_of pages word = map (λ i. unwrap_or (word (RAM_START + 8 * i)) 0) (range_with_len 0 (PAGE_WORDS * pages))

-- The opening that a history leaves for later events: the value of each definition on it.
abbrev pub opening_of : Opening → List Event → Opening
opening_of o past = record {
  config = o.config;
  places = place_after o past;
  harts = map (hart_of o past) (harts_of o.config);
  sstatus_sie = ids_where (sstatus_sie o past);
  ssie = ids_where (λ h. (sie o past h).ssie);
  stie = ids_where (λ h. (sie o past h).stie);
  ssip = ids_where (ssip o past);
  timers = record { time = time o past; deadlines = map (deadline o past) (harts_of o.config) };
  ram = words_of o.config.pages (memory.memory o past);
  satps = map (satp o past) (harts_of o.config);
  caches = map (caches_of o past) (harts_of o.config);
  fences = fence_cuts.opening_after o.fences o.config.harts (turns o past);
  entered = length (entries o past) + entered_before o past;
  last_reset = last_reset o past;
}

-- The openings of boards after so many cuts: with none, a new board's; with each more, what a legal history on such an
-- opening left.
abbrev pub OpensAfter : (cuts : ℕ) → Opening → Type 0
OpensAfter zero o = IsGood o.config × (o ≡ opening_at o.config)
OpensAfter (suc cuts) o =
    (before : Opening) × (past : List Event) × OpensAfter cuts before × IsLegal before past
    × (o ≡ opening_of before past)

-- A reachable opening: a new board's, with numbers within the limits, or what any number of cuts left, also later than
-- `last_cut`.
pub record IsOpened (o : Opening) : Type 0 where
  pub cuts : ℕ
  pub opens : OpensAfter cuts o

-- the most events before a cut (profile): places then have room for a full history more
abbrev pub last_cut : ℕ
last_cut = 2 ^ 56 - 1000000

-- The history of a board within its limits. Places, fill numbers and counts have room for a full history.
pub record IsKept (o : Opening) (past : List Event) : Type 0 where
  pub good : IsGood o.config
  pub opened : IsOpened o
  pub legal : IsLegal o past
  pub within : length past ≤ o.config.limit
  pub early : o.places ≤ 2 ^ 56 - 1000000

-- What holds of a board's course, whatever its limit: the boot hart exists, the history is legal, each turn was
-- possible, and the memory is that of a RAM.
pub record IsHeld (o : Opening) (past : List Event) : Type 0 where
  pub boot_hart_is_there : o.config.boot_hart < o.config.harts
  pub legal : IsLegal o past
  pub right : IsRight o.fences o.config.harts (turns o past)
  pub ram : List ℕ
  pub is_ram : IsRam ram
  pub pages : pages_of ram ≡ o.config.pages
  pub words : word_in ram ≡ memory.memory o past

-- A cut isn't visible. On the opening that a history leaves, the look-ups of each hart, the time, the last reset, the
-- memory and the totals are the same as on the history. Each step gets the same answer, for a full history and for one
-- with room.
pub record IsUnseen (o : Opening) (past : List Event) : Type 0 where
  pub state : (h : ℕ) → h < o.config.harts → states.state (opening_of o past) [] h ≡ states.state o past h
  pub kept : (h : ℕ) → h < o.config.harts → starts.kept (opening_of o past) [] h ≡ starts.kept o past h
  pub sstatus_sie : (h : ℕ) → h < o.config.harts → csrs.sstatus_sie (opening_of o past) [] h ≡ csrs.sstatus_sie o past h
  pub sie : (h : ℕ) → h < o.config.harts → csrs.sie (opening_of o past) [] h ≡ csrs.sie o past h
  pub ssip : (h : ℕ) → h < o.config.harts → interrupts.ssip (opening_of o past) [] h ≡ interrupts.ssip o past h
  pub stip : (h : ℕ) → h < o.config.harts → interrupts.stip (opening_of o past) [] h ≡ interrupts.stip o past h
  pub wake : (h : ℕ) → h < o.config.harts → interrupts.wake (opening_of o past) [] h ≡ interrupts.wake o past h
  pub deadline : (h : ℕ) → h < o.config.harts
      → interrupts.deadline (opening_of o past) [] h ≡ interrupts.deadline o past h
  pub satp : (h : ℕ) → h < o.config.harts → memory.satp (opening_of o past) [] h ≡ memory.satp o past h
  pub caches : (h : ℕ) → h < o.config.harts → memory.caches_of (opening_of o past) [] h ≡ memory.caches_of o past h
  pub waiting : (h : ℕ) → fences.waiting (opening_of o past) [] h ≡ fences.waiting o past h
  pub outstanding : (h : ℕ) → fences.outstanding (opening_of o past) [] h ≡ fences.outstanding o past h
  pub need : (h t : ℕ) → need (opening_of o past) [] h t ≡ need o past h t
  pub time : interrupts.time (opening_of o past) [] ≡ interrupts.time o past
  pub last_reset : last_reset (opening_of o past) [] ≡ last_reset o past
  pub word : memory.memory (opening_of o past) [] ≡ memory.memory o past
  pub totals : totals (opening_of o past) [] ≡ totals o past
  pub answer : (is_full : Bool) (actor : Actor) (op : Op)
      → answer_when is_full (opening_of o past) [] actor op ≡ answer_when is_full o past actor op
