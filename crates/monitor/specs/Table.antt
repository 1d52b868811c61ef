-- The printed table of a board (profile).
use Rattle.std.specs.Prelude.{ℕ, List, [], ◌∷◌, ◌++◌, length, map, replicate, reverse, codes, decimal, Bool, true, false, if◌then◌else◌, Option, Some, None}
use Rattle.std.specs.List.{flat_map}
use Rattle.sbi_abi.specs.declared.reset.Reset.{Reset}
use Rattle.sbi_abi.specs.ResetTypes.{reset_kind_number}
use Rattle.hsm.specs.declared.hart.HartState.{HartState}
use Rattle.hsm.specs.declared.hart.HartState.TheVariants.{Started, Stopped, StartPending, StopPending, Suspended, SuspendPending, ResumePending}
use Rattle.hsm.specs.declared.hart.EntryPoint.{EntryPoint}
use Rattle.sv39.specs.Pages.{level_number}
use Rattle.fence_queue.specs.declared.request.Request.{Request}
use Rattle.tlb_model.specs.declared.cache.Numbered.{Numbered}
use Rattle.tlb_model.specs.Entries.{Entry}
use Rattle.tlb_model.specs.declared.fence.Flush.{Flush}
use Rattle.tlb_model.specs.declared.fence.Flush.TheVariants.{Words, Entries}
use Rattle.tlb_model.specs.declared.fence.Range.{Range}
use Rattle.tlb_model.specs.declared.word.FetchWord.{FetchWord}
use Rattle.board_core.specs.Course.{harts_of}
use Rattle.board_core.specs.Csrs.{bits_of, sie, sstatus_sie}
use Rattle.board_core.specs.Fences.{outstanding, waiting}
use Rattle.board_core.specs.History.{Event}
use Rattle.board_core.specs.Interrupts.{deadline, ssip, stip, time}
use Rattle.board_core.specs.Memory.{caches_of, satp}
use Rattle.board_core.specs.Opening.{Opening}
use Rattle.board_core.specs.Resets.{is_off, last_reset}
use Rattle.board_core.specs.Starts.{kept}
use Rattle.board_core.specs.States.{state}
use Rattle.board_core.specs.Totals.{totals}
use Rattle.board_rules.specs.declared.totals.Totals.{Totals}
use Rattle.printed_lines.specs.Columns.{hex_column, left, right}
use Rattle.printed_lines.specs.Words.{bit_of, as_line}

abbrev pub hex16 : ℕ → List ℕ
hex16 n = hex_column 16 n

abbrev pub state_name : HartState → List ℕ
state_name Started = codes "STARTED"
state_name Stopped = codes "STOPPED"
state_name StartPending = codes "START_PENDING"
state_name StopPending = codes "STOP_PENDING"
state_name Suspended = codes "SUSPENDED"
state_name SuspendPending = codes "SUSPEND_PENDING"
state_name ResumePending = codes "RESUME_PENDING"

-- a deadline's hexadecimal digits, or as many dashes if there is none
abbrev pub deadline_cell : Option ℕ → List ℕ
deadline_cell (Some deadline) = hex16 deadline
deadline_cell None = replicate 16 45

-- the number of harts that a fence call waits for, or a dash without a call
abbrev pub outstanding_cell : Option (List ℕ) → List ℕ
outstanding_cell (Some harts) = right 3 (decimal (length harts))
outstanding_cell None = right 3 (codes "-")

-- the power: `off` after a shutdown
abbrev pub power_word : (is_off : Bool) → List ℕ
power_word true = codes "off"
power_word false = codes "on"

-- the type and the reason of the last reset, or `none`
abbrev pub shown_reset : Option Reset → List (List ℕ)
shown_reset None = codes "none" ∷ []
shown_reset (Some reset) = hex_column 8 (reset_kind_number reset.kind) ∷ hex_column 8 reset.reason ∷ []

-- the time, the number of events since the opening, the power, and the last reset
unfoldable pub time_cells : Opening → List Event → List (List ℕ)
time_cells o past =
    codes "#"
    ∷ codes "time" ∷ hex16 (time o past)
    ∷ codes "events" ∷ right 7 (decimal (length past))
    ∷ codes "power" ∷ power_word (is_off o past)
    ∷ codes "reset" ∷ shown_reset (last_reset o past)

unfoldable pub totals_cells : Totals → List (List ℕ)
totals_cells t =
    codes "#"
    ∷ codes "starts" ∷ decimal t.starts
    ∷ codes "entries" ∷ decimal t.entries
    ∷ codes "pending" ∷ decimal t.pending
    ∷ codes "asked" ∷ decimal t.asked
    ∷ codes "applied" ∷ decimal t.applied
    ∷ codes "waiting" ∷ decimal t.waiting
    ∷ []

-- the heads of the columns, each as wide as its column
unfoldable pub head_cells : List (List ℕ)
head_cells =
    codes "#"
    ∷ codes "hart"
    ∷ left 15 (codes "state")
    ∷ codes "wait"
    ∷ codes "out"
    ∷ codes "ss"
    ∷ codes "st"
    ∷ codes "ie"
    ∷ codes "se"
    ∷ left 16 (codes "satp")
    ∷ left 16 (codes "deadline")
    ∷ codes "tlb"
    ∷ codes "ic"
    ∷ []

-- the items of fills that are listed newest first, oldest first
abbrev pub in_order : {E : Type 0} → List (Numbered E) → List E
in_order fills = reverse (map (λ fill. fill.item) fills)

-- the live entries of a hart's TLB, oldest first
abbrev pub tlb_entries : Opening → List Event → ℕ → List Entry
tlb_entries o past h = in_order (caches_of o past h).tlb.live

-- the live words of a hart's instruction cache, oldest first
abbrev pub words : Opening → List Event → ℕ → List FetchWord
words o past h = in_order (caches_of o past h).words.live

-- the row of a hart
unfoldable pub hart_cells : Opening → List Event → ℕ → List (List ℕ)
hart_cells o past h =
    codes "#"
    ∷ right 4 (decimal h)
    ∷ left 15 (state_name (state o past h))
    ∷ right 4 (decimal (length (waiting o past h)))
    ∷ outstanding_cell (outstanding o past h)
    ∷ right 2 (decimal (bit_of (ssip o past h)))
    ∷ right 2 (decimal (bit_of (stip o past h)))
    ∷ hex_column 2 (bits_of (sie o past h))
    ∷ right 2 (decimal (bit_of (sstatus_sie o past h)))
    ∷ hex16 (satp o past h)
    ∷ deadline_cell (deadline o past h)
    ∷ right 3 (decimal (length (tlb_entries o past h)))
    ∷ right 2 (decimal (length (words o past h)))
    ∷ []

-- a hart's entry point
unfoldable pub entry_cells : ℕ → EntryPoint → List (List ℕ)
entry_cells h start = codes "#" ∷ codes "entry" ∷ right 3 (decimal h) ∷ hex16 start.addr ∷ hex16 start.opaque ∷ []

abbrev pub entry_line : ℕ → Option EntryPoint → List ℕ
entry_line h (Some start) = as_line (entry_cells h start)
entry_line h None = []

abbrev pub row : Opening → List Event → ℕ → List ℕ
row o past h = as_line (hart_cells o past h)

-- a letter, or a dash if it doesn't apply
abbrev pub letter : Bool → (byte : ℕ) → ℕ
letter present byte = if present then byte else 45

-- the rights of an entry's page: `r`, `w`, `x` and `d`
abbrev pub rights : Entry → List ℕ
rights entry = letter entry.leaf.r 114 ∷ letter entry.leaf.w 119 ∷ letter entry.leaf.x 120 ∷ letter entry.leaf.d 100
    ∷ []

-- a TLB entry: its page, its level, its ASID, whether it is global, the physical page, and the rights
unfoldable pub tlb_cells : ℕ → Entry → List (List ℕ)
tlb_cells h entry =
    codes "#"
    ∷ codes "tlb"
    ∷ right 3 (decimal h)
    ∷ hex16 entry.leaf.page
    ∷ decimal (level_number entry.leaf.level)
    ∷ hex_column 4 entry.asid
    ∷ (letter entry.leaf.global 103 ∷ [])
    ∷ hex16 entry.leaf.pa
    ∷ rights entry
    ∷ []

-- a fetched word after its physical address
unfoldable pub word_cells : ℕ → FetchWord → List (List ℕ)
word_cells h fetched = codes "#" ∷ codes "ic" ∷ right 3 (decimal h) ∷ hex16 fetched.pa ∷ hex16 fetched.word ∷ []

abbrev pub tlb_line : ℕ → Entry → List ℕ
tlb_line h entry = as_line (tlb_cells h entry)

abbrev pub word_line : ℕ → FetchWord → List ℕ
word_line h fetched = as_line (word_cells h fetched)

-- the range of a fence: all addresses, or its start and its size
abbrev pub shown_range : Option Range → List (List ℕ)
shown_range None = codes "full" ∷ []
shown_range (Some range) = hex16 range.start ∷ hex16 range.size ∷ []

-- the ASID of a fence, if it has one
abbrev pub asid_words : Option ℕ → List (List ℕ)
asid_words None = []
asid_words (Some asid) = codes "asid" ∷ hex_column 4 asid ∷ []

-- what a fence drops: fetched words, or translations
abbrev pub shown_flush : Flush → List (List ℕ)
shown_flush Words = codes "i" ∷ []
shown_flush (Entries fence) = codes "vma" ∷ (shown_range fence.range ++ asid_words fence.asid)

-- a fence that waits at a hart, with the hart that asked it
unfoldable pub fence_cells : ℕ → Request Flush → List (List ℕ)
fence_cells h request =
    codes "#" ∷ codes "fence" ∷ right 3 (decimal h) ∷ codes "from" ∷ right 3 (decimal request.from)
    ∷ shown_flush request.flush

abbrev pub fence_line : ℕ → Request Flush → List ℕ
fence_line h request = as_line (fence_cells h request)

-- the lines after the rows of a hart: its entry point, its live TLB entries and fetched words, and the fences that wait
-- there
abbrev pub details : Opening → List Event → ℕ → List ℕ
details o past h =
    entry_line h (kept o past h)
    ++ (flat_map (tlb_line h) (tlb_entries o past h)
    ++ (flat_map (word_line h) (words o past h)
    ++ flat_map (fence_line h) (waiting o past h)))

-- The table of a board with this opening and past: the time, the totals, the column heads, and a row for each hart.
-- Then, hart by hart, the entry point, the live items of the caches, and the waiting fences.
abbrev pub table : Opening → List Event → List ℕ
table o past =
    as_line (time_cells o past)
    ++ (as_line (totals_cells (totals o past))
    ++ (as_line head_cells
    ++ (flat_map (row o past) (harts_of o.config)
    ++ flat_map (details o past) (harts_of o.config))))
