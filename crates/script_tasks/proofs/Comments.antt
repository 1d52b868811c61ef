-- A board's table is comments.
use Rattle.std.proofs.Common.{◌≡◌, ℕ, zero, suc, ◌+◌, ◌-◌, ◌/◌, ◌%◌, ◌<◌, ◌≤◌, Bool, true, false, eqb, List, [], ◌∷◌, ◌++◌, length, drop, replicate, Option, Some, None, codes, subst, refl, inl, inr, arith}
use Rattle.std.specs.Prelude.{IsTrue, decimal}
use Rattle.std.specs.Fmt.{digit_glyph, digits, digits_onto}
use Rattle.std.specs.List.{AllByRecursion, flat_map, join_with_byte, list_all}
use Rattle.std.proofs.lemmas.Bool.{and_parts, cases_Bool, cases_lt, lt-ltb, le-ltb, le-leb}
use Rattle.std.proofs.lemmas.List.{append_assoc, append-nil}
use Rattle.std.proofs.lemmas.Nat.{mod_below}
use Rattle.sbi_abi.specs.declared.reset.Reset.{Reset}
use Rattle.hsm.specs.declared.hart.HartState.{HartState}
use Rattle.hsm.specs.declared.hart.HartState.TheVariants.{Started, Stopped, StartPending, StopPending, Suspended, SuspendPending, ResumePending}
use Rattle.hsm.specs.declared.hart.EntryPoint.{EntryPoint}
use Rattle.fence_queue.specs.declared.request.Request.{Request}
use Rattle.tlb_model.specs.Entries.{Entry}
use Rattle.tlb_model.specs.declared.fence.Flush.{Flush}
use Rattle.tlb_model.specs.declared.fence.Flush.TheVariants.{Words, Entries}
use Rattle.tlb_model.specs.declared.fence.Range.{Range}
use Rattle.tlb_model.specs.declared.word.FetchWord.{FetchWord}
use Rattle.board_core.specs.Opening.{Opening}
use Rattle.board_core.specs.Course.{harts_of}
use Rattle.board_core.specs.Fences.{waiting}
use Rattle.board_core.specs.History.{Event}
use Rattle.board_core.specs.Starts.{kept}
use Rattle.board_core.specs.States.{state}
use Rattle.board_core.specs.Totals.{totals}
use Rattle.board_rules.specs.declared.totals.Totals.{Totals}
use Rattle.guest_script.specs.Words.{is_allowed, IsLine}
use Rattle.printed_lines.specs.Columns.{hex_column, left, right}
use Rattle.monitor.specs.Table.{asid_words, deadline_cell, details, tlb_entries, entry_cells, entry_line, fence_cells, fence_line, shown_flush, hart_cells, head_cells, letter, outstanding_cell, power_word, shown_range, shown_reset, rights, row, state_name, table, time_cells, tlb_cells, tlb_line, totals_cells, word_cells, word_line, words}
use Rattle.printed_lines.specs.Words.{as_line}
use Rattle.script_tasks.specs.PrintedScripts.{AreComments, TableIsComments}
use Rattle.guest_script.proofs.PlainWords.{append_all, lines_allowed}

-- ---- bytes that a script may have

abbrev IsShown : List ℕ → Type 0
IsShown text = AllByRecursion (λ b. IsTrue (is_allowed b)) text

abbrev AreShown : List (List ℕ) → Type 0
AreShown cells = AllByRecursion IsShown cells

pub written_shown : (text : List ℕ) → list_all is_allowed text ≡ true → IsShown text
written_shown [] all = tt
written_shown (b ∷ text) all = let parts = and_parts (is_allowed b) (list_all is_allowed text) all in (parts.0, written_shown text parts.1)

append_shown : (xs ys : List ℕ) → IsShown xs → IsShown ys → IsShown (xs ++ ys)
append_shown xs ys = append_all (λ b. IsTrue (is_allowed b)) xs ys

repeated_shown : (k b : ℕ) → is_allowed b ≡ true → IsShown (replicate k b)
repeated_shown zero b allowed = tt
repeated_shown (suc k) b allowed = (allowed, repeated_shown k b allowed)

glyph_shown : (d : ℕ) → d < 36 → is_allowed (digit_glyph false d) ≡ true
glyph_shown d small = elim (cases_lt d 10) [
  | inl low ↦ rw (lt-ltb d 10 low, le-leb 32 (48 + d) (omega arith), le-leb (48 + d) 126 (omega arith)) refl
  | inr from ↦ rw (le-ltb d 10 from, le-leb 32 (87 + d) (omega arith), le-leb (87 + d) 126 (omega arith)) refl
]

digits_onto_shown : (k base n : ℕ) (acc : List ℕ) → 0 < base → base ≤ 36 → IsShown acc → IsShown (digits_onto k base false n acc)
digits_onto_shown zero base n acc some small shown = shown
digits_onto_shown (suc k) base n acc some small shown =
    let glyph = glyph_shown (n % base) (omega (arith, mod_below n base some)) in
    elim (cases_Bool (eqb (n / base) 0)) [
      | inl last ↦ rw last (glyph, shown)
      | inr more ↦ rw more (digits_onto_shown k base (n / base) (digit_glyph false (n % base) ∷ acc) some small (glyph, shown))
    ]

digits_shown : (base n : ℕ) → 0 < base → base ≤ 36 → IsShown (digits base false n)
unfolding digits
digits_shown base n some small = digits_onto_shown 64 base n [] some small tt

decimal_shown : (n : ℕ) → IsShown (decimal n)
decimal_shown n = digits_shown 10 n (omega arith) (omega arith)

right_shown : (width : ℕ) (text : List ℕ) → IsShown text → IsShown (right width text)
right_shown width text shown = append_shown (replicate (width - length text) 32) text (repeated_shown (width - length text) 32 refl) shown

left_shown : (width : ℕ) (text : List ℕ) → IsShown text → IsShown (left width text)
left_shown width text shown = append_shown text (replicate (width - length text) 32) shown (repeated_shown (width - length text) 32 refl)

number_shown : (width n : ℕ) → IsShown (right width (decimal n))
number_shown width n = right_shown width (decimal n) (decimal_shown n)

hex_shown : (width n : ℕ) → IsShown (hex_column width n)
hex_shown width n =
    append_shown (replicate (width - length (digits 16 false n)) 48) (digits 16 false n) (repeated_shown (width - length (digits 16 false n)) 48 refl)
    (digits_shown 16 n (omega arith) (omega arith))

joined_shown : (cells : List (List ℕ)) → AreShown cells → IsShown (join_with_byte 32 cells)
joined_shown [] shown = tt
joined_shown (cell ∷ []) shown = shown.0
joined_shown (cell ∷ next ∷ cells) shown =
    append_shown cell (32 ∷ join_with_byte 32 (next ∷ cells)) shown.0 (refl, joined_shown (next ∷ cells) shown.1)

-- ---- lines of comments

-- before comments it makes comments
abbrev Passes : List ℕ → Type 0
Passes text = (rest : List ℕ) → AreComments rest → AreComments (text ++ rest)

pass_append : (xs ys : List ℕ) → Passes xs → Passes ys → Passes (xs ++ ys)
pass_append xs ys first second rest are = rw (append_assoc xs ys rest) (first (ys ++ rest) (second rest are))

pass_each : {A : Type 0} (text : A → List ℕ) → ((x : A) → Passes (text x)) → (xs : List A) → Passes (flat_map text xs)
pass_each text pass [] = λ rest are. are
pass_each text pass (x ∷ xs) = pass_append (text x) (flat_map text xs) (pass x) (pass_each text pass xs)

is_comment_line : (cells : List (List ℕ)) → IsShown (join_with_byte 32 (codes "#" ∷ cells)) → IsLine (join_with_byte 32 (codes "#" ∷ cells)) []
is_comment_line [] shown = record { body = []; comment = codes "#"; parts = refl; allowed = shown; no_hash = tt; is_comment = refl; spaces = tt }
is_comment_line (cell ∷ cells) shown = record {
  body = [];
  comment = join_with_byte 32 (codes "#" ∷ cell ∷ cells);
  parts = refl;
  allowed = shown;
  no_hash = tt;
  is_comment = refl;
  spaces = tt;
}

pub pass_line : (cells : List (List ℕ)) → AreShown cells → Passes (as_line (codes "#" ∷ cells))
pass_line cells shown rest are =
    let text = join_with_byte 32 (codes "#" ∷ cells) in
    let all = joined_shown (codes "#" ∷ cells) ((refl, tt), shown) in
    rw (lines_allowed text rest all) (is_comment_line cells all, are)

-- ---- the lines of the table

power_shown : (off : Bool) → IsShown (power_word off)
power_shown true = written_shown (codes "off") refl
power_shown false = written_shown (codes "on") refl

reset_shown : (reset : Option Reset) → AreShown (shown_reset reset)
reset_shown None = (written_shown (codes "none") refl, tt)
reset_shown (Some reset) = (hex_shown 8 _, (hex_shown 8 reset.reason, tt))

time_passes : (o : Opening) (past : List Event) → Passes (as_line (time_cells o past))
unfolding time_cells
time_passes o past =
    let shown : AreShown (drop 1 (time_cells o past)) = (
      written_shown (codes "time") refl,
      (
        hex_shown 16 _,
        (
          written_shown (codes "events") refl,
          (number_shown 7 (length past), (written_shown (codes "power") refl, (power_shown _, (written_shown (codes "reset") refl, reset_shown _)))),
        ),
      ),
    ) in
    pass_line (drop 1 (time_cells o past)) shown

totals_passes : (t : Totals) → Passes (as_line (totals_cells t))
unfolding totals_cells
totals_passes t =
    let shown : AreShown (drop 1 (totals_cells t)) = (
      written_shown (codes "starts") refl,
      (
        decimal_shown t.starts,
        (
          written_shown (codes "entries") refl,
          (
            decimal_shown t.entries,
            (
              written_shown (codes "pending") refl,
              (
                decimal_shown t.pending,
                (
                  written_shown (codes "asked") refl,
                  (decimal_shown t.asked, (written_shown (codes "applied") refl, (decimal_shown t.applied, (written_shown (codes "waiting") refl, (decimal_shown t.waiting, tt))))),
                ),
              ),
            ),
          ),
        ),
      ),
    ) in
    pass_line (drop 1 (totals_cells t)) shown

head_passes : Passes (as_line head_cells)
unfolding head_cells
head_passes =
    let shown : AreShown (drop 1 (head_cells)) = (
      written_shown (codes "hart") refl,
      (
        left_shown 15 (codes "state") (written_shown (codes "state") refl),
        (
          written_shown (codes "wait") refl,
          (
            written_shown (codes "out") refl,
            (
              written_shown (codes "ss") refl,
              (
                written_shown (codes "st") refl,
                (
                  written_shown (codes "ie") refl,
                  (
                    written_shown (codes "se") refl,
                    (
                      left_shown 16 (codes "satp") (written_shown (codes "satp") refl),
                      (left_shown 16 (codes "deadline") (written_shown (codes "deadline") refl), (written_shown (codes "tlb") refl, (written_shown (codes "ic") refl, tt))),
                    ),
                  ),
                ),
              ),
            ),
          ),
        ),
      ),
    ) in
    pass_line (drop 1 (head_cells)) shown

state_shown : (state : HartState) → IsShown (state_name state)
state_shown Started = written_shown (codes "STARTED") refl
state_shown Stopped = written_shown (codes "STOPPED") refl
state_shown StartPending = written_shown (codes "START_PENDING") refl
state_shown StopPending = written_shown (codes "STOP_PENDING") refl
state_shown Suspended = written_shown (codes "SUSPENDED") refl
state_shown SuspendPending = written_shown (codes "SUSPEND_PENDING") refl
state_shown ResumePending = written_shown (codes "RESUME_PENDING") refl

outstanding_shown : (harts : Option (List ℕ)) → IsShown (outstanding_cell harts)
outstanding_shown (Some harts) = number_shown 3 (length harts)
outstanding_shown None = right_shown 3 (codes "-") (refl, tt)

deadline_shown : (deadline : Option ℕ) → IsShown (deadline_cell deadline)
deadline_shown (Some deadline) = hex_shown 16 deadline
deadline_shown None = repeated_shown 16 45 refl

row_passes : (o : Opening) (past : List Event) (h : ℕ) → Passes (row o past h)
unfolding hart_cells
row_passes o past h =
    let shown : AreShown (drop 1 (hart_cells o past h)) = (
      number_shown 4 h,
      (
        left_shown 15 (state_name (state o past h)) (state_shown (state o past h)),
        (
          number_shown 4 _,
          (
            outstanding_shown _,
            (
              number_shown 2 _,
              (number_shown 2 _, (hex_shown 2 _, (number_shown 2 _, (hex_shown 16 _, (deadline_shown _, (number_shown 3 _, (number_shown 2 _, tt))))))),
            ),
          ),
        ),
      ),
    ) in
    pass_line (drop 1 (hart_cells o past h)) shown

entry_passes : (h : ℕ) (start : Option EntryPoint) → Passes (entry_line h start)
unfolding entry_cells
entry_passes h (Some start) =
    let shown : AreShown (drop 1 (entry_cells h start)) = (written_shown (codes "entry") refl, (number_shown 3 h, (hex_shown 16 start.addr, (hex_shown 16 start.opaque, tt)))) in
    pass_line (drop 1 (entry_cells h start)) shown
entry_passes h None = λ rest are. are

letter_shown : (present : Bool) (byte : ℕ) → is_allowed byte ≡ true → is_allowed (letter present byte) ≡ true
letter_shown true byte allowed = allowed
letter_shown false byte allowed = refl

tlb_passes : (h : ℕ) (entry : Entry) → Passes (tlb_line h entry)
unfolding tlb_cells
tlb_passes h entry =
    let leaf = entry.leaf in
    let rights_shown : IsShown (rights entry) =
    (letter_shown leaf.r 114 refl, (letter_shown leaf.w 119 refl, (letter_shown leaf.x 120 refl, (letter_shown leaf.d 100 refl, tt)))) in
    let shown : AreShown (drop 1 (tlb_cells h entry)) = (
      written_shown (codes "tlb") refl,
      (
        number_shown 3 h,
        (
          hex_shown 16 leaf.page,
          (decimal_shown _, (hex_shown 4 entry.asid, ((letter_shown leaf.global 103 refl, tt), (hex_shown 16 leaf.pa, (rights_shown, tt))))),
        ),
      ),
    ) in
    pass_line (drop 1 (tlb_cells h entry)) shown

word_passes : (h : ℕ) (fetched : FetchWord) → Passes (word_line h fetched)
unfolding word_cells
word_passes h fetched =
    let shown : AreShown (drop 1 (word_cells h fetched)) = (written_shown (codes "ic") refl, (number_shown 3 h, (hex_shown 16 fetched.pa, (hex_shown 16 fetched.word, tt)))) in
    pass_line (drop 1 (word_cells h fetched)) shown

range_shown : (range : Option Range) → AreShown (shown_range range)
range_shown None = (written_shown (codes "full") refl, tt)
range_shown (Some range) = (hex_shown 16 range.start, (hex_shown 16 range.size, tt))

asid_shown : (asid : Option ℕ) → AreShown (asid_words asid)
asid_shown None = tt
asid_shown (Some asid) = (written_shown (codes "asid") refl, (hex_shown 4 asid, tt))

flush_shown : (flush : Flush) → AreShown (shown_flush flush)
flush_shown Words = (written_shown (codes "i") refl, tt)
flush_shown (Entries fence) =
    (written_shown (codes "vma") refl, append_all IsShown (shown_range fence.range) (asid_words fence.asid) (range_shown fence.range) (asid_shown fence.asid))

fence_passes : (h : ℕ) (request : Request Flush) → Passes (fence_line h request)
unfolding fence_cells
fence_passes h request =
    let shown : AreShown (drop 1 (fence_cells h request)) = (
      written_shown (codes "fence") refl,
      (number_shown 3 h, (written_shown (codes "from") refl, (number_shown 3 request.from, flush_shown request.flush))),
    ) in
    pass_line (drop 1 (fence_cells h request)) shown

details_passes : (o : Opening) (past : List Event) (h : ℕ) → Passes (details o past h)
details_passes o past h =
    let entry = entry_line h (kept o past h) in
    let tlb = flat_map (tlb_line h) (tlb_entries o past h) in
    let ic = flat_map (word_line h) (words o past h) in
    let fences = flat_map (fence_line h) (waiting o past h) in
    pass_append entry (tlb ++ (ic ++ fences)) (entry_passes h (kept o past h))
    (pass_append tlb (ic ++ fences) (pass_each (tlb_line h) (tlb_passes h) (tlb_entries o past h))
    (pass_append ic fences (pass_each (word_line h) (word_passes h) (words o past h)) (pass_each (fence_line h) (fence_passes h) (waiting o past h))))

pub table_passes : (o : Opening) (past : List Event) → Passes (table o past)
table_passes o past =
    let time = as_line (time_cells o past) in
    let counts = as_line (totals_cells (totals o past)) in
    let head = as_line head_cells in
    let rows = flat_map (row o past) (harts_of o.config) in
    let others = flat_map (details o past) (harts_of o.config) in
    pass_append time (counts ++ (head ++ (rows ++ others))) (time_passes o past)
    (pass_append counts (head ++ (rows ++ others)) (totals_passes (totals o past))
    (pass_append head (rows ++ others) head_passes
    (pass_append rows others (pass_each (row o past) (row_passes o past) (harts_of o.config)) (pass_each (details o past) (details_passes o past) (harts_of o.config)))))

pub table_is_comments : TableIsComments
table_is_comments o past = subst AreComments (append-nil (table o past)) (table_passes o past [] tt)
