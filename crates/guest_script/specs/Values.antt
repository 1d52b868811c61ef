-- What words say, where no test of them holds.
use Rattle.std.specs.Prelude.{ℕ, ℤ, pos, neg_ℤ, ◌+◌, Bool, true, false, ◌&&◌, ◌||◌, nat_le, if◌then◌else◌, List, [], ◌∷◌, ◌++◌, drop, take, map, slice_index, slice_index_or, codes, Option, Some, None, unwrap_or}
use Rattle.std.specs.Char.{is_digit}
use Rattle.std.specs.List.{filter, list_any, list_all, slice_split}
use Rattle.std.specs.Str.{bytes_eq}
use Rattle.std.specs.Str.Parse.{digits_value}
use Rattle.board_terms.specs.declared.config.Config.{Config}
use Rattle.board_terms.specs.Limits.{usual_asid_len, usual_width}
use Rattle.board_terms.specs.declared.op.Actor.{Actor}
use Rattle.board_terms.specs.declared.op.Actor.TheVariants.{Hart, Clock}
use Rattle.board_terms.specs.declared.op.Op.{Op}
use Rattle.board_terms.specs.declared.op.Op.TheVariants.{Advance}
use Rattle.guest_script.specs.declared.line_kind.LineKind.{LineKind}
use Rattle.guest_script.specs.declared.line_kind.LineKind.TheVariants.{Head, Step, Operation}
use Rattle.script_lines.specs.declared.said.Said.{Said}
use Rattle.script_lines.specs.declared.said.Said.TheVariants.{Ret, Done}
use Rattle.script_lines.specs.declared.said_name.SaidName.TheVariants as saids
use Rattle.script_lines.specs.declared.script.Doing.{Doing}
use Rattle.script_lines.specs.declared.script.Doing.TheVariants as doings
use Rattle.script_lines.specs.declared.script.Line.{Line}
use Rattle.script_lines.specs.Names.{said_word}
use Rattle.guest_script.specs.Words.{last_hart, last_number}
use Rattle.guest_script.specs.Forms.{Form, form_of, guest_form_of, number_at, number_or, said_form_of}
use Rattle.guest_script.specs.Grammar.{clock_of, content_of, Draft, Nothing, Blocked, Stepped, Traced, guest_at, Guest, guests_of, Open, OfClock, OfGuest, opened, with_op, with_tick, Written}
pub use Rattle.line_words.specs.Values.{before_comment, is_filled, is_arrow, has_arrow, before_arrow, after_arrow, words_until, is_numeral, is_hexadecimal, word_value, is_below, is_signed, signed_value}
unfoldable pub use Rattle.line_words.specs.Values.{words_in, is_number, number_in, signed_in}

-- ---- names with arguments

-- the arguments that the words are: their numbers, and none for a word that spells none, as a dash does
unfoldable pub arguments_in : (limit : ℕ) → List (List ℕ) → List (Option ℕ)
arguments_in limit words = map (number_in limit) words

-- what the form makes of words
abbrev pub made_by : {A : Type 0} → (otherwise : A) → Option (Form A) → List (List ℕ) → A
made_by otherwise None words = otherwise
made_by otherwise (Some form) words = form.makes (arguments_in form.limit words)

-- what a name and the words behind it make
abbrev pub named_in : {A : Type 0} → (List ℕ → Option (Form A)) → (otherwise : A) → List (List ℕ) → A
named_in form_of otherwise [] = otherwise
named_in form_of otherwise (name ∷ words) = made_by otherwise (form_of name) words

-- the operation that words are
abbrev pub op_in : List (List ℕ) → Op
op_in words = named_in form_of Advance words

-- what `ret` says
abbrev pub ret_in : List (List ℕ) → Said
ret_in words = Ret (unwrap_or (signed_in (slice_index_or words 0 [])) (pos 0))
    (unwrap_or (number_in last_number (slice_index_or words 1 [])) 0)

-- whether a word is `ret`
abbrev pub is_ret : List ℕ → Bool
is_ret word = bytes_eq word (said_word saids.Ret)

-- what the words of a reply or a refusal say
abbrev pub said_in : List (List ℕ) → Said
said_in [] = Done
said_in (name ∷ words) = if is_ret name then ret_in words else made_by Done (said_form_of name) words

-- the number that the first word is
abbrev pub first_number : List (List ℕ) → ℕ
first_number words = number_at (arguments_in last_number words) 0

-- ---- lines

-- whether a word is the clock's
abbrev pub is_clock : List ℕ → Bool
is_clock word = bytes_eq word (codes "c")

-- the actor that a word is
abbrev pub actor_in : List ℕ → Actor
actor_in word = if is_clock word then Clock else Hart (unwrap_or (number_in last_hart word) 0)

-- whether a word is the one that cuts the history
abbrev pub is_cut : List ℕ → Bool
is_cut word = bytes_eq word (codes "cut")

-- An actor's line begins with `c` or a digit, or is a cut.
abbrev pub begins_actor_line : List ℕ → Bool
begins_actor_line first = is_cut first || is_clock first || is_digit (slice_index first 0) 10

-- whether a word opens a guest's block, and whether it opens the clock's
abbrev pub is_at : List ℕ → Bool
is_at word = bytes_eq word (codes "at")

abbrev pub is_clock_head : List ℕ → Bool
is_clock_head word = bytes_eq word (codes "clock")

-- what a line is by its first word, and whether it has an arrow
abbrev pub kind_of : (first : List ℕ) → List (List ℕ) → LineKind
kind_of first words =
    if is_at first || is_clock_head first then Head else if begins_actor_line first then Step
    (has_arrow words) else Operation

-- what a line does
abbrev pub doing_in : (first : List ℕ) → List (List ℕ) → Doing
doing_in first words = if is_cut first then doings.Cut else doings.Step (actor_in first) (op_in words)

-- line n of a schedule, and of a trace
abbrev pub line_in : (n : ℕ) → (in_trace : Bool) → (first : List ℕ) → List (List ℕ) → Line
line_in n false first words = record { number = n; doing = doing_in first words; said = None }
line_in n true first words = record {
  number = n;
  doing = doing_in first (before_arrow words);
  said = Some (said_in (after_arrow words));
}

-- the guests' blocks so far, and the clock's ticks
abbrev pub guests_in : Draft → List Guest
guests_in (Blocked p) = guests_of p
guests_in draft = []

abbrev pub clock_in : Draft → Option (List ℕ)
clock_in (Blocked p) = clock_of p
clock_in draft = None

-- the schedule's lines so far, and the trace's
abbrev pub stepped_in : Draft → List Line
stepped_in (Stepped lines) = lines
stepped_in draft = []

abbrev pub traced_in : Draft → List Line
traced_in (Traced lines) = lines
traced_in draft = []

-- the block that a head opens
abbrev pub opened_by : (first : List ℕ) → List (List ℕ) → Open
opened_by first words = if is_at first then guest_at (first_number words) else OfClock []

-- the open block with a line more
abbrev pub in_block : Open → List (List ℕ) → Open
in_block (OfGuest guest) words = with_op guest (named_in guest_form_of Advance words)
in_block (OfClock ticks) words = with_tick ticks (first_number (drop 1 words))

abbrev pub with_operation : Draft → List (List ℕ) → Draft
with_operation (Blocked p) words = Blocked (record p { current = in_block p.current words })
with_operation draft words = draft

-- a step more
abbrev pub with_step : (in_trace : Bool) → Draft → Line → Draft
with_step false draft line = Stepped (stepped_in draft ++ line ∷ [])
with_step true draft line = Traced (traced_in draft ++ line ∷ [])

abbrev pub next_of : LineKind → (n : ℕ) → Draft → (first : List ℕ) → List (List ℕ) → Draft
next_of Head n draft first words = Blocked (opened (guests_in draft) (clock_in draft) (opened_by first words))
next_of (Step in_trace) n draft first words = with_step in_trace draft (line_in n in_trace first words)
next_of Operation n draft first words = with_operation draft (first ∷ words)

-- what the lines say with line n
abbrev pub next_in : (n : ℕ) → Draft → List (List ℕ) → Draft
next_in n draft [] = draft
next_in n draft (first ∷ words) = next_of (kind_of first words) n draft first words

-- what the lines say with those from line n on
abbrev pub draft_in : (n : ℕ) → Draft → List (List ℕ) → Draft
draft_in n draft [] = draft
draft_in n draft (text ∷ texts) = draft_in (n + 1) (next_in n draft (words_in text)) texts

-- ---- the script

-- a board by its numbers, of which the last two may be left out
unfoldable pub config_of : List (Option ℕ) → Config
config_of ns = record {
  harts = number_at ns 0;
  pages = number_at ns 1;
  limit = number_at ns 2;
  boot_hart = number_at ns 3;
  boot_addr = number_at ns 4;
  boot_opaque = number_at ns 5;
  asid_len = number_or usual_asid_len ns 6;
  width = number_or usual_width ns 7;
}

-- the board of a line, if it has words
abbrev pub board_in : List (List ℕ) → Option Config
board_in [] = None
board_in (first ∷ words) = Some (config_of (arguments_in last_number words))

-- a board and what the lines after it say, or what comes later
abbrev pub script_with : Option Config → Draft → (later : Written) → Written
script_with None draft later = later
script_with (Some config) draft later = record { config = config; content = content_of draft }

-- the script of the lines from line n on
abbrev pub script_in : (n : ℕ) → List (List ℕ) → Written
script_in n [] = record { config = config_of []; content = content_of Nothing }
script_in n (text ∷ texts) = script_with (board_in (words_in text)) (draft_in (n + 1) Nothing texts)
    (script_in (n + 1) texts)
