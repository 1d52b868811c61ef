-- What is wrong with bytes that are no script: the first test that holds, from the first line on (profile).
use Rattle.std.specs.Prelude.{ℕ, ◌+◌, Bool, true, false, not, ◌==◌, ◌&&◌, ◌||◌, nat_lt, if◌then◌else◌, List, [], ◌∷◌, ◌++◌, length, map, codes, Option, Some, None, is_some}
use Rattle.std.specs.List.{list_all}
use Rattle.std.specs.Str.{bytes_eq}
use Rattle.std.specs.Str.Lines.{lines}
use Rattle.board_terms.specs.Refusals.{first_that_holds}
use Rattle.guest_script.specs.declared.fault.FaultKind.{FaultKind}
use Rattle.guest_script.specs.declared.fault.FaultKind.TheVariants.{BadByte, NoBoardLine, UnknownWord, BadNumber, WordCount, OtherKind, SecondBlock, TooLong, NoMemory}
use Rattle.guest_script.specs.declared.fault.ScriptFault.{ScriptFault}
use Rattle.guest_script.specs.declared.line_kind.LineKind.{LineKind}
use Rattle.guest_script.specs.declared.line_kind.LineKind.TheVariants.{Head, Step, Operation}
use Rattle.guest_script.specs.declared.wrong.Misread.{Misread}
use Rattle.guest_script.specs.declared.wrong.Wrong.{Wrong}
use Rattle.guest_script.specs.declared.wrong.Wrong.TheVariants as wrongs
use Rattle.script_lines.specs.declared.op_name.OpName.TheVariants.{Tick}
use Rattle.script_lines.specs.Names.{op_word}
use Rattle.guest_script.specs.Words.{is_allowed, last_hart, last_number}
use Rattle.guest_script.specs.Forms.{Form, form_of, guest_form_of, said_form_of}
use Rattle.guest_script.specs.Grammar.{Draft, Nothing, Blocked, Stepped, Traced, Guest, has_block, most_bytes, Open, OfClock, OfGuest}
use Rattle.guest_script.specs.Values.{after_arrow, before_arrow, clock_in, first_number, guests_in, is_at, is_clock, is_cut, is_filled, is_number, is_ret, is_signed, kind_of, next_in, words_in}

-- the faults' numbers
abbrev pub fault_number : FaultKind → ℕ
fault_number BadByte = 1
fault_number NoBoardLine = 2
fault_number UnknownWord = 3
fault_number BadNumber = 4
fault_number WordCount = 5
fault_number OtherKind = 6
fault_number SecondBlock = 7
fault_number TooLong = 8
fault_number NoMemory = 9

-- the kind of fault of each mistake
abbrev pub fault_of : Wrong → FaultKind
fault_of wrongs.BadByte = BadByte
fault_of wrongs.NoBoardLine = NoBoardLine
fault_of wrongs.UnknownOperation = UnknownWord
fault_of wrongs.UnknownReply = UnknownWord
fault_of wrongs.BadNumber = BadNumber
fault_of wrongs.WordMissing = WordCount
fault_of wrongs.WordTooMany = WordCount
fault_of wrongs.OtherKind = OtherKind
fault_of wrongs.SecondBlock = SecondBlock
fault_of wrongs.TooLong = TooLong
fault_of wrongs.NoMemory = NoMemory

-- the fault of a mistake, with its line and without its column
abbrev pub script_fault : Misread → ScriptFault
script_fault misread = record { line = misread.line; fault = fault_of misread.wrong }

-- ---- names with arguments

-- whether a word is the dash that stands for an absent argument
abbrev pub is_dash : List ℕ → Bool
is_dash word = bytes_eq word (codes "-")

-- whether a word is a number, or a dash where an argument may be absent
abbrev pub is_argument : (may_be_absent : Bool) → (limit : ℕ) → List ℕ → Bool
is_argument may_be_absent limit word = is_number limit word || (may_be_absent && is_dash word)

-- each word in turn is an argument
abbrev pub argument_tests : (may_be_absent : Bool) → (limit : ℕ) → List (List ℕ) → List (Bool × FaultKind)
argument_tests may_be_absent limit words = map (λ word. (not (is_argument may_be_absent limit word), BadNumber)) words

-- this many arguments: their count, and then each from left to right
abbrev pub arguments_tests : (least most : ℕ) → (may_be_absent : Bool) → (limit : ℕ) → List (List ℕ)
    → List (Bool × FaultKind)
arguments_tests least most may_be_absent limit words =
    (nat_lt (length words) least || nat_lt most (length words), WordCount) ∷ argument_tests may_be_absent limit words

-- the name is known, and its arguments are as it takes them
abbrev pub form_tests : {A : Type 0} → Option (Form A) → List (List ℕ) → List (Bool × FaultKind)
form_tests None words = (true, UnknownWord) ∷ []
form_tests (Some form) words = arguments_tests form.least form.most form.may_be_absent form.limit words

-- there is a name, and it is known
abbrev pub named_tests : {A : Type 0} → (List ℕ → Option (Form A)) → List (List ℕ) → List (Bool × FaultKind)
named_tests form_of [] = (true, WordCount) ∷ []
named_tests form_of (name ∷ words) = form_tests (form_of name) words

-- one number
abbrev pub number_tests : List (List ℕ) → List (Bool × FaultKind)
number_tests words = arguments_tests 1 1 false last_number words

-- a signed number and a number
abbrev pub ret_tests : List (List ℕ) → List (Bool × FaultKind)
ret_tests (error ∷ value ∷ []) = (not (is_signed error), BadNumber) ∷ (not (is_number last_number value), BadNumber)
    ∷ []
ret_tests words = (true, WordCount) ∷ []

-- the words of a reply or a refusal: there is one, it is known, and its arguments are as it takes them
abbrev pub said_tests : List (List ℕ) → List (Bool × FaultKind)
said_tests [] = (true, WordCount) ∷ []
said_tests (name ∷ words) = if is_ret name then ret_tests words else form_tests (said_form_of name) words

-- ---- the tests of a line

-- `c`, or the number of a hart
abbrev pub actor_test : List ℕ → Bool × FaultKind
actor_test word = (not (is_clock word || is_number last_hart word), BadNumber)

-- an actor and an operation
abbrev pub acting_tests : (first : List ℕ) → List (List ℕ) → List (Bool × FaultKind)
acting_tests first words = actor_test first ∷ named_tests form_of words

-- the same, or a cut, which has no further word
abbrev pub doing_tests : (first : List ℕ) → List (List ℕ) → List (Bool × FaultKind)
doing_tests first words = if is_cut first then (is_filled words, WordCount) ∷ [] else acting_tests first words

-- what a line does, and in a trace what that gave
abbrev pub step_tests : (in_trace : Bool) → (first : List ℕ) → List (List ℕ) → List (Bool × FaultKind)
step_tests false first words = doing_tests first words
step_tests true first words = doing_tests first (before_arrow words) ++ said_tests (after_arrow words)

-- an address that no block has, or the clock's first block
abbrev pub head_tests : List Guest → (clock : Option (List ℕ)) → (first : List ℕ) → List (List ℕ) → List (Bool × FaultKind)
head_tests guests clock first words =
    if is_at first then number_tests words ++ (has_block guests (first_number words), SecondBlock) ∷ []
    else (is_filled words, WordCount) ∷ (is_some clock, SecondBlock) ∷ []

-- an operation of the open block
abbrev pub in_block_tests : Open → List (List ℕ) → List (Bool × FaultKind)
in_block_tests (OfGuest guest) words = named_tests guest_form_of words
in_block_tests (OfClock ticks) [] = []
in_block_tests (OfClock ticks) (name ∷ words) = (not (bytes_eq name (op_word Tick)), UnknownWord) ∷ number_tests words

-- whether a line of this kind may follow: the first may not be an operation without a block, and the others have the first
-- one's kind
abbrev pub may_follow : Draft → LineKind → Bool
may_follow Nothing Operation = false
may_follow Nothing kind = true
may_follow (Blocked p) (Step in_trace) = false
may_follow (Blocked p) kind = true
may_follow (Stepped lines) (Step in_trace) = not in_trace
may_follow (Stepped lines) kind = false
may_follow (Traced lines) (Step in_trace) = in_trace
may_follow (Traced lines) kind = false

abbrev pub operation_tests : Draft → List (List ℕ) → List (Bool × FaultKind)
operation_tests (Blocked p) words = in_block_tests p.current words
operation_tests draft words = []

-- the tests of a line of this kind
abbrev pub kind_tests : LineKind → Draft → (first : List ℕ) → List (List ℕ) → List (Bool × FaultKind)
kind_tests Head draft first words = head_tests (guests_in draft) (clock_in draft) first words
kind_tests (Step in_trace) draft first words = step_tests in_trace first words
kind_tests Operation draft first words = operation_tests draft (first ∷ words)

-- a line's kind, and then what it says
abbrev pub line_tests : Draft → List (List ℕ) → List (Bool × FaultKind)
line_tests draft [] = []
line_tests draft (first ∷ words) =
    (not (may_follow draft (kind_of first words)), OtherKind) ∷ kind_tests (kind_of first words) draft first words

-- a board has six numbers or eight, and then each is looked at from left to right
abbrev pub board_number_tests : List (List ℕ) → List (Bool × FaultKind)
board_number_tests words =
    (not ((length words == 6) || (length words == 8)), WordCount) ∷ argument_tests false last_number words

-- the word `board`, and then its numbers
abbrev pub board_tests : List (List ℕ) → List (Bool × FaultKind)
board_tests [] = []
board_tests (first ∷ words) = (not (bytes_eq first (codes "board")), NoBoardLine) ∷ board_number_tests words

-- each byte is allowed, also in a comment
abbrev pub byte_test : List ℕ → Bool × FaultKind
byte_test text = (not (list_all is_allowed text), BadByte)

-- ---- the tests of a script

-- the tests of line n
abbrev pub at_line : ℕ → List (Bool × FaultKind) → List (Bool × ScriptFault)
at_line n tests = map (λ test. (test.0, record { line = n; fault = test.1 })) tests

-- the tests of the lines from line n on, after the board's
abbrev pub lines_tests : ℕ → Draft → List (List ℕ) → List (Bool × ScriptFault)
lines_tests n draft [] = []
lines_tests n draft (text ∷ texts) =
    at_line n (byte_test text ∷ line_tests draft (words_in text))
    ++ lines_tests (n + 1) (next_in n draft (words_in text)) texts

-- the tests of the lines from line n on; the first with words is the board's
abbrev pub board_first_tests : ℕ → List (List ℕ) → List (Bool × ScriptFault)
board_first_tests n [] = (true, record { line = 0; fault = NoBoardLine }) ∷ []
board_first_tests n (text ∷ texts) =
    at_line n (byte_test text ∷ board_tests (words_in text))
    ++ (if is_filled (words_in text) then lines_tests (n + 1) Nothing texts else board_first_tests (n + 1) texts)

-- all tests of a script: its size first, then its lines
abbrev pub script_tests : List ℕ → List (Bool × ScriptFault)
script_tests bytes =
    (nat_lt most_bytes (length bytes), record { line = 0; fault = TooLong }) ∷ board_first_tests 1 (lines bytes)

-- The fault of the first test that holds, if one does.
abbrev pub first_fault : List ℕ → Option ScriptFault
first_fault bytes = first_that_holds (script_tests bytes)

-- a failed allocation, which is at no line
abbrev pub no_memory : ScriptFault
no_memory = record { line = 0; fault = NoMemory }
