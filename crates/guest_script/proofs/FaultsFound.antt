-- What a call of `parse` answers, by the tests; and no test's fault is the want of memory.
use Rattle.std.proofs.Common.{◌≡◌, ◌≢◌, ℕ, ◌+◌, Bool, true, false, cond, List, [], ◌∷◌, ◌++◌, Option, Some, None, is_some, Result, Ok, Err, ap, subst, inl, inr}
use Rattle.std.specs.Prelude.{IfErr, IfOk, MatchResult}
use Rattle.std.specs.List.{AllByRecursion}
use Rattle.std.specs.Str.Lines.{lines}
use Rattle.std.proofs.lemmas.Bool.{cases_Bool}
use Rattle.std.proofs.lemmas.Option.{same_Some}
use Rattle.board_terms.specs.Refusals.{first_that_holds}
use Rattle.guest_script.specs.declared.fault.FaultKind.{FaultKind}
use Rattle.guest_script.specs.declared.fault.FaultKind.TheVariants.{NoMemory, SecondBlock, WordCount}
use Rattle.guest_script.specs.declared.fault.ScriptFault.{ScriptFault}
use Rattle.script_lines.specs.declared.script.Script.{Script}
use Rattle.guest_script.specs.declared.line_kind.LineKind.{LineKind}
use Rattle.guest_script.specs.declared.line_kind.LineKind.TheVariants.{Head, Step, Operation}
use Rattle.guest_script.specs.Words.{last_number}
use Rattle.guest_script.specs.Forms.{Form, form_of, guest_form_of, said_form_of}
use Rattle.guest_script.specs.Grammar.{Blocked, Draft, Guest, Nothing, OfClock, OfGuest, Open, Reads, Stepped, Traced, Written, has_block, written}
use Rattle.guest_script.specs.Values.{after_arrow, before_arrow, clock_in, first_number, guests_in, is_at, is_cut, is_filled, is_ret, kind_of, next_in, words_in}
use Rattle.guest_script.specs.FirstFault.{acting_tests, argument_tests, at_line, board_first_tests, board_tests, byte_test, doing_tests, first_fault, form_tests, head_tests, in_block_tests, kind_tests, line_tests, lines_tests, named_tests, number_tests, operation_tests, ret_tests, said_tests, script_tests, step_tests}
use Rattle.guest_script.specs.Reading.{GivesOrLacks, script_of}
use Rattle.guest_script.proofs.ScriptLines.{first_fault_answered, read_what_it_reads, reads_what_is_read}

-- ---- no test's fault is the want of memory

abbrev AreOfBytes : List (Bool × FaultKind) → Type 0
AreOfBytes tests = AllByRecursion (λ test. test.1 ≢ NoMemory) tests

abbrev AreFound : List (Bool × ScriptFault) → Type 0
AreFound tests = AllByRecursion (λ test. test.1.fault ≢ NoMemory) tests

arguments_of_bytes : (dash : Bool) (limit : ℕ) (words : List (List ℕ)) → AreOfBytes (argument_tests dash limit words)
arguments_of_bytes dash limit [] = tt
arguments_of_bytes dash limit (word ∷ words) = ((λ e. cc), arguments_of_bytes dash limit words)

form_of_bytes : {A : Type 0} (form : Option (Form A)) (words : List (List ℕ)) → AreOfBytes (form_tests form words)
form_of_bytes None words = ((λ e. cc), tt)
form_of_bytes (Some form) words = ((λ e. cc), arguments_of_bytes form.may_be_absent form.limit words)

named_of_bytes : {A : Type 0} (form_of : List ℕ → Option (Form A)) (words : List (List ℕ)) → AreOfBytes (named_tests form_of words)
named_of_bytes form_of [] = ((λ e. cc), tt)
named_of_bytes form_of (name ∷ words) = form_of_bytes (form_of name) words

of_bytes_both : (tests more : List (Bool × FaultKind)) → AreOfBytes tests → AreOfBytes more → AreOfBytes (tests ++ more)
of_bytes_both [] more all later = later
of_bytes_both (test ∷ tests) more all later = (all.0, of_bytes_both tests more all.1 later)

cond_of_bytes : (b : Bool) (xs ys : List (Bool × FaultKind)) → AreOfBytes xs → AreOfBytes ys → AreOfBytes (cond b xs ys)
cond_of_bytes true xs ys p q = p
cond_of_bytes false xs ys p q = q

number_of_bytes : (words : List (List ℕ)) → AreOfBytes (number_tests words)
number_of_bytes words = ((λ e. cc), arguments_of_bytes false last_number words)

ret_of_bytes : (words : List (List ℕ)) → AreOfBytes (ret_tests words)
ret_of_bytes [] = ((λ e. cc), tt)
ret_of_bytes (error ∷ []) = ((λ e. cc), tt)
ret_of_bytes (error ∷ value ∷ []) = ((λ e. cc), ((λ e. cc), tt))
ret_of_bytes (error ∷ value ∷ next ∷ words) = ((λ e. cc), tt)

said_of_bytes : (words : List (List ℕ)) → AreOfBytes (said_tests words)
said_of_bytes [] = ((λ e. cc), tt)
said_of_bytes (name ∷ words) = cond_of_bytes (is_ret name) (ret_tests words) (form_tests (said_form_of name) words) (ret_of_bytes words) (form_of_bytes (said_form_of name) words)

doing_of_bytes : (first : List ℕ) (words : List (List ℕ)) → AreOfBytes (doing_tests first words)
doing_of_bytes first words = cond_of_bytes (is_cut first) ((is_filled words, WordCount) ∷ []) (acting_tests first words) ((λ e. cc), tt) ((λ e. cc), named_of_bytes form_of words)

step_of_bytes : (in_trace : Bool) (first : List ℕ) (words : List (List ℕ)) → AreOfBytes (step_tests in_trace first words)
step_of_bytes false first words = doing_of_bytes first words
step_of_bytes true first words = of_bytes_both (doing_tests first (before_arrow words)) (said_tests (after_arrow words)) (doing_of_bytes first (before_arrow words)) (said_of_bytes (after_arrow words))

head_of_bytes : (guests : List Guest) (clock : Option (List ℕ)) (first : List ℕ) (words : List (List ℕ)) → AreOfBytes (head_tests guests clock first words)
head_of_bytes guests clock first words =
    cond_of_bytes (is_at first) (number_tests words ++ (has_block guests (first_number words), SecondBlock) ∷ []) ((is_filled words, WordCount) ∷ (is_some clock, SecondBlock) ∷ [])
    (of_bytes_both (number_tests words) ((has_block guests (first_number words), SecondBlock) ∷ []) (number_of_bytes words) ((λ e. cc), tt)) ((λ e. cc), ((λ e. cc), tt))

in_block_of_bytes : (current : Open) (words : List (List ℕ)) → AreOfBytes (in_block_tests current words)
in_block_of_bytes (OfGuest guest) words = named_of_bytes guest_form_of words
in_block_of_bytes (OfClock ticks) [] = tt
in_block_of_bytes (OfClock ticks) (name ∷ words) = ((λ e. cc), number_of_bytes words)

operation_of_bytes : (draft : Draft) (words : List (List ℕ)) → AreOfBytes (operation_tests draft words)
operation_of_bytes Nothing words = tt
operation_of_bytes (Blocked p) words = in_block_of_bytes p.current words
operation_of_bytes (Stepped lines) words = tt
operation_of_bytes (Traced lines) words = tt

kind_of_bytes : (kind : LineKind) (draft : Draft) (first : List ℕ) (words : List (List ℕ)) → AreOfBytes (kind_tests kind draft first words)
kind_of_bytes Head draft first words = head_of_bytes (guests_in draft) (clock_in draft) first words
kind_of_bytes (Step in_trace) draft first words = step_of_bytes in_trace first words
kind_of_bytes Operation draft first words = operation_of_bytes draft (first ∷ words)

words_of_bytes : (draft : Draft) (words : List (List ℕ)) → AreOfBytes (line_tests draft words)
words_of_bytes draft [] = tt
words_of_bytes draft (first ∷ words) = ((λ e. cc), kind_of_bytes (kind_of first words) draft first words)

board_of_bytes : (words : List (List ℕ)) → AreOfBytes (board_tests words)
board_of_bytes [] = tt
board_of_bytes (first ∷ words) = ((λ e. cc), ((λ e. cc), arguments_of_bytes false last_number words))

found_on_line : (n : ℕ) (tests : List (Bool × FaultKind)) → AreOfBytes tests → AreFound (at_line n tests)
found_on_line n [] all = tt
found_on_line n (test ∷ tests) all = (all.0, found_on_line n tests all.1)

found_both : (tests more : List (Bool × ScriptFault)) → AreFound tests → AreFound more → AreFound (tests ++ more)
found_both [] more all later = later
found_both (test ∷ tests) more all later = (all.0, found_both tests more all.1 later)

line_found : (n : ℕ) (text : List ℕ) (tests : List (Bool × FaultKind)) (more : List (Bool × ScriptFault)) → AreOfBytes tests → AreFound more → AreFound (at_line n (byte_test text ∷ tests) ++ more)
line_found n text tests more all later = found_both (at_line n (byte_test text ∷ tests)) more (found_on_line n (byte_test text ∷ tests) ((λ e. cc), all)) later

lines_found : (n : ℕ) (draft : Draft) (texts : List (List ℕ)) → AreFound (lines_tests n draft texts)
lines_found n draft [] = tt
lines_found n draft (text ∷ texts) = line_found n text (line_tests draft (words_in text)) _ (words_of_bytes draft (words_in text)) (lines_found (n + 1) (next_in n draft (words_in text)) texts)

cond_found : (b : Bool) (xs ys : List (Bool × ScriptFault)) → AreFound xs → AreFound ys → AreFound (cond b xs ys)
cond_found true xs ys p q = p
cond_found false xs ys p q = q

script_found : (n : ℕ) (texts : List (List ℕ)) → AreFound (board_first_tests n texts)
script_found n [] = ((λ e. cc), tt)
script_found n (text ∷ texts) =
    line_found n text (board_tests (words_in text)) _ (board_of_bytes (words_in text))
    (cond_found (is_filled (words_in text)) _ _ (lines_found (n + 1) Nothing texts) (script_found (n + 1) texts))

fault_found : (tests : List (Bool × ScriptFault)) (e : ScriptFault) → AreFound tests → first_that_holds tests ≡ Some e → e.fault ≢ NoMemory
fault_found [] e all first = absurd cc
fault_found (test ∷ tests) e all first = elim (cases_Bool test.0) [
  | inl holds ↦ subst (λ (f : ScriptFault). f.fault ≢ NoMemory) (same_Some _ _ (rw holds at first)) all.0
  | inr fails ↦ fault_found tests e all.1 (rw fails at first)
]

first_fault_found : (bytes : List ℕ) (e : ScriptFault) → first_fault bytes ≡ Some e → e.fault ≢ NoMemory
first_fault_found bytes e first = fault_found (script_tests bytes) e ((λ e. cc), script_found 1 (lines bytes)) first

-- ---- what is answered

abbrev pub IsAnswered : List ℕ → Result Script ScriptFault → Type 0
IsAnswered bytes answer = GivesOrLacks written answer (script_of bytes)

pub answered_script : (bytes : List ℕ) (answer : Result Script ScriptFault) → IsAnswered bytes answer → IfOk answer (λ script. Reads bytes (written script))
answered_script bytes (Ok script) answered = reads_what_is_read bytes (written script) answered
answered_script bytes (Err e) answered = tt

same_schedule : (x : Result Written ScriptFault) (s t : Written) → x ≡ Ok s → x ≡ Ok t → s ≡ t
same_schedule x s t p q = cc

no_schedule : {P : Type 0} (x : Result Written ScriptFault) (s : Written) (e : ScriptFault) → x ≡ Ok s → x ≡ Err e → P
no_schedule x s e p q = absurd cc

pub answered_only : (bytes : List ℕ) (answer : Result Script ScriptFault) → IsAnswered bytes answer
    → (s : Written) → Reads bytes s → MatchResult answer (λ script. written script ≡ s) (λ e. e.fault ≡ NoMemory)
answered_only bytes (Ok script) answered s reads = same_schedule (script_of bytes) (written script) s answered (read_what_it_reads bytes s reads)
answered_only bytes (Err e) (inl memory) s reads = ap (λ (f : ScriptFault). f.fault) memory
answered_only bytes (Err e) (inr answered) s reads = no_schedule (script_of bytes) s e (read_what_it_reads bytes s reads) answered

pub answered_fault : (bytes : List ℕ) (answer : Result Script ScriptFault) → IsAnswered bytes answer → IfErr answer (λ e. e.fault ≢ NoMemory → first_fault bytes ≡ Some e)
answered_fault bytes (Ok script) answered = tt
answered_fault bytes (Err e) (inl memory) = λ other. absurd (other (ap (λ (f : ScriptFault). f.fault) memory))
answered_fault bytes (Err e) (inr answered) = λ other. first_fault_answered bytes e answered

pub answered_memory : (bytes : List ℕ) (answer : Result Script ScriptFault) → IsAnswered bytes answer → IfErr answer (λ e. e.fault ≡ NoMemory → e.line ≡ 0)
answered_memory bytes (Ok script) answered = tt
answered_memory bytes (Err e) (inl memory) = λ none. ap (λ (f : ScriptFault). f.line) memory
answered_memory bytes (Err e) (inr answered) = λ none. absurd (first_fault_found bytes e (first_fault_answered bytes e answered) none)
