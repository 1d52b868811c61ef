-- Bytes are a script exactly where none of its tests holds.
use Rattle.std.proofs.Common.{◌≡◌, ℕ, ◌+◌, Bool, true, cond, List, [], ◌∷◌, ◌++◌, Option, Some, None, Ok, Err, refl, sym, ap, ◌∙◌, subst, inl, inr}
use Rattle.std.specs.Option.{option_map}
use Rattle.std.specs.Str.Lines.{lines}
use Rattle.std.proofs.lemmas.Bool.{le-ltb, ltb-false, not-false, not_from_true}
use Rattle.board_terms.specs.declared.config.Config.{Config}
use Rattle.guest_script.specs.declared.fault.FaultKind.{FaultKind}
use Rattle.guest_script.specs.declared.fault.ScriptFault.{ScriptFault}
use Rattle.guest_script.specs.Words.{IsLine}
use Rattle.guest_script.specs.Grammar.{AreLines, AreScript, Draft, IsBoard, Nothing, Reads, Written}
use Rattle.guest_script.specs.Values.{board_in, draft_in, is_filled, next_in, script_in, script_with, words_in}
use Rattle.guest_script.specs.FirstFault.{at_line, board_first_tests, board_tests, byte_test, first_fault, line_tests, lines_tests}
use Rattle.guest_script.specs.Reading.{or_fault, script_of}
use Rattle.guest_script.specs.ScriptLaws.{HasOneReading}
use Rattle.guest_script.proofs.BoardLine.{board_passes, board_tested}
use Rattle.guest_script.proofs.LineWords.{next_passes, next_tested, none_both, none_cons, none_first, none_parts, NoneHolds}
use Rattle.guest_script.proofs.LinesFrom.{first_at_line}
use Rattle.line_words.proofs.Spacing.{line_allowed, line_has_words, line_words}

none_mapped : {F G : Type 0} (f : F → G) (o : Option F) → option_map f o ≡ None → o ≡ None
none_mapped f None none = refl
none_mapped f (Some x) none = absurd cc

-- what holds of line n, and of the lines after it
module _ (n : ℕ) (text : List ℕ) (tests : List (Bool × FaultKind)) (more : List (Bool × ScriptFault)) where
  pub line_tested : NoneHolds (at_line n (byte_test text ∷ tests) ++ more) → IsLine text (words_in text) × NoneHolds tests × NoneHolds more
  line_tested none =
      let parts = none_parts (at_line n (byte_test text ∷ tests)) more none in
      let line = none_first (byte_test text) tests (none_mapped _ _ (sym (first_at_line n (byte_test text ∷ tests)) ∙ parts.0)) in
      (line_has_words text (not-false _ line.0), line.1, parts.1)

  pub line_passes : (words : List (List ℕ)) → IsLine text words → NoneHolds tests → NoneHolds more → NoneHolds (at_line n (byte_test text ∷ tests) ++ more)
  line_passes words line none later =
      let bytes = not_from_true _ (line_allowed text words line) in
      let first = first_at_line n (byte_test text ∷ tests) ∙ ap (option_map (λ f. record { line = n; fault = f })) (none_cons (byte_test text) tests bytes none) in
      none_both (at_line n (byte_test text ∷ tests)) more first later

-- ---- lines

first_line : (n : ℕ) (draft : Draft) (text : List ℕ) (texts : List (List ℕ)) (words : List (List ℕ)) → words_in text ≡ words → IsLine text words → NoneHolds (line_tests draft words)
    → AreLines (n + 1) (next_in n draft words) texts (draft_in (n + 1) (next_in n draft words) texts)
    → AreLines n draft (text ∷ texts) (draft_in (n + 1) (next_in n draft words) texts)
first_line n draft text texts [] at line none later = inl (line, later)
first_line n draft text texts (first ∷ words) at line none later = inr (first ∷ words, next_in n draft (first ∷ words), line, next_tested n draft first words none, later)

lines_tested : (n : ℕ) (draft : Draft) (texts : List (List ℕ)) → NoneHolds (lines_tests n draft texts) → AreLines n draft texts (draft_in n draft texts)
lines_tested n draft [] none = refl
lines_tested n draft (text ∷ texts) none =
    let next = next_in n draft (words_in text) in
    let line = line_tested n text (line_tests draft (words_in text)) (lines_tests (n + 1) next texts) none in
    first_line n draft text texts (words_in text) refl line.0 line.1 (lines_tested (n + 1) next texts line.2)

pub lines_pass : (n : ℕ) (draft : Draft) (texts : List (List ℕ)) (last : Draft) → AreLines n draft texts last → NoneHolds (lines_tests n draft texts) × (draft_in n draft texts ≡ last)
lines_pass n draft [] last lines = (refl, sym lines)
lines_pass n draft (text ∷ texts) last (inl (line, later)) =
    let rest = lines_pass (n + 1) draft texts last later in
    rw (line_words text [] line) (line_passes n text [] (lines_tests (n + 1) draft texts) [] line refl rest.0, rest.1)
lines_pass n draft (text ∷ texts) last (inr (words, next, line, is, later)) =
    let pass = next_passes n draft words next is in
    let rest = lines_pass (n + 1) next texts last later in
    rw (line_words text words line, pass.parts, pass.value)
    (line_passes n text (line_tests draft (pass.first ∷ pass.others)) (lines_tests (n + 1) next texts) words line pass.none rest.0, rest.1)

-- ---- the board's line first

filled_board : (words : List (List ℕ)) (config : Config) → IsBoard words config → is_filled words ≡ true
filled_board words config board = rw board.parts refl

board_line : (n : ℕ) (text : List ℕ) (texts : List (List ℕ)) (words : List (List ℕ)) → words_in text ≡ words
    → NoneHolds (at_line n (byte_test text ∷ board_tests words) ++ cond (is_filled words) (lines_tests (n + 1) Nothing texts) (board_first_tests (n + 1) texts))
    → (NoneHolds (board_first_tests (n + 1) texts) → AreScript (n + 1) texts (script_in (n + 1) texts))
    → AreScript n (text ∷ texts) (script_with (board_in words) (draft_in (n + 1) Nothing texts) (script_in (n + 1) texts))
board_line n text texts [] at none later =
    let line = line_tested n text [] (board_first_tests (n + 1) texts) none in
    inl (rw at at line.0, later line.2)
board_line n text texts (first ∷ words) at none later =
    let line = line_tested n text (board_tests (first ∷ words)) (lines_tests (n + 1) Nothing texts) none in
    inr (first ∷ words, draft_in (n + 1) Nothing texts, rw at at line.0, board_tested first words line.1, lines_tested (n + 1) Nothing texts line.2, refl)

script_tested : (n : ℕ) (texts : List (List ℕ)) → NoneHolds (board_first_tests n texts) → AreScript n texts (script_in n texts)
script_tested n [] none = absurd cc
script_tested n (text ∷ texts) none = board_line n text texts (words_in text) refl none (script_tested (n + 1) texts)

script_passes : (n : ℕ) (texts : List (List ℕ)) (s : Written) → AreScript n texts s → NoneHolds (board_first_tests n texts) × (script_in n texts ≡ s)
script_passes n [] s none = absurd none
script_passes n (text ∷ texts) s (inl (line, later)) =
    let rest = script_passes (n + 1) texts s later in
    rw (line_words text [] line) (line_passes n text [] (board_first_tests (n + 1) texts) [] line refl rest.0, rest.1)
script_passes n (text ∷ texts) s (inr (words, last, line, board, are_lines, made)) =
    let pass = board_passes words s.config board in
    let rest = lines_pass (n + 1) Nothing texts last are_lines in
    rw (line_words text words line, filled_board words s.config board, pass.1, rest.1, ← made)
    (line_passes n text (board_tests words) (lines_tests (n + 1) Nothing texts) words line pass.0 rest.0, refl)

-- ---- the script

is_value : {A F : Type 0} (o : Option F) (x y : A) → or_fault o x ≡ Ok y → (o ≡ None) × (x ≡ y)
is_value None x y e = (refl, cc)
is_value (Some fault) x y e = absurd cc

is_fault : {A F : Type 0} (o : Option F) (x : A) (fault : F) → or_fault o x ≡ Err fault → o ≡ Some fault
is_fault None x fault e = absurd cc
is_fault (Some f) x fault e = cc

reads_without_fault : (bytes : List ℕ) → first_fault bytes ≡ None → Reads bytes (script_in 1 (lines bytes))
reads_without_fault bytes none =
    let size = none_first _ (board_first_tests 1 (lines bytes)) none in
    (ltb-false _ _ size.0, script_tested 1 (lines bytes) size.1)

pub reads_what_is_read : (bytes : List ℕ) (s : Written) → script_of bytes ≡ Ok s → Reads bytes s
unfolding script_of
reads_what_is_read bytes s read =
    let value = is_value (first_fault bytes) (script_in 1 (lines bytes)) s read in
    subst (Reads bytes) value.1 (reads_without_fault bytes value.0)

no_fault : (bytes : List ℕ) (s : Written) → Reads bytes s → (first_fault bytes ≡ None) × (script_in 1 (lines bytes) ≡ s)
no_fault bytes s reads =
    let pass = script_passes 1 (lines bytes) s reads.1 in
    (none_cons _ (board_first_tests 1 (lines bytes)) (le-ltb _ _ reads.0) pass.0, pass.1)

pub read_what_it_reads : (bytes : List ℕ) (s : Written) → Reads bytes s → script_of bytes ≡ Ok s
unfolding script_of
read_what_it_reads bytes s reads = let none = no_fault bytes s reads in rw (none.0, none.1) refl

pub first_fault_answered : (bytes : List ℕ) (e : ScriptFault) → script_of bytes ≡ Err e → first_fault bytes ≡ Some e
unfolding script_of
first_fault_answered bytes e read = is_fault (first_fault bytes) (script_in 1 (lines bytes)) e read

pub one_reading : (bytes : List ℕ) → HasOneReading bytes
one_reading bytes = record {
  at_most_one = λ s t reads_s reads_t. sym (no_fault bytes s reads_s).1 ∙ (no_fault bytes t reads_t).1;
  script_or_fault = (λ found. (no_fault bytes found.0 found.1).0, λ none. (script_in 1 (lines bytes), reads_without_fault bytes none));
}
