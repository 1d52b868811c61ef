-- A first fault is at the first line that is none of a script's.
use Rattle.std.proofs.Common.{◌≡◌, ℕ, ◌+◌, Bool, cond, List, [], ◌∷◌, ◌++◌, length, ltb, Option, Some, None, subst, refl, sym, ap, ◌∙◌, inl, inr, arith}
use Rattle.std.specs.Option.{option_map}
use Rattle.std.specs.Str.Lines.{lines}
use Rattle.std.proofs.lemmas.Bool.{cases_Bool, ltb-false, ltb-true}
use Rattle.std.proofs.lemmas.Option.{same_Some}
use Rattle.board_terms.specs.declared.config.Config.{Config}
use Rattle.board_terms.specs.Refusals.{first_that_holds}
use Rattle.guest_script.specs.declared.fault.FaultKind.{FaultKind}
use Rattle.guest_script.specs.declared.fault.ScriptFault.{ScriptFault}
use Rattle.guest_script.specs.Words.{IsLine, last_number}
use Rattle.guest_script.specs.Grammar.{AreLines, Draft, IsBoard, Nothing, most_bytes}
use Rattle.guest_script.specs.Values.{arguments_in, config_of, is_filled, next_in, words_in}
use Rattle.guest_script.specs.FirstFault.{at_line, board_first_tests, board_tests, byte_test, first_fault, line_tests, lines_tests}
use Rattle.guest_script.specs.ScriptLaws.{IsAtFirstWrong, IsFirstWrong, IsNoBoard, IsPlaced}
use Rattle.guest_script.proofs.BoardLine.{board_passes, board_tested}
use Rattle.guest_script.proofs.LineWords.{next_tested, none_both, none_parts, NoneHolds}
use Rattle.guest_script.proofs.LinesFrom.{first_at_line}
use Rattle.guest_script.proofs.ScriptLines.{line_passes, line_tested, lines_pass}
use Rattle.line_words.proofs.Spacing.{line_words}

-- ---- the first test that holds

first_behind : {F : Type 0} (tests more : List (Bool × F)) → NoneHolds tests → first_that_holds (tests ++ more) ≡ first_that_holds more
first_behind [] more none = refl
first_behind (test ∷ tests) more none = elim (cases_Bool test.0) [
  | inl holds ↦ absurd (let e = rw holds at none in cc)
  | inr fails ↦ rw fails (first_behind tests more (rw fails at none))
]

first_before : {F : Type 0} (tests more : List (Bool × F)) (fault : F) → first_that_holds tests ≡ Some fault → first_that_holds (tests ++ more) ≡ Some fault
first_before [] more fault some = absurd cc
first_before (test ∷ tests) more fault some = elim (cases_Bool test.0) [
  | inl holds ↦ rw holds (rw holds at some)
  | inr fails ↦ rw fails (first_before tests more fault (rw fails at some))
]

-- a fault of line n says so
mapped_line : (n : ℕ) (o : Option FaultKind) (e : ScriptFault) → option_map (λ f. record { line = n; fault = f }) o ≡ Some e → e.line ≡ n
mapped_line n None e some = absurd cc
mapped_line n (Some f) e some = sym (ap (λ (s : ScriptFault). s.line) (same_Some _ _ some))

of_line : (n : ℕ) (tests : List (Bool × FaultKind)) (e : ScriptFault) → first_that_holds (at_line n tests) ≡ Some e → e.line ≡ n
of_line n tests e some = mapped_line n (first_that_holds tests) e (sym (first_at_line n tests) ∙ some)

some_none : {F : Type 0} {P : Type 0} (o : Option F) (x : F) → o ≡ Some x → o ≡ None → P
some_none o x some none = absurd cc

-- one line alone
alone : {F : Type 0} (tests : List (Bool × F)) → NoneHolds (tests ++ []) → NoneHolds tests
alone tests none = (none_parts tests [] none).0

-- ---- lines

line_more : (n : ℕ) (draft : Draft) (text : List ℕ) (texts : List (List ℕ)) (words : List (List ℕ)) (last : Draft) → IsLine text words → NoneHolds (line_tests draft words)
    → AreLines (n + 1) (next_in n draft words) texts last → AreLines n draft (text ∷ texts) last
line_more n draft text texts [] last line none later = inl (line, later)
line_more n draft text texts (first ∷ words) last line none later = inr (first ∷ words, next_in n draft (first ∷ words), line, next_tested n draft first words none, later)

-- the tests of line n alone, and what the lines say with it
abbrev own_tests : ℕ → Draft → List ℕ → List (Bool × ScriptFault)
own_tests n draft text = at_line n (byte_test text ∷ line_tests draft (words_in text))

abbrev said_with : ℕ → Draft → List ℕ → Draft
said_with n draft text = next_in n draft (words_in text)

wrong_here : (n : ℕ) (draft : Draft) (text : List ℕ) (texts : List (List ℕ)) (e f : ScriptFault) → first_that_holds (own_tests n draft text) ≡ Some f → f ≡ e
    → IsFirstWrong n draft (text ∷ texts) e.line
wrong_here n draft text texts e f at same =
    let place : e.line ≡ n = ap (λ (s : ScriptFault). s.line) (sym same) ∙ of_line n (byte_test text ∷ line_tests draft (words_in text)) f at in
    record {
      before = [];
      text = text;
      after = texts;
      parts = refl;
      place = omega arith;
      said = draft;
      are_lines = refl;
      none_with_it = λ last are.
          some_none (first_that_holds (own_tests n draft text)) f at
          (alone (own_tests n draft text) (lines_pass n draft (text ∷ []) last (subst (λ m. AreLines m draft (text ∷ []) last) place are)).0);
    }

wrong_later : (n : ℕ) (draft : Draft) (text : List ℕ) (texts : List (List ℕ)) (wrong : ℕ) → NoneHolds (own_tests n draft text)
    → IsFirstWrong (n + 1) (said_with n draft text) texts wrong → IsFirstWrong n draft (text ∷ texts) wrong
wrong_later n draft text texts wrong none later =
    let line = line_tested n text (line_tests draft (words_in text)) [] (none_both (own_tests n draft text) [] none refl) in
    record {
      before = text ∷ later.before;
      text = later.text;
      after = later.after;
      parts = ap (λ (rest : List (List ℕ)). text ∷ rest) later.parts;
      place = let place = later.place in omega arith;
      said = later.said;
      are_lines = line_more n draft text later.before (words_in text) later.said line.0 line.1 later.are_lines;
      none_with_it = later.none_with_it;
    }

lines_by : (n : ℕ) (draft : Draft) (text : List ℕ) (texts : List (List ℕ)) (e : ScriptFault) (o : Option ScriptFault) → first_that_holds (own_tests n draft text) ≡ o
    → first_that_holds (own_tests n draft text ++ lines_tests (n + 1) (said_with n draft text) texts) ≡ Some e
    → (first_that_holds (lines_tests (n + 1) (said_with n draft text) texts) ≡ Some e → IsFirstWrong (n + 1) (said_with n draft text) texts e.line)
    → IsFirstWrong n draft (text ∷ texts) e.line
lines_by n draft text texts e (Some f) at some later =
    wrong_here n draft text texts e f at (same_Some f e (sym (first_before (own_tests n draft text) (lines_tests (n + 1) (said_with n draft text) texts) f at) ∙ some))
lines_by n draft text texts e None at some later =
    wrong_later n draft text texts e.line at (later (sym (first_behind (own_tests n draft text) (lines_tests (n + 1) (said_with n draft text) texts) at) ∙ some))

lines_wrong : (n : ℕ) (draft : Draft) (texts : List (List ℕ)) (e : ScriptFault) → first_that_holds (lines_tests n draft texts) ≡ Some e → IsFirstWrong n draft texts e.line
lines_wrong n draft [] e some = absurd cc
lines_wrong n draft (text ∷ texts) e some =
    lines_by n draft text texts e (first_that_holds (own_tests n draft text)) refl some (lines_wrong (n + 1) (said_with n draft text) texts e)

-- ---- the board's line first

-- a text without words passes
blank_passes : (n : ℕ) (text : List ℕ) → IsLine text [] → NoneHolds (at_line n (byte_test text ∷ board_tests (words_in text)))
blank_passes n text line = rw (line_words text [] line) (alone (at_line n (byte_test text ∷ [])) (line_passes n text [] [] [] line refl refl))

board_line_passes : (n : ℕ) (text : List ℕ) (words : List (List ℕ)) (config : Config) → IsLine text words → IsBoard words config
    → NoneHolds (at_line n (byte_test text ∷ board_tests (words_in text)))
board_line_passes n text words config line board =
    rw (line_words text words line)
    (alone (at_line n (byte_test text ∷ board_tests words)) (line_passes n text (board_tests words) [] words line (board_passes words config board).0 refl))

is_no_board : (n : ℕ) (text : List ℕ) (f : ScriptFault) → first_that_holds (at_line n (byte_test text ∷ board_tests (words_in text))) ≡ Some f → IsNoBoard text
is_no_board n text f some = record {
  filled = λ line. some_none _ f some (blank_passes n text line);
  other = λ words config line board. some_none _ f some (board_line_passes n text words config line board);
}

-- the line passes: it is the board's, or has no words
behind_board : (n : ℕ) (text : List ℕ) (texts words : List (List ℕ)) (e : ScriptFault) → words_in text ≡ words → IsLine text words → NoneHolds (board_tests words)
    → first_that_holds (cond (is_filled words) (lines_tests (n + 1) Nothing texts) (board_first_tests (n + 1) texts)) ≡ Some e
    → (first_that_holds (board_first_tests (n + 1) texts) ≡ Some e → IsAtFirstWrong (n + 1) texts e) → IsAtFirstWrong n (text ∷ texts) e
behind_board n text texts [] e at line none some later = inl (line, later some)
behind_board n text texts (first ∷ words) e at line none some later =
    inr (inl (first ∷ words, config_of (arguments_in last_number words), line, board_tested first words none, lines_wrong (n + 1) Nothing texts e some))

abbrev first_tests : ℕ → List ℕ → List (Bool × ScriptFault)
first_tests n text = at_line n (byte_test text ∷ board_tests (words_in text))

abbrev later_tests : ℕ → List ℕ → List (List ℕ) → List (Bool × ScriptFault)
later_tests n text texts = cond (is_filled (words_in text)) (lines_tests (n + 1) Nothing texts) (board_first_tests (n + 1) texts)

script_by : (n : ℕ) (text : List ℕ) (texts : List (List ℕ)) (e : ScriptFault) (o : Option ScriptFault) → first_that_holds (first_tests n text) ≡ o
    → first_that_holds (first_tests n text ++ later_tests n text texts) ≡ Some e
    → (first_that_holds (board_first_tests (n + 1) texts) ≡ Some e → IsAtFirstWrong (n + 1) texts e) → IsAtFirstWrong n (text ∷ texts) e
script_by n text texts e (Some f) at some later =
    let same : f ≡ e = same_Some f e (sym (first_before (first_tests n text) (later_tests n text texts) f at) ∙ some) in
    let place : e.line ≡ n = ap (λ (s : ScriptFault). s.line) (sym same) ∙ of_line n (byte_test text ∷ board_tests (words_in text)) f at in
    inr (inr (place, is_no_board n text f at))
script_by n text texts e None at some later =
    let line = line_tested n text (board_tests (words_in text)) [] (none_both (first_tests n text) [] at refl) in
    behind_board n text texts (words_in text) e refl line.0 line.1 (sym (first_behind (first_tests n text) (later_tests n text texts) at) ∙ some) later

script_wrong : (n : ℕ) (texts : List (List ℕ)) (e : ScriptFault) → first_that_holds (board_first_tests n texts) ≡ Some e → IsAtFirstWrong n texts e
script_wrong n [] e some = sym (same_Some _ _ some)
script_wrong n (text ∷ texts) e some = script_by n text texts e (first_that_holds (first_tests n text)) refl some (script_wrong (n + 1) texts e)

-- ---- the script

pub faults_are_first : (bytes : List ℕ) (e : ScriptFault) → first_fault bytes ≡ Some e → IsPlaced bytes e
faults_are_first bytes e some = elim (cases_Bool (ltb most_bytes (length bytes))) [
  | inl long ↦ inl (ltb-true most_bytes (length bytes) long, sym (same_Some _ _ (rw long at some)))
  | inr short ↦ inr (ltb-false most_bytes (length bytes) short, script_wrong 1 (lines bytes) e (rw short at some))
]
