-- The words of a line are the board's exactly where none of its tests holds.
use Rattle.std.proofs.Common.{◌≡◌, ℕ, Bool, true, false, not, ◌||◌, eqb, List, ◌∷◌, length, map, Option, Some, None, codes, refl, sym, ap, ◌∙◌, arith, inl, inr}
use Rattle.std.specs.Prelude.{◌⊎◌}
use Rattle.std.specs.Option.{unwrap_or}
use Rattle.std.specs.Str.{bytes_eq}
use Rattle.std.proofs.lemmas.Bool.{eqb-true, not-false}
use Rattle.std.proofs.lemmas.List.{get_or-map, length-map}
use Rattle.std.proofs.lemmas.List.FromFn.{fill_by_all}
use Rattle.std.proofs.lemmas.Slice.Eq.{bytes_eq-Decides}
use Rattle.board_terms.specs.declared.config.Config.{Config}
use Rattle.board_terms.specs.Limits.{first_numbers, numbers_of, usual_asid_len, usual_width}
use Rattle.guest_script.specs.declared.fault.FaultKind.TheVariants.{NoBoardLine, WordCount}
use Rattle.guest_script.specs.Words.{AreNumbers, last_number}
use Rattle.guest_script.specs.Forms.{AreArguments, number_at}
use Rattle.guest_script.specs.Grammar.{HasUsualSpaces, IsBoard}
use Rattle.guest_script.specs.Values.{arguments_in, board_in, config_of}
use Rattle.guest_script.specs.FirstFault.{argument_tests, board_number_tests, board_tests}
use Rattle.guest_script.proofs.ArgumentsIn.{length-arguments_in}
use Rattle.guest_script.proofs.Spelling.{arguments_as_numbers, numbers_as_arguments}
use Rattle.guest_script.proofs.LineWords.{arguments_pass, arguments_read, length_numbers, none_cons, none_first, NoneHolds}

abbrev pub values : List (Option ℕ) → List ℕ
values arguments = map (λ a. unwrap_or a 0) arguments

six_numbers : (ns : List (Option ℕ)) → length ns ≡ 6 → first_numbers (config_of ns) ≡ values ns
unfolding config_of
six_numbers ns six =
    sym (fill_by_all (λ k. number_at ns k) (values ns) 6 0 (length-map ns (λ a. unwrap_or a 0) ∙ six) (λ k h. get_or-map (λ a. unwrap_or a 0) ns k None 0 (omega (arith, six, h))))

usual_spaces : (ns : List (Option ℕ)) → length ns ≡ 6 → HasUsualSpaces (config_of ns)
unfolding config_of
usual_spaces ns six = record { asid_len = rw six refl; width = rw six refl }

eight_numbers : (ns : List (Option ℕ)) → length ns ≡ 8 → numbers_of (config_of ns) ≡ values ns
unfolding config_of
eight_numbers ns eight =
    rw eight
    (sym (fill_by_all (λ k. number_at ns k) (values ns) 8 0 (length-map ns (λ a. unwrap_or a 0) ∙ eight) (λ k h. get_or-map (λ a. unwrap_or a 0) ns k None 0 (omega (arith, eight, h)))))

-- numbers that are read and of which there are so many
board_of_six : (words : List (List ℕ)) → length words ≡ 6 → AreArguments false last_number words (arguments_in last_number words)
    → AreNumbers last_number words (first_numbers (config_of (arguments_in last_number words))) × HasUsualSpaces (config_of (arguments_in last_number words))
board_of_six words six read =
    let count : length (arguments_in last_number words) ≡ 6 = omega (arith, length-arguments_in last_number words, six) in (
      rw (six_numbers (arguments_in last_number words) count) (arguments_as_numbers last_number words (arguments_in last_number words) read),
      usual_spaces (arguments_in last_number words) count,
    )

board_of_eight : (words : List (List ℕ)) → length words ≡ 8 → AreArguments false last_number words (arguments_in last_number words)
    → AreNumbers last_number words (numbers_of (config_of (arguments_in last_number words)))
board_of_eight words eight read =
    let count : length (arguments_in last_number words) ≡ 8 = omega (arith, length-arguments_in last_number words, eight) in
    rw (eight_numbers (arguments_in last_number words) count) (arguments_as_numbers last_number words (arguments_in last_number words) read)

board_counted : (words : List (List ℕ)) → NoneHolds (board_number_tests words)
    → AreNumbers last_number words (numbers_of (config_of (arguments_in last_number words)))
    ⊎ (AreNumbers last_number words (first_numbers (config_of (arguments_in last_number words))) × HasUsualSpaces (config_of (arguments_in last_number words)))
board_counted words none =
    let rows = none_first (not (eqb (length words) 6 || eqb (length words) 8), WordCount) (argument_tests false last_number words) none in
    let read = arguments_read false last_number words rows.1 in
    by_count (eqb (length words) 6) (eqb (length words) 8) refl refl (not-false _ rows.0) read
  where
    by_count : (six eight : Bool) → eqb (length words) 6 ≡ six → eqb (length words) 8 ≡ eight → (six || eight) ≡ true → AreArguments false last_number words (arguments_in last_number words)
        → AreNumbers last_number words (numbers_of (config_of (arguments_in last_number words)))
        ⊎ (AreNumbers last_number words (first_numbers (config_of (arguments_in last_number words))) × HasUsualSpaces (config_of (arguments_in last_number words)))
    by_count true eight is other either read = inr (board_of_six words (eqb-true _ _ is) read)
    by_count false true other is either read = inl (board_of_eight words (eqb-true _ _ is) read)
    by_count false false other another either read = absurd cc

pub board_tested : (first : List ℕ) (words : List (List ℕ)) → NoneHolds (board_tests (first ∷ words)) → IsBoard (first ∷ words) (config_of (arguments_in last_number words))
board_tested first words none =
    let named = none_first (not (bytes_eq first (codes "board")), NoBoardLine) (board_number_tests words) none in
    record {
      arguments = words;
      parts = ap (λ (w : List ℕ). w ∷ words) ((bytes_eq-Decides first (codes "board")).0 (not-false _ named.0));
      are_numbers = board_counted words named.1;
    }

-- so many words that are numbers pass the tests, and are those numbers
numbers_pass : (k : ℕ) (words : List (List ℕ)) (ns : List ℕ) → AreNumbers last_number words ns → length ns ≡ k → (eqb k 6 || eqb k 8) ≡ true
    → NoneHolds (board_number_tests words) × (arguments_in last_number words ≡ map (λ n. Some n) ns)
numbers_pass k words ns numbers long some =
    let count : length words ≡ k = length_numbers last_number words ns numbers ∙ long in
    let are = numbers_as_arguments last_number words ns numbers in
    let pass = arguments_pass k k false last_number words (map (λ n. Some n) ns) (record { enough = omega (arith, count); not_more = omega (arith, count); are_arguments = are }) in
    let rows = none_first _ (argument_tests false last_number words) pass.0 in
    (none_cons (not (eqb (length words) 6 || eqb (length words) 8), WordCount) (argument_tests false last_number words) (rw (count, some) refl) rows.1, pass.1)

-- a board whose last two numbers are these
with_spaces : (c : Config) (asid_len width : ℕ) → c.asid_len ≡ asid_len → c.width ≡ width → record c { asid_len = asid_len; width = width } ≡ c
with_spaces c asid_len width same_len same_width = rw (← same_len, ← same_width) refl

pub board_passes : (words : List (List ℕ)) (config : Config) → IsBoard words config → NoneHolds (board_tests words) × (board_in words ≡ Some config)
unfolding config_of
board_passes words config board = by_numbers board.are_numbers
  where
    by_numbers : AreNumbers last_number board.arguments (numbers_of config) ⊎ (AreNumbers last_number board.arguments (first_numbers config) × HasUsualSpaces config)
        → NoneHolds (board_tests words) × (board_in words ≡ Some config)
    by_numbers (inl all) =
        let pass = numbers_pass 8 board.arguments (numbers_of config) all refl refl in
        rw board.parts (none_cons (false, NoBoardLine) (board_number_tests board.arguments) refl pass.0, ap (λ (ns : List (Option ℕ)). Some (config_of ns)) pass.1)
    by_numbers (inr first) =
        let pass = numbers_pass 6 board.arguments (first_numbers config) first.0 refl refl in
        rw board.parts (
          none_cons (false, NoBoardLine) (board_number_tests board.arguments) refl pass.0,
          ap (λ (ns : List (Option ℕ)). Some (config_of ns)) pass.1 ∙ ap (λ (c : Config). Some c) (with_spaces config usual_asid_len usual_width first.1.asid_len first.1.width),
        )
