-- One part more, and one number more.
use Rattle.std.proofs.Common.{◌≡◌, ℕ, zero, suc, ◌+◌, ◌-◌, ◌%◌, ◌^◌, ◌<◌, List, [], ◌∷◌, ◌++◌, length, drop, take, map, refl, sym, ap, ◌∙◌, append_assoc, append-nil, arith, Result, Ok, Err}
use Rattle.std.proofs.lemmas.List.{drop-map, length-map, map-append, take-map}
use Rattle.asm_tokens.specs.declared.reader.Placed.{Placed}
use Rattle.asm_tokens.specs.Readings.{TokenSpot, spots_of, token_spot}
use Rattle.asm_expressions.specs.declared.faults.Fault.{Fault}
use Rattle.asm_expressions.specs.declared.symbols.PcrelHigh.{PcrelHigh}
use Rattle.asm_expressions.specs.declared.symbols.Symbol.{Symbol}
use Rattle.asm_expressions.specs.Symbols.{Context, named_of}
use Rattle.asm_expressions.specs.Values.{value_of}
use Rattle.asm_instructions.specs.Operands.{operand_front}
use Rattle.rv64_instructions.specs.declared.instruction.Instruction.{Instruction}
use Rattle.asm_program.specs.declared.code.CodeLine.{CodeLine}
use Rattle.asm_program.specs.declared.data.Datum.{Datum}
use Rattle.asm_program.specs.Code.{copies}
use Rattle.asm_program.specs.Data.{before_more, number_of, numbers_by, numbers_in, tick_list_by, tick_list}
use Rattle.asm_program.specs.declared.changes.Change.{Change}
use Rattle.asm_program.specs.declared.layout.Statement.{Statement}
use Rattle.asm_program.specs.Inside.Passes.{Laid, Sum, added_if, changing_of, laid_more, standing_of, with_before, with_one}
use Rattle.asm_program.specs.Layout.{PartsReach, reached_by, reached_with, standing, reach_more}
use Rattle.asm_program.specs.declared.parts.Part.{Part}
use Rattle.asm_program.specs.Parts.{Piece, behind_part, first_part, parts_in, piece_of}
use Rattle.asm_program.specs.Written.{as_numbers, as_ticks}

-- ---- tokens without where they lie in memory

pub spots_length : (tokens : List Placed) → length (spots_of tokens) ≡ length tokens
spots_length tokens = length-map tokens token_spot

pub spots_front : (n : ℕ) (tokens : List Placed) → spots_of (take n tokens) ≡ take n (spots_of tokens)
spots_front n tokens = sym (take-map token_spot n tokens)

pub spots_behind : (n : ℕ) (tokens : List Placed) → spots_of (drop n tokens) ≡ drop n (spots_of tokens)
spots_behind n tokens = sym (drop-map token_spot n tokens)

-- ---- symbols, and parts where they stand

pub named_more : (symbols : List Symbol) (symbol : Symbol) → map named_of (symbols ++ symbol ∷ []) ≡ map named_of symbols ++ named_of symbol ∷ []
named_more symbols symbol = map-append named_of symbols (symbol ∷ [])

-- one part more of the first pass, by what it changes
pub laid_one : (number : ℕ) (laid : Laid) (part : Piece) (statements now : List Statement) (one : Statement) (change : Change) (to : PartsReach)
    → laid.standings ≡ map standing_of statements → standing_of one ≡ standing number laid.reached part
    → reached_by laid.reached (Ok (changing_of change)) ≡ reach_more number laid.reached part → to ≡ reached_with laid.reached (changing_of change)
    → now ≡ statements ++ one ∷ [] → laid_more number laid part ≡ Ok (record { reached = to; standings = map standing_of now })
laid_one number laid part statements now one change to stand is by goes pushed =
    let here = standing number laid.reached part in
    let all : laid.standings ++ here ∷ [] ≡ map standing_of now =
    (λ i. stand i ++ sym is i ∷ []) ∙ sym (map-append standing_of statements (one ∷ [])) ∙ ap (map standing_of) (sym pushed) in
    ap (with_one laid.standings here) (sym by)
    ∙ (λ i. Ok (record { reached = sym goes i; standings = all i }))

-- ---- parts

pub parts_none : (n : ℕ) → parts_in n [] ≡ []
parts_none zero = refl
parts_none (suc n) = refl

pub parts_step : (n : ℕ) (tokens : List TokenSpot) → 0 < n → 0 < length tokens
    → parts_in n tokens ≡ first_part tokens ∷ parts_in (n - 1) (behind_part tokens)
parts_step zero tokens some more = absurd (omega arith)
parts_step (suc n) [] some more = absurd (omega arith)
parts_step (suc n) (token ∷ tokens) some more =
    let less : n ≡ suc n - 1 = omega arith in
    ap (λ (k : ℕ). first_part (token ∷ tokens) ∷ parts_in k (behind_part (token ∷ tokens))) less

pub parts_more : (before now : List Part) (one : Part) (n : ℕ) (rest behind : List TokenSpot) (whole : List Piece)
    → map piece_of before ++ parts_in n rest ≡ whole → now ≡ before ++ one ∷ [] → piece_of one ≡ first_part rest → behind ≡ behind_part rest
    → 0 < n → 0 < length rest → map piece_of now ++ parts_in (n - 1) behind ≡ whole
parts_more before now one n rest behind whole so pushed is goes some more =
    (λ i. map piece_of (pushed i) ++ parts_in (n - 1) (goes i))
    ∙ ap (λ (ps : List Piece). ps ++ parts_in (n - 1) (behind_part rest)) (map-append piece_of before (one ∷ []) ∙ ap (λ (p : Piece). map piece_of before ++ p ∷ []) is)
    ∙ append_assoc (map piece_of before) (first_part rest ∷ []) (parts_in (n - 1) (behind_part rest))
    ∙ ap (λ (ps : List Piece). map piece_of before ++ ps) (sym (parts_step n rest some more))
    ∙ so

-- ---- numbers

pub numbers_more : (scope : Context) (size left n at : ℕ) (tokens : List TokenSpot) → 0 < n
    → numbers_in scope size left n at tokens ≡ numbers_by size at tokens (numbers_in scope size left (n - 1)) (number_of scope size left (operand_front tokens))
numbers_more scope size left zero at tokens some = absurd (omega arith)
numbers_more scope size left (suc n) at tokens some =
    let less : n ≡ suc n - 1 = omega arith in
    ap (λ k. numbers_by size at tokens (numbers_in scope size left k) (number_of scope size left (operand_front tokens))) less

pub before_one : {A : Type 0} (before : List A) (first : A) (more : Result (List A) Fault)
    → with_before before (before_more first more) ≡ with_before (before ++ first ∷ []) more
before_one before first (Err fault) = refl
before_one before first (Ok more) = ap Ok (sym (append_assoc before (first ∷ []) more))

pub before_none : {A : Type 0} (before : List A) → with_before before (Ok []) ≡ Ok before
before_none before = ap Ok (append-nil before)

pub numbers_added : (before : Sum) (numbers : Result (List Datum) Fault) (all : List Datum)
    → with_before before.numbers numbers ≡ Ok all → added_if before (as_numbers numbers) ≡ Ok (record before { numbers = all })
numbers_added before (Err fault) all same = absurd cc
numbers_added before (Ok more) all same =
    let e : before.numbers ++ more ≡ all = cc in
    λ i. Ok (record before { numbers = e i })

pub numbers_fail : (before : Sum) (numbers : Result (List Datum) Fault) (fault : Fault)
    → with_before before.numbers numbers ≡ Err fault → added_if before (as_numbers numbers) ≡ Err fault
numbers_fail before (Err other) fault same = let e : other ≡ fault = cc in ap Err e
numbers_fail before (Ok more) fault same = absurd cc

-- ---- ticks

pub ticks_more : (scope : Context) (n : ℕ) (tokens : List TokenSpot) → 0 < n
    → tick_list scope n tokens ≡ tick_list_by tokens (tick_list scope (n - 1)) (value_of scope (operand_front tokens))
ticks_more scope zero tokens some = absurd (omega arith)
ticks_more scope (suc n) tokens some =
    let less : n ≡ suc n - 1 = omega arith in
    ap (λ k. tick_list_by tokens (tick_list scope k) (value_of scope (operand_front tokens))) less

pub ticks_added : (before : Sum) (ticks : Result (List ℕ) Fault) (all : List ℕ)
    → with_before before.ticks ticks ≡ Ok all → added_if before (as_ticks ticks) ≡ Ok (record before { ticks = all })
ticks_added before (Err fault) all same = absurd cc
ticks_added before (Ok more) all same =
    let e : before.ticks ++ more ≡ all = cc in
    λ i. Ok (record before { ticks = e i })

pub ticks_fail : (before : Sum) (ticks : Result (List ℕ) Fault) (fault : Fault)
    → with_before before.ticks ticks ≡ Err fault → added_if before (as_ticks ticks) ≡ Err fault
ticks_fail before (Err other) fault same = let e : other ≡ fault = cc in ap Err e
ticks_fail before (Ok more) fault same = absurd cc

-- ---- each `auipc` with `%pcrel_hi(..)`

pub high_pushed : (before now more whole : List PcrelHigh) (high : PcrelHigh) → now ≡ before ++ high ∷ [] → before ++ high ∷ more ≡ whole
    → now ++ more ≡ whole
high_pushed before now more whole high pushed so =
    ap (λ (highs : List PcrelHigh). highs ++ more) pushed ∙ append_assoc before (high ∷ []) more ∙ so

-- ---- instructions

pub copies_more : (before now : List CodeLine) (n m : ℕ) (instruction : Instruction) (at left : ℕ) (whole : List CodeLine)
    → before ++ copies n instruction at left ≡ whole → now ≡ before ++ record { at = at; instruction = instruction; left = left } ∷ [] → n ≡ suc m
    → now ++ copies m instruction ((at + 4) % 2 ^ 64) left ≡ whole
copies_more before now n m instruction at left whole so pushed is =
    ap (λ (lines : List CodeLine). lines ++ copies m instruction ((at + 4) % 2 ^ 64) left) pushed
    ∙ append_assoc before (record { at = at; instruction = instruction; left = left } ∷ []) (copies m instruction ((at + 4) % 2 ^ 64) left)
    ∙ ap (λ (k : ℕ). before ++ copies k instruction at left) (sym is)
    ∙ so
