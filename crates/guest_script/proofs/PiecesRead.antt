-- A script that is read in pieces: what was read so far, and what follows.
use Rattle.std.proofs.Common.{◌≡◌, ℕ, ◌+◌, ◌<◌, ◌≤◌, ltb, List, [], ◌++◌, length, Result, Err, refl, sym, subst, ◌∙◌, inl, inr, arith, length-append}
use Rattle.std.specs.Str.Lines.{lines}
use Rattle.std.proofs.lemmas.Bool.{cases_Bool, le-ltb, lt-ltb, ltb-false, ltb-true}
use Rattle.std.proofs.lemmas.List.{append-nil, append_assoc}
use Rattle.guest_script.specs.declared.fault.FaultKind.TheVariants.{TooLong}
use Rattle.guest_script.specs.declared.fault.ScriptFault.{ScriptFault}
use Rattle.guest_script.specs.declared.progress.Progress.{Progress}
use Rattle.guest_script.specs.declared.progress.Stage.TheVariants.{Nothing}
use Rattle.script_lines.specs.declared.script.Script.{Script}
use Rattle.guest_script.specs.Grammar.{Written, most_bytes, written}
use Rattle.guest_script.specs.Pieces.{AreWhole, HasRead, IsAnswered, Part, script_with}
use Rattle.guest_script.specs.Inside.Progress.{part_of, script_after}
use Rattle.guest_script.specs.Reading.{GivesOrLacks, script_of}
use Rattle.guest_script.proofs.FaultsFound.{answered_fault, answered_memory, answered_only, answered_script}
use Rattle.guest_script.proofs.LinesFrom.{script_of_long, script_of_short}
use Rattle.guest_script.proofs.LinesOf.{lines_both}

-- ---- bytes that follow so many others

module _ (size : ℕ) (p : Progress) (bytes : List ℕ) where
  with_long : most_bytes < size + length bytes → script_with (part_of size p) bytes ≡ Err (record { line = 0; fault = TooLong })
  with_long long = rw (lt-ltb most_bytes (size + length bytes) long) refl

  with_short : size + length bytes ≤ most_bytes → script_with (part_of size p) bytes ≡ script_after p (lines bytes)
  with_short short = rw (le-ltb most_bytes (size + length bytes) short) refl

pub nothing_read : (bytes : List ℕ) → script_of bytes ≡ script_with (part_of 0 (record { next = 1; stage = Nothing })) bytes
nothing_read bytes = elim (cases_Bool (ltb most_bytes (length bytes))) [
  | inl long ↦ script_of_long bytes (ltb-true most_bytes (length bytes) long) ∙ sym (with_long 0 (record { next = 1; stage = Nothing }) bytes (omega (arith, ltb-true most_bytes (length bytes) long)))
  | inr short ↦ script_of_short bytes (ltb-false most_bytes (length bytes) short)
      ∙ sym (with_short 0 (record { next = 1; stage = Nothing }) bytes (omega (arith, ltb-false most_bytes (length bytes) short)))
]

-- ---- a piece

module _ (size : ℕ) (p p' : Progress) (whole : List ℕ) (more : List ℕ) where
  both_long : (size' : ℕ) → most_bytes < size + (length whole + length more) → most_bytes < size' + length more → script_with (part_of size p) (whole ++ more) ≡ script_with (part_of size' p') more
  both_long size' long long' = with_long size p (whole ++ more) (omega (arith, long, length-append whole more)) ∙ sym (with_long size' p' more long')

  with_piece : AreWhole whole → ((texts : List (List ℕ)) → script_after p (lines whole ++ texts) ≡ script_after p' texts)
      → script_with (part_of size p) (whole ++ more) ≡ script_with (part_of (size + length whole) p') more
  with_piece are on = elim (cases_Bool (ltb most_bytes (size + length whole + length more))) [
    | inl long ↦ (both_long (size + length whole) (omega (arith, ltb-true _ _ long)) (ltb-true _ _ long))
    | inr short ↦
        rw (
          with_short size p (whole ++ more) (omega (arith, ltb-false _ _ short, length-append whole more)),
          with_short (size + length whole) p' more (ltb-false _ _ short),
          lines_both whole more are,
        ) (on (lines more))
  ]

-- what a reader makes of bytes, with what follows a piece
behind_piece : (size : ℕ) (p : Progress) (before whole more : List ℕ) → HasRead (part_of size p) before → script_of ((before ++ whole) ++ more) ≡ script_with (part_of size p) (whole ++ more)
behind_piece size p before whole more read = rw (append_assoc before whole more) (read (whole ++ more))

pub piece_read : (reader : Part) (size size' : ℕ) (p p' : Progress) (before whole : List ℕ) → reader ≡ part_of size p → AreWhole whole → size' ≡ size + length whole
    → ((texts : List (List ℕ)) → script_after p (lines whole ++ texts) ≡ script_after p' texts) → HasRead reader before → HasRead (part_of size' p') (before ++ whole)
piece_read reader size size' p p' before whole is are grown on read more =
    rw grown (behind_piece size p before whole more (rw is at read) ∙ with_piece size p p' whole more are on)

-- ---- the end

given : (answer : Result Script ScriptFault) (x y : Result Written ScriptFault) → x ≡ y → GivesOrLacks written answer y → GivesOrLacks written answer x
given answer x y is gives = subst (GivesOrLacks written answer) (sym is) gives

pub answered : (reader : Part) (size : ℕ) (p : Progress) (before rest : List ℕ) (answer : Result Script ScriptFault) → reader ≡ part_of size p → HasRead reader before
    → GivesOrLacks written answer (script_with (part_of size p) rest) → IsAnswered (before ++ rest) answer
answered reader size p before rest answer is read gives =
    let gave = given answer (script_of (before ++ rest)) (script_with (part_of size p) rest) ((rw is at read) rest) gives in
    record {
      script = answered_script (before ++ rest) answer gave;
      only = answered_only (before ++ rest) answer gave;
      fault = answered_fault (before ++ rest) answer gave;
      memory = answered_memory (before ++ rest) answer gave;
    }

-- what all lines of the last bytes say
pub all_read : (size : ℕ) (p p' : Progress) (rest : List ℕ) (answer : Result Script ScriptFault) → size + length rest ≤ most_bytes
    → ((texts : List (List ℕ)) → script_after p (lines rest ++ texts) ≡ script_after p' texts) → GivesOrLacks written answer (script_after p' [])
    → GivesOrLacks written answer (script_with (part_of size p) rest)
all_read size p p' rest answer short on gives =
    rw (with_short size p rest short)
    (given answer (script_after p (lines rest)) (script_after p' []) (subst (λ (texts : List (List ℕ)). script_after p texts ≡ script_after p' []) (append-nil (lines rest)) (on [])) gives)

pub all_long : (size : ℕ) (p : Progress) (rest : List ℕ) → most_bytes < size + length rest → GivesOrLacks written (Err (record { line = 0; fault = TooLong })) (script_with (part_of size p) rest)
all_long size p rest long = inr (with_long size p rest long)
