-- A line that is kept is the line.
use Rattle.std.proofs.Common.{false, ◌≡◌, ◌≢◌, ◌⊎◌, ℕ, zero, suc, ◌+◌, ◌-◌, ◌≤◌, ◌&&◌, eqb, List, [], ◌∷◌, ◌++◌, take, drop, length, get_or, Option, Some, None, refl, sym, ap, ◌∙◌, inl, inr, arith}
use Rattle.std.proofs.lemmas.Bool.{cases_Bool, cases_lt, and_parts, eqb-true}
use Rattle.std.proofs.lemmas.List.{drop-append-le, get_or-take, length-append, length-drop, length-take, take-append-le, take_all}
use Rattle.std.proofs.lemmas.List.FromFn.{fill_by_all}
use Rattle.std.proofs.Math.Seq.{drop-append_seam, take-append_seam}
use Rattle.sbi_abi.specs.declared.call.Regs.{Regs}
use Rattle.board_terms.specs.declared.op.Op.TheVariants as ops
use Rattle.script_lines.specs.declared.line_shape.LineShape.{LineShape}
use Rattle.script_lines.specs.declared.op_shape.OpShape.{OpShape}
use Rattle.script_lines.specs.declared.op_shape.OpShape.TheVariants.{Ecall}
use Rattle.script_lines.specs.declared.op_shape.OpShape.TheVariants as op_shapes
use Rattle.script_lines.specs.declared.said.Said.{Said}
use Rattle.script_lines.specs.declared.said.Said.TheVariants as says
use Rattle.script_lines.specs.declared.script.Line.{Line}
use Rattle.script_lines.specs.KeptLines.{line_of, lines_of, number_count, total_count}
use Rattle.script_lines.specs.Packing.{doing_made, kept_count, number_from, op_made, op_numbers, said_count, said_made, said_numbers, said_shape_of, used}

-- ---- a line more

-- lines behind others, with their numbers behind those of the others
lines_behind : (numbers more : List ℕ) (kept later : List LineShape) → length numbers ≡ total_count kept
    → lines_of (numbers ++ more) (kept ++ later) ≡ lines_of numbers kept ++ lines_of more later
lines_behind [] more [] later all = refl
lines_behind (n ∷ numbers) more [] later all = absurd (omega (arith, all))
lines_behind numbers more (first ∷ kept) later all =
    let count : ℕ = number_count first in
    rw (take-append-le count numbers more (omega (arith, all)), drop-append-le count numbers more (omega (arith, all)))
    (ap (λ (ls : List Line). line_of first (take count numbers) ∷ ls) (lines_behind (drop count numbers) more kept later (omega (arith, all, length-drop count numbers))))

counts_behind : (kept later : List LineShape) → total_count (kept ++ later) ≡ total_count kept + total_count later
counts_behind [] later = omega arith
counts_behind (first ∷ kept) later = omega (arith, counts_behind kept later)

pub length_lines : (numbers : List ℕ) (kept : List LineShape) → length (lines_of numbers kept) ≡ length kept
length_lines numbers [] = refl
length_lines numbers (first ∷ kept) = ap suc (length_lines (drop (number_count first) numbers) kept)

length_said : (said : Option Said) → length (said_numbers said) ≡ said_count (said_shape_of said)
length_said None = refl
length_said (Some (says.Ret error value)) = refl
length_said (Some says.Waiting) = refl
length_said (Some says.Gone) = refl
length_said (Some (says.Entry addr hart opaque)) = refl
length_said (Some (says.Value value)) = refl
length_said (Some (says.Fault cause)) = refl
length_said (Some says.Served) = refl
length_said (Some (says.Moved state)) = refl
length_said (Some says.Done) = refl
length_said (Some (says.Refused n)) = refl

-- what is kept of a line, whose numbers these are with those of what it says behind them
pub record IsKept (line : Line) (kept : LineShape) (ns : List ℕ) : Type 0 where
  pub number : kept.number ≡ line.number
  pub doing : doing_made kept.doing ns ≡ line.doing
  pub count : kept.op_count ≡ length ns
  pub shape : kept.said ≡ said_shape_of line.said
  pub said : said_made kept.said (said_numbers line.said) ≡ line.said

module _ {line : Line} {first : LineShape} {ns : List ℕ} (is : IsKept line first ns) where
  all_counted : number_count first ≡ length (ns ++ said_numbers line.said)
  all_counted =
      let said : said_count first.said ≡ length (said_numbers line.said) = ap said_count is.shape ∙ sym (length_said line.said) in
      omega (arith, is.count, said, length-append ns (said_numbers line.said))

  line_kept : line_of first (ns ++ said_numbers line.said) ≡ line
  line_kept =
      rw (is.count, take-append_seam ns (said_numbers line.said), drop-append_seam ns (said_numbers line.said), is.doing, is.said, is.number) refl

  alone : lines_of (ns ++ said_numbers line.said) (first ∷ []) ≡ line ∷ []
  alone =
      rw (take_all (number_count first) (ns ++ said_numbers line.said) (omega (arith, all_counted))) (ap (λ (l : Line). l ∷ []) line_kept)

  pub put_lines : (old new : List ℕ) (kept : List LineShape) → length old ≡ total_count kept → new ≡ old ++ (ns ++ said_numbers line.said)
      → lines_of new (kept ++ first ∷ []) ≡ lines_of old kept ++ line ∷ []
  put_lines old new kept all more =
      rw (more, lines_behind old (ns ++ said_numbers line.said) kept (first ∷ []) all) (ap (λ (ls : List Line). lines_of old kept ++ ls) alone)

  pub put_counts : (old new : List ℕ) (kept : List LineShape) → length old ≡ total_count kept → new ≡ old ++ (ns ++ said_numbers line.said)
      → length new ≡ total_count (kept ++ first ∷ [])
  put_counts old new kept all more =
      omega (arith, ap length more, length-append old (ns ++ said_numbers line.said), all, all_counted, counts_behind kept (first ∷ []))

-- ---- calls

zeros : (ns : List ℕ) (i : ℕ) → used ns ≤ i → get_or ns i 0 ≡ 0
zeros [] i past = refl
zeros (n ∷ ns) i past = elim (cases_Bool (eqb (used ns) 0 && eqb n 0)) [
  | inl none ↦
      let both = and_parts (eqb (used ns) 0) (eqb n 0) none in
      all_zeros n ns i (eqb-true n 0 both.1) (λ j. zeros ns j (omega (arith, eqb-true (used ns) 0 both.0)))
  | inr some ↦ later_zeros n ns i (rw some at past) (λ j h. zeros ns j h)
] where
  all_zeros : (n : ℕ) (ns : List ℕ) (i : ℕ) → n ≡ 0 → ((j : ℕ) → get_or ns j 0 ≡ 0) → get_or (n ∷ ns) i 0 ≡ 0
  all_zeros n ns zero first rest = first
  all_zeros n ns (suc i) first rest = rest i

  later_zeros : (n : ℕ) (ns : List ℕ) (i : ℕ) → suc (used ns) ≤ i → ((j : ℕ) → used ns ≤ j → get_or ns j 0 ≡ 0) → get_or (n ∷ ns) i 0 ≡ 0
  later_zeros n ns zero past rest = absurd (omega (arith, past))
  later_zeros n ns (suc i) past rest = rest i (omega (arith, past))

past_end : (ns : List ℕ) (i : ℕ) → length ns ≤ i → get_or ns i 0 ≡ 0
past_end [] i past = refl
past_end (n ∷ ns) zero past = absurd (omega (arith, past))
past_end (n ∷ ns) (suc i) past = past_end ns i (omega (arith, past))

pub taken : (ns : List ℕ) (i : ℕ) → get_or (take (used ns) ns) i 0 ≡ get_or ns i 0
taken ns i = elim (cases_lt i (used ns)) [
  | inl within ↦ get_or-take (used ns) ns i 0 within
  | inr past ↦ past_end (take (used ns) ns) i (omega (arith, past, length-take (used ns) ns)) ∙ sym (zeros ns i past)
]

pub call_made : (regs : Regs) → length regs.a ≡ 6 → op_made Ecall (op_numbers (ops.Ecall regs)) ≡ ops.Ecall regs
call_made regs six =
    let a : number_from (take (used regs.a) regs.a) 0 ∷ number_from (take (used regs.a) regs.a) 1 ∷ number_from (take (used regs.a) regs.a) 2 ∷ number_from (take (used regs.a) regs.a) 3
    ∷ number_from (take (used regs.a) regs.a) 4 ∷ number_from (take (used regs.a) regs.a) 5 ∷ [] ≡ regs.a =
    sym (fill_by_all (λ k. number_from (take (used regs.a) regs.a) k) regs.a 6 0 six (λ k h. sym (taken regs.a k))) in
    ap (λ (xs : List ℕ). ops.Ecall (record { eid = regs.eid; fid = regs.fid; a = xs })) a

-- ---- zeros at the end

last_used : (ns : List ℕ) (k : ℕ) → used ns ≡ suc k → get_or ns k 0 ≡ 0 → ⊥
last_used [] k is zero_there = cc
last_used (n ∷ ns) k is zero_there = elim (cases_Bool (eqb (used ns) 0 && eqb n 0)) [
  | inl none ↦ let e = rw none at is in cc
  | inr some ↦ last_of n ns k some (rw some at is) zero_there (λ j. last_used ns j)
] where
  last_of : (n : ℕ) (ns : List ℕ) (k : ℕ) → (eqb (used ns) 0 && eqb n 0) ≡ false → suc (used ns) ≡ suc k → get_or (n ∷ ns) k 0 ≡ 0 → ((j : ℕ) → used ns ≡ suc j → get_or ns j 0 ≡ 0 → ⊥) → ⊥
  last_of n ns zero some is there rest = let none : used ns ≡ 0 = omega (arith, is) in let both = rw (none, there) at some in cc
  last_of n ns (suc k) some is there rest = rest k (omega (arith, is)) there

-- a number that is 0 isn't the last of those
pub used_before : (ns : List ℕ) (k : ℕ) → used ns ≤ k + 1 → get_or ns k 0 ≡ 0 → used ns ≤ k
used_before ns k within there = elim (cases_lt k (used ns)) [
  | inl past ↦ absurd (last_used ns k (omega (arith, within, past)) there)
  | inr done ↦ done
]

-- where no zero is left there
pub used_is : (ns : List ℕ) (k : ℕ) → used ns ≤ k → (k ≡ 0) ⊎ (get_or ns (k - 1) 0 ≢ 0) → used ns ≡ k
used_is ns k within (inl none) = omega (arith, within, none)
used_is ns k within (inr there) = elim (cases_lt (used ns) k) [
  | inl past ↦ absurd (there (zeros ns (k - 1) (omega (arith, past))))
  | inr same ↦ omega (arith, within, same)
]

pub used_le : (ns : List ℕ) → used ns ≤ length ns
used_le [] = omega arith
used_le (n ∷ ns) = elim (cases_Bool (eqb (used ns) 0 && eqb n 0)) [
  | inl none ↦ rw none (omega arith)
  | inr some ↦ let later = used_le ns in rw some (omega (arith, later))
]

-- ---- numbers that are left out

all_kept : (shape : OpShape) (ns : List ℕ) (count : ℕ) → count ≡ length ns → op_made shape (take count ns) ≡ op_made shape ns
all_kept shape ns count all = rw (take_all count ns (omega (arith, all))) refl

-- the zeros at the end of a call say nothing
pub kept_makes : (shape : OpShape) (ns : List ℕ) → op_made shape (take (kept_count shape ns) ns) ≡ op_made shape ns
kept_makes op_shapes.Ecall ns = rw (taken ns 0, taken ns 1, taken ns 2, taken ns 3, taken ns 4, taken ns 5, taken ns 6, taken ns 7) refl
kept_makes op_shapes.Load ns = all_kept op_shapes.Load ns (length ns) refl
kept_makes op_shapes.Store ns = all_kept op_shapes.Store ns (length ns) refl
kept_makes op_shapes.Fetch ns = all_kept op_shapes.Fetch ns (length ns) refl
kept_makes op_shapes.WriteSatp ns = all_kept op_shapes.WriteSatp ns (length ns) refl
kept_makes op_shapes.WriteSie ns = all_kept op_shapes.WriteSie ns (length ns) refl
kept_makes op_shapes.SstatusOff ns = all_kept op_shapes.SstatusOff ns (length ns) refl
kept_makes op_shapes.SstatusOn ns = all_kept op_shapes.SstatusOn ns (length ns) refl
kept_makes op_shapes.ReadSip ns = all_kept op_shapes.ReadSip ns (length ns) refl
kept_makes op_shapes.ClearSsip ns = all_kept op_shapes.ClearSsip ns (length ns) refl
kept_makes op_shapes.SfenceAll ns = all_kept op_shapes.SfenceAll ns (length ns) refl
kept_makes op_shapes.SfenceAddress ns = all_kept op_shapes.SfenceAddress ns (length ns) refl
kept_makes op_shapes.SfenceAsid ns = all_kept op_shapes.SfenceAsid ns (length ns) refl
kept_makes op_shapes.SfenceBoth ns = all_kept op_shapes.SfenceBoth ns (length ns) refl
kept_makes op_shapes.FenceI ns = all_kept op_shapes.FenceI ns (length ns) refl
kept_makes op_shapes.Wfi ns = all_kept op_shapes.Wfi ns (length ns) refl
kept_makes (op_shapes.Amo name) ns = all_kept (op_shapes.Amo name) ns (length ns) refl
kept_makes op_shapes.Poll ns = all_kept op_shapes.Poll ns (length ns) refl
kept_makes op_shapes.Serve ns = all_kept op_shapes.Serve ns (length ns) refl
kept_makes op_shapes.Advance ns = all_kept op_shapes.Advance ns (length ns) refl
kept_makes op_shapes.Tick ns = all_kept op_shapes.Tick ns (length ns) refl
