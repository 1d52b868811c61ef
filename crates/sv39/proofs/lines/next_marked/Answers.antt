use Rattle.std.proofs.Common.{◌≡◌, ◌+◌, ◌-◌, ◌/◌, ◌%◌, ◌^◌, get_or, arith}
use Rattle.std.specs.Prelude.{bit_or}
use Rattle.std.proofs.lemmas.Nat.{or_lt}
use Rattle.sv39.proofs.Marks.{first-marked, rest-unmarked, unmarked-joined}
use Rattle.sv39.proofs.lines.next_marked.Goals as goal

pub returns-then-left-ne0-clause-within : goal.returns-then-left-ne0-clause-within
returns-then-left-ne0-clause-within c =
    let marks = c.args.marks.now in
    let others = c.args.others.now in
    let line = c.loop-line.line in
    let fits = or_lt 64 (get_or marks (line / 64) 0) (get_or others (line / 64) 0) (omega (arith, c.type_inv.marks (line / 64))) (omega (arith, c.type_inv.others (line / 64))) in
    let first = first-marked marks others line fits (omega arith) in
    omega (arith, first.0)

pub returns-then-left-ne0-clause-none : goal.returns-then-left-ne0-clause-none
returns-then-left-ne0-clause-none c =
    let marks = c.args.marks.now in
    let others = c.args.others.now in
    let line = c.loop-line.line in
    let fits = or_lt 64 (get_or marks (line / 64) 0) (get_or others (line / 64) 0) (omega (arith, c.type_inv.marks (line / 64))) (omega (arith, c.type_inv.others (line / 64))) in
    let first = first-marked marks others line fits (omega arith) in
    unmarked-joined marks c.args.from line _ c.loop-line.invariant.none first.1

pub returns-then-left-ne0-clause-none_other : goal.returns-then-left-ne0-clause-none_other
returns-then-left-ne0-clause-none_other c =
    let marks = c.args.marks.now in
    let others = c.args.others.now in
    let line = c.loop-line.line in
    let fits = or_lt 64 (get_or marks (line / 64) 0) (get_or others (line / 64) 0) (omega (arith, c.type_inv.marks (line / 64))) (omega (arith, c.type_inv.others (line / 64))) in
    let first = first-marked marks others line fits (omega arith) in
    unmarked-joined others c.args.from line _ c.loop-line.invariant.none_other first.2

pub loop-line-preserved : goal.loop-line-preserved
loop-line-preserved c =
    let marks = c.args.marks.now in
    let others = c.args.others.now in
    let line = c.loop-line.line in
    let none : bit_or (get_or marks (line / 64) 0) (get_or others (line / 64) 0) / 2 ^ (line % 64) ≡ 0 = omega (arith, c.if-left-ne0.false) in
    let rest = rest-unmarked marks others line none in record {
      later = omega arith;
      within = omega arith;
      none = unmarked-joined marks c.args.from line (line + (64 - line % 64)) c.loop-line.invariant.none rest.0;
      none_other = unmarked-joined others c.args.from line (line + (64 - line % 64)) c.loop-line.invariant.none_other rest.1;
    }
