use Rattle.std.proofs.Common.{◌≡◌, ◌++◌, refl, ap, ◌∙◌, append_assoc, take, arith}
use Rattle.std.proofs.lemmas.List.{length-take}
use Rattle.board_terms.specs.declared.op.Op.{Op}
use Rattle.script_lines.specs.declared.line_shape.DoingShape.TheVariants as doings
use Rattle.script_lines.specs.declared.script.Doing.TheVariants.{Step}
use Rattle.script_lines.specs.KeptLines.{plain_line}
use Rattle.script_lines.specs.Packing.{said_numbers}
use Rattle.script_lines.proofs.Packed.{IsKept, kept_makes, put_counts, put_lines}
use Rattle.script_lines.proofs.lines.Lines.push_plain.Goals as goal

abbrev Kept : goal.After-push_reserved → Type 0
Kept c = IsKept (plain_line c.args.number c.args.plain c.args.numbers.now)
    (record { number = c.args.number; doing = doings.Step c.of.result c.args.plain.op; op_count = c.kept_count-count.result; said = c.put-said.result })
    (take c.kept_count-count.result c.args.numbers.now)

kept : (c : goal.After-push_reserved) → Kept c
kept c = record {
  number = refl;
  doing = rw c.of.ensures (ap (λ (op : Op). Step c.args.plain.actor op) (rw c.kept_count-count.ensures.count (kept_makes c.args.plain.op c.args.numbers.now)));
  count = omega (arith, length-take c.kept_count-count.result c.args.numbers.now, c.kept_count-count.ensures.bound);
  shape = c.put-said.ensures.shape;
  said = c.put-said.ensures.made;
}

behind : (c : goal.After-push_reserved)
    → c.put-said.new.numbers.items ≡ c.self.inside.numbers.items ++ (take c.kept_count-count.result c.args.numbers.now ++ said_numbers c.args.plain.said)
behind c =
    c.put-said.ensures.numbers ∙ rw (c.put_all.ensures.numbers, c.reserve-2.ensures.items)
    (append_assoc c.self.inside.numbers.items (take c.kept_count-count.result c.args.numbers.now) (said_numbers c.args.plain.said))

pub invariant_of-self-2 : goal.invariant_of-self-2
invariant_of-self-2 c =
    rw (c.push_reserved.ensures.items, c.reserve.ensures.items)
    (put_counts (kept c) c.self.inside.numbers.items c.put-said.new.numbers.items c.self.inside.kept.items c.self.invariant (behind c))

pub returns : goal.returns
returns c =
    rw (c.push_reserved.ensures.items, c.reserve.ensures.items, ← c.self.view_is)
    (put_lines (kept c) c.self.inside.numbers.items c.put-said.new.numbers.items c.self.inside.kept.items c.self.invariant (behind c))
