use Rattle.std.proofs.Common.{◌≡◌, ◌++◌, ◌-◌, refl, ap, ◌∙◌, append_assoc, length, arith}
use Rattle.std.proofs.lemmas.List.{length-append}
use Rattle.script_lines.specs.Packing.{doing_numbers, said_numbers}
use Rattle.script_lines.proofs.Packed.{IsKept, put_counts, put_lines}
use Rattle.script_lines.proofs.lines.Lines.push.Goals as goal

abbrev Kept : goal.After-push_reserved → Type 0
Kept c = IsKept c.args.line.now
    (record { number = c.args.line.now.number; doing = c.put-doing.result; op_count = c.len.result - c.len-before.result; said = c.put-said.result })
    (doing_numbers c.args.line.now.doing)

kept : (c : goal.After-push_reserved) → Kept c
kept c =
    let more = ap length c.put-doing.ensures.numbers in
    record {
      number = refl;
      doing = c.put-doing.ensures.made;
      count = omega (arith, more, length-append c.reserve-2.new.self.items (doing_numbers c.args.line.now.doing), c.len.ensures, c.len-before.ensures);
      shape = c.put-said.ensures.shape;
      said = c.put-said.ensures.made;
    }

behind : (c : goal.After-push_reserved)
    → c.put-said.new.numbers.items ≡ c.self.inside.numbers.items ++ (doing_numbers c.args.line.now.doing ++ said_numbers c.args.line.now.said)
behind c =
    c.put-said.ensures.numbers ∙ rw (c.put-doing.ensures.numbers, c.reserve-2.ensures.items)
    (append_assoc c.self.inside.numbers.items (doing_numbers c.args.line.now.doing) (said_numbers c.args.line.now.said))

pub invariant_of-self-2 : goal.invariant_of-self-2
invariant_of-self-2 c =
    rw (c.push_reserved.ensures.items, c.reserve.ensures.items)
    (put_counts (kept c) c.self.inside.numbers.items c.put-said.new.numbers.items c.self.inside.kept.items c.self.invariant (behind c))

pub returns-clause-pushed : goal.returns-clause-pushed
returns-clause-pushed c =
    rw (c.push_reserved.ensures.items, c.reserve.ensures.items, ← c.self.view_is)
    (put_lines (kept c) c.self.inside.numbers.items c.put-said.new.numbers.items c.self.inside.kept.items c.self.invariant (behind c))
