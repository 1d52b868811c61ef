use Rattle.asm_instructions.proofs.ranges.+li_parts.Given as goal

abbrev pub decreases-li_parts : goal.decreases-li_parts
decreases-li_parts l = l.most
