use Rattle.std.proofs.Common.{ap, sym, ◌∙◌}
use Rattle.guest_script.specs.Grammar.{guest}
use Rattle.guest_programs.proofs.Indexing.{ops-here, ops-past}
use Rattle.guest_programs.proofs.blocks.Program.ops_in.Goals as goal

pub returns-in-Some : goal.returns-in-Some
returns-in-Some c =
    let look = c.in-Some.ensures.lookup in
    c.deref.ensures.value ∙ ap (λ block. (guest block).ops) look.1 ∙ sym (ops-here guest c.args.self.now.blocks.now c.args.block c.in-Some.block.now look.3.0)

pub returns-in-None : goal.returns-in-None
returns-in-None c = ops-past guest c.args.self.now.blocks.now c.args.block c.in-None.ensures.lookup.3
