use Rattle.guest_programs.proofs.InBlocks.{next-done, through-done}
use Rattle.guest_programs.proofs.programs.blocks_in_order.Goals as goal

pub returns : goal.returns
returns c = record { next = next-done; through = through-done }
