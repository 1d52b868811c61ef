use Rattle.std.proofs.Common.{◌-◌, sym, ap, ◌∙◌, arith}
use Rattle.std.specs.Prelude.{slice_get}
use Rattle.board_terms.specs.declared.op.Op.{Op}
use Rattle.conditions.specs.Items.{actor_item, op_items}
use Rattle.conditions.proofs.Places.{behind}
use Rattle.conditions.proofs.items.step_item.Goals as goal

pub returns : goal.returns
returns c =
    c.op_item.ensures ∙ ap (λ (op : Op). slice_get (op_items op) (c.args.place - 1)) c.op.ensures
    ∙ sym (behind (actor_item c.args.event.now.actor) (op_items c.args.event.now.op) c.args.place (omega arith))
