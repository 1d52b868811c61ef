use Rattle.std.proofs.Common.{◌∙◌, sym, ap}
use Rattle.std.specs.Prelude.{not}
use Rattle.guest_programs.specs.Guests.{did, last_entry}
use Rattle.guest_programs.proofs.Quiet.{is-quiet}
use Rattle.guest_programs.proofs.found_end.is_quiet.Goals as goal

pub returns-then-is_none : goal.returns-then-is_none
returns-then-is_none g c = is-quiet _ _ _ c.args.h c.is_through.result _ (sym c.state.ensures ∙ c.in-Started.is)
    (c.is_none.ensures ∙ ap not c.if-is_none.true) c.outstanding.ensures
    (c.is_through.ensures (last_entry c.args.board.now.past c.args.h) (did c.args.board.now.past c.args.h) c.requires.followed)
