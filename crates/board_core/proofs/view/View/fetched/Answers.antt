use Rattle.std.proofs.Common.{ap, ◌∙◌, arith}
use Rattle.std.proofs.lemmas.List.{get_or_default}
use Rattle.tlb_model.specs.declared.caches.Caches.{Caches}
use Rattle.board_core.specs.Inside.Stands.{no_caches}
use Rattle.board_machine.proofs.Reading.{caches-read}
use Rattle.board_core.proofs.Viewed.{viewed}
use Rattle.board_core.proofs.view.View.fetched.Goals as goal

pub index-requires : goal.index-requires
index-requires c =
    let v = viewed c.self.view_is c.self.invariant in
    omega (arith, c.requires, v.sized.caches)

pub returns : goal.returns
returns c =
    let v = viewed c.self.view_is c.self.invariant in
    let m = c.self.inside.machine.now.memory in
    let own =
    c.index.ensures
    ∙ get_or_default m.caches.items c.args.h _ no_caches (omega (arith, c.requires, v.sized.caches))
    ∙ caches-read _ _ m c.args.h c.requires v.stands.memory in
    c.live.ensures.live ∙ ap (λ (caches : Caches). caches.words.live) own
