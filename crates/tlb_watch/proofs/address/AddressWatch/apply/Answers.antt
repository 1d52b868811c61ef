use Rattle.std.proofs.Common.{◌≡◌, false, ap, sym, ◌∙◌}
use Rattle.std.specs.Prelude.{◌==◌}
use Rattle.std.proofs.lemmas.Bool.{ne_eqb}
use Rattle.tlb_watch.specs.Watched.{WatchedAddress}
use Rattle.tlb_watch.proofs.Lists.{filter-all, filter-none}
use Rattle.tlb_watch.proofs.address.AddressWatch.apply.Goals as goal

pub returns-in-Nothing-clause-entries : goal.returns-in-Nothing-clause-entries
returns-in-Nothing-clause-entries c = rw c.in-Nothing.is (filter-all c.args.self.now.entries)

pub returns-else-hart-self-clause-entries : goal.returns-else-hart-self-clause-entries
returns-else-hart-self-clause-entries c =
    let apart : (c.in-Applied.hart == c.args.self.now.at.hart) ≡ false =
    ne_eqb c.in-Applied.hart c.args.self.now.at.hart (λ same. c.if-hart-self.false (same ∙ sym (ap (λ (w : WatchedAddress). w.at.hart) c.self.view_is))) in
    rw (c.in-Applied.is, apart) (filter-all c.args.self.now.entries)

pub returns-in-Reset-clause-entries : goal.returns-in-Reset-clause-entries
returns-in-Reset-clause-entries c = c.clear-in-Reset.ensures.entries ∙ rw c.in-Reset.is (filter-none c.args.self.now.entries)
