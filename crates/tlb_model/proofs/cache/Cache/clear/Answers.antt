use Rattle.std.proofs.Common.{refl}
use Rattle.std.proofs.lemmas.Nat.Bits.{bit_at_ones}
use Rattle.tlb_model.proofs.Places.{same_contents, seen-dropped}
use Rattle.tlb_model.proofs.cache.Cache.clear.Goals as goal

pub returns : goal.returns
returns g c = rw (← c.self.view_is) (same_contents _ _ _ _ refl (seen-dropped c.self.inside.next 16 c.self.inside.places.items c.self.inside.dates 65535 (λ i below. bit_at_ones 16 i below)))
