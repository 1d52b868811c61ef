-- What is noted first, and then changed by an effect.
use Rattle.std.proofs.Common.{◌≡◌, Bool, List, refl, Option, None}
use Rattle.tlb_watch.specs.declared.effect.CacheEffect.{CacheEffect}
use Rattle.tlb_watch.specs.declared.effect.CacheEffect.TheVariants.{Nothing, Applied, Reset}
use Rattle.walk_watch.specs.declared.former.FormerSatp.{FormerSatp}
use Rattle.walk_watch.specs.declared.former.FormerWord.{FormerWord}
use Rattle.walk_watch.specs.declared.former.WalkNote.{WalkNote}
use Rattle.walk_watch.specs.Logged.{notes_after, satps_after, with_former, with_word}

pub satps-noted : (met : Bool) (effect : CacheEffect) (former : Option FormerSatp) (satps : List FormerSatp)
    → satps_after met effect None (with_former former satps) ≡ satps_after met effect former satps
satps-noted met Nothing former satps = refl
satps-noted met (Applied x flush) former satps = refl
satps-noted met Reset former satps = refl

pub notes-noted : (effect : CacheEffect) (word : Option FormerWord) (notes : List WalkNote) → notes_after effect None (with_word word notes) ≡ notes_after effect word notes
notes-noted Nothing word notes = refl
notes-noted (Applied x flush) word notes = refl
notes-noted Reset word notes = refl
