-- The effects of fences on the two caches of a hart.
use Rattle.tlb_model.specs.declared.caches.Caches.{Caches}
use Rattle.tlb_model.specs.declared.fence.Flush.{Flush}
use Rattle.tlb_model.specs.Contents.{cleared, fenced}
use Rattle.tlb_model.specs.Entries.{covers_entry}
use Rattle.tlb_model.specs.Words.{covers_word}

-- Exactly what the fence covers is gone from both caches (Privileged 4.2.1; Zifencei).
abbrev pub dropped_of : Flush → Caches → Caches
dropped_of flush caches =
    record { tlb = fenced covers_entry caches.tlb flush; words = fenced covers_word caches.words flush }

-- Nothing is live in either cache any more; the next numbers stay (profile).
abbrev pub emptied_of : Caches → Caches
emptied_of caches = record { tlb = cleared caches.tlb; words = cleared caches.words }
