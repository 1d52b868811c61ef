-- The words of a place that walks may still see, note by note.
use Rattle.std.specs.Prelude.{ℕ, ◌==◌, ◌&&◌, ◌||◌, not, Bool, true, false, List, [], ◌∷◌, ◌++◌, if◌then◌else◌, Option, Some, None}
use Rattle.std.specs.List.{list_any}
use Rattle.rfence.specs.Applied.{Drops}
use Rattle.sv39.specs.Maps.{is_some_pointer}
use Rattle.tlb_model.specs.declared.fence.Flush.{Flush}
use Rattle.any_tlb.specs.Mixed.{orders_ends, orders_pointers}
use Rattle.walk_watch.specs.declared.former.FormerWord.{FormerWord}
use Rattle.walk_watch.specs.declared.former.WalkNote.{WalkNote}
use Rattle.walk_watch.specs.declared.former.WalkNote.TheVariants.{Was, Fence}
use Rattle.walk_watch.specs.declared.sight.Sight.{Sight}
use Rattle.walk_watch.specs.declared.sight.Spot.{Spot}

-- the word that stands there now
abbrev pub first : Option ℕ → Sight
first word = record { word = word; free = true; over = false; shows = true }

-- nothing else stood there
abbrev pub unseen : Sight → Sight
unseen s = record { word = s.word; free = s.free; over = s.over; shows = false }

-- this word stood there before
abbrev pub stood : Spot → Sight → Option ℕ → Sight
stood spot s was = record {
  word = was;
  free = s.free || is_some_pointer spot.level s.word;
  over = s.over;
  shows = not s.over && ((s.free || is_some_pointer spot.level s.word) || is_some_pointer spot.level was);
}

-- what walks may see behind a change of a word
abbrev pub behind_word : Spot → Sight → FormerWord → Sight
behind_word spot s former = if former.at == spot.at then stood spot s former.word else unseen s

-- behind a fence of the walks' hart: one that orders pointers orders all that stood there; one that orders ends only what a
-- pointer hasn't followed
abbrev pub fenced : Spot → Sight → Flush → Sight
fenced spot s flush =
    if orders_pointers spot.walkers.met spot.walkers.asid (Drops flush)
    then record { word = s.word; free = s.free; over = true; shows = false }
    else if orders_ends spot.walkers.va spot.level spot.walkers.met spot.walkers.asid (Drops flush)
    then record { word = s.word; free = is_some_pointer spot.level s.word; over = s.over; shows = false }
    else unseen s

-- behind a fence of hart x
abbrev pub behind_fence : Spot → Sight → (x : ℕ) → Flush → Sight
behind_fence spot s x flush = if x == spot.walkers.hart then fenced spot s flush else unseen s

-- behind a note
abbrev pub back : Spot → Sight → WalkNote → Sight
back spot s (Was former) = behind_word spot s former
back spot s (Fence x flush) = behind_fence spot s x flush

-- whether two words are the same
abbrev pub is_same_word : (a b : Option ℕ) → Bool
is_same_word (Some a) (Some b) = a == b
is_same_word (Some a) None = false
is_same_word None (Some b) = false
is_same_word None None = true

-- whether a word is among these
abbrev pub has_word : List (Option ℕ) → Option ℕ → Bool
has_word words word = list_any (λ other. is_same_word other word) words

-- the words with that of a sight, if it shows, and isn't there yet
abbrev pub shown : Sight → List (Option ℕ) → List (Option ℕ)
shown s found = if s.shows && not (has_word found s.word) then found ++ s.word ∷ [] else found

-- the words that were found, and those that show behind these notes
abbrev pub seen_on : Spot → Sight → (found : List (Option ℕ)) → List WalkNote → List (Option ℕ)
seen_on spot s found [] = found
seen_on spot s found (note ∷ notes) = seen_on spot (back spot s note) (shown (back spot s note) found) notes

-- The words that walks may see at a place, if this one stands there now.
abbrev pub words_seen : Spot → List WalkNote → Option ℕ → List (Option ℕ)
words_seen spot notes word = seen_on spot (first word) (word ∷ []) notes
