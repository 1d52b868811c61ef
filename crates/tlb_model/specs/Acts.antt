-- What happened to a cache, and the fills that are live in it because of that (profile).
use Rattle.std.specs.Prelude.{◌≡◌, ◌⊎◌, ℕ, ◌+◌, ◌-◌, ◌<◌, ◌≤◌, nat_lt, List, [], ◌∷◌, ◌++◌, length, take, Bool, true, false, not, ◌&&◌, filter, find, Option, Some, None, option_map}
use Rattle.std.specs.List.{All, Contains, list_any}
use Rattle.tlb_model.specs.declared.cache.Numbered.{Numbered}
use Rattle.tlb_model.specs.declared.fence.Flush.{Flush}
use Rattle.tlb_model.specs.Contents.{Contents, cleared, fenced, filled, hit}

-- What one event does to a hart's cache: it fills an item, a fence drops what it covers, everything is dropped, or
-- nothing happens.
pub data Act (E : Type 0) : Type 0 where
  Fill : E → Act E
  Drop : Flush → Act E
  Clear : Act E
  Nothing : Act E

-- a fill of this item, or nothing
abbrev pub act_of : {E : Type 0} → Option E → Act E
act_of (Some item) = Fill item
act_of None = Nothing

module _ {E : Type 0} where
  -- the number of the next fill after an act, from the number before it
  abbrev pub number_after : Act E → ℕ → ℕ
  number_after (Fill item) number = number + 1
  number_after (Drop flush) number = number
  number_after Clear number = number
  number_after Nothing number = number

  -- the fills with one more, if the act is a fill
  abbrev pub with_fill_of : Act E → (date number : ℕ) → List (Numbered E) → List (Numbered E)
  with_fill_of (Fill item) date number before = record { date = date; number = number; item = item } ∷ before
  with_fill_of (Drop flush) date number before = before
  with_fill_of Clear date number before = before
  with_fill_of Nothing date number before = before

  -- whether the act drops an item that was filled before it
  abbrev pub ends : (covers : Flush → E → Bool) → E → Act E → Bool
  ends covers item (Fill other) = false
  ends covers item (Drop flush) = covers flush item
  ends covers item Clear = true
  ends covers item Nothing = false

  -- the acts after the act of this date, if the first act has the date *first*
  abbrev pub after : (first : ℕ) → List (Act E) → ℕ → List (Act E)
  after first acts date = take (first + length acts - date - 1) acts

  -- The acts continue from an opening, which is the date of the first act and the cache before it. An act's date is the
  -- number of acts before it, including those before the opening. A fill's number is the number of fills before it.
  module _ (first : ℕ) (opening : Contents E) where
    -- the number of the next fill
    abbrev pub next_number : List (Act E) → ℕ
    next_number [] = opening.next
    next_number (act ∷ acts) = number_after act (next_number acts)

    -- The fills among the acts, both newest first.
    abbrev pub fillings : List (Act E) → List (Numbered E)
    fillings [] = []
    fillings (act ∷ acts) = with_fill_of act (first + length acts) (next_number acts) (fillings acts)

    module _ (covers : Flush → E → Bool) where
      -- Whether a fill outlives the acts after it: none of them drops it, and fewer than 16 fills came after it
      -- (profile).
      abbrev pub outlives : (acts later : List (Act E)) → Numbered E → Bool
      outlives acts later fill = not (list_any (ends covers fill.item) later) && nat_lt (next_number acts)
          (fill.number + 17)

      -- A fill among the acts is live if it outlives the acts after it.
      abbrev pub is_live : List (Act E) → Numbered E → Bool
      is_live acts fill = outlives acts (after first acts fill.date) fill

      -- The live fills, newest first: those among the acts, then those of the opening that outlive all acts.
      abbrev pub live : List (Act E) → List (Numbered E)
      live acts = filter (is_live acts) (fillings acts) ++ filter (outlives acts acts) opening.live

      -- The cache after these acts.
      abbrev pub cache_after : List (Act E) → Contents E
      cache_after acts = record { next = next_number acts; live = live acts }

      -- the live item that matches the key and was filled last
      abbrev pub last_live : {K : Type 0} → (holds : K → E → Bool) → K → List (Act E) → Option E
      last_live holds key acts = option_map (λ fill. fill.item) (find (λ fill. holds key fill.item) (live acts))

  -- a cache after an act of this date
  abbrev pub acted : (covers : Flush → E → Bool) → (date : ℕ) → Contents E → Act E → Contents E
  acted covers date cache (Fill item) = filled cache date item
  acted covers date cache (Drop flush) = fenced covers cache flush
  acted covers date cache Clear = cleared cache
  acted covers date cache Nothing = cache

-- The cache after one more act is the act's effect on the cache before it.
abbrev pub KeepsWhatLives : Type 0 → Type 0
KeepsWhatLives E =
    (first : ℕ) (opening : Contents E) (covers : Flush → E → Bool) (act : Act E) (acts : List (Act E))
    → cache_after first opening covers (act ∷ acts)
    ≡ acted covers (first + length acts) (cache_after first opening covers acts) act

-- The hit in a cache is the live item that matches the key and was filled last.
abbrev pub HitIsTheLast : Type 0 → Type 0 → Type 0
HitIsTheLast E K =
    (first : ℕ) (opening : Contents E) (covers : Flush → E → Bool) (holds : K → E → Bool) (key : K)
    (acts : List (Act E))
    → hit holds key (cache_after first opening covers acts) ≡ last_live first opening covers holds key acts

-- the acts have this fill, with its date and its number
pub record WasFilled {E : Type 0} (first : ℕ) (opening : Contents E) (acts : List (Act E))
    (fill : Numbered E) : Type 0 where
  pub newer : List (Act E)
  pub older : List (Act E)
  pub acted : acts ≡ newer ++ Fill fill.item ∷ older
  pub dated : first + length older ≡ fill.date
  pub numbered : next_number first opening older ≡ fill.number

-- A live fill is among the acts, with its date and number, or was live at the opening.
abbrev pub LiveWasFilled : Type 0 → Type 0
LiveWasFilled E =
    (first : ℕ) (opening : Contents E) (covers : Flush → E → Bool) (acts : List (Act E))
    → All (λ fill. WasFilled first opening acts fill ⊎ Contains opening.live fill) (live first opening covers acts)

-- After a fence, each live fill of the fence's date or an earlier one is not covered by it.
abbrev pub CoveredIsGone : Type 0 → Type 0
CoveredIsGone E =
    (first : ℕ) (opening : Contents E) (covers : Flush → E → Bool) (newer : List (Act E)) (flush : Flush)
    (older : List (Act E))
    → All (λ fill. fill.date ≤ first + length older → covers flush fill.item ≡ false)
    (live first opening covers (newer ++ Drop flush ∷ older))

-- After a clear, each live fill has a later date than the clear.
abbrev pub ClearedIsGone : Type 0 → Type 0
ClearedIsGone E =
    (first : ℕ) (opening : Contents E) (covers : Flush → E → Bool) (newer older : List (Act E))
    → All (λ fill. first + length older < fill.date) (live first opening covers (newer ++ Clear ∷ older))

-- A cut doesn't change what is live. Acts that continue from the cache after older acts, with the dates after theirs,
-- give the same cache as all acts from the first opening.
abbrev pub GoesOnFromACut : Type 0 → Type 0
GoesOnFromACut E =
    (first : ℕ) (opening : Contents E) (covers : Flush → E → Bool) (newer older : List (Act E))
    → cache_after (first + length older) (cache_after first opening covers older) covers newer
    ≡ cache_after first opening covers (newer ++ older)
