-- The model of a cache: the number of its next fill, and its live fills (profile).
use Rattle.std.specs.Prelude.{ℕ, ◌+◌, nat_lt, List, [], ◌∷◌, Bool, not, filter, find, Option, Some, None, option_map}
use Rattle.tlb_model.specs.declared.cache.Numbered.{Numbered}

-- the number of the next fill, and the live fills, newest first
pub record Contents (E : Type 0) : Type 0 where
  pub next : ℕ
  pub live : List (Numbered E)

module _ {E : Type 0} where
  -- An empty cache.
  abbrev pub empty : Contents E
  empty = record { next = 0; live = [] }

  -- Whether a fill outlives the fill of this number, which replaces the fill 16 before it (profile).
  abbrev pub is_young : ℕ → Numbered E → Bool
  is_young number fill = nat_lt number (fill.number + 16)

  -- A fill takes the next number, and replaces the fill 16 before it (profile).
  abbrev pub filled : Contents E → (date : ℕ) → E → Contents E
  filled cache date item =
      record {
        next = cache.next + 1;
        live = record { date = date; number = cache.next; item = item }
            ∷ filter (is_young cache.next) cache.live;
      }

  -- the cache after this fill, or unchanged if there is none
  abbrev pub filled_if : Contents E → (date : ℕ) → Option E → Contents E
  filled_if cache date (Some item) = filled cache date item
  filled_if cache date None = cache

  -- A fence drops what it covers, and nothing else (Privileged 4.2.1; Zifencei).
  abbrev pub fenced : {F : Type 0} → (covers : F → E → Bool) → Contents E → F → Contents E
  fenced covers cache flush = record cache { live = filter (λ fill. not (covers flush fill.item)) cache.live }

  -- Nothing is live any more; the next number stays (profile).
  abbrev pub cleared : Contents E → Contents E
  cleared cache = record cache { live = [] }

  -- The hit is the live item that matches the key and was filled last (profile).
  abbrev pub hit : {K : Type 0} → (holds : K → E → Bool) → K → Contents E → Option E
  hit holds key cache = option_map (λ fill. fill.item) (find (λ fill. holds key fill.item) cache.live)
