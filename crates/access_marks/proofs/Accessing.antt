-- The addresses that a record accesses, with one event more.
use Rattle.std.proofs.Common.{◌≡◌, ℕ, ◌+◌, ◌<◌, List, [], ◌∷◌, length, take, get_or, sym, subst, ◌∙◌, inl, inr, Option, Some, None}
use Rattle.std.specs.List.{All, Contains}
use Rattle.std.proofs.lemmas.Option.{same_Some}
use Rattle.std.proofs.lemmas.List.Elements.{All-more, All-push, All-weaker, Contains-append_left, Contains-push}
use Rattle.board_terms.specs.declared.op.Actor.{Actor}
use Rattle.board_terms.specs.declared.op.Actor.TheVariants.{Hart, Clock}
use Rattle.board_core.specs.History.{Event, Reach, access_of}
use Rattle.tlb_watch.specs.declared.hart_address.HartAddress.{HartAddress}
use Rattle.access_marks.specs.Inside.Accessed.{IsGrown, IsPresent, IsPut, IsWatched, accessed_by, address_of}

-- ---- an address that was put behind others

put-here : (at : HartAddress) (old new : List HartAddress) → IsPut at old new → Contains new at
put-here at old new (inl (there, same)) = subst (λ (l : List HartAddress). Contains l at) (sym same) there
put-here at old new (inr same) = subst (λ (l : List HartAddress). Contains l at) (sym same) (Contains-push old at)

put-kept : (at : HartAddress) (old new : List HartAddress) → IsPut at old new → (x : HartAddress) → Contains old x → Contains new x
put-kept at old new (inl (there, same)) x in_old = subst (λ (l : List HartAddress). Contains l x) (sym same) in_old
put-kept at old new (inr same) x in_old = subst (λ (l : List HartAddress). Contains l x) (sym same) (Contains-append_left old (at ∷ []) x in_old)

put-all : (P : HartAddress → Type 0) (at : HartAddress) (old new : List HartAddress) → IsPut at old new → All P old → P at → All P new
put-all P at old new (inl (there, same)) all here = subst (λ (l : List HartAddress). All P l) (sym same) all
put-all P at old new (inr same) all here = subst (λ (l : List HartAddress). All P l) (sym same) (All-push P old at all here)

-- ---- one event more

-- an address that is accessed is one of a hart that is there
hart-there : (harts : ℕ) (actor : Actor) (reach : Option Reach) (at : HartAddress) → IsPresent harts actor → accessed_by actor reach ≡ Some at → at.hart < harts
hart-there harts (Hart h) (Some reach) at present is =
    let same = same_Some (record { hart = h; address = reach.va }) at is in
    subst (λ (a : HartAddress). a.hart < harts) same present
hart-there harts (Hart h) None at present is = cc
hart-there harts Clock reach at present is = cc

still : (harts : ℕ) (old new : List HartAddress) → ((x : HartAddress) → Contains old x → Contains new x) → (e : Event) → IsWatched harts old e → IsWatched harts new e
still harts old new kept e is = record { present = is.present; watched = λ at accesses. kept at (is.watched at accesses) }

module _ (harts : ℕ) (events : List Event) (i : ℕ) (e : Event) (inside : i < length events) (is : e ≡ get_or events i e) (present : IsPresent harts e.actor) where
  abbrev AreWatched : List HartAddress → ℕ → Type 0
  AreWatched addresses n = All (λ (at : HartAddress). at.hart < harts) addresses × All (IsWatched harts addresses) (take n events)

  grown : (old new : List HartAddress) → ((x : HartAddress) → Contains old x → Contains new x) → IsWatched harts new e → All (IsWatched harts old) (take i events) → All (IsWatched harts new) (take (i + 1) events)
  grown old new kept here all =
      All-more (IsWatched harts new) events i e inside (All-weaker (IsWatched harts old) (IsWatched harts new) (still harts old new kept) (take i events) all)
      (subst (IsWatched harts new) is here)

  -- it accesses an address
  watched-put : (at : HartAddress) (old new : List HartAddress) → address_of e ≡ Some at → IsPut at old new → AreWatched old i → AreWatched new (i + 1)
  watched-put at old new accesses put are = (
    put-all (λ (a : HartAddress). a.hart < harts) at old new put are.0 (hart-there harts e.actor (access_of e.op) at present accesses),
    grown old new (put-kept at old new put)
        (record { present = present; watched = λ other is. subst (Contains new) (same_Some at other (sym accesses ∙ is)) (put-here at old new put) }) are.1,
  )

  -- it accesses none
  watched-none : (old : List HartAddress) → address_of e ≡ None → AreWatched old i → AreWatched old (i + 1)
  watched-none old accesses are = (
    are.0,
    grown old old (λ x there. there) (record { present = present; watched = λ other is. let none = sym accesses ∙ is in cc }) are.1,
  )

  pub watched-more : (found : Option HartAddress) (old new : List HartAddress) → address_of e ≡ found → IsGrown found old new → AreWatched old i → AreWatched new (i + 1)
  watched-more (Some at) old new accesses put are = watched-put at old new accesses put are
  watched-more None old new accesses same are = subst (λ (l : List HartAddress). AreWatched l (i + 1)) (sym same) (watched-none old accesses are)

-- a record with an actor that isn't there
pub not-all-present : (harts : ℕ) (events : List Event) (i : ℕ) (e : Event) → i < length events → e ≡ get_or events i e → (IsPresent harts e.actor → ⊥)
    → All (λ (e : Event). IsPresent harts e.actor) events → ⊥
not-all-present harts events i e inside is other all = other (subst (λ (x : Event). IsPresent harts x.actor) (sym is) (all i e inside))
