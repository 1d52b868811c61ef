-- A fence that was asked waits until it strikes, and a call is a success where it waits no more.
use Rattle.std.proofs.Common.{◌≡◌, ℕ, ◌≤◌, Bool, true, false, List, [], ◌∷◌, ◌++◌, refl, sym, ap, ◌∙◌, append_assoc, arith, inl, inr}
use Rattle.std.specs.Prelude.{◌==◌, ◌⊎◌, Option, Some, None}
use Rattle.std.specs.List.{list_any}
use Rattle.std.proofs.lemmas.Bool.{both_ways, cases_lt, eq-eqb, or_left, or_right}
use Rattle.std.proofs.lemmas.List.{length-append}
use Rattle.rfence.specs.declared.opened.FenceCall.{FenceCall}
use Rattle.rfence.specs.Opening.{Asked, IsOf, Opening, place_after}
use Rattle.rfence.specs.Turns.{Turn, Ask, Own, Serve, Poll, Stop, Reset, Quiet, empties, is_serve}
use Rattle.rfence.specs.Waiting.{added, request_by, waiting}
use Rattle.rfence.specs.Applied.{effect}
use Rattle.rfence.specs.Calls.{is_at, is_outstanding, open_call}
use Rattle.rfence.specs.Right.{IsRight}
use Rattle.rfence.specs.Laws.{Strikes, WasStruck}
use Rattle.rfence.proofs.Waits.{waited, waiting-more}
use Rattle.rfence.proofs.Callers.{AreOpen, none-passes, sound}

module _ {F : Type 0} where
  -- a fence is one of some
  abbrev pub IsAmong : Asked F → List (Asked F) → Type 0
  IsAmong asked [] = ⊥
  IsAmong asked (first ∷ rest) = (first ≡ asked) ⊎ IsAmong asked rest

  among-last : (waits : List (Asked F)) (asked : Asked F) → IsAmong asked (waits ++ asked ∷ [])
  among-last [] asked = inl refl
  among-last (first ∷ rest) asked = inr (among-last rest asked)

  among-added : (waits : List (Asked F)) (asked : Asked F) (more : Option (Asked F)) → IsAmong asked waits → IsAmong asked (added waits more)
  among-added waits asked None is = is
  among-added [] asked (Some x) is = absurd is
  among-added (first ∷ rest) asked (Some x) is = elim is [
    | inl here ↦ inl here
    | inr later ↦ inr (among-added rest asked (Some x) later)
  ]

  append-append : (xs ys zs : List (Turn F)) → (xs ++ ys) ++ zs ≡ xs ++ (ys ++ zs)
  append-append xs ys zs = simp append_assoc

module _ {F : Type 0} (o : Opening F) where
  -- the turns after a right turn's were right
  pub right-older : (n : ℕ) (newer older : List (Turn F)) → IsRight o n (newer ++ older) → IsRight o n older
  right-older n [] older right = right
  right-older n (turn ∷ newer) older right = right-older n newer older right.1

  struck-more : (newer turns : List (Turn F)) (t place : ℕ) (flush : F) → WasStruck o turns t place flush → WasStruck o (newer ++ turns) t place flush
  struck-more newer turns t place flush was = record {
    newer = newer ++ was.newer;
    turn = was.turn;
    older = was.older;
    made = ap (λ later. newer ++ later) was.made ∙ sym (append-append newer was.newer (was.turn ∷ was.older));
    since = was.since;
    strikes = was.strikes;
  }

  struck-now : (turn : Turn F) (turns : List (Turn F)) (t place : ℕ) (flush : F) → place ≤ place_after o turns → Strikes flush (effect o turns turn t)
      → WasStruck o (turn ∷ turns) t place flush
  struck-now turn turns t place flush since strikes = record { newer = []; turn = turn; older = turns; made = refl; since = since; strikes = strikes }

  -- what waits, and what a turn does to it
  one-turn : (turn : Turn F) (turns : List (Turn F)) (t place : ℕ) (asked : Asked F) → place ≤ place_after o turns
      → waiting o (turn ∷ turns) t ≡ waited (waiting o turns t) (place_after o turns) turn t → IsAmong asked (waiting o turns t)
      → IsAmong asked (waiting o (turn ∷ turns) t) ⊎ WasStruck o (turn ∷ turns) t place asked.flush
  one-turn turn turns t place asked since is among = by_empties (empties turn t) refl
    where
      by_front : (waits : List (Asked F)) → (x : ℕ) → turn ≡ Serve x → (x == t) ≡ true → waiting o turns t ≡ waits → IsAmong asked waits
          → IsAmong asked (waiting o (turn ∷ turns) t) ⊎ WasStruck o (turn ∷ turns) t place asked.flush
      by_front [] x serve here waits found = absurd found
      by_front (first ∷ rest) x serve here waits found = elim found [
        | inl same ↦ inr (struck-now turn turns t place asked.flush since (rw (serve, here, waits) (ap (λ (a : Asked F). a.flush) same)))
        | inr later ↦ inl (rw (is, serve, here, waits) later)
      ]

      by_serve : (turn' : Turn F) → turn ≡ turn' → (serves : Bool) → is_serve turn' t ≡ serves → empties turn' t ≡ false
          → IsAmong asked (waiting o (turn ∷ turns) t) ⊎ WasStruck o (turn ∷ turns) t place asked.flush
      by_serve (Serve x) same true here stays = by_front (waiting o turns t) x same here refl among
      by_serve (Ask x ids flush) same true here stays = cc
      by_serve (Own x flush) same true here stays = cc
      by_serve (Poll x) same true here stays = cc
      by_serve (Stop x) same true here stays = cc
      by_serve Reset same true here stays = cc
      by_serve Quiet same true here stays = cc
      by_serve turn' same false other stays =
          inl (rw (is, same, stays, other) (among-added (waiting o turns t) asked (request_by (place_after o turns) turn' t) among))

      by_empties : (gone : Bool) → empties turn t ≡ gone → IsAmong asked (waiting o (turn ∷ turns) t) ⊎ WasStruck o (turn ∷ turns) t place asked.flush
      by_empties true gone = inr (struck-now turn turns t place asked.flush since (rw gone tt))
      by_empties false stays = by_serve turn refl (is_serve turn t) refl stays

  -- a fence waits at a hart that it was asked of, until it strikes there
  pub waits-or-strikes : (n : ℕ) (newer older : List (Turn F)) (x : ℕ) (ids : ℕ → Bool) (flush : F) (t : ℕ) → ids t ≡ true
      → IsRight o n (newer ++ Ask x ids flush ∷ older)
      → IsAmong (record { place = place_after o older; from = x; flush = flush }) (waiting o (newer ++ Ask x ids flush ∷ older) t)
      ⊎ WasStruck o (newer ++ Ask x ids flush ∷ older) t (place_after o older) flush
  waits-or-strikes n [] older x ids flush t named right = by_hart (x == t) refl
    where
      by_hart : (own : Bool) → (x == t) ≡ own → IsAmong (record { place = place_after o older; from = x; flush = flush }) (waiting o (Ask x ids flush ∷ older) t)
          ⊎ WasStruck o (Ask x ids flush ∷ older) t (place_after o older) flush
      by_hart true here = inr (struck-now (Ask x ids flush) older t (place_after o older) flush (omega arith) (rw (here, named) refl))
      by_hart false other =
          inl (rw (waiting-more o n (Ask x ids flush) older t right.1, other, named) (among-last (waiting o older t) (record { place = place_after o older; from = x; flush = flush })))
  waits-or-strikes n (turn ∷ newer) older x ids flush t named right = elim (waits-or-strikes n newer older x ids flush t named right.1) [
    | inl among ↦ one-turn turn (newer ++ Ask x ids flush ∷ older) t (place_after o older) (record { place = place_after o older; from = x; flush = flush })
        (omega (arith, length-append newer (Ask x ids flush ∷ older)))
        (waiting-more o n turn (newer ++ Ask x ids flush ∷ older) t right.1) among
    | inr struck ↦ inr (struck-more (turn ∷ []) (newer ++ Ask x ids flush ∷ older) t (place_after o older) flush struck)
  ]

  -- what waits is outstanding for its caller
  is-outstanding : (opened : ℕ → Option (FenceCall F)) (t : ℕ) (waits : List (Asked F)) (asked : Asked F) → AreOpen t opened waits → IsAmong asked waits
      → list_any (is_at (opened asked.from)) waits ≡ true
  is-outstanding opened t [] asked are among = absurd among
  is-outstanding opened t (first ∷ rest) asked are among = elim among [
    | inl same ↦ or_left (is_at (opened asked.from) first) (list_any (is_at (opened asked.from)) rest)
        (ap (λ (a : Asked F). is_at (opened a.from) first) (sym same) ∙ is-of (opened first.from) first are.0)
    | inr later ↦ or_right (is_at (opened asked.from) first) (list_any (is_at (opened asked.from)) rest) (is-outstanding opened t rest asked are.1 later)
  ]
    where
      is-of : (call : Option (FenceCall F)) (first : Asked F) → IsOf t first call → is_at call first ≡ true
      is-of None first is = absurd is
      is-of (Some call) first is = eq-eqb first.place call.place (sym is.0)

  pub success : (n : ℕ) (newer between older : List (Turn F)) (x : ℕ) (ids : ℕ → Bool) (flush : F) (t : ℕ) → ids t ≡ true
      → IsRight o n (newer ++ Poll x ∷ (between ++ Ask x ids flush ∷ older))
      → WasStruck o (newer ++ Poll x ∷ (between ++ Ask x ids flush ∷ older)) t (place_after o older) flush
  success n newer between older x ids flush t named right =
      let turns = between ++ Ask x ids flush ∷ older in
      let polled = right-older n newer (Poll x ∷ turns) right in
      let s = sound o n turns t polled.1 in
      struck-more newer (Poll x ∷ turns) t (place_after o older) flush
      (struck-more (Poll x ∷ []) turns t (place_after o older) flush (elim (waits-or-strikes n between older x ids flush t named polled.1) [
        | inl among ↦
            let outstanding = is-outstanding (open_call o turns) t (waiting o turns t) _ s.opens among in
            absurd (elim (cases_lt t n) [
              | inl near ↦ both_ways (is_outstanding o turns x t) (none-passes (is_outstanding o turns x) n 0 t polled.0.2 (omega arith) (omega arith)) outstanding
              | inr far ↦ both_ways (is_outstanding o turns x t) (ap (list_any (is_at (open_call o turns x))) (s.within far)) outstanding
            ])
        | inr struck ↦ struck
      ]))
