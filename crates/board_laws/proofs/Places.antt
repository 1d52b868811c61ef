-- Histories as they were at their places.
use Rattle.std.proofs.Common.{◌≡◌, ℕ, zero, suc, ◌+◌, ◌-◌, ◌<◌, ◌≤◌, List, [], ◌∷◌, ◌++◌, length, take, drop, subst, refl, sym, ap, ◌∙◌, append_assoc, arith, length-append, length-drop}
use Rattle.std.proofs.Math.Seq.{drop-append-add}
use Rattle.std.proofs.lemmas.List.{drop-append-le, take-append-drop}
use Rattle.board_core.specs.Opening.{IsOpening, Opening, place_after}
use Rattle.board_core.specs.History.{Event, Reach}
use Rattle.board_core.specs.Replies.{IsLegal}
use Rattle.board_laws.specs.Places.{Accesses, IsAtPlace, past_at}

module _ (o : Opening) where
  -- before an event there was what is older
  pub past_at-before : (newer : List Event) (event : Event) (older : List Event) → past_at o (newer ++ event ∷ older) (place_after o older) ≡ older
  past_at-before newer event older =
      let later : place_after o (newer ++ event ∷ older) - place_after o older ≡ length newer + 1 = omega (arith, length-append newer (event ∷ older)) in
      ap (λ n. drop n (newer ++ event ∷ older)) later ∙ drop-append-add newer (event ∷ older) 1

  pub past_at-split : (past newer : List Event) (event : Event) (older : List Event) (place : ℕ) → past ≡ newer ++ event ∷ older → place_after o older ≡ place → past_at o past place ≡ older
  past_at-split past newer event older place made placed =
      ap (λ n. past_at o past n) (sym placed) ∙ ap (λ xs. past_at o xs (place_after o older)) made ∙ past_at-before newer event older

  pub at-split : (past newer : List Event) (event : Event) (older : List Event) (place : ℕ) → past ≡ newer ++ event ∷ older → place_after o older ≡ place → IsAtPlace o past place event
  at-split past newer event older place made placed =
      record { since = omega (arith, placed); newer = newer; made = made ∙ ap (λ xs. newer ++ event ∷ xs) (sym (past_at-split past newer event older place made placed)) }

  -- as many events as its place says
  pub length-past_at : (past : List Event) (place : ℕ) → o.places ≤ place → place ≤ place_after o past → place_after o (past_at o past place) ≡ place
  length-past_at past place since within = omega (arith, length-drop (place_after o past - place) past)

  -- the sizes of what came before an event and since
  sizes : (past : List Event) (place : ℕ) (event : Event) (at : IsAtPlace o past place event) → length past ≡ length at.newer + suc (length (past_at o past place))
  sizes past place event at = ap length at.made ∙ length-append at.newer (event ∷ past_at o past place)

  pub within : (past : List Event) (place : ℕ) (event : Event) → IsAtPlace o past place event → place < place_after o past
  within past place event at =
      let since = at.since in
      omega (arith, sizes past place event at, length-drop (place_after o past - place) past)

  -- with its event there was one more
  pub at-with : (past : List Event) (place : ℕ) (event : Event) → IsAtPlace o past place event → past_at o past (suc place) ≡ event ∷ past_at o past place
  at-with past place event at =
      let size = length-past_at past place at.since (let inside = within past place event at in omega arith) in
      let later : place_after o past - suc place ≡ length at.newer + 0 = omega (arith, sizes past place event at) in
      ap (λ n. drop n past) later
      ∙ ap (λ xs. drop (length at.newer + 0) xs) at.made
      ∙ drop-append-add at.newer (event ∷ past_at o past place) 0

drop-none : (i : ℕ) → drop i (let none : List Event = [] in none) ≡ []
drop-none zero = refl
drop-none (suc i) = refl

drop-again : (i j : ℕ) (xs : List Event) → drop i (drop j xs) ≡ drop (j + i) xs
drop-again i zero xs = let same : i ≡ 0 + i = omega arith in ap (λ n. drop n xs) same
drop-again i (suc j) [] = drop-none i ∙ sym (drop-none (suc j + i))
drop-again i (suc j) (x ∷ xs) =
    let more : suc (j + i) ≡ suc j + i = omega arith in
    drop-again i j xs ∙ ap (λ n. drop n (x ∷ xs)) more

module _ (o : Opening) where
  -- what was at a place was there at a later place too
  pub past_at-again : (past : List Event) (p m : ℕ) → o.places ≤ m → m ≤ p → p ≤ place_after o past → past_at o (past_at o past p) m ≡ past_at o past m
  past_at-again past p m since early inside =
      drop-again (place_after o (past_at o past p) - m) (place_after o past - p) past
      ∙ ap (λ n. drop n past) (let size = length-past_at o past p (omega arith) inside in omega arith)

  -- an event of an earlier place was there at a later one
  pub at-earlier : (past : List Event) (p m : ℕ) (event : Event) → m < p → p ≤ place_after o past → IsAtPlace o past m event → IsAtPlace o (past_at o past p) m event
  at-earlier past p m event early inside at =
      let since = at.since in
      let before = length-past_at o past m since (omega arith) in
      let near : place_after o past - p ≤ length at.newer = omega (arith, sizes o past m event at) in
      record {
        since = since;
        newer = drop (place_after o past - p) at.newer;
        made = ap (λ xs. drop (place_after o past - p) xs) at.made ∙ drop-append-le (place_after o past - p) at.newer (event ∷ past_at o past m) near
            ∙ ap (λ older. drop (place_after o past - p) at.newer ++ event ∷ older) (sym (past_at-again past p m since (omega arith) inside));
      }

  pub at-later : (past : List Event) (p m : ℕ) (event : Event) → o.places ≤ p → p ≤ place_after o past → IsAtPlace o (past_at o past p) m event → IsAtPlace o past m event
  at-later past p m event from inside at =
      let since = at.since in
      let early : m < place_after o (past_at o past p) = within o (past_at o past p) m event at in
      let size = length-past_at o past p from inside in
      let same = past_at-again past p m since (omega arith) inside in
      let later = take (place_after o past - p) past in
      record {
        since = since;
        newer = later ++ at.newer;
        made = sym (take-append-drop (place_after o past - p) past) ∙ ap (λ ys. later ++ ys) at.made ∙ sym (append_assoc later at.newer (event ∷ past_at o (past_at o past p) m))
            ∙ ap (λ older. (later ++ at.newer) ++ event ∷ older) same;
      }

  pub accesses-later : (past : List Event) (p m t : ℕ) (reach : Reach) → o.places ≤ p → p ≤ place_after o past → Accesses o (past_at o past p) m t reach → Accesses o past m t reach
  accesses-later past p m t reach from inside x = record { event = x.event; happened = at-later past p m x.event from inside x.happened; by_hart = x.by_hart; access = x.access }

-- ---- legal histories

pub opening-of : (o : Opening) (past : List Event) → IsLegal o past → IsOpening o
opening-of o [] legal = legal
opening-of o (event ∷ past) legal = opening-of o past legal.2

-- fences have the places of events
pub one-place : (o : Opening) (past : List Event) → IsLegal o past → o.fences.first ≡ o.places
one-place o past legal = (opening-of o past legal).places

pub legal-older : (o : Opening) (newer older : List Event) → IsLegal o (newer ++ older) → IsLegal o older
legal-older o [] older legal = legal
legal-older o (event ∷ newer) older legal = legal-older o newer older legal.2

-- what was at a place of a legal history, with the event there, was legal
pub legal-with : (o : Opening) (past : List Event) (place : ℕ) (event : Event) → IsLegal o past → IsAtPlace o past place event → IsLegal o (event ∷ past_at o past place)
legal-with o past place event legal at = legal-older o at.newer (event ∷ past_at o past place) (subst (IsLegal o) at.made legal)
