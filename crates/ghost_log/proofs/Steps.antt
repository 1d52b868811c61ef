-- The ghost steps of a list that only grows. Assumes `Logic`.
use Rattle.std.proofs.Common.{◌≡◌, ℕ, List, [], ◌∷◌, ◌++◌, map, refl, ap}
use mathlib.Core.List.{IsPrefix, cons≢nil}
use seplogic.Ra.Ura.{Ura}
use base.Fraction.{full_share}
use base.Stored.{Gv, Coded}
use base.Logic.{SProp, ent, sep, ex, guard, emp, via, upd_i}
use base.Fml.{Fml, finv}
use base.Growing.{latest, at_least}
use types.Logic.{Logic, sem}
use types.Owned.{basic}
use types.Growing.{latest_new, latest_grows, latest_shows, latest_bounds, at_least_dup}
use types.Kit.{‵, ◌⊛◌, given, ◌$◌, ◌∵◌, !, qed, move, keep, drop, split, learn, suffices, done, use2, check, assume, frame}
use Rattle.ghost_log.specs.Inside.Kept.{lists, latest_owns, begun_owns, whole_owns}

module _ {E : Type 0} (cv : Coded E) where
  abbrev head : Gv → List Gv → Gv
  head d [] = d
  head d (g ∷ gs) = g

  abbrev tail : List Gv → List Gv
  tail [] = []
  tail (g ∷ gs) = gs

  -- what begins alike in ghost values begins alike
  uncoded : (xs ys : List E) (t : List Gv) → map cv.code xs ++ t ≡ map cv.code ys → IsPrefix xs ys
  uncoded [] ys t e = (ys, refl)
  uncoded (x ∷ xs) [] t e = absurd (cons≢nil e)
  uncoded (x ∷ xs) (y ∷ ys) t e = let r = uncoded xs ys t (ap tail e) in (r.0, λ i. cv.inj x y (ap (head (cv.code x)) e) i ∷ r.1 i)

  coded_append : (xs t : List E) → map cv.code xs ++ map cv.code t ≡ map cv.code (xs ++ t)
  coded_append [] t = refl
  coded_append (x ∷ xs) t = ap (λ (gs : List Gv). cv.code x ∷ gs) (coded_append xs t)

  module _ {M : Type 1} {𝓤 : Ura M} (𝓛 : Logic 𝓤) where
    open 𝓛 use {H, A}

    abbrev ⟦◌⟧ : Fml → SProp 𝓤
    ⟦ P ⟧ = sem 𝓛 P

    abbrev ◌∗◌ : SProp 𝓤 → SProp 𝓤 → SProp 𝓤
    P ∗ Q = sep 𝓤 P Q

    abbrev ◌⊢◌ : SProp 𝓤 → SProp 𝓤 → Type 1
    P ⊢ Q = ent 𝓤 P Q

    infix 26 ◌⊢◌
    infixr 35 ◌∗◌
    -- an empty list, under a new name
    pub begins : emp 𝓤 ⊢ H.⇛ (ex 𝓤 (λ (γ : ℕ). ⟦ latest_owns cv.code γ [] ⟧))
    unfolding latest_owns
    begins = via 𝓤 _ (latest_new lists 𝓛 []) (basic 𝓛 _)

    -- one entry more
    pub grows : (γ : ℕ) (list : List E) (x : E) → ⟦ latest_owns cv.code γ list ⟧ ⊢ H.⇛ ⟦ latest_owns cv.code γ (list ++ x ∷ []) ⟧
    unfolding latest_owns
    grows γ list x = via 𝓤 _ (latest_grows lists 𝓛 γ (map cv.code list) (map cv.code (list ++ x ∷ [])) (map cv.code (x ∷ []), coded_append list (x ∷ []))) (basic 𝓛 _)

    -- what it is now was reached
    pub shows : (γ : ℕ) (list : List E) → ⟦ latest_owns cv.code γ list ⟧ ⊢ ⟦ latest_owns cv.code γ list ⟧ ∗ ⟦ begun_owns cv.code γ list ⟧
    unfolding latest_owns begun_owns
    shows γ list = latest_shows lists 𝓛 full_share γ (map cv.code list) (map cv.code list) (lists.same (map cv.code list))

    -- what was reached begins what it is now
    pub reaches : (γ : ℕ) (list begun : List E) → ⟦ latest_owns cv.code γ list ⟧ ∗ ⟦ begun_owns cv.code γ begun ⟧ ⊢ guard 𝓤 (IsPrefix begun list) ⟦ latest_owns cv.code γ list ⟧
    unfolding latest_owns begun_owns
    reaches γ list begun =
        let I : Fml = latest lists full_share γ (map cv.code list) in let P : Fml = at_least lists γ (map cv.code begun) in
        qed 𝓛 (‵ I ∷ ‵ P ∷ []) ∵ use2 𝓛 (given (IsPrefix (map cv.code begun) (map cv.code list)) (‵ I ⊛ ‵ P)) (latest_bounds lists 𝓛 full_share γ (map cv.code list) (map cv.code begun)) $
        learn ! (λ p. split ! $ keep ! (0 ∷ []) $ check ! (uncoded begun list p.0 p.1) $ done !)

    -- it grows no more
    pub closes : (γ : ℕ) (list : List E) → ⟦ latest_owns cv.code γ list ⟧ ⊢ H.⇛ ⟦ whole_owns cv.code γ list ⟧
    unfolding latest_owns whole_owns
    closes γ list = 𝓛.invs.inv_new (latest lists full_share γ (map cv.code list))

    pub begun_twice : (γ : ℕ) (list : List E) → ⟦ begun_owns cv.code γ list ⟧ ⊢ ⟦ begun_owns cv.code γ list ⟧ ∗ ⟦ begun_owns cv.code γ list ⟧
    unfolding begun_owns
    begun_twice γ list = at_least_dup lists 𝓛 γ (map cv.code list)

    pub whole_twice : (γ : ℕ) (list : List E) → ⟦ whole_owns cv.code γ list ⟧ ⊢ ⟦ whole_owns cv.code γ list ⟧ ∗ ⟦ whole_owns cv.code γ list ⟧
    unfolding whole_owns
    whole_twice γ list = 𝓛.invs.inv_dup (latest lists full_share γ (map cv.code list))

    -- what was reached begins what it is for good
    pub bounds : (γ : ℕ) (list begun : List E) → ⟦ whole_owns cv.code γ list ⟧ ∗ ⟦ begun_owns cv.code γ begun ⟧ ⊢ H.⇛ (guard 𝓤 (IsPrefix begun list) (emp 𝓤))
    unfolding whole_owns begun_owns
    bounds γ list begun =
        let I : Fml = latest lists full_share γ (map cv.code list) in let P : Fml = at_least lists γ (map cv.code begun) in let Q : SProp 𝓤 = guard 𝓤 (IsPrefix begun list) (emp 𝓤) in
        qed 𝓛 (‵ (finv I) ∷ ‵ P ∷ []) ∵ suffices ! _ (𝓛.invs.inv_acc I Q) $ frame ! $ assume ! (‵ I) $
        use2 𝓛 (given (IsPrefix (map cv.code begun) (map cv.code list)) (‵ I ⊛ ‵ P)) (latest_bounds lists 𝓛 full_share γ (map cv.code list) (map cv.code begun)) $
        learn ! (λ p. split ! $ move ! (1 ∷ []) $ drop ! $ suffices ! _ (upd_i 𝓤 (⟦ I ⟧ ∗ Q)) $ frame ! $ check ! (uncoded begun list p.0 p.1) $ done !)
