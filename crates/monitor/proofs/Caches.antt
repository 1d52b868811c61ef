-- The live fills of a cache, as a board answers them, in the order of filling.
use Rattle.std.proofs.Common.{◌≡◌, ℕ, List, [], ◌∷◌, ◌++◌, length, map, reverse, refl, sym, ap, ◌∙◌}
use Rattle.std.specs.List.{flat_map}
use Rattle.std.proofs.lemmas.List.{length-map, map-append, reverse-append, reverse-reverse}
use Rattle.std.proofs.lemmas.List.Folds.{flat_map-map}
use Rattle.tlb_model.specs.declared.cache.Numbered.{Numbered}
use Rattle.monitor.specs.Table.{in_order}

map_reverse : {A B : Type 0} (f : A → B) (xs : List A) → map f (reverse xs) ≡ reverse (map f xs)
map_reverse f [] = refl
map_reverse f (x ∷ xs) =
    ap (map f) (reverse-append (x ∷ []) xs) ∙ map-append f (reverse xs) (x ∷ []) ∙ ap (λ l. l ++ f x ∷ []) (map_reverse f xs)
    ∙ sym (reverse-append (f x ∷ []) (map f xs))

module _ {E : Type 0} (kept live : List (Numbered E)) (are : reverse kept ≡ live) where
  items_kept : map (λ fill. fill.item) kept ≡ in_order live
  items_kept = ap (map (λ fill. fill.item)) (sym (reverse-reverse kept) ∙ ap reverse are) ∙ map_reverse (λ fill. fill.item) live

  pub count_kept : length kept ≡ length (in_order live)
  count_kept = sym (length-map kept (λ fill. fill.item)) ∙ ap length items_kept

  pub lines_kept : (text : E → List ℕ) → flat_map (λ fill. text fill.item) kept ≡ flat_map text (in_order live)
  lines_kept text = sym (flat_map-map text (λ fill. fill.item) kept) ∙ ap (flat_map text) items_kept
