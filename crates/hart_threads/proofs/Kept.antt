-- Threads that keep their promises give back the seats that they were given.
use Rattle.std.proofs.Common.{◌≡◌, ℕ, zero, suc, List, [], ◌∷◌, length, map, refl, ap, ◌∙◌, arith}
use Rattle.std.specs.List.{All}
use Rattle.std.specs.PromisedHandle.{KeepsEach}
use Rattle.std.specs.declared.thread.PromisedHandle.{PromisedHandle}
use Rattle.std.specs.declared.thread.Promise as Promise
use Rattle.board_terms.specs.declared.op.Actor.{Actor}

module _ {T P : Type 0} (g : Promise.Ghosts P T) (actor : T → Actor) (promised : P → Actor)
    (says : (p : P) (r : T) → g.kept_by p r → actor r ≡ promised p) where
  pub kept_all : (many : ℕ) (handles : List (PromisedHandle T P)) (results : List T) → many ≡ length handles → many ≡ length results → KeepsEach g many handles results
      → map actor results ≡ map (λ h. promised h.promise) handles
  kept_all many [] [] is same each = refl
  kept_all many [] (r ∷ results) is same each = absurd (omega arith)
  kept_all many (h ∷ handles) [] is same each = absurd (omega arith)
  kept_all many (h ∷ handles) (r ∷ results) is same each =
      let first = (each 0 r (omega arith)).1 in
      let one : actor r ≡ promised h.promise = says first.handle.promise r first.kept ∙ ap (λ (x : PromisedHandle T P). promised x.promise) first.handle_is in
      let others = kept_all (length handles) handles results refl (omega arith)
      (λ i d below. let k = (each (suc i) d (omega arith)).1 in (refl, record { handle = k.handle; handle_is = k.handle_is; kept = k.kept })) in
      rw one rw others refl

-- and what each promised
module _ {T P : Type 0} (g : Promise.Ghosts P T) (Q : T → Type 0) (says : (p : P) (r : T) → g.kept_by p r → Q r) where
  pub kept_each : (many : ℕ) (handles : List (PromisedHandle T P)) (results : List T) → many ≡ length handles → many ≡ length results → KeepsEach g many handles results → All Q results
  kept_each many handles [] is same each k d below = absurd (omega arith)
  kept_each many [] (r ∷ results) is same each k d below = absurd (omega arith)
  kept_each many (h ∷ handles) (r ∷ results) is same each zero d below = let first = (each 0 r (omega arith)).1 in says first.handle.promise r first.kept
  kept_each many (h ∷ handles) (r ∷ results) is same each (suc n) d below =
      kept_each (length handles) handles results refl (omega arith)
      (λ i e inside. let k = (each (suc i) e (omega arith)).1 in (refl, record { handle = k.handle; handle_is = k.handle_is; kept = k.kept })) n d (omega arith)
