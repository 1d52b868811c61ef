-- What guests of blocks do, in terms of whole blocks.
use Rattle.std.proofs.Common.{◌≡◌, ◌↔◌, ℕ, zero, suc, ◌+◌, List, [], ◌∷◌, ◌++◌, length, take, refl, sym, ap, ◌∙◌, append_assoc, append-nil, length-append, arith}
use Rattle.std.specs.Prelude.{Option, Some, None, slice_get}
use Rattle.board_terms.specs.declared.op.Op.{Op}
use Rattle.board_core.specs.Fences.{outstanding}
use Rattle.board_core.specs.History.{Event}
use Rattle.board_core.specs.Opening.{Opening}
use Rattle.board_core.specs.States.{state}
use Rattle.hsm.specs.declared.hart.HartState.TheVariants.{Started}
use Rattle.guest_script.specs.Grammar.{Guest}
use Rattle.guest_programs.specs.Blocks.{block_of, done, in_blocks, ops_in}
use Rattle.guest_programs.specs.Ends.{IsThrough}
use Rattle.guest_programs.specs.Guests.{AreNext, Did, Entered, did, last_entry, next_for, next_op}

pub as-many : (before : Did) → length (ops_in before) ≡ length before
as-many [] = refl
as-many (one ∷ before) = let fewer = as-many before in omega (arith, length-append (ops_in before) (one.0 ∷ []))

-- an operation stands in its block
pub next-in : (blocks : List Guest) (entry : Option Entered) (before : Did) → next_for (in_blocks blocks) entry before ≡ slice_get (block_of blocks entry) (length before)
next-in blocks None before = refl
next-in blocks (Some entry) before = refl

pub next-done : (blocks : List Guest) (past : List Event) (h : ℕ) → next_op (in_blocks blocks) past h ≡ slice_get (block_of blocks (last_entry past h)) (length (done past h))
next-done blocks past h = next-in blocks (last_entry past h) (did past h) ∙ ap (slice_get (block_of blocks (last_entry past h))) (sym (as-many (did past h)))

-- ---- operations that follow a block are its beginning, and the other way

took-more : {A : Type 0} (n : ℕ) (xs : List A) (x : A) → slice_get xs n ≡ Some x → take (suc n) xs ≡ take n xs ++ x ∷ []
took-more zero [] x at = absurd (let t = at in cc)
took-more zero (y ∷ ys) x at = cc
took-more (suc n) [] x at = absurd (let t = at in cc)
took-more (suc n) (y ∷ ys) x at = ap (λ zs. y ∷ zs) (took-more n ys x at)

begun : (blocks : List Guest) (entry : Option Entered) (before : Did) → AreNext (in_blocks blocks) entry before → ops_in before ≡ take (length before) (block_of blocks entry)
begun blocks entry [] follows = refl
begun blocks entry (one ∷ before) follows =
    ap (λ (ops : List Op). ops ++ one.0 ∷ []) (begun blocks entry before follows.1)
    ∙ sym (took-more (length before) (block_of blocks entry) one.0 (sym (next-in blocks entry before) ∙ follows.0))

at-end : {A : Type 0} (front back : List A) (x : A) → slice_get (front ++ x ∷ back) (length front) ≡ Some x
at-end [] back x = refl
at-end (y ∷ front) back x = at-end front back x

follows-by : (blocks : List Guest) (entry : Option Entered) (before : Did) (back : List Op) → ops_in before ++ back ≡ block_of blocks entry → AreNext (in_blocks blocks) entry before
follows-by blocks entry [] back whole = tt
follows-by blocks entry (one ∷ before) back whole =
    let here : ops_in before ++ one.0 ∷ back ≡ block_of blocks entry = sym (append_assoc (ops_in before) (one.0 ∷ []) back) ∙ whole in (
      next-in blocks entry before
          ∙ ap (λ (n : ℕ). slice_get (block_of blocks entry) n) (sym (as-many before))
          ∙ ap (λ (ops : List Op). slice_get ops (length (ops_in before))) (sym here)
          ∙ at-end (ops_in before) back one.0,
      follows-by blocks entry before (one.0 ∷ back) here,
    )

-- ---- and the whole of it

all-taken : {A : Type 0} (n : ℕ) (xs : List A) → slice_get xs n ≡ None → take n xs ≡ xs
all-taken zero [] none = refl
all-taken zero (x ∷ xs) none = absurd (let t = none in cc)
all-taken (suc n) [] none = refl
all-taken (suc n) (x ∷ xs) none = ap (λ ys. x ∷ ys) (all-taken n xs none)

none-behind : {A : Type 0} (xs : List A) → slice_get xs (length xs) ≡ None
none-behind [] = refl
none-behind (x ∷ xs) = none-behind xs

whole-of : (blocks : List Guest) (entry : Option Entered) (before : Did) → AreNext (in_blocks blocks) entry before → next_for (in_blocks blocks) entry before ≡ None
    → ops_in before ≡ block_of blocks entry
whole-of blocks entry before follows over =
    begun blocks entry before follows ∙ all-taken (length before) (block_of blocks entry) (sym (next-in blocks entry before) ∙ over)

over-by : (blocks : List Guest) (entry : Option Entered) (before : Did) → ops_in before ≡ block_of blocks entry → next_for (in_blocks blocks) entry before ≡ None
over-by blocks entry before whole =
    next-in blocks entry before
    ∙ ap (λ (n : ℕ). slice_get (block_of blocks entry) n) (sym (as-many before) ∙ ap length whole)
    ∙ none-behind (block_of blocks entry)

pub through-done : (o : Opening) (past : List Event) (blocks : List Guest) (h : ℕ)
    → IsThrough o past (in_blocks blocks) h ↔ ((state o past h ≡ Started) × (outstanding o past h ≡ None) × (done past h ≡ block_of blocks (last_entry past h)))
through-done o past blocks h = (
  (λ through. (through.started, through.outside, whole-of blocks (last_entry past h) (did past h) through.followed through.over)),
  (λ is. record {
    started = is.0;
    outside = is.1;
    followed = follows-by blocks (last_entry past h) (did past h) [] (append-nil (done past h) ∙ is.2);
    over = over-by blocks (last_entry past h) (did past h) is.2;
  }),
)
