-- The list and the set after a deadline is forgotten or set, and after time went on.
use Rattle.std.proofs.Common.{◌≡◌, ◌≢◌, ℕ, suc, zero, ◌+◌, ◌<◌, ◌≤◌, Bool, true, false, List, [], ◌∷◌, ◌++◌, length, get_or, set, take, drop, Option, Some, None, refl, sym, ap, ◌∙◌, arith, inl, inr, eq-eqb}
use Rattle.std.specs.Prelude.{◌==◌, ◌||◌, ◌&&◌, not, if◌then◌else◌, nat_le}
use Rattle.std.specs.List.{All, insert}
use Rattle.std.specs.Option.{option_to_list}
use Rattle.std.proofs.lemmas.Bool.{cases_lt, lt-ltb, le-leb, le-ltb, leb-true, lt-leb}
use Rattle.std.proofs.lemmas.Bool.Decides.{eqb_tells}
use Rattle.std.proofs.lemmas.List.{get_or-set_other, get_or-set_same, length-set, take-append-drop}
use Rattle.std.proofs.lemmas.List.Elements.{All-append, All-cons, All-drop, All-head, All-nil, All-tail, All-take}
use Rattle.hart_mask.specs.Ids.{has, with_id, without_id}
use Rattle.hart_mask.proofs.Sets.{has-ids_where}
use Rattle.interrupts.specs.declared.ahead.Member.{Member}
use Rattle.interrupts.specs.Inside.Ahead.{IsFirst, IsInserted, IsLater, member_of, without_hart}
use Rattle.interrupts.specs.Inside.Listed.{IsListed, deadlines_in, due_after, is_ahead, left_after}
use Rattle.interrupts.specs.Timing.{is_due}

-- a list's deadlines of one hart
deadlines_in-append : (h : ℕ) (xs ys : List Member) → deadlines_in h (xs ++ ys) ≡ deadlines_in h xs ++ deadlines_in h ys
deadlines_in-append h [] ys = refl
deadlines_in-append h (x ∷ xs) ys = by_hart (x.hart == h) (deadlines_in-append h xs ys)
  where
    by_hart : (same : Bool) → deadlines_in h (xs ++ ys) ≡ deadlines_in h xs ++ deadlines_in h ys
        → (if same then x.deadline ∷ deadlines_in h (xs ++ ys) else deadlines_in h (xs ++ ys)) ≡ (if same then x.deadline ∷ deadlines_in h xs else deadlines_in h xs) ++ deadlines_in h ys
    by_hart true ih = ap (λ ds. x.deadline ∷ ds) ih
    by_hart false ih = ih

deadlines_in-later : (h time : ℕ) (members : List Member) → IsLater time members → All (λ d. time < d) (deadlines_in h members)
deadlines_in-later h time [] later = All-nil (λ d. time < d)
deadlines_in-later h time (m ∷ ms) later =
    by_hart (m.hart == h) (deadlines_in-later h time ms (All-tail (λ (x : Member). time < x.deadline) m ms later))
  where
    by_hart : (same : Bool) → All (λ d. time < d) (deadlines_in h ms) → All (λ d. time < d) (if same then m.deadline ∷ deadlines_in h ms else deadlines_in h ms)
    by_hart true ih = All-cons (λ d. time < d) m.deadline (deadlines_in h ms) (All-head (λ (x : Member). time < x.deadline) m ms later) ih
    by_hart false ih = ih

-- without the first deadline of a hart
deadlines_in-without : (h : ℕ) (members : List Member) → deadlines_in h (without_hart h members) ≡ drop 1 (deadlines_in h members)
deadlines_in-without h [] = refl
deadlines_in-without h (m ∷ ms) = by_hart (m.hart == h) refl (deadlines_in-without h ms)
  where
    by_hart : (same : Bool) → (m.hart == h) ≡ same → deadlines_in h (without_hart h ms) ≡ drop 1 (deadlines_in h ms)
        → deadlines_in h (if same then ms else m ∷ without_hart h ms) ≡ drop 1 (if same then m.deadline ∷ deadlines_in h ms else deadlines_in h ms)
    by_hart true is ih = refl
    by_hart false is ih = rw is ih

deadlines_in-without_other : (h other : ℕ) (members : List Member) → h ≢ other → deadlines_in other (without_hart h members) ≡ deadlines_in other members
deadlines_in-without_other h other [] apart = refl
deadlines_in-without_other h other (m ∷ ms) apart = elim (eqb_tells m.hart h) [
  | inl same ↦ elim (eqb_tells m.hart other) [
    | inl too ↦ absurd (apart (sym same.1 ∙ too.1))
    | inr not_too ↦ rw (same.0, not_too.0) refl
  ]
  | inr not_same ↦ rw not_same.0 (ap (λ ds. if m.hart == other then m.deadline ∷ ds else ds) (deadlines_in-without_other h other ms apart))
]

All-without : (P : Member → Type 0) (h : ℕ) (members : List Member) → All P members → All P (without_hart h members)
All-without P h [] all = all
All-without P h (m ∷ ms) all = by_hart (m.hart == h) (All-tail P m ms all) (All-without P h ms (All-tail P m ms all))
  where
    by_hart : (same : Bool) → All P ms → All P (without_hart h ms) → All P (if same then ms else m ∷ without_hart h ms)
    by_hart true rest ih = rest
    by_hart false rest ih = All-cons P m (without_hart h ms) (All-head P m ms all) ih

-- whether a hart's deadline is due is whether it is in the set
pub pending-by : (time : ℕ) (deadlines : List (Option ℕ)) (ahead : List Member) (due : List ℕ) (h : ℕ) → h < length deadlines
    → IsListed time deadlines ahead due → IsLater time ahead → has due h ≡ is_due time (get_or deadlines h None)
pending-by time deadlines ahead due h inside kept later = by_due (has due h) (kept.listed h inside) (kept.due h inside)
  where
    waits : (d : Option ℕ) → deadlines_in h ahead ≡ option_to_list d → false ≡ is_due time d
    waits None is = refl
    waits (Some d) is =
        let all : All (λ e. time < e) (d ∷ []) = rw is at (deadlines_in-later h time ahead later) in
        sym (lt-leb d time (all 0 d (omega arith)))

    by_due : (in_set : Bool) → deadlines_in h ahead ≡ (if in_set then [] else option_to_list (get_or deadlines h None))
        → (in_set ≡ true → is_due time (get_or deadlines h None) ≡ true) → in_set ≡ is_due time (get_or deadlines h None)
    by_due true is are = sym (are refl)
    by_due false is are = waits (get_or deadlines h None) is

-- what the list has of a hart, by whether its deadline isn't due yet
ahead-listed : (time : ℕ) (deadlines : List (Option ℕ)) (ahead : List Member) (due : List ℕ) (h : ℕ) → h < length deadlines
    → IsListed time deadlines ahead due → IsLater time ahead
    → deadlines_in h ahead ≡ (if is_ahead time (get_or deadlines h None) then option_to_list (get_or deadlines h None) else [])
ahead-listed time deadlines ahead due h inside kept later =
    kept.listed h inside ∙ rw (pending-by time deadlines ahead due h inside kept later) (by_deadline (get_or deadlines h None))
  where
    by_deadline : (d : Option ℕ) → (if is_due time d then [] else option_to_list d) ≡ (if is_ahead time d then option_to_list d else [])
    by_deadline None = refl
    by_deadline (Some d) = elim (cases_lt time d) [
      | inl low ↦ rw (lt-leb d time low, lt-ltb time d low) refl
      | inr high ↦ rw (le-leb d time high, le-ltb time d high) refl
    ]

has-without : (ids : List ℕ) (h i : ℕ) → i < 128 → has (without_id ids h) i ≡ (not (i == h) && has ids i)
has-without ids h i below = has-ids_where (λ j. not (j == h) && has ids j) i below

has-with : (ids : List ℕ) (h i : ℕ) → i < 128 → has (with_id ids h) i ≡ (i == h || has ids i)
has-with ids h i below = has-ids_where (λ j. j == h || has ids j) i below

-- hart h's deadline is forgotten
pub listed-forgotten : (time : ℕ) (deadlines : List (Option ℕ)) (ahead : List Member) (due : List ℕ) (h : ℕ) → h < length deadlines
    → IsListed time deadlines ahead due → IsLater time ahead
    → IsListed time (set deadlines h None) (if is_ahead time (get_or deadlines h None) then without_hart h ahead else ahead) (without_id due h)
listed-forgotten time deadlines ahead due h inside kept later = record {
  limit = rw long kept.limit;
  harts = rw long (by_case (is_ahead time (get_or deadlines h None)));
  listed = λ i below. elim (eqb_tells i h) [
    | inl same ↦ rw (same.1, has-without due h h (omega (arith, kept.limit)), get_or-set_same deadlines h None None inside, eq-eqb h h refl)
        (out (is_ahead time (get_or deadlines h None)) (ahead-listed time deadlines ahead due h inside kept later))
    | inr other ↦ rw (has-without due h i (omega (arith, kept.limit, rw long at below)), get_or-set_other deadlines h i None None other.1, other.0)
        (others i (is_ahead time (get_or deadlines h None)) (λ e. other.1 (sym e)) ∙ kept.listed i (rw long at below))
  ];
  due = λ i below is. elim (eqb_tells i h) [
    | inl same ↦ let none : false ≡ true = rw (same.1, has-without due h h (omega (arith, kept.limit)), eq-eqb h h refl) at is in cc
    | inr other ↦
        let was : has due i ≡ true = rw (has-without due h i (omega (arith, kept.limit, rw long at below)), other.0) at is in
        rw (get_or-set_other deadlines h i None None other.1) (kept.due i (rw long at below) was)
  ];
}
  where
    long : length (set deadlines h None) ≡ length deadlines
    long = length-set deadlines h None

    by_case : (so : Bool) → All (λ (member : Member). member.hart < length deadlines) (if so then without_hart h ahead else ahead)
    by_case true = All-without (λ (member : Member). member.hart < length deadlines) h ahead kept.harts
    by_case false = kept.harts

    out : (so : Bool) → deadlines_in h ahead ≡ (if so then option_to_list (get_or deadlines h None) else [])
        → deadlines_in h (if so then without_hart h ahead else ahead) ≡ []
    out true is = deadlines_in-without h ahead ∙ ap (drop 1) is ∙ one (get_or deadlines h None)
      where
        one : (d : Option ℕ) → drop 1 (option_to_list d) ≡ []
        one None = refl
        one (Some d) = refl
    out false is = is

    others : (i : ℕ) (so : Bool) → h ≢ i → deadlines_in i (if so then without_hart h ahead else ahead) ≡ deadlines_in i ahead
    others i true apart = deadlines_in-without_other h i ahead apart
    others i false apart = refl

-- hart h, which has no deadline, gets one that is due
pub listed-due : (time : ℕ) (deadlines : List (Option ℕ)) (ahead : List Member) (due : List ℕ) (h deadline : ℕ) → h < length deadlines
    → deadline ≤ time → deadlines_in h ahead ≡ [] → IsListed time deadlines ahead due
    → IsListed time (set deadlines h (Some deadline)) ahead (with_id due h)
listed-due time deadlines ahead due h deadline inside is_due none kept = record {
  limit = rw long kept.limit;
  harts = rw long kept.harts;
  listed = λ i below. elim (eqb_tells i h) [
    | inl same ↦ rw (same.1, has-with due h h (omega (arith, kept.limit)), eq-eqb h h refl) none
    | inr other ↦ rw (has-with due h i (omega (arith, kept.limit, rw long at below)), get_or-set_other deadlines h i (Some deadline) None other.1, other.0)
        (kept.listed i (rw long at below))
  ];
  due = λ i below is. elim (eqb_tells i h) [
    | inl same ↦ rw (same.1, get_or-set_same deadlines h (Some deadline) None inside) (le-leb deadline time is_due)
    | inr other ↦
        let was : has due i ≡ true = rw (has-with due h i (omega (arith, kept.limit, rw long at below)), other.0) at is in
        rw (get_or-set_other deadlines h i (Some deadline) None other.1) (kept.due i (rw long at below) was)
  ];
}
  where
    long : length (set deadlines h (Some deadline)) ≡ length deadlines
    long = length-set deadlines h (Some deadline)

nil-parts : {X : Type 0} (xs ys : List X) → xs ++ ys ≡ [] → (xs ≡ []) × (ys ≡ [])
nil-parts [] ys is = (refl, is)
nil-parts (x ∷ xs) ys is = cc

deadlines_in-insert : (h deadline hart : ℕ) (members : List Member) (place : ℕ)
    → deadlines_in h (insert members place (member_of deadline hart))
    ≡ deadlines_in h (take place members) ++ (if hart == h then deadline ∷ deadlines_in h (drop place members) else deadlines_in h (drop place members))
deadlines_in-insert h deadline hart members place = deadlines_in-append h (take place members) (member_of deadline hart ∷ drop place members)

deadlines_in-parts : (h : ℕ) (members : List Member) (place : ℕ) → deadlines_in h members ≡ deadlines_in h (take place members) ++ deadlines_in h (drop place members)
deadlines_in-parts h members place =
    ap (deadlines_in h) (sym (take-append-drop place members)) ∙ deadlines_in-append h (take place members) (drop place members)

All-insert : (P : Member → Type 0) (members : List Member) (place : ℕ) (m : Member) → P m → All P members → All P (insert members place m)
All-insert P members place m is all =
    All-append P (take place members) (m ∷ drop place members) (All-take P place members all) (All-cons P m (drop place members) is (All-drop P place members all))

-- the same, where it isn't due yet
pub listed-ahead : (time : ℕ) (deadlines : List (Option ℕ)) (ahead now : List Member) (due : List ℕ) (h deadline : ℕ) → h < length deadlines
    → has due h ≡ false → deadlines_in h ahead ≡ [] → IsListed time deadlines ahead due → IsInserted (member_of deadline h) ahead now
    → IsListed time (set deadlines h (Some deadline)) now due
listed-ahead time deadlines ahead now due h deadline inside not_due none kept put = record {
  limit = rw long kept.limit;
  harts = rw (long, put.is) (All-insert (λ (member : Member). member.hart < length deadlines) ahead put.place (member_of deadline h) inside kept.harts);
  listed = λ i below. elim (eqb_tells i h) [
    | inl same ↦ rw (same.1, not_due, get_or-set_same deadlines h (Some deadline) None inside, put.is, deadlines_in-insert h deadline h ahead put.place, eq-eqb h h refl, parts.0, parts.1) refl
    | inr other ↦
        let apart : (h == i) ≡ false = elim (eqb_tells h i) [ inl same ↦ absurd (other.1 (sym same.1)) | inr is ↦ is.0 ] in
        rw (put.is, deadlines_in-insert i deadline h ahead put.place, apart, get_or-set_other deadlines h i (Some deadline) None other.1)
        (sym (deadlines_in-parts i ahead put.place) ∙ kept.listed i (rw long at below))
  ];
  due = λ i below is. elim (eqb_tells i h) [
    | inl same ↦ let no : false ≡ true = rw (same.1, not_due) at is in cc
    | inr other ↦ rw (get_or-set_other deadlines h i (Some deadline) None other.1) (kept.due i (rw long at below) is)
  ];
}
  where
    long : length (set deadlines h (Some deadline)) ≡ length deadlines
    long = length-set deadlines h (Some deadline)

    parts : (deadlines_in h (take put.place ahead) ≡ []) × (deadlines_in h (drop put.place ahead) ≡ [])
    parts = nil-parts _ _ (sym (deadlines_in-parts h ahead put.place) ∙ none)

pub later-inserted : (time : ℕ) (ahead now : List Member) (h deadline : ℕ) → time < deadline → IsLater time ahead → IsInserted (member_of deadline h) ahead now → IsLater time now
later-inserted time ahead now h deadline low later put =
    rw put.is (All-insert (λ (member : Member). time < member.deadline) ahead put.place (member_of deadline h) low later)

pub later-without : (time : ℕ) (so : Bool) (h : ℕ) (ahead : List Member) → IsLater time ahead → IsLater time (if so then without_hart h ahead else ahead)
later-without time true h ahead later = All-without (λ (member : Member). time < member.deadline) h ahead later
later-without time false h ahead later = later

-- those that come due go from the list into the set
pub listed-moved : (time : ℕ) (deadlines : List (Option ℕ)) (ahead : List Member) (due : List ℕ) → IsListed time deadlines ahead due
    → IsListed time deadlines (left_after time ahead) (due_after time due ahead)
listed-moved time deadlines [] due kept = kept
listed-moved time deadlines (m ∷ ms) due kept = by_time (listed-moved time deadlines ms (with_id due m.hart)) (nat_le m.deadline time) refl
  where
    inside : m.hart < length deadlines
    inside = All-head (λ (member : Member). member.hart < length deadlines) m ms kept.harts

    here : (in_set : Bool) (d : Option ℕ) → (m.deadline ∷ deadlines_in m.hart ms) ≡ (if in_set then [] else option_to_list d)
        → (in_set ≡ false) × (d ≡ Some m.deadline) × (deadlines_in m.hart ms ≡ [])
    here true d is = cc
    here false None is = cc
    here false (Some d) is = (refl, cc, cc)

    own : (has due m.hart ≡ false) × (get_or deadlines m.hart None ≡ Some m.deadline) × (deadlines_in m.hart ms ≡ [])
    own = here (has due m.hart) (get_or deadlines m.hart None) (rw (eq-eqb m.hart m.hart refl) at (kept.listed m.hart inside))

    moved : nat_le m.deadline time ≡ true → IsListed time deadlines ms (with_id due m.hart)
    moved is = record {
      limit = kept.limit;
      harts = All-tail (λ (member : Member). member.hart < length deadlines) m ms kept.harts;
      listed = λ i below. elim (eqb_tells i m.hart) [
        | inl same ↦ rw (same.1, has-with due m.hart m.hart (omega (arith, kept.limit, inside)), eq-eqb m.hart m.hart refl) own.2
        | inr other ↦
            let apart : (m.hart == i) ≡ false = elim (eqb_tells m.hart i) [ inl same ↦ absurd (other.1 (sym same.1)) | inr is ↦ is.0 ] in
            rw (has-with due m.hart i (omega (arith, kept.limit, below)), other.0) (rw apart at (kept.listed i below))
      ];
      due = λ i below now. elim (eqb_tells i m.hart) [
        | inl same ↦ rw (same.1, own.1) is
        | inr other ↦ kept.due i below (rw (has-with due m.hart i (omega (arith, kept.limit, below)), other.0) at now)
      ];
    }

    by_time : (IsListed time deadlines ms (with_id due m.hart) → IsListed time deadlines (left_after time ms) (due_after time (with_id due m.hart) ms))
        → (now : Bool) → nat_le m.deadline time ≡ now
        → IsListed time deadlines (if now then left_after time ms else m ∷ ms) (if now then due_after time (with_id due m.hart) ms else due)
    by_time ih true is = ih (moved is)
    by_time ih false is = kept

-- what was listed is listed at a later time
pub listed-on : (before time : ℕ) (deadlines : List (Option ℕ)) (ahead : List Member) (due : List ℕ) → before ≤ time
    → IsListed before deadlines ahead due → IsListed time deadlines ahead due
listed-on before time deadlines ahead due on kept = record {
  limit = kept.limit;
  harts = kept.harts;
  listed = kept.listed;
  due = λ h below is. still (get_or deadlines h None) (kept.due h below is);
}
  where
    still : (d : Option ℕ) → is_due before d ≡ true → is_due time d ≡ true
    still None is = is
    still (Some d) is = le-leb d time (omega (arith, on, leb-true d before is))

-- the members of other harts
abbrev keep_others : ℕ → List Member → List Member
keep_others h [] = []
keep_others h (m ∷ ms) = if m.hart == h then keep_others h ms else m ∷ keep_others h ms

length-without : (h : ℕ) (members : List Member) → length members ≤ length (keep_others h members) + length (deadlines_in h members)
length-without h [] = omega arith
length-without h (m ∷ ms) = by_hart (m.hart == h) (length-without h ms)
  where
    by_hart : (same : Bool) → length ms ≤ length (keep_others h ms) + length (deadlines_in h ms)
        → suc (length ms) ≤ length (if same then keep_others h ms else m ∷ keep_others h ms) + length (if same then m.deadline ∷ deadlines_in h ms else deadlines_in h ms)
    by_hart true ih = omega (arith, ih)
    by_hart false ih = omega (arith, ih)

deadlines_in-others : (h i : ℕ) (members : List Member) → i ≢ h → deadlines_in i (keep_others h members) ≡ deadlines_in i members
deadlines_in-others h i [] apart = refl
deadlines_in-others h i (m ∷ ms) apart = elim (eqb_tells m.hart h) [
  | inl same ↦
      let not_i : (m.hart == i) ≡ false = elim (eqb_tells m.hart i) [ inl too ↦ absurd (apart (sym too.1 ∙ same.1)) | inr is ↦ is.0 ] in
      rw (same.0, not_i) (deadlines_in-others h i ms apart)
  | inr other ↦ rw other.0 (ap (λ ds. if m.hart == i then m.deadline ∷ ds else ds) (deadlines_in-others h i ms apart))
]

below-others : (h : ℕ) (members : List Member) → All (λ (m : Member). m.hart < suc h) members → All (λ (m : Member). m.hart < h) (keep_others h members)
below-others h [] all = All-nil (λ (m : Member). m.hart < h)
below-others h (m ∷ ms) all =
    let ih = below-others h ms (All-tail (λ (x : Member). x.hart < suc h) m ms all) in
    let here = All-head (λ (x : Member). x.hart < suc h) m ms all in
    elim (eqb_tells m.hart h) [
      | inl same ↦ rw same.0 ih
      | inr other ↦ let apart = other.1 in rw other.0 (All-cons (λ (x : Member). x.hart < h) m (keep_others h ms) (omega (arith, here, apart)) ih)
    ]

-- a list of one member at most of each of n harts has at most n
few : (n : ℕ) (members : List Member) → All (λ (m : Member). m.hart < n) members → ((h : ℕ) → h < n → length (deadlines_in h members) ≤ 1) → length members ≤ n
few zero [] all one = omega arith
few zero (m ∷ ms) all one = absurd (omega (arith, All-head (λ (x : Member). x.hart < 0) m ms all))
few (suc n) members all one =
    let rest = few n (keep_others n members) (below-others n members all)
    (λ h below. let apart : h ≢ n = λ e. omega (arith, e, below) in rw (deadlines_in-others n h members apart) (one h (omega (arith, below)))) in
    let last = one n (omega arith) in
    omega (arith, rest, last, length-without n members)

-- where a hart has none, there is room for it
pub room : (time : ℕ) (deadlines : List (Option ℕ)) (ahead : List Member) (due : List ℕ) (h : ℕ) → h < length deadlines
    → deadlines_in h ahead ≡ [] → IsListed time deadlines ahead due → length ahead < 128
room time deadlines ahead due h inside none kept =
    let count = few (length deadlines) (member_of 0 h ∷ ahead) (All-cons (λ (m : Member). m.hart < length deadlines) (member_of 0 h) ahead inside kept.harts) one in
    omega (arith, count, kept.limit)
  where
    at_most : (in_set : Bool) (d : Option ℕ) (ds : List ℕ) → ds ≡ (if in_set then [] else option_to_list d) → length ds ≤ 1
    at_most true d ds is = rw is (omega arith)
    at_most false None ds is = rw is (omega arith)
    at_most false (Some d) ds is = rw is (omega arith)

    one : (i : ℕ) → i < length deadlines → length (deadlines_in i (member_of 0 h ∷ ahead)) ≤ 1
    one i below = elim (eqb_tells h i) [
      | inl same ↦ let nothing : deadlines_in i ahead ≡ [] = rw same.1 at none in rw (same.0, nothing) (omega arith)
      | inr other ↦ rw other.0 (at_most (has due i) (get_or deadlines i None) (deadlines_in i ahead) (kept.listed i below))
    ]

-- a hart without a deadline is neither in the list nor in the set
pub unset : (time : ℕ) (deadlines : List (Option ℕ)) (ahead : List Member) (due : List ℕ) (h : ℕ) → h < length deadlines
    → get_or deadlines h None ≡ None → IsListed time deadlines ahead due → IsLater time ahead → (has due h ≡ false) × (deadlines_in h ahead ≡ [])
unset time deadlines ahead due h inside none kept later =
    let out : has due h ≡ false = rw none at (pending-by time deadlines ahead due h inside kept later) in
    (out, rw (out, none) at (kept.listed h inside))

-- the first of those that are due, in the list and in the set
pub left-first : (time hart : ℕ) (before now : List Member) → IsFirst time hart before now → left_after time now ≡ left_after time before
left-first time hart before now first = rw (first.is, le-leb first.deadline time first.is_due) refl

pub due-first : (time hart : ℕ) (due : List ℕ) (before now : List Member) → IsFirst time hart before now → due_after time (with_id due hart) now ≡ due_after time due before
due-first time hart due before now first = rw (first.is, le-leb first.deadline time first.is_due) refl

-- where none is due, none goes
pub left-later : (time : ℕ) (members : List Member) → IsLater time members → left_after time members ≡ members
left-later time [] later = refl
left-later time (m ∷ ms) later = rw (lt-leb m.deadline time (All-head (λ (x : Member). time < x.deadline) m ms later)) refl

pub due-later : (time : ℕ) (due : List ℕ) (members : List Member) → IsLater time members → due_after time due members ≡ due
due-later time due [] later = refl
due-later time due (m ∷ ms) later = rw (lt-leb m.deadline time (All-head (λ (x : Member). time < x.deadline) m ms later)) refl
