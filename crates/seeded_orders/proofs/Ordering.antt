-- What a picked order is.
use Rattle.std.proofs.Common.{◌≡◌, ℕ, zero, suc, ◌+◌, ◌-◌, ◌%◌, ◌<◌, if◌then◌else◌, List, [], ◌∷◌, refl, sym, ap, ◌∙◌, inl, inr, length, get_or, subst, arith}
use Rattle.std.specs.Prelude.{Option, Some, None, Result, Ok, Err, IfOk, Bool, true, false, slice_get}
use Rattle.std.proofs.lemmas.Option.{slice_get-get_or}
use Rattle.rand_pcg.specs.Pcg.{pcg64_dxsm}
use Rattle.board_terms.specs.declared.config.Config.{Config}
use Rattle.board_core.specs.Opening.{Opening, opening_at}
use Rattle.board_terms.specs.declared.op.Actor.{Actor}
use Rattle.board_terms.specs.declared.op.Op.{Op}
use Rattle.board_terms.specs.declared.reply.Refusal.{Refusal}
use Rattle.board_terms.specs.declared.reply.Reply.{Reply}
use Rattle.board_core.specs.History.{Event}
use Rattle.board_core.specs.Replies.{answer, recorded}
use Rattle.guest_script.specs.Grammar.{Content}
use Rattle.guest_programs.specs.declared.blocks.Program.{Program}
use Rattle.guest_programs.specs.declared.ends.End.{End}
use Rattle.guest_programs.specs.declared.met.Met.TheVariants.{Nothing}
use Rattle.guest_programs.specs.Ends.{IsEnd, IsEndBy}
use Rattle.guest_programs.specs.Programs.{blocks_of, ticks_of}
use Rattle.guest_programs.specs.declared.steps.Step.{Step}
use Rattle.guest_programs.specs.declared.steps.Step.TheVariants as takes
use Rattle.seeded_orders.specs.declared.pickers.Picker.{Picker}
use Rattle.seeded_orders.specs.declared.pickers.Picker.TheVariants.{Even, Ranked}
use Rattle.seeded_orders.specs.Orders.{IsTried, met_before, ordered, order_of, past_after, past_with, pick, picked, picker_of}
use Rattle.seeded_orders.specs.Ranks.{higher, highest, reranked}
use Rattle.guest_programs.specs.Steps.{actor_of, AreOwn, IsActorsOwn, op_of, steps, Task, task_in, task_of}
use Rattle.guest_programs.specs.Guests.{next_op}

-- of no steps none is picked
nothing-picked : (picker : Picker) (turn : ℕ) → (pick picker turn []).0 ≡ None
unfolding highest
nothing-picked (Even words) turn = refl
nothing-picked (Ranked ranks) turn = refl

-- with no step to take nothing happens any more
pub idle : (o : Opening) (p : Task) (most turn : ℕ) (picker : Picker) (past : List Event) → steps o p past ≡ [] → ordered o p most turn picker past ≡ past
unfolding ordered
idle o p zero turn picker past none = refl
idle o p (suc most) turn picker past none =
    let none_picked : past_with o p past (pick picker turn (steps o p past)).0 ≡ past =
    ap (λ (found : List Step). past_with o p past (pick picker turn found).0) none ∙ ap (λ (step : Option Step). past_with o p past step) (nothing-picked picker turn) in
    ap (λ (now : List Event). ordered o p most (turn + 1) (pick picker turn (steps o p past)).1 now) none_picked ∙ idle o p most (turn + 1) (pick picker turn (steps o p past)).1 past none

-- one step more
pub ordered-next : (o : Opening) (p : Task) (most i turn : ℕ) (picker : Picker) (past : List Event) → i < most
    → ordered o p (most - i) turn picker past
    ≡ ordered o p (most - (i + 1)) (turn + 1) (pick picker turn (steps o p past)).1 (past_with o p past (pick picker turn (steps o p past)).0)
unfolding ordered
ordered-next o p most i turn picker past below =
    let more : most - i ≡ suc (most - (i + 1)) = omega arith in
    ap (λ (n : ℕ). ordered o p n turn picker past) more

-- ---- each step is an actor's own

own-recorded : (o : Opening) (p : Task) (past : List Event) (actor : Actor) (op : Op) (said : Result Reply Refusal)
    → IsActorsOwn p past actor op → AreOwn p past → AreOwn p (recorded (record { opening = o; past = past }) actor op said).past
own-recorded o p past actor op (Ok reply) own owns = (own, owns)
own-recorded o p past actor op (Err refusal) own owns = owns

own-after : (o : Opening) (p : Task) (past : List Event) (actor : Actor) (found : Option Op)
    → ((op : Op) → found ≡ Some op → IsActorsOwn p past actor op) → AreOwn p past → AreOwn p (past_after o past actor found)
own-after o p past actor None own owns = owns
own-after o p past actor (Some op) own owns = own-recorded o p past actor op (answer o past actor op) (own op refl) owns

some-is : (x y : Op) → Some x ≡ Some y → y ≡ x
some-is x y same = cc

guarded : (is_there : Bool) (next : Option Op) (op : Op) → (if is_there then next else None) ≡ Some op → next ≡ Some op
guarded true next op found = found
guarded false next op found = absurd (let t = found in cc)

pub own-step : (o : Opening) (p : Task) (past : List Event) (step : Step) (op : Op) → op_of o p past step ≡ Some op → IsActorsOwn p past (actor_of step) op
own-step o p past (takes.Serve h) op found = inl (some-is _ op found)
own-step o p past (takes.Poll h) op found = inr (inl (some-is _ op found))
own-step o p past (takes.Advance h) op found = inr (inr (inl (some-is _ op found)))
own-step o p past (takes.Guest h) op found = inr (inr (inr (guarded _ (next_op p.guests past h) op found)))
own-step o p past takes.Tick op found = found

own-with : (o : Opening) (p : Task) (past : List Event) (found : Option Step) → AreOwn p past → AreOwn p (past_with o p past found)
own-with o p past None owns = owns
own-with o p past (Some step) owns = own-after o p past (actor_of step) (op_of o p past step) (own-step o p past step) owns

-- Each event of a picked order was its actor's own.
pub ordered-own : (o : Opening) (p : Task) (most turn : ℕ) (picker : Picker) (past : List Event) → AreOwn p past → AreOwn p (ordered o p most turn picker past)
unfolding ordered
ordered-own o p zero turn picker past owns = owns
ordered-own o p (suc most) turn picker past owns =
    ordered-own o p most (turn + 1) (pick picker turn (steps o p past)).1 (past_with o p past (pick picker turn (steps o p past)).0) (own-with o p past (pick picker turn (steps o p past)).0 owns)

-- ---- what the loop keeps

none-picked : (word : ℕ) (found : List Step) → picked word found ≡ None → found ≡ []
none-picked word [] none = refl
none-picked word (step ∷ more) none =
    let some : 0 < length (step ∷ more) = omega arith in
    let within : word % length (step ∷ more) < length (step ∷ more) = omega arith in
    let at : slice_get (step ∷ more) (word % length (step ∷ more)) ≡ Some (get_or (step ∷ more) (word % length (step ∷ more)) step) =
    slice_get-get_or (step ∷ more) (word % length (step ∷ more)) step within in
    absurd (let t = sym none ∙ at in cc)

none-highest : (ranks : List ℕ) (best : Option Step) (found : List Step) → highest ranks best found ≡ None → (best ≡ None) × (found ≡ [])
unfolding highest
none-highest ranks best [] none = (none, refl)
none-highest ranks best (step ∷ more) none =
    let before : Some (higher ranks best step) ≡ None = (none-highest ranks (Some (higher ranks best step)) more none).0 in
    absurd (let t = before in cc)

-- Where none is picked, there was none.
pub none-there : (picker : Picker) (turn : ℕ) (found : List Step) → (pick picker turn found).0 ≡ None → found ≡ []
none-there (Even words) turn found none = none-picked (pcg64_dxsm words).0 found none
none-there (Ranked ranks) turn found none = (none-highest (reranked ranks turn (highest ranks.ranks None found)).ranks None found none).1

-- Where no step is picked, the past is what the order makes.
pub stops : (o : Opening) (p : Task) (most turn : ℕ) (picker next : Picker) (past whole : List Event) (found : List Step) (step : Option Step)
    → found ≡ steps o p past → (step, next) ≡ pick picker turn found → step ≡ None → ordered o p most turn picker past ≡ whole → past ≡ whole
stops o p most turn picker next past whole found step is by none keeps =
    let none_picked : (pick picker turn found).0 ≡ None = sym (ap (λ (pair : Option Step × Picker). pair.0) by) ∙ none in
    sym (idle o p most turn picker past (sym is ∙ none-there picker turn found none_picked)) ∙ keeps

-- Then nothing is met.
pub nothing-met : (o : Opening) (p : Task) (turn : ℕ) (picker next : Picker) (past : List Event) (found : List Step) (step : Option Step)
    → found ≡ steps o p past → (step, next) ≡ pick picker turn found → step ≡ None → Nothing ≡ met_before (steps o p past)
nothing-met o p turn picker next past found step is by none =
    let none_picked : (pick picker turn found).0 ≡ None = sym (ap (λ (pair : Option Step × Picker). pair.0) by) ∙ none in
    sym (ap met_before (sym is ∙ none-there picker turn found none_picked))

-- After as many turns as there may be events, too.
pub ends : (o : Opening) (p : Task) (most turn : ℕ) (picker : Picker) (past whole : List Event) → most ≡ 0 → ordered o p most turn picker past ≡ whole → past ≡ whole
unfolding ordered
ends o p most turn picker past whole over keeps = sym (ap (λ (n : ℕ). ordered o p n turn picker past) over) ∙ keeps

-- A turn of the loop.
pub goes : (o : Opening) (p : Task) (most i : ℕ) (picker next : Picker) (past after whole : List Event) (found : List Step) (picks : Option Step) (step : Step) → i < most
    → found ≡ steps o p past → (picks, next) ≡ pick picker i found → picks ≡ Some step → after ≡ past_with o p past (Some step)
    → ordered o p (most - i) i picker past ≡ whole → ordered o p (most - (i + 1)) (i + 1) next after ≡ whole
goes o p most i picker next past after whole found picks step below is by some taken keeps =
    let both : (picks, next) ≡ pick picker i (steps o p past) = by ∙ ap (λ (xs : List Step). pick picker i xs) is in
    let chosen : (pick picker i (steps o p past)).0 ≡ Some step = sym (ap (λ (pair : Option Step × Picker). pair.0) both) ∙ some in
    ap (λ (g : Picker). ordered o p (most - (i + 1)) (i + 1) g after) (ap (λ (pair : Option Step × Picker). pair.1) both)
    ∙ ap (λ (now : List Event). ordered o p (most - (i + 1)) (i + 1) (pick picker i (steps o p past)).1 now) (taken ∙ ap (λ (x : Option Step). past_with o p past x) (sym chosen))
    ∙ sym (ordered-next o p most i i picker past below) ∙ keeps

pub same-task : (program : Program) (body : Content) → (task_in program).guests ≡ blocks_of body → program.ticks.now ≡ ticks_of body → task_in program ≡ task_of body
same-task program body guests ticks = λ i. record { guests = guests i; ticks = ticks i }

pub if-both : {T E : Type 0} (found : Result T E) (P Q R : T → Type 0) → ((x : T) → P x → Q x → R x) → IfOk found P → IfOk found Q → IfOk found R
if-both (Ok x) P Q R gives one other = gives x one other
if-both (Err e) P Q R gives one other = one

-- What is followed from the opening on is the order, if its picker is.
pub order-is-tried : (c : Config) (p : Task) (seed order : ℕ) (past : List Event) (picker : Picker) (end : End) → picker ≡ picker_of c.harts seed order
    → past ≡ ordered (opening_at c) p c.limit 0 picker [] → IsEnd end (opening_at c) past p.guests
    → IsEndBy (met_before (steps (opening_at c) p past)) (opening_at c) past p.guests end → IsTried c p seed order past end
order-is-tried c p seed order past picker end picks follows ended by =
    let same : past ≡ order_of c p seed order = follows ∙ ap (λ (g : Picker). ordered (opening_at c) p c.limit 0 g []) picks in
    let Q : List Event → Type 0 = λ xs. AreOwn p xs in
    record { same = same; own = subst Q (sym same) (ordered-own (opening_at c) p c.limit 0 (picker_of c.harts seed order) [] tt); ended = ended; by = by }
