-- Worked rows of what fence calls need: histories that meet what each law of it asks, so that none speaks of nothing.
use Rattle.std.proofs.Common.{◌≡◌, ℕ, suc, List, [], ◌∷◌, ◌++◌, true, pos, refl, arith, ◌<◌, ◌≤◌, inl, inr}
use Rattle.std.specs.Prelude.{◌⊎◌, None, is_some}
use Rattle.std.specs.List.{list_any}
use Rattle.std.proofs.lemmas.Bool.{cases_eq}
use Rattle.sbi_abi.specs.Calls.{call_of}
use Rattle.hart_mask.specs.HartList.{names_stray, targets_of}
use Rattle.hart_mask.specs.Ids.{ids_where}
use Rattle.board_core.specs.Cuts.{IsOpened}
use Rattle.board_core.specs.Opening.{IsOpening, Opening, opening_at}
use Rattle.board_terms.specs.declared.op.Actor.TheVariants.{Hart}
use Rattle.board_terms.specs.declared.op.Op.{Op}
use Rattle.board_terms.specs.declared.op.Op.TheVariants.{Advance, Ecall, Serve}
use Rattle.board_terms.specs.declared.reply.Reply.{Reply}
use Rattle.board_terms.specs.declared.reply.Reply.TheVariants.{Entry, Gone, Ret, Served, Waiting}
use Rattle.board_core.specs.Fences.{outstanding}
use Rattle.board_core.specs.History.{Event}
use Rattle.board_terms.specs.Limits.{IsGood}
use Rattle.board_core.specs.Need.{need, total_need}
use Rattle.board_core.specs.Replies.{IsLegal}
use Rattle.board_core.specs.Serves.{AreFew, CanEnd, GoesOn, HaveServed, IsLeft, ServeIsAccepted, serves_in, stops}
use Rattle.board_core.proofs.Beginning.{opens}
use Rattle.board_laws.proofs.Again.{recorded_is_recomputed}
use Rattle.board_core.proofs.Needs.{are-few, can-end, is-left, needed-accepted, none-raises-needs, serve-lowers-needs}

abbrev three : Opening
three = opening_at (record { harts = 3; pages = 1; limit = 1000; boot_hart = 0; boot_addr = 0x80000000; boot_opaque = 0; asid_len = 16; width = 39 })

three-good : IsGood three.config
three-good = record {
  some_harts = omega arith;
  at_most_128_harts = omega arith;
  some_pages = omega arith;
  at_most_256_pages = omega arith;
  some_room = omega arith;
  at_most_a_million_events = omega arith;
  boot_hart_is_there = omega arith;
  boot_address = refl;
  at_most_16_bits_of_an_asid = omega arith;
  width_of_a_mode = refl;
}

abbrev did : ℕ → Op → Reply → Event
did h op reply = record { actor = Hart h; op = op; reply = reply; translation = None }

abbrev success : Reply
success = Ret (record { error = pos 0; value = 0 })

abbrev starts : ℕ → Event
starts h = did 0 (Ecall (record { eid = 0x48534d; fid = 0; a = h ∷ 0x80000000 ∷ 0 ∷ 0 ∷ 0 ∷ 0 ∷ [] })) success

-- a full fence of hart 1
abbrev fences : ℕ → Event
fences h = did h (Ecall (record { eid = 0x52464e43; fid = 1; a = 2 ∷ 0 ∷ 0 ∷ 0 ∷ 0 ∷ 0 ∷ [] })) Waiting

abbrev serve : Event
serve = did 1 Serve Served

abbrev stop : Event
stop = did 1 (Ecall (record { eid = 0x48534d; fid = 1; a = 0 ∷ 0 ∷ 0 ∷ 0 ∷ 0 ∷ 0 ∷ [] })) Gone

three-opens : IsOpening three
three-opens = opens three.config three-good

three-opened : IsOpened three
three-opened = record { cuts = 0; opens = (three-good, refl) }

-- Harts 0 and 2, in this order, fence hart 1.
abbrev asked : List Event
asked =
    fences 2
    ∷ fences 0
    ∷ did 2 Advance (Entry 0x80000000 2 0)
    ∷ starts 2
    ∷ did 1 Advance (Entry 0x80000000 1 0)
    ∷ starts 1
    ∷ did 0 Advance (Entry 0x80000000 0 0)
    ∷ []

-- What the call of hart 0 needs of hart 1, that of hart 2, and what hart 1 needs, which made none.
abbrev needs : List Event → List ℕ
needs past = need three past 0 1 ∷ need three past 2 1 ∷ need three past 1 0 ∷ []

needs-asked : needs asked ≡ 1 ∷ 2 ∷ 0 ∷ []
unfolding call_of targets_of names_stray ids_where
needs-asked = refl

needs-served : needs (serve ∷ asked) ≡ 0 ∷ 1 ∷ 0 ∷ []
unfolding call_of targets_of names_stray ids_where
needs-served = refl

needs-served_twice : needs (serve ∷ serve ∷ asked) ≡ 0 ∷ 0 ∷ 0 ∷ []
unfolding call_of targets_of names_stray ids_where
needs-served_twice = refl

needs-stopped : needs (stop ∷ asked) ≡ 0 ∷ 0 ∷ 0 ∷ []
unfolding call_of targets_of names_stray ids_where
needs-stopped = refl

total-asked : total_need three asked 2 ≡ 2
unfolding call_of targets_of names_stray ids_where
total-asked = refl

-- ---- the laws, of the call of hart 2

served-legal : IsLegal three (serve ∷ serve ∷ asked)
unfolding call_of targets_of names_stray ids_where
served-legal = (recorded_is_recomputed three (serve ∷ serve ∷ asked) three-opens).1 refl

stopped-legal : IsLegal three (stop ∷ asked)
unfolding call_of targets_of names_stray ids_where
stopped-legal = (recorded_is_recomputed three (stop ∷ asked) three-opens).1 refl

abbrev once-legal : IsLegal three (serve ∷ asked)
once-legal = served-legal.2

abbrev asked-legal : IsLegal three asked
asked-legal = once-legal.2

need-asked : need three asked 2 1 ≡ 2
unfolding call_of targets_of names_stray ids_where
need-asked = refl

inside : is_some (outstanding three asked 2) ≡ true
unfolding call_of targets_of names_stray ids_where
inside = refl

asked-few : AreFew three asked 2
asked-few = are-few three asked 2 three-good asked-legal

serve-accepted : ServeIsAccepted three asked 1
serve-accepted = needed-accepted three asked 2 1 three-opened asked-legal (omega (arith, need-asked))

serve-lowers : suc (need three (serve ∷ asked) 2 1) ≡ need three asked 2 1
serve-lowers = serve-lowers-needs three serve asked 2 1 three-good once-legal refl (omega (arith, need-asked))

serve-raises_none : need three (serve ∷ asked) 2 1 ≤ need three asked 2 1
serve-raises_none = none-raises-needs three serve asked 2 1 three-good once-legal inside

-- It goes on until hart 1 has served twice ..
abbrev served : List Event
served = serve ∷ serve ∷ []

served-goes_on : GoesOn three served asked 2
unfolding call_of
served-goes_on = record { legal = served-legal; inside = inside; goes_on = refl }

served-left : IsLeft three served asked 2 1
served-left = is-left three served asked 2 1 three-good served-goes_on

-- (hart 1 is the only one of which it needs any)
one-alone : (P : ℕ → Type 0) → P 0 → P 1 → P 2 → (t : ℕ) → t < 3 → P t
one-alone P zero one two t below = elim (cases_eq t 0) [
  | inl e ↦ rw e zero
  | inr not_zero ↦ elim (cases_eq t 1) [
    | inl e ↦ rw e one
    | inr not_one ↦ let e : t ≡ 2 = omega arith in rw e two
  ]
]

have-served : HaveServed three served asked 2
unfolding call_of targets_of names_stray ids_where
have-served =
    one-alone (λ t. (need three asked 2 t ≤ serves_in t served) ⊎ (list_any (stops t) served ≡ true)) (inl (omega arith)) (inl (omega arith)) (inl (omega arith))

served-ends : CanEnd three (served ++ asked) 2
served-ends = can-end three served asked 2 three-opened served-goes_on (omega arith) have-served

-- .. or has stopped.
stopped-goes_on : GoesOn three (stop ∷ []) asked 2
unfolding call_of
stopped-goes_on = record { legal = stopped-legal; inside = inside; goes_on = refl }

stopped-left : IsLeft three (stop ∷ []) asked 2 1
stopped-left = is-left three (stop ∷ []) asked 2 1 three-good stopped-goes_on

have-stopped : HaveServed three (stop ∷ []) asked 2
unfolding call_of targets_of names_stray ids_where
have-stopped =
    one-alone (λ t. (need three asked 2 t ≤ serves_in t (stop ∷ [])) ⊎ (list_any (stops t) (stop ∷ []) ≡ true)) (inl (omega arith)) (inr refl) (inl (omega arith))

stopped-ends : CanEnd three (stop ∷ asked) 2
stopped-ends = can-end three (stop ∷ []) asked 2 three-opened stopped-goes_on (omega arith) have-stopped
