-- A worked row of what is lenient: an entry that wasn't valid is made a leaf, with no fence.
use Rattle.std.proofs.Common.{◌≡◌, ℕ, Bool, true, false, List, [], ◌∷◌, refl, sym, ap, ◌∙◌, Some, Result, Ok, Err, inl, inr}
use Rattle.std.specs.Prelude.{◌⊎◌, ◌==◌, ◌&&◌}
use Rattle.std.specs.List.{All}
use Rattle.std.proofs.lemmas.Bool.{and_parts, eqb-true}
use Rattle.std.proofs.lemmas.List.Elements.{All-cons, All-nil, All-weaker}
use Rattle.sv39.specs.declared.cause.Cause.{Cause}
use Rattle.sv39.specs.declared.cause.Cause.TheVariants.{LoadPageFault}
use Rattle.sv39.specs.declared.cause.Kind.TheVariants as kinds
use Rattle.sv39.specs.declared.page.Leaf.{Leaf}
use Rattle.sv39.specs.declared.page.Level.TheVariants.{Giga}
use Rattle.sv39.specs.Maps.{maps}
use Rattle.sv39.specs.Memory.{is_in_ram, word_in, zero_memory}
use Rattle.sv39.specs.Paging.{is_valid_by}
use Rattle.hart_access.specs.Ways.{phys_in}
use Rattle.board_core.specs.History.{Event}
use Rattle.board_core.specs.Memory.{memory, satp}
use Rattle.board_terms.specs.declared.op.Actor.TheVariants.{Hart}
use Rattle.board_terms.specs.declared.op.Op.TheVariants.{Store}
use Rattle.board_terms.specs.declared.reply.Reply.TheVariants.{Done}
use Rattle.any_tlb.specs.Firm.{IsFirm, IsLenient, IsMapped}
use Rattle.any_tlb.specs.Mixed.{Mixed, MixedWalk}
use Rattle.any_tlb.specs.Steady.{phys_of}
use Rattle.any_tlb.specs.WatchedWalks.{given_results}
use Rattle.any_tlb.proofs.WatchingWalks.{results_decide_lenient}
use Rattle.any_tlb.proofs.WorkedRows.{alone, in_space, in_use, mapped}

abbrev made_valid : List Event
made_valid = record { actor = Hart 0; op = Store 0x80001018 0x200000c7; reply = Done; translation = Some mapped } ∷ in_use

abbrev made : Leaf
made = record { page = 0xC0000000; level = Giga; global = false; pa = 0x80000000; r = true; w = true; x = false; d = true }

-- the address that the leaf gives, or a page fault
is-fault : Cause → Bool
is-fault LoadPageFault = true
is-fault cause = false

is-one : Result Leaf Cause → Bool
is-one (Ok leaf) = phys_in leaf 0xC0002000 == 0x80002000
is-one (Err cause) = is-fault cause

every : List (Result Leaf Cause) → Bool
every [] = true
every (result ∷ results) = is-one result && every results

every-all : (results : List (Result Leaf Cause)) → every results ≡ true → All (λ result. is-one result ≡ true) results
unfolding every
every-all [] is = All-nil (λ result. is-one result ≡ true)
every-all (result ∷ results) is =
    let parts = and_parts (is-one result) (every results) is in
    All-cons (λ result. is-one result ≡ true) result results parts.0 (every-all results parts.1)

made-every : every (given_results alone made_valid 0 0xC0002000 kinds.Load) ≡ true
unfolding every is-one is-fault maps is_valid_by word_in zero_memory is_in_ram
made-every = refl

now-made : maps (memory alone made_valid) (satp alone made_valid 0) 0xC0002000 kinds.Load ≡ Ok made
unfolding maps is_valid_by word_in zero_memory is_in_ram
now-made = refl

abbrev Fits : Result Leaf Cause → Type 0
Fits result =
    (phys_of result 0xC0002000 ≡ phys_of (maps (memory alone made_valid) (satp alone made_valid 0) 0xC0002000 kinds.Load) 0xC0002000)
    ⊎ ((result ≡ Err LoadPageFault) × IsMapped alone made_valid 0 0xC0002000 kinds.Load)

fault-is : (cause : Cause) → is-fault cause ≡ true → cause ≡ LoadPageFault
unfolding is-fault
fault-is LoadPageFault is = refl
fault-is cause is = cc

one-fits : (result : Result Leaf Cause) → is-one result ≡ true → Fits result
unfolding is-one
one-fits (Ok leaf) is =
    inl (ap (λ n. let r : Result ℕ Cause = Ok n in r) (eqb-true (phys_in leaf 0xC0002000) 0x80002000 is) ∙ ap (λ r. phys_of r 0xC0002000) (sym now-made))
one-fits (Err cause) is = inr (ap (λ c. let r : Result Leaf Cause = Err c in r) (fault-is cause is), record { leaf = made; gives = now-made })

pub made-lenient : IsLenient alone made_valid 0 0xC0002000 kinds.Load
made-lenient = (results_decide_lenient alone made_valid 0 0xC0002000 kinds.Load).0 (λ translated.
    All-weaker (λ result. is-one result ≡ true) Fits one-fits (given_results alone made_valid 0 0xC0002000 kinds.Load)
    (every-all (given_results alone made_valid 0 0xC0002000 kinds.Load) made-every))

-- a walk may still see that it wasn't valid: the access isn't firm
old-word : MixedWalk alone made_valid 0 0xC0002000 kinds.Load (Err LoadPageFault)
unfolding maps is_valid_by word_in zero_memory is_in_ram
old-word = record {
  by_satp = in_space;
  met = false;
  sees = inl refl;
  space = inr refl;
  mode = refl;
  valid = refl;
  walk = inr (Some 0, refl, inl (inr (inl refl, refl)), refl, refl);
}

pub made-not-firm : IsFirm alone made_valid 0 0xC0002000 kinds.Load → ⊥
unfolding maps is_valid_by word_in zero_memory is_in_ram
made-not-firm firm = apart (firm (record { aligned = refl; mode = refl; valid = refl }) (Err LoadPageFault) (Mixed old-word))
  where
    apart : (let r : Result ℕ Cause = Err LoadPageFault in r) ≡ Ok 0x80002000 → ⊥
    apart e = cc
