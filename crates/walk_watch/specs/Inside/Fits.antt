-- Whether all that walks of page tables may give an access is what it must be, as tests that can be computed.
use Rattle.std.specs.Prelude.{ℕ, ◌+◌, ◌*◌, ◌==◌, ◌&&◌, ◌||◌, not, Bool, true, false, List, [], ◌∷◌, if◌then◌else◌, Option, Result, Ok, Err}
use Rattle.std.specs.List.{list_all}
use Rattle.sv39.specs.declared.cause.Cause.{Cause}
use Rattle.sv39.specs.declared.cause.Kind.{Kind}
use Rattle.sv39.specs.declared.page.Leaf.{Leaf}
use Rattle.sv39.specs.declared.page.Level.{Level}
use Rattle.sv39.specs.Causes.{page_fault}
use Rattle.sv39.specs.Maps.{is_some_global, is_some_pointer, outcome, table_of}
use Rattle.sv39.specs.Pages.{levels_from, part}
use Rattle.sv39.specs.Paging.{scheme}
use Rattle.sv39.specs.Satp.{asid_of, is_valid, paging_of, root_address, translates}
use Rattle.any_tlb.specs.Mixed.{is_end_global}
use Rattle.any_tlb.specs.Steady.{phys_of}
use Rattle.any_tlb.specs.WatchedWalks.{is_bool}
use Rattle.tlb_watch.specs.Deciding.{is_same_result, is_translated}
use Rattle.walk_watch.specs.declared.former.FormerSatp.{FormerSatp}
use Rattle.walk_watch.specs.declared.former.WalkNote.{WalkNote}
use Rattle.walk_watch.specs.declared.sight.Spot.{Spot}
use Rattle.walk_watch.specs.declared.wanted.Wanted.{Wanted}
use Rattle.walk_watch.specs.declared.seeking.Sought.{Sought}
use Rattle.walk_watch.specs.Logged.{LoggedWalks}
use Rattle.walk_watch.specs.Inside.Sights.{words_seen}

-- whether page tables give a leaf
abbrev pub is_mapped : Result Leaf Cause → Bool
is_mapped (Ok leaf) = true
is_mapped (Err cause) = false

-- what an access must be given: what the page tables give now or, where that is a leaf and it `may_fault`, a page fault
abbrev pub wanted_by : (h va : ℕ) → Kind → (may_fault : Bool) → Result Leaf Cause → Wanted
wanted_by h va kind may_fault walked = record {
  hart = h;
  va = va;
  kind = kind;
  phys = phys_of walked va;
  may_fault = may_fault && is_mapped walked;
}

-- whether a result is what the access must be given
abbrev pub result_fits : Wanted → Result Leaf Cause → Bool
result_fits w result =
    is_same_result (phys_of result w.va) w.phys
    || (w.may_fault && is_same_result (phys_of result w.va) (Err (page_fault w.kind)))

-- the same of a walk that met G or didn't, if it is of those that are sought
abbrev pub counted_fits : Sought → (global : Bool) → Result Leaf Cause → Bool
counted_fits s global result = not (is_bool s.met global) || result_fits s.wanted result

-- a place that these walks read
abbrev pub spot_of : Sought → Level → (at : ℕ) → Spot
spot_of s level at = record {
  walkers = record { hart = s.wanted.hart; va = s.wanted.va; met = s.met; asid = s.asid };
  level = level;
  at = at;
}

-- whether all results of these walks fit, from a table on
abbrev pub fits_from : Sought → List WalkNote → (memory : ℕ → Option ℕ) → List Level → (table : ℕ) → (global : Bool) → Bool
fits_from s notes memory [] table global = counted_fits s global (Err (page_fault s.wanted.kind))
fits_from s notes memory (level ∷ under) table global =
    list_all (λ word. if is_some_pointer level word
    then fits_from s notes memory under (table_of word) (global || is_some_global word)
    else counted_fits s (global || is_end_global word) (outcome word s.wanted.va s.wanted.kind level global))
    (words_seen (spot_of s level (table + 8 * part level s.wanted.va)) notes (memory (table + 8 * part level s.wanted.va)))

-- the test of one word of that level
abbrev pub word_fits : Sought → List WalkNote → (memory : ℕ → Option ℕ) → Level → (under : List Level) → (global : Bool) → Option ℕ → Bool
word_fits s notes memory level under global word =
    if is_some_pointer level word
    then fits_from s notes memory under (table_of word) (global || is_some_global word)
    else counted_fits s (global || is_end_global word) (outcome word s.wanted.va s.wanted.kind level global)

-- whether walks by a satp count, for an access by this one
abbrev pub is_counted : (met : Bool) → (present va satp : ℕ) → Bool
is_counted met present va satp =
    translates satp && (is_valid satp va && (met || (asid_of satp == asid_of present)))

-- whether all results of walks by a satp fit, if it counts
abbrev pub satp_fits : Wanted → (met : Bool) → List WalkNote → (memory : ℕ → Option ℕ) → (present satp : ℕ) → Bool
satp_fits w met notes memory present satp =
    not (is_counted met present w.va satp)
    || fits_from (record { wanted = w; met = met; asid = asid_of satp }) notes memory
    (levels_from (scheme (paging_of satp)).root) (root_address satp) false

-- the same of a former satp, if it was the access's hart's
abbrev pub former_fits : Wanted → (met : Bool) → List WalkNote → (memory : ℕ → Option ℕ) → (present : ℕ) → FormerSatp → Bool
former_fits w met notes memory present former =
    not (former.hart == w.hart) || satp_fits w met notes memory present former.satp

-- the same of the present one, and all former ones
abbrev pub satps_fit : Wanted → (met : Bool) → List WalkNote → (memory : ℕ → Option ℕ) → (present : ℕ) → List FormerSatp → Bool
satps_fit w met notes memory present satps =
    satp_fits w met notes memory present present && list_all (former_fits w met notes memory present) satps

-- Whether all results of walks that may be under way fit, if satp translates the address.
abbrev pub walks_fit : LoggedWalks → (memory : ℕ → Option ℕ) → (present : ℕ) → Wanted → Bool
walks_fit log memory present w =
    not (is_translated present w.va)
    || (satps_fit w false log.notes memory present log.own && satps_fit w true log.notes memory present log.global)
