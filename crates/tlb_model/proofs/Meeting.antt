-- Where a range of addresses meets a page.
use Rattle.std.proofs.Common.{◌≡◌, ℕ, ◌+◌, true, arith}
use Rattle.std.specs.Prelude.{◌↔◌, max, min}
use Rattle.std.proofs.lemmas.Bool.{lt-ltb, ltb-true}
use Rattle.tlb_model.specs.declared.fence.Range.{Range}
use Rattle.tlb_model.specs.Fences.{HaveInCommon, meets}

pub common : (range : Range) (page bytes : ℕ) → meets range page bytes ≡ true ↔ HaveInCommon range page bytes
common range page bytes = (there_is, they_meet)
  where
    there_is : meets range page bytes ≡ true → HaveInCommon range page bytes
    there_is met =
        let before = ltb-true (max range.start page) (min (range.start + range.size) (page + bytes)) met in
        record { address = max range.start page; from_start = omega arith; before_end = omega arith; from_page = omega arith; before_page_end = omega arith }

    they_meet : HaveInCommon range page bytes → meets range page bytes ≡ true
    they_meet shared = lt-ltb (max range.start page) (min (range.start + range.size) (page + bytes)) (omega arith)
