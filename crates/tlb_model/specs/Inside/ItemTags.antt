-- The tags of entries and of fetched words.
use Rattle.std.specs.Prelude.{ℕ, ◌-◌, ◌/◌, ◌%◌, nat_le, ◌==◌, if◌then◌else◌, Option, Some, None}
use Rattle.sv39.specs.declared.page.Level.{Level}
use Rattle.sv39.specs.declared.page.Level.TheVariants.{Kilo, Mega, Giga, Tera}
use Rattle.tlb_model.specs.declared.entry.Address.{Address}
use Rattle.tlb_model.specs.declared.fence.Flush.{Flush}
use Rattle.tlb_model.specs.declared.fence.Flush.TheVariants.{Words, Entries}
use Rattle.tlb_model.specs.declared.fence.Range.{Range}
use Rattle.tlb_model.specs.declared.tag.TheConstants.{ANY}
use Rattle.tlb_model.specs.declared.word.FetchWord.{FetchWord}
use Rattle.tlb_model.specs.Entries.{Entry}

-- The tag of a page of 4 KiB: the low byte of its number.
abbrev pub page_tag : ℕ → ℕ
page_tag va = va / 4096 % 256

-- Larger pages suit every key.
abbrev pub tag_at : Level → (page : ℕ) → ℕ
tag_at Kilo page = if page % 4096 == 0 then page_tag page else ANY
tag_at Mega page = ANY
tag_at Giga page = ANY
tag_at Tera page = ANY

abbrev pub entry_tag : Entry → ℕ
entry_tag entry = tag_at entry.leaf.level entry.leaf.page

abbrev pub address_tag : Address → ℕ
address_tag at = page_tag at.va

-- A range within a page of 4 KiB has that page's tag.
abbrev pub range_tag : Option Range → Option ℕ
range_tag None = None
range_tag (Some range) = if nat_le range.size (4096 - range.start % 4096) then Some (page_tag range.start) else None

abbrev pub fence_tag : Flush → Option ℕ
fence_tag Words = None
fence_tag (Entries fence) = range_tag fence.range

-- The tag of a word: the low byte of its number.
abbrev pub pa_tag : ℕ → ℕ
pa_tag pa = pa / 8 % 256

abbrev pub word_tag : FetchWord → ℕ
word_tag fetched = pa_tag fetched.pa

abbrev pub no_tag : Flush → Option ℕ
no_tag flush = None
