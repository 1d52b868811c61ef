-- Tags of items. They tell most items apart that a key or a fence doesn't suit.
use Rattle.std.specs.Prelude.{◌≡◌, ◌⊎◌, ℕ}
use Rattle.tlb_model.specs.declared.tag.TheConstants.{ANY}

-- An item of this tag may be held for a key, or dropped by a fence, whose tag is the wanted one.
abbrev pub Suits : (tag wanted : ℕ) → Type 0
Suits tag wanted = (tag ≡ wanted) ⊎ (tag ≡ ANY)
