-- What a leaf allows (Privileged 4.3.2).
use Rattle.std.specs.Prelude.{Bool, ◌&&◌, if◌then◌else◌, Result, Ok, Err}
use Rattle.sv39.specs.declared.cause.Kind.{Kind}
use Rattle.sv39.specs.declared.cause.Kind.TheVariants.{Fetch, Load, Store, Amo}
use Rattle.sv39.specs.declared.cause.Cause.{Cause}
use Rattle.sv39.specs.declared.page.Leaf.{Leaf}
use Rattle.sv39.specs.Causes.{page_fault}

-- A fetch needs X, a load R, a store W and D, and an AMO all three of R, W and D (Privileged 4.3.1; that a board faults
-- instead of setting D: profile).
abbrev pub allows : Kind → Leaf → Bool
allows Fetch leaf = leaf.x
allows Load leaf = leaf.r
allows Store leaf = leaf.w && leaf.d
allows Amo leaf = leaf.r && leaf.w && leaf.d

-- The leaf if it allows the access, else a page fault.
abbrev pub by_right : Kind → Leaf → Result Leaf Cause
by_right kind leaf = if allows kind leaf then Ok leaf else Err (page_fault kind)
