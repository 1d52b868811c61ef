-- The kinds of accesses (Privileged 4.1.8).
use Rattle.std.specs.Prelude.{if◌then◌else◌}
use Rattle.amo.specs.Amos.{reads}
use Rattle.sv39.specs.declared.cause.Kind.{Kind}
use Rattle.sv39.specs.declared.cause.Kind.TheVariants as kinds
use Rattle.hart_access.specs.declared.accesses.Access.{Access}
use Rattle.hart_access.specs.declared.accesses.Access.TheVariants.{Load, Store, Fetch, Amo}

-- The kind of an access, which selects the causes of its faults (Privileged 4.1.8).
abbrev pub kind_of : Access → Kind
kind_of Load = kinds.Load
kind_of (Store value) = kinds.Store
kind_of Fetch = kinds.Fetch
kind_of (Amo at amo) = if reads amo then kinds.Amo else kinds.Store
