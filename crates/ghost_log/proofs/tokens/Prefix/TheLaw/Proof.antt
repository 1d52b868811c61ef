-- A `&` to a `Prefix` holds what it knows, which can be had twice. Assumes `Logic`.
use base.Logic.{snd∗}
use base.Before.{before}
use types.Logic.{sem}
use denote.RattleType.{RattleType}
use denote.Param.Laws.{Laws}
use denote.Param.Shared.{copy_shared}
use denote.Struct.Laws.{field_copy}
use denote.Struct.Lending.{of_Lends}
use Rattle.std.specs.contracts.marker.PhantomData as marker
use Rattle.ghost_log.specs.Inside.Kept.{begun_owns}
use Rattle.ghost_log.specs.contracts.tokens.Prefix as C
use Rattle.ghost_log.proofs.Steps.{begun_twice}
use Rattle.ghost_log.proofs.Values.{lends_twice}
use Rattle.ghost_log.proofs.tokens.Prefix.TheLaw.Statement.{statement}

pub shares : (E : RattleType) (L : Laws E) → statement E L
shares E L =
    of_Lends (C.struct E) (C.the_codes E.Denot E.coded (marker.the_row E).coded) (C.the_heap E) (C.the_lent E)
    (λ d p. record { contraction = λ M 𝓤 𝓛 κ. begun_twice E.coded 𝓛 d.name d.list; mono = λ M 𝓤 𝓛 κ' κ. snd∗ 𝓤 (sem 𝓛 (before κ' κ)) (sem 𝓛 (begun_owns E.coded.code d.name d.list)) })
    (copy_shared (marker.the_field E) (field_copy (marker.the_type E) tt), tt)
    (λ M 𝓤 𝓛 d p. lends_twice 𝓛 (begun_owns E.coded.code d.name d.list) (begun_twice E.coded 𝓛 d.name d.list) (C.the_row E).lives)
