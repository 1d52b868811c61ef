-- The Base extension (SBI 4): the replies of its calls, which have no effect.
use Rattle.std.specs.Prelude.{None, if◌then◌else◌}
use Rattle.sbi_abi.specs.declared.call.base.BaseCall.{BaseCall}
use Rattle.sbi_abi.specs.declared.call.base.BaseCall.TheVariants.{GetSpecVersion, GetImplId, GetImplVersion, ProbeExtension, GetMvendorid, GetMarchid, GetMimpid}
use Rattle.sbi_abi.specs.Calls.{is_extension_id}
use Rattle.board_rules.specs.Returns.{CallReply, Returns}

-- The specification's version is 1.0 (SBI 4.1). The other ids and versions are this implementation's (profile).
abbrev pub base_reply : BaseCall → CallReply
base_reply GetSpecVersion = Returns None 0x1000000
base_reply GetImplId = Returns None 0x5A5A5A
base_reply GetImplVersion = Returns None 1
base_reply (ProbeExtension eid) = Returns None (if is_extension_id eid then 1 else 0)
base_reply GetMvendorid = Returns None 0
base_reply GetMarchid = Returns None 0
base_reply GetMimpid = Returns None 0
