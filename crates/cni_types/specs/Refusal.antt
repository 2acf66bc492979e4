-- The details of a refusal: the path of a member, or the name of a variable.
use Rattle.std.specs.Prelude.{ℕ, List, [], ◌++◌, codes, decimal}
use Rattle.cni_types.specs.declared.refusal.Member.{Member}
use Rattle.cni_types.specs.declared.refusal.Member.TheVariants.{Name, NodeName, NodeLabels, Ipam, IpamType, AssignIpv4, AssignIpv6, Ipv4Pools, Ipv6Pools, PrevResult, PrevResultIps, Attachments, Attachment, AttachmentContainer, AttachmentInterface}
use Rattle.cni_types.specs.declared.refusal.Variable.{Variable}
use Rattle.cni_types.specs.declared.refusal.Variable.TheVariants as variable

-- an attachment, and what stands after its index
abbrev pub attachment_text : ℕ → List ℕ → List ℕ
attachment_text index member = codes "cni.dev/valid-attachments." ++ decimal index ++ member

abbrev pub member_text : Member → List ℕ
member_text Name = codes "name"
member_text NodeName = codes "nodename"
member_text NodeLabels = codes "nodeLabels"
member_text PrevResult = codes "prevResult"
member_text PrevResultIps = codes "prevResult.ips"
member_text Attachments = codes "cni.dev/valid-attachments"
member_text (Attachment index) = attachment_text index []
member_text (AttachmentContainer index) = attachment_text index (codes ".containerID")
member_text (AttachmentInterface index) = attachment_text index (codes ".ifname")
member_text Ipam = codes "ipam"
member_text IpamType = codes "ipam.type"
member_text AssignIpv4 = codes "ipam.assign_ipv4"
member_text AssignIpv6 = codes "ipam.assign_ipv6"
member_text Ipv4Pools = codes "ipam.ipv4_pools"
member_text Ipv6Pools = codes "ipam.ipv6_pools"

abbrev pub variable_name : Variable → List ℕ
variable_name variable.Command = codes "CNI_COMMAND"
variable_name variable.ContainerId = codes "CNI_CONTAINERID"
variable_name variable.Netns = codes "CNI_NETNS"
variable_name variable.Ifname = codes "CNI_IFNAME"
variable_name variable.Args = codes "CNI_ARGS"
