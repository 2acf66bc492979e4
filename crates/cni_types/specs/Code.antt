-- The numbers and the messages of codes.
use Rattle.std.specs.Prelude.{ℕ, List, codes}
use Rattle.cni_types.specs.declared.code.Code.{Code}
use Rattle.cni_types.specs.declared.code.Code.TheVariants.{IncompatibleVersion, InvalidEnvironment, InputOutput, Undecodable, InvalidConfiguration, TryAgain, NoAddress, WantOfMemory, NotRecorded, DatastoreFull, HandleCountFull, RevisionsSpent, BadDatastore, NoSuchPool, NotUsable, AddressTaken, NotAffine, NoReply, NotAvailable}

abbrev pub code_number : Code → ℕ
code_number IncompatibleVersion = 1
code_number InvalidEnvironment = 4
code_number InputOutput = 5
code_number Undecodable = 6
code_number InvalidConfiguration = 7
code_number TryAgain = 11
code_number NoAddress = 100
code_number WantOfMemory = 101
code_number NotRecorded = 102
code_number DatastoreFull = 103
code_number HandleCountFull = 104
code_number RevisionsSpent = 105
code_number BadDatastore = 106
code_number NoSuchPool = 107
code_number NotUsable = 108
code_number AddressTaken = 109
code_number NotAffine = 110
code_number NoReply = 111
code_number NotAvailable = 112

abbrev pub message : Code → List ℕ
message IncompatibleVersion = codes "incompatible CNI version"
message InvalidEnvironment = codes "invalid environment variable"
message InputOutput = codes "input or output fault"
message Undecodable = codes "cannot decode network configuration"
message InvalidConfiguration = codes "invalid network configuration"
message TryAgain = codes "try again later"
message NoAddress = codes "no address available"
message WantOfMemory = codes "want of memory"
message NotRecorded = codes "address not recorded"
message DatastoreFull = codes "datastore full"
message HandleCountFull = codes "handle count full"
message RevisionsSpent = codes "revisions spent"
message BadDatastore = codes "bad datastore"
message NoSuchPool = codes "no such pool"
message NotUsable = codes "address not in a usable pool"
message AddressTaken = codes "address taken"
message NotAffine = codes "block not affine to this node"
message NoReply = codes "no reply from the daemon"
message NotAvailable = codes "plugin not available"
