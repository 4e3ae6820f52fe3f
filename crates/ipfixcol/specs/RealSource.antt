-- A source of any kind that a Site of the system opens, and what opening it does to the files in use.
use Rattle.std.specs.Prelude.{ℕ, ◌≡◌, List}
use Rattle.col_base.specs.declared.base.Transport.{Transport}
use Rattle.col_base.specs.declared.base.Transport.TheVariants as Kind
use Rattle.socket_io.specs.declared.waiting.Waiting.TheVariants.{Looks}
use Rattle.ipfixcol.specs.declared.real_source.RealSource.{RealSource}
use Rattle.ipfixcol.specs.declared.real_source.RealSource.TheVariants.{File, Tcp, Udp}
use Rattle.ipfixcol.specs.declared.used_files.UsedFiles.{UsedFiles}
use Rattle.ipfixcol.specs.UsedFiles.{AddsSource, SameFiles}

-- how often it has failed
abbrev pub faults_of : {F R : Type 0} → RealSource F R → ℕ
faults_of (File source) = source.faults
faults_of (Tcp source) = source.faults
faults_of (Udp source) = source.faults

-- It is of that kind. A socket only looks, so that no input waits while another has something.
abbrev pub IsOfTransport : {F R : Type 0} → Transport → RealSource F R → Type 0
IsOfTransport transport (File source) = transport ≡ Kind.File
IsOfTransport transport (Tcp source) = (transport ≡ Kind.Tcp) × (source.waiting ≡ Looks)
IsOfTransport transport (Udp source) = (transport ≡ Kind.Udp) × (source.waiting ≡ Looks)

-- a source of that kind was opened: a file comes into use if it is a regular one, and a socket is none
abbrev pub OpensFiles : Transport → List ℕ → UsedFiles → UsedFiles → Type 0
OpensFiles Kind.File path old new = AddsSource path old new
OpensFiles Kind.Tcp path old new = SameFiles old new
OpensFiles Kind.Udp path old new = SameFiles old new
