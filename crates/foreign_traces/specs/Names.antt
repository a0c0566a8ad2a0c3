-- What the names of commands say.
use Rattle.std.specs.Prelude.{ℕ, if◌then◌else◌, List, Option, Some, None, codes}
use Rattle.std.specs.Str.{bytes_eq}
use Rattle.foreign_traces.specs.declared.names.Name.{Name}
use Rattle.foreign_traces.specs.declared.names.Name.TheVariants.{Act, Rd, Wr, PrePb, PreSb, PreAb, RefAb, RefSb, RfmAb, RfmSb, Lacking}
use Rattle.foreign_traces.specs.declared.names.Lacking.TheVariants.{ReadPrecharge, WritePrecharge, RefreshBank, DirectedRefresh, PowerDown, SelfRefresh}

-- of Ramulator 2
unfoldable pub ramulator2_name : List ℕ → Option Name
ramulator2_name name =
    if bytes_eq name (codes "ACT") then Some Act else (
    if bytes_eq name (codes "RD") then Some Rd else (
    if bytes_eq name (codes "WR") then Some Wr else (
    if bytes_eq name (codes "PRE") then Some PrePb else (
    if bytes_eq name (codes "PREsb") then Some PreSb else (
    if bytes_eq name (codes "PREA") then Some PreAb else (
    if bytes_eq name (codes "REFab") then Some RefAb else (
    if bytes_eq name (codes "REFsb") then Some RefSb else (
    if bytes_eq name (codes "RFMab") then Some RfmAb else (
    if bytes_eq name (codes "RFMsb") then Some RfmSb else (
    if bytes_eq name (codes "RDA") then Some (Lacking ReadPrecharge) else (
    if bytes_eq name (codes "WRA") then Some (Lacking WritePrecharge) else (
    if bytes_eq name (codes "DRFMab") then Some (Lacking DirectedRefresh) else (
    if bytes_eq name (codes "DRFMsb") then Some (Lacking DirectedRefresh) else (
    if bytes_eq name (codes "PDE") then Some (Lacking PowerDown) else (
    if bytes_eq name (codes "PDX") then Some (Lacking PowerDown) else (
    if bytes_eq name (codes "SRE") then Some (Lacking SelfRefresh) else (
    if bytes_eq name (codes "SRX") then Some (Lacking SelfRefresh) else (
    None))))))))))))))))))

-- of DRAMsim3
unfoldable pub dramsim3_name : List ℕ → Option Name
dramsim3_name name =
    if bytes_eq name (codes "activate") then Some Act else (
    if bytes_eq name (codes "read") then Some Rd else (
    if bytes_eq name (codes "write") then Some Wr else (
    if bytes_eq name (codes "precharge") then Some PrePb else (
    if bytes_eq name (codes "refresh") then Some RefAb else (
    if bytes_eq name (codes "read_p") then Some (Lacking ReadPrecharge) else (
    if bytes_eq name (codes "write_p") then Some (Lacking WritePrecharge) else (
    if bytes_eq name (codes "refresh_bank") then Some (Lacking RefreshBank) else (
    if bytes_eq name (codes "self_refresh_enter") then Some (Lacking SelfRefresh) else (
    if bytes_eq name (codes "self_refresh_exit") then Some (Lacking SelfRefresh) else (
    None))))))))))
