-- With which statuses a text is refused.
use Rattle.std.proofs.Common.{◌≡◌, ℕ, List, sym, subst}
use Rattle.json_scan.specs.declared.walk.ScanError.{ScanError}
use Rattle.json_scan.specs.declared.walk.ScanError.TheVariants as refusals
use Rattle.topo_reader.specs.declared.fault.ReadFault.{ReadFault}
use Rattle.topo_reader.specs.declared.fault.ReadFault.TheVariants as faults
use Rattle.top_call.specs.declared.forms.Options.{Options}
use Rattle.top_call.specs.declared.status.Status.{Status}
use Rattle.top_call.specs.Maps.{NoTree, NoTopology, Clash, OnArc, IsRefusal, NoMap, OffGrid, Unarranged, scan_status, fault_status}
use Rattle.top_call.specs.Endings.{IsMapStatus}

pub scan_kind : (e : ScanError) → IsMapStatus (scan_status e)
scan_kind (refusals.NotUtf8 at) = tt
scan_kind (refusals.NotJson at) = tt
scan_kind (refusals.TooDeep at) = tt
scan_kind refusals.NoMemory = tt

fault_kind : (fault : ReadFault) → IsMapStatus (fault_status fault)
fault_kind (faults.Shape kind at) = tt
fault_kind (faults.Off kind at) = tt
fault_kind (faults.TooMany what at) = tt
fault_kind faults.NoMemory = tt

-- a text is not refused with any other status
pub refusal_kind : (options : Options) (text : List ℕ) (s : Status) → IsRefusal options text s → IsMapStatus s
refusal_kind options text s (NoMap (NoTree e why is)) = subst IsMapStatus (sym is) (scan_kind e)
refusal_kind options text s (NoMap (NoTopology tree fault has none is)) = subst IsMapStatus (sym is) (fault_kind fault)
refusal_kind options text s (OffGrid t w arc at has some off is) = subst IsMapStatus (sym is) tt
refusal_kind options text s (Unarranged t has stays (Clash e f none least is)) = subst IsMapStatus (sym is) tt
refusal_kind options text s (Unarranged t has stays (OnArc k e none least is)) = subst IsMapStatus (sym is) tt
