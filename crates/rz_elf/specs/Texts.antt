-- The printed names of faults and rooms.
use Rattle.std.specs.Prelude.{ℕ, List, ◌∷◌, ◌++◌, Option, Some, None, codes, decimal}
use Rattle.rz_elf.specs.declared.fault.ElfFault.{ElfFault}
use Rattle.rz_elf.specs.declared.fault.ElfFault.TheVariants as fault
use Rattle.rz_elf.specs.declared.room.Room.{Room}
use Rattle.rz_elf.specs.declared.room.Room.TheVariants as room

abbrev pub fault_name : ElfFault → List ℕ
fault_name fault.Long = codes "Long"
fault_name fault.Short = codes "Short"
fault_name fault.Magic = codes "Magic"
fault_name fault.Class = codes "Class"
fault_name fault.Data = codes "Data"
fault_name fault.Version = codes "Version"
fault_name fault.FileType = codes "Type"
fault_name fault.Machine = codes "Machine"
fault_name fault.HeaderSize = codes "HeaderSize"
fault_name fault.EntrySize = codes "EntrySize"
fault_name fault.Count = codes "Count"
fault_name fault.TableRange = codes "TableRange"
fault_name (fault.Dynamic i) = codes "Dynamic"
fault_name (fault.StackCode i) = codes "StackCode"
fault_name (fault.Flags i) = codes "Flags"
fault_name (fault.WritableCode i) = codes "WritableCode"
fault_name (fault.SizeOrder i) = codes "SizeOrder"
fault_name (fault.FileRange i) = codes "FileRange"
fault_name (fault.Align i) = codes "Align"
fault_name (fault.Address i) = codes "Address"
fault_name (fault.Order i) = codes "Order"
fault_name (fault.SharedPage i) = codes "SharedPage"
fault_name fault.TotalSize = codes "TotalSize"
fault_name fault.NoLoad = codes "NoLoad"
fault_name fault.Entry = codes "Entry"

-- the number of the header that has it, where it is a fault of one header
abbrev pub fault_header : ElfFault → Option ℕ
fault_header (fault.Dynamic i) = Some i
fault_header (fault.StackCode i) = Some i
fault_header (fault.Flags i) = Some i
fault_header (fault.WritableCode i) = Some i
fault_header (fault.SizeOrder i) = Some i
fault_header (fault.FileRange i) = Some i
fault_header (fault.Align i) = Some i
fault_header (fault.Address i) = Some i
fault_header (fault.Order i) = Some i
fault_header (fault.SharedPage i) = Some i
fault_header _ = None

abbrev numbered : List ℕ → Option ℕ → List ℕ
numbered name None = name
numbered name (Some i) = name ++ (32 ∷ decimal i)

-- what is printed of a fault: its name, and the number of its header
abbrev pub fault_text : ElfFault → List ℕ
fault_text f = numbered (fault_name f) (fault_header f)

-- the printed name of a cause against added parts
abbrev pub room_text : Room → List ℕ
room_text room.Low = codes "Low"
room_text room.Headers = codes "Headers"
room_text room.Length = codes "Length"
room_text room.Total = codes "Total"
