-- The reports: of a debloating, and of an original with its new file. Each is one line of compact JSON.
use Rattle.std.specs.Prelude.{ℕ, List, ◌++◌, length, codes, decimal}
use Rattle.rz_num.specs.Texts.{hex_text}
use Rattle.rz_isa.specs.Nodes.{Decoder}
use Rattle.rz_elf.specs.Elf.{Image}
use Rattle.rz_elf.specs.Loaded.{ElfFile}
use Rattle.rz_machine.specs.Added.{added, node_count, site_count, site_edge_count}
use Rattle.rz_machine.specs.Kept.{Kept, sorted_edges}
use Rattle.rz_elf.specs.Executable.{executable_size}
use Rattle.rz_report.specs.Stubs.{stub_count}

-- where the added range begins, and how many edges, instructions, site edges and sites are kept
abbrev pub report_text : ℕ → ℕ → ℕ → ℕ → ℕ → List ℕ
report_text added edges instructions site_edges sites =
    codes "{\"added\":\"" ++ (hex_text added
    ++ (codes "\",\"edges\":" ++ (decimal edges
    ++ (codes ",\"instructions\":" ++ (decimal instructions
    ++ (codes ",\"site_edges\":" ++ (decimal site_edges
    ++ (codes ",\"sites\":" ++ (decimal sites ++ codes "}\n")))))))))

-- the report of a debloating, for what is kept of an image; it goes by the members of the sets alone
abbrev pub debloat_report_of : Decoder → Image → Kept → List ℕ
debloat_report_of dec image kept =
    report_text (added dec image kept).scratch (length (sorted_edges kept.edges)) (node_count kept)
    (site_edge_count dec image kept) (site_count dec image kept)

-- the executable bytes in memory of an old and a new file, the instructions that the new one keeps, and the lengths of both
abbrev pub pair_text : ℕ → ℕ → ℕ → ℕ → ℕ → List ℕ
pair_text old_executable new_executable instructions old_length new_length =
    codes "{\"executable\":[" ++ (decimal old_executable
    ++ (codes "," ++ (decimal new_executable
    ++ (codes "],\"instructions\":" ++ (decimal instructions
    ++ (codes ",\"length\":[" ++ (decimal old_length
    ++ (codes "," ++ (decimal new_length ++ codes "]}\n")))))))))

-- the report of two files; a new file has a stub for each instruction that it keeps
abbrev pub pair_report_of : ElfFile → ElfFile → List ℕ
pair_report_of old new =
    pair_text (executable_size old) (executable_size new) (stub_count new) (length old.bytes) (length new.bytes)
