-- Worked trace files: bad lines, and the nodes and edges of one that is read.
use Rattle.std.proofs.Common.{◌≡◌, ℕ, List, [], ◌∷◌, Some, None, refl}
use Rattle.std.specs.Prelude.{codes}
use Rattle.rz_text.specs.Number.{hexadecimal}
use Rattle.rz_trace.specs.declared.error.TraceFault.TheVariants.{BadLine}
use Rattle.rz_trace.specs.Grammar.{entry_of}
use Rattle.std.specs.Fmt.{digits}
use Rattle.rz_aset.specs.Sorted.{sorted, sorted_edges}
use Rattle.rz_trace.specs.Printed.{printed, text_of}
use Rattle.rz_trace.specs.Fault.{fault_of}
use Rattle.rz_trace.specs.Value.{file_of}

doubled_node : fault_of (codes "razor-trace 1\nn 0x5\nn 0x5\nend\n") ≡ Some (BadLine 3)
unfolding entry_of hexadecimal
doubled_node = refl

end_missing : fault_of (codes "razor-trace 1") ≡ Some (BadLine 2)
unfolding entry_of
end_missing = refl

other_version : fault_of (codes "razor-trace 3") ≡ Some (BadLine 1)
unfolding entry_of
other_version = refl

other_profile : fault_of (codes "razor-trace 2\nprofile 3\nend\n") ≡ Some (BadLine 2)
unfolding entry_of
other_profile = refl

profile_missing : fault_of (codes "razor-trace 2\nend\n") ≡ Some (BadLine 2)
unfolding entry_of
profile_missing = refl

profile_in_version_1 : fault_of (codes "razor-trace 1\nprofile 1\nend\n") ≡ Some (BadLine 2)
unfolding entry_of
profile_in_version_1 = refl

two_profiles : fault_of (codes "razor-trace 2\nprofile 2\nprofile 2\nend\n") ≡ Some (BadLine 3)
unfolding entry_of
two_profiles = refl

-- a file of version 1 is one of profile 1
first_version : file_of (codes "razor-trace 1\nn 0x5\nend\n") ≡ record { profile = 1; rec = record { nodes = 5 ∷ []; edges = [] } }
unfolding entry_of hexadecimal
first_version = refl

-- as a file of version 2 may be
profile_1_named : file_of (codes "razor-trace 2\nprofile 1\nend\n") ≡ record { profile = 1; rec = record { nodes = []; edges = [] } }
unfolding entry_of
profile_1_named = refl

nodes : List ℕ
nodes = 0x401000 ∷ 0x401005 ∷ 0x401007 ∷ 0x40100c ∷ []

edges : List (ℕ × ℕ)
edges = (0x401000, 0x401005) ∷ (0x401005, 0x401007) ∷ (0x401007, 0x40100c) ∷ []

text : List ℕ
text = codes "razor-trace 2\nprofile 2\nn 0x401000\nn 0x401005\nn 0x401007\nn 0x40100c\ne 0x401000 0x401005\ne 0x401005 0x401007\ne 0x401007 0x40100c\nend\n"

what_is_printed : text_of nodes edges ≡ text
unfolding digits nodes edges text
what_is_printed = refl

-- the order in which they were seen doesn't count
what_is_sorted : printed (record { nodes = 0x40100c ∷ 0x401000 ∷ 0x401007 ∷ 0x401005 ∷ []; edges = (0x401007, 0x40100c) ∷ (0x401000, 0x401005) ∷ (0x401005, 0x401007) ∷ [] }) ≡ text
unfolding digits sorted sorted_edges text
what_is_sorted = refl

no_fault : fault_of text ≡ None
unfolding entry_of hexadecimal text
no_fault = refl

what_is_read : file_of text ≡ record { profile = 2; rec = record { nodes = nodes; edges = edges } }
unfolding entry_of hexadecimal text nodes edges
what_is_read = refl
