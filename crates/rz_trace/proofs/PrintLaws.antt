-- The text of a record by its parts.
use Rattle.std.proofs.Common.{◌≡◌, ℕ, List, [], ◌∷◌, ◌++◌, map, append_assoc, refl, sym, ap, ◌∙◌}
use Rattle.std.specs.Prelude.{flat_map, codes}
use Rattle.std.proofs.lemmas.List.Concat.{flat_map-append}
use Rattle.rz_trace.specs.declared.entry.Entry.TheVariants.{Node, Edge, End}
use Rattle.rz_trace.specs.Printed.{ended_line, text_of}
use Rattle.rz_trace.specs.Calls.Printing.{edge_lines, node_lines}

flat_map-map : {X Y : Type 0} (f : Y → List ℕ) (g : X → Y) (xs : List X) → flat_map f (map g xs) ≡ flat_map (λ x. f (g x)) xs
flat_map-map f g [] = refl
flat_map-map f g (x ∷ xs) = ap (λ (ys : List ℕ). f (g x) ++ ys) (flat_map-map f g xs)

pub text_of-parts : (nodes : List ℕ) (edges : List (ℕ × ℕ)) → text_of nodes edges ≡ ((codes "razor-trace 2\nprofile 2\n" ++ node_lines nodes) ++ edge_lines edges) ++ codes "end\n"
text_of-parts nodes edges =
    let ns = map (λ (at : ℕ). Node at) nodes in
    let es = map (λ (edge : ℕ × ℕ). Edge edge.0 edge.1) edges in
    let first = flat_map-append ended_line ns (es ++ End ∷ []) in
    let second = flat_map-append ended_line es (End ∷ []) in
    let a = flat_map-map ended_line (λ (at : ℕ). Node at) nodes in
    let b = flat_map-map ended_line (λ (edge : ℕ × ℕ). Edge edge.0 edge.1) edges in
    ap (λ (t : List ℕ). codes "razor-trace 2\nprofile 2\n" ++ t) (first ∙ rw (second, a, b) refl)
    ∙ sym (append_assoc (codes "razor-trace 2\nprofile 2\n" ++ node_lines nodes) (edge_lines edges) (codes "end\n") ∙ append_assoc (codes "razor-trace 2\nprofile 2\n") (node_lines nodes) (edge_lines edges ++ codes "end\n"))
