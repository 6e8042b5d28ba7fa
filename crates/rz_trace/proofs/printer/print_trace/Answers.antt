use Rattle.std.proofs.Common.{◌≡◌, ◌∙◌, ap₂, refl}
use Rattle.rz_trace.specs.Printed.{text_of}
use Rattle.rz_trace.proofs.PrintLaws.{text_of-parts}
use Rattle.rz_trace.proofs.RoundTrip.{read_back}
use Rattle.rz_trace.proofs.printer.print_trace.Goals as goal

pub returns : goal.returns
returns c =
    let nodes = c.in_ok-nodes.nodes in
    let edges = c.in_ok-edges.edges in
    let value : c.push_all-2.new.self ≡ text_of nodes edges = rw (text_of-parts nodes edges)
    (rw (c.in_ok-push_all-2.ensures.ok, c.in_ok-print_edges.ensures, c.in_ok-print_nodes.ensures, c.in_ok-push_all.ensures.ok, c.new-text.ensures, c.as_slice-3.ensures.value, c.as_slice-4.ensures) refl) in
    record {
      text = value ∙ ap₂ text_of c.in_ok-nodes.ensures.value c.in_ok-edges.ensures.value;
      read_back = read_back c.args.kept.now _ nodes edges value c.in_ok-nodes.ensures.ascending c.in_ok-edges.ensures.ascending c.in_ok-nodes.ensures.same c.in_ok-edges.ensures.same
          c.as_slice.ensures.distinct c.as_slice-2.ensures.distinct c.as_slice-3.ensures.words;
    }
