use Rattle.std.proofs.Common.{◌∙◌, ap}
use Rattle.rz_syms.specs.Listing.{listing}
use Rattle.rz_syms.proofs.Counts.{each_node_is_listed_once, listing_permuted}
use Rattle.rz_syms.proofs.kept.listing.Goals as goal

pub returns-clause-text : goal.returns-clause-text
returns-clause-text c =
    c.in_ok-text.ensures.text ∙ ap (listing c.args.symbols.now) c.as_slice.ensures.value ∙ listing_permuted c.args.symbols.now c.args.kept.now.nodes c.in_ok-nodes.nodes c.in_ok-nodes.ensures.same

pub returns-clause-once : goal.returns-clause-once
returns-clause-once c = each_node_is_listed_once c.args.symbols.now c.args.kept.now.nodes c.in_ok-text.ensures.apart
