-- The order of the lines: the first line, in version 2 the profile, nodes in ascending order, edges in ascending order, the last line.
use Rattle.std.specs.Prelude.{ℕ, ◌&&◌, ◌||◌, ◌==◌, Bool, true, false, nat_lt, Option, Some, None}
use Rattle.rz_aset.specs.declared.kept.Record.{Record}
use Rattle.rz_aset.specs.Sets.{has}
use Rattle.rz_trace.specs.declared.entry.Entry.{Entry}
use Rattle.rz_trace.specs.declared.entry.Entry.TheVariants.{Begin, Profile, Node, Edge, End}

-- no line stands before
abbrev pub is_first : Option Entry → Bool
is_first None = true
is_first (Some last) = false

-- the profile stands behind the first line of version 2
abbrev pub profile_follows : Option Entry → Bool
profile_follows (Some (Begin version)) = version == 2
profile_follows _ = false

-- a node stands behind the first line of version 1, the profile or a lower node
abbrev pub node_follows : Option Entry → ℕ → Bool
node_follows (Some (Begin version)) at = version == 1
node_follows (Some (Profile profile)) at = true
node_follows (Some (Node before)) at = nat_lt before at
node_follows _ at = false

-- an edge stands behind the first line of version 1, the profile, a node or a lower edge
abbrev pub edge_follows : Option Entry → ℕ → ℕ → Bool
edge_follows (Some (Begin version)) from to = version == 1
edge_follows (Some (Profile profile)) from to = true
edge_follows (Some (Node before)) from to = true
edge_follows (Some (Edge first second)) from to = nat_lt first from || first == from && nat_lt second to
edge_follows _ from to = false

-- the last line stands behind any other, but not behind the first of version 2
abbrev pub end_follows : Option Entry → Bool
end_follows None = false
end_follows (Some (Begin version)) = version == 1
end_follows (Some End) = false
end_follows (Some last) = true

abbrev pub is_end : Option Entry → Bool
is_end (Some End) = true
is_end _ = false

-- whether a line may stand behind the last one, where these are the nodes and edges before it: an edge's ends are among the nodes
abbrev pub fits : Record → Option Entry → Entry → Bool
fits kept last (Begin version) = is_first last
fits kept last (Profile profile) = profile_follows last
fits kept last (Node at) = node_follows last at
fits kept last (Edge from to) = edge_follows last from to && has kept.nodes from && has kept.nodes to
fits kept last End = end_follows last
