-- What a level keeps has what was recorded, and is as plausible.
use Rattle.std.proofs.Common.{◌≡◌, ℕ, Bool, true, false, ◌&&◌, ◌⊎◌, inl, inr, ⊎_elim, List, [], ◌∷◌, Option, Some, None, is_some, not, refl, ap, sym, ◌∙◌}
use Rattle.std.specs.Prelude.{◌↔◌}
use Rattle.rz_isa.specs.declared.decoding.Decoded.{Decoded}
use Rattle.rz_isa.specs.declared.decoding.Decoded.TheVariants as decodeds
use Rattle.rz_isa.specs.declared.instruction.Kind.{Kind}
use Rattle.rz_isa.specs.declared.instruction.Kind.TheVariants.{Ret}
use Rattle.rz_isa.specs.declared.rows.Row.{Row}
use Rattle.rz_isa.specs.Decoded.{decoded}
use Rattle.rz_isa.specs.Nodes.{IsNode, is_site, is_site_at, spelled_at, direct_at as successors_at}
use Rattle.rz_aset.specs.Sets.{has}
use Rattle.rz_aset.specs.declared.kept.Record.{Record}
use Rattle.rz_machine.specs.Kept.{Kept}
use Rattle.rz_machine.specs.Nodes.{StandsIn, IsPlausible}
use Rattle.rz_machine.specs.Traced.{kept_in}
use Rattle.rz_classes.specs.declared.listed.Function.{Function}
use Rattle.rz_paths.specs.declared.node.Node.{Node}
use Rattle.rz_paths.specs.declared.level.Level.{Level}
use Rattle.rz_paths.specs.declared.level.Level.TheVariants.{Exact, Zcode, Zcall, Zlib, Zfunc}
use Rattle.rz_paths.specs.Sets.{In, Edges, joins, begin, go}
use Rattle.rz_paths.specs.Program.{Program, code_of, node_in, program_of, direct_of, direct_at, ret_of, is_ret}
use Rattle.rz_paths.specs.Walks.{is_outside, GoesOn, OnWalk}
use Rattle.rz_paths.specs.Bodies.{is_inner_at, inner_of, inner_next_at, is_in, function_at, InBody, InFunctions, kept, walk, body}
use Rattle.rz_paths.specs.Returns.{is_first, IsKept, IsReturn}
use Rattle.rz_paths.specs.Levels.{IsNodeAt, IsEdgeAt, KeepsOver}
use Rattle.rz_paths.specs.Calls.Sound.{site_of, IsSound}
use Rattle.rz_paths.specs.Calls.Inside.{IsJoined}
use Rattle.rz_paths.specs.Laws.Booleans.{or_cases, and_left, and_right, never, In-cons}
use Rattle.rz_paths.specs.Laws.Listing.{program_is}

-- what stands at an address, by the bytes and as a node
module _ (rows : List Row) (bytes : List ℕ) where
  node_some : (a : ℕ) → IsNode (decoded rows) (code_of bytes) a → is_some (program_of rows bytes a) ≡ true
  node_some a n = rw (program_is, n.spelled) refl

  some_node : (a : ℕ) → is_some (program_of rows bytes a) ≡ true → IsNode (decoded rows) (code_of bytes) a
  some_node a h = by (spelled_at (decoded rows) (code_of bytes) a) refl (rw program_is at h)
    where
      by : (d : Decoded) → spelled_at (decoded rows) (code_of bytes) a ≡ d → is_some (node_in d a) ≡ true → IsNode (decoded rows) (code_of bytes) a
      by (decodeds.Insn x len) e h = record { insn = x; len = len; spelled = e }
      by decodeds.Short e h = never h
      by decodeds.Unknown e h = never h

  site_same : (a : ℕ) → is_site_at (decoded rows) (code_of bytes) a ≡ site_of (program_of rows bytes a)
  site_same a = rw program_is (by (spelled_at (decoded rows) (code_of bytes) a) refl)
    where
      by : (d : Decoded) → spelled_at (decoded rows) (code_of bytes) a ≡ d → is_site_at (decoded rows) (code_of bytes) a ≡ site_of (node_in d a)
      by (decodeds.Insn x len) e = rw e refl
      by decodeds.Short e = rw e refl
      by decodeds.Unknown e = rw e refl

  direct_same : (a : ℕ) → successors_at (decoded rows) (code_of bytes) a ≡ direct_at (program_of rows bytes) a
  direct_same a = rw program_is (by (spelled_at (decoded rows) (code_of bytes) a) refl)
    where
      by : (d : Decoded) → spelled_at (decoded rows) (code_of bytes) a ≡ d → successors_at (decoded rows) (code_of bytes) a ≡ direct_of (node_in d a)
      by (decodeds.Insn x len) e = rw e refl
      by decodeds.Short e = rw e refl
      by decodeds.Unknown e = rw e refl

  pub stands_sound : (held : Kept) → StandsIn (decoded rows) (code_of bytes) held → IsSound (program_of rows bytes) held.nodes held.edges
  stands_sound held s = record {
    decodes = λ a i. node_some a (s.nodes a i);
    sources = s.sources;
    ends = s.ends;
    direct = λ a b h e. ap (λ list. has list b) (sym (direct_same a)) ∙ s.direct a b h (site_same a ∙ e);
  }

  pub sound_stands : (held : Kept) → IsSound (program_of rows bytes) held.nodes held.edges → StandsIn (decoded rows) (code_of bytes) held
  sound_stands held s = record {
    nodes = λ a i. some_node a (s.decodes a i);
    sources = s.sources;
    ends = s.ends;
    direct = λ a b h e. ap (λ list. has list b) (direct_same a) ∙ s.direct a b h (sym (site_same a) ∙ e);
  }

module _ (program : Program) (passing : ℕ → Bool) (recorded : List ℕ) where
  walk_outside : (walk : List ℕ) → GoesOn program passing recorded walk → (a : ℕ) → In walk a → is_outside program recorded a ≡ true
  walk_outside [] g a i = absurd g
  walk_outside (x ∷ []) g a i = ⊎_elim (λ e. ap (is_outside program recorded) e ∙ g.0) (λ n. never n) (In-cons x [] a i)
  walk_outside (x ∷ y ∷ rest) g a i = ⊎_elim
      (λ e. ap (is_outside program recorded) e ∙ g.0)
      (λ r. walk_outside (y ∷ rest) g.2 a r)
      (In-cons x (y ∷ rest) a i)

  on_walk_outside : (a : ℕ) → OnWalk program passing recorded a → is_outside program recorded a ≡ true
  on_walk_outside a ([], w, i) = absurd w
  on_walk_outside a (x ∷ rest, w, i) = walk_outside (x ∷ rest) w.1 a i

ret_site : (o : Option Node) → ret_of o ≡ true → site_of o ≡ true
ret_site None h = h
ret_site (Some n) h = by n.kind h
  where
    by : (k : Kind) → is_ret k ≡ true → is_site k ≡ true
    by Ret h = refl
    by _ h = cc

-- what was recorded is kept
pub recorded_kept : (level : Level) (program : Program) (passing : ℕ → Bool) (functions : List Function) (recorded : List ℕ) (a : ℕ) → In recorded a → IsNodeAt level program passing functions recorded a
recorded_kept Exact program passing functions recorded a i = i
recorded_kept Zcode program passing functions recorded a i = i
recorded_kept Zcall program passing functions recorded a i = inl i
recorded_kept Zlib program passing functions recorded a i = inl i
recorded_kept Zfunc program passing functions recorded a i = kept i

inner_some : (passing : ℕ → Bool) (o : Option Node) → inner_of passing o ≡ true → is_some o ≡ true
inner_some passing None h = h
inner_some passing (Some n) h = refl

body_inner : (program : Program) (passing : ℕ → Bool) (functions : List Function) (f a : ℕ) → InBody program passing functions f a → is_inner_at program passing a ≡ true
body_inner program passing functions f a (begin s) = s.1
body_inner program passing functions f b (go {a} r l) =
    and_left (is_inner_at program passing b) (is_in (function_at functions f) b)
    (and_right (has (inner_next_at program a) b) (is_inner_at program passing b && is_in (function_at functions f) b) l)

module _ (level : Level) (program : Program) (passing : ℕ → Bool) (functions : List Function) (recorded : List ℕ) (edges : Edges) (p : IsSound program recorded edges) where
  node_decodes : (a : ℕ) → IsNodeAt level program passing functions recorded a → is_some (program a) ≡ true
  node_decodes a = by level
    where
      walked : In recorded a ⊎ OnWalk program passing recorded a → is_some (program a) ≡ true
      walked s = ⊎_elim (p.decodes a) (λ w. and_left (is_some (program a)) (not (has recorded a)) (on_walk_outside program passing recorded a w)) s

      brought : InFunctions program passing functions recorded a → is_some (program a) ≡ true
      brought (kept i) = p.decodes a i
      brought (walk w) = walked (inr w)
      brought (body {c} {f} k h i) = inner_some passing (program a) (body_inner program passing functions f a i)

      by : (l : Level) → IsNodeAt l program passing functions recorded a → is_some (program a) ≡ true
      by Exact i = p.decodes a i
      by Zcode i = p.decodes a i
      by Zcall i = walked i
      by Zlib i = walked i
      by Zfunc i = brought i

  pub sound_kept : (nodes : List ℕ) (set : Edges) →
      ((a : ℕ) → In nodes a ↔ IsNodeAt level program passing functions recorded a) →
      ((a b : ℕ) → (joins set a b ≡ true) ↔ IsEdgeAt level program edges nodes a b) →
      IsSound program nodes set
  sound_kept nodes set is ties = record {
    decodes = λ a i. node_decodes a ((is a).0 i);
    sources = λ a b h. (found a b h).0;
    ends = λ a b h. (found a b h).1;
    direct = λ a b h. (found a b h).2;
  }
    where
      in_nodes : (a : ℕ) → In recorded a → In nodes a
      in_nodes a i = (is a).1 (recorded_kept level program passing functions recorded a i)

      old : (a b : ℕ) → joins edges a b ≡ true → In nodes a × In nodes b × (site_of (program a) ≡ false → In (direct_at program a) b)
      old a b h = (in_nodes a (p.sources a b h), in_nodes b (p.ends a b h), p.direct a b h)

      fixed : (a b : ℕ) → (has nodes a && (has (direct_at program a) b && has nodes b)) ≡ true → In nodes a × In nodes b × (site_of (program a) ≡ false → In (direct_at program a) b)
      fixed a b s =
          let rest : (has (direct_at program a) b && has nodes b) ≡ true = and_right (has nodes a) (has (direct_at program a) b && has nodes b) s in
          (and_left (has nodes a) (has (direct_at program a) b && has nodes b) s, and_right (has (direct_at program a) b) (has nodes b) rest, λ n. and_left (has (direct_at program a) b) (has nodes b) rest)

      back : (a b : ℕ) → IsReturn program nodes (is_first program edges nodes) a b → In nodes a × In nodes b × (site_of (program a) ≡ false → In (direct_at program a) b)
      back a b r = (r.2.kept, and_left (has nodes b) _ r.1, λ n. never (sym n ∙ ret_site (program a) r.2.ret))

      kept_is : (a b : ℕ) → IsKept program edges nodes a b → In nodes a × In nodes b × (site_of (program a) ≡ false → In (direct_at program a) b)
      kept_is a b k = ⊎_elim (λ f. ⊎_elim (old a b) (fixed a b) (or_cases (joins edges a b) (has nodes a && (has (direct_at program a) b && has nodes b)) f)) (back a b) k

      by : (l : Level) (a b : ℕ) → IsEdgeAt l program edges nodes a b → In nodes a × In nodes b × (site_of (program a) ≡ false → In (direct_at program a) b)
      by Exact a b h = old a b h
      by Zcode a b h = kept_is a b h
      by Zcall a b h = kept_is a b h
      by Zlib a b h = kept_is a b h
      by Zfunc a b h = kept_is a b h

      found : (a b : ℕ) → joins set a b ≡ true → In nodes a × In nodes b × (site_of (program a) ≡ false → In (direct_at program a) b)
      found a b h = by level a b ((ties a b).0 h)

pub plausible_kept : (level : Level) (rows : List Row) (bytes : List ℕ) (passing : ℕ → Bool) (functions : List Function) (entry : ℕ) (recorded held : Record) →
    IsPlausible (decoded rows) (code_of bytes) entry (kept_in recorded) →
    KeepsOver level (program_of rows bytes) passing functions recorded held →
    IsPlausible (decoded rows) (code_of bytes) entry (kept_in held)
plausible_kept level rows bytes passing functions entry recorded held p k = record {
  stands = sound_stands rows bytes (kept_in held) (sound_kept level (program_of rows bytes) passing functions recorded.nodes recorded.edges (stands_sound rows bytes (kept_in recorded) p.stands) held.nodes held.edges k.nodes k.edges);
  entry_kept = (k.nodes entry).1 (recorded_kept level (program_of rows bytes) passing functions recorded.nodes entry p.entry_kept);
}

-- recorded edges join the nodes of a set that has the recorded ones
pub sound_joined : (program : Program) (recorded nodes : List ℕ) (edges : Edges) → IsSound program recorded edges → ((a : ℕ) → In recorded a → In nodes a) → IsJoined nodes edges
sound_joined program recorded nodes edges s more = record {
  sources = λ a b h. more a (s.sources a b h);
  ends = λ a b h. more b (s.ends a b h);
}
