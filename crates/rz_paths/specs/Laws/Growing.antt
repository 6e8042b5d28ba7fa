-- What a level keeps grows with the calls that it steps over, and with its nodes.
use Rattle.std.proofs.Common.{◌≡◌, ℕ, Bool, true, false, ◌&&◌, ◌==◌, cond, inl, inr, ⊎_elim, List, [], ◌∷◌, Option, Some, None, refl, subst}
use Rattle.std.specs.List.{list_any}
use Rattle.rz_isa.specs.declared.instruction.Kind.{Kind}
use Rattle.rz_isa.specs.declared.instruction.Kind.TheVariants.{Call, CallInd, Ret, Plain, Jcc, Jrcxz, Jmp, JmpInd, Syscall, Halt}
use Rattle.rz_aset.specs.Sets.{has}
use Rattle.rz_aset.specs.declared.kept.Record.{Record}
use Rattle.rz_classes.specs.declared.listed.Function.{Function}
use Rattle.rz_paths.specs.declared.node.Node.{Node}
use Rattle.rz_paths.specs.declared.level.Level.{Level}
use Rattle.rz_paths.specs.declared.level.Level.TheVariants.{Exact, Zcode, Zcall, Zlib, Zfunc}
use Rattle.rz_paths.specs.Sets.{In, Edges, joins, Reached, begin, go}
use Rattle.rz_paths.specs.Program.{Program, direct_at, is_ret_at}
use Rattle.rz_paths.specs.Walks.{is_passing, onward, onward_of, onward_at, ends, GoesOn, OnWalk}
use Rattle.rz_paths.specs.Bodies.{kept, walk}
use Rattle.rz_paths.specs.Returns.{is_first, is_call_before, step_by, step_of, steps_inside, returns_to, IsKept}
use Rattle.rz_paths.specs.Levels.{IsNodeAt, IsEdgeAt, IsWithin, Keeps, KeepsOver, before, passes}
use Rattle.rz_paths.specs.Laws.Plausible.{recorded_kept}
use Rattle.rz_paths.specs.Laws.Passing.{zlib_zfunc}
use Rattle.rz_paths.specs.Laws.Booleans.{or_cases, or_left, or_right, and_left, and_right, and_both, never, any_some, some_any}

module _ (program : Program) (passing more : ℕ → Bool) (grows : (t : ℕ) → passing t ≡ true → more t ≡ true) (recorded : List ℕ) where
  passing_grows : (o : Option ℕ) → is_passing passing o ≡ true → is_passing more o ≡ true
  passing_grows None h = h
  passing_grows (Some t) h = grows t h

  onward_grows : (a b : ℕ) → In (onward_at program passing a) b → In (onward_at program more a) b
  onward_grows a b = by (program a)
    where
      over : (next : ℕ) (p q : Bool) → (p ≡ true → q ≡ true) → In (cond p (next ∷ []) []) b → In (cond q (next ∷ []) []) b
      over next true true f h = h
      over next true false f h = cc (f refl)
      over next false q f h = never h

      at : (k : Kind) (t : Option ℕ) (next : ℕ) → In (onward passing k t next) b → In (onward more k t next) b
      at Call t next h = over next (is_passing passing t) (is_passing more t) (passing_grows t) h
      at Plain t next h = h
      at Jcc t next h = h
      at Jrcxz t next h = h
      at Jmp t next h = h
      at CallInd t next h = h
      at JmpInd t next h = h
      at Ret t next h = h
      at Syscall t next h = h
      at Halt t next h = h

      by : (o : Option Node) → In (onward_of passing o) b → In (onward_of more o) b
      by None h = h
      by (Some n) h = at n.kind n.target n.next h

  ends_grow : (a : ℕ) → ends program passing recorded a ≡ true → ends program more recorded a ≡ true
  ends_grow a h = ⊎_elim
      (λ r. or_left (is_ret_at program a) (list_any (has recorded) (onward_at program more a)) r)
      (λ l. let some = any_some (has recorded) (onward_at program passing a) l in
      or_right (is_ret_at program a) (list_any (has recorded) (onward_at program more a)) (some_any (has recorded) (onward_at program more a) some.0 (onward_grows a some.0 some.1) some.2))
      (or_cases (is_ret_at program a) (list_any (has recorded) (onward_at program passing a)) h)

  goes_grow : (walk : List ℕ) → GoesOn program passing recorded walk → GoesOn program more recorded walk
  goes_grow [] g = g
  goes_grow (a ∷ []) g = (g.0, ends_grow a g.1)
  goes_grow (a ∷ b ∷ rest) g = (g.0, onward_grows a b g.1, goes_grow (b ∷ rest) g.2)

  -- a node of a walk is one of a walk that may step over more calls
  pub walk_grows : (a : ℕ) → OnWalk program passing recorded a → OnWalk program more recorded a
  walk_grows a ([], w, i) = absurd w
  walk_grows a (x ∷ rest, w, i) = (x ∷ rest, (w.0, goes_grow (x ∷ rest) w.1), i)

module _ (program : Program) (recorded : Edges) (few many : List ℕ) (grows : (a : ℕ) → In few a → In many a) where
  first_grows : (a b : ℕ) → is_first program recorded few a b ≡ true → is_first program recorded many a b ≡ true
  first_grows a b h = ⊎_elim
      (λ r. or_left (joins recorded a b) (has many a && (has (direct_at program a) b && has many b)) r)
      (λ s. let rest = and_right (has few a) (has (direct_at program a) b && has few b) s in
      or_right (joins recorded a b) (has many a && (has (direct_at program a) b && has many b))
      (and_both (has many a) (has (direct_at program a) b && has many b) (grows a (and_left (has few a) (has (direct_at program a) b && has few b) s))
      (and_both (has (direct_at program a) b) (has many b) (and_left (has (direct_at program a) b) (has few b) rest) (grows b (and_right (has (direct_at program a) b) (has few b) rest)))))
      (or_cases (joins recorded a b) (has few a && (has (direct_at program a) b && has few b)) h)

  steps_grow : (a b : ℕ) → steps_inside program few (is_first program recorded few) a b ≡ true → steps_inside program many (is_first program recorded many) a b ≡ true
  steps_grow a b = by (program a)
    where
      at : (k : Kind) (next : ℕ) → step_by k next (has few b) (is_first program recorded few a b) b ≡ true → step_by k next (has many b) (is_first program recorded many a b) b ≡ true
      at Call next h = and_both (has many b) (next == b) (grows b (and_left (has few b) (next == b) h)) (and_right (has few b) (next == b) h)
      at CallInd next h = and_both (has many b) (next == b) (grows b (and_left (has few b) (next == b) h)) (and_right (has few b) (next == b) h)
      at Ret next h = h
      at Plain next h = first_grows a b h
      at Jcc next h = first_grows a b h
      at Jrcxz next h = first_grows a b h
      at Jmp next h = first_grows a b h
      at JmpInd next h = first_grows a b h
      at Syscall next h = first_grows a b h
      at Halt next h = first_grows a b h

      by : (o : Option Node) → step_of o (has few b) (is_first program recorded few a b) b ≡ true → step_of o (has many b) (is_first program recorded many a b) b ≡ true
      by None h = h
      by (Some n) h = at n.kind n.next h

  reach_grows : (f x : ℕ) → Reached (In (f ∷ [])) (steps_inside program few (is_first program recorded few)) x → Reached (In (f ∷ [])) (steps_inside program many (is_first program recorded many)) x
  reach_grows f x (begin s) = begin s
  reach_grows f x (go {a} r l) = go (reach_grows f a r) (steps_grow a x l)

  -- more nodes, more edges
  pub edges_grow : (a b : ℕ) → IsKept program recorded few a b → IsKept program recorded many a b
  edges_grow a b k = ⊎_elim
      (λ f. inl (first_grows a b f))
      (λ r. inr (r.0, back r.0 r.1, record { ret = r.2.ret; kept = grows a r.2.kept; reached = reach_grows r.0 a r.2.reached }))
      k
    where
      back : (f : ℕ) → returns_to program few (is_first program recorded few) f b ≡ true → returns_to program many (is_first program recorded many) f b ≡ true
      back f h =
          let some = any_some (λ c. is_call_before program c b && is_first program recorded few c f) few (and_right (has few b) (list_any (λ c. is_call_before program c b && is_first program recorded few c f) few) h) in
          and_both (has many b) (list_any (λ c. is_call_before program c b && is_first program recorded many c f) many)
          (grows b (and_left (has few b) (list_any (λ c. is_call_before program c b && is_first program recorded few c f) few) h))
          (some_any (λ c. is_call_before program c b && is_first program recorded many c f) many some.0 (grows some.0 some.1)
          (and_both (is_call_before program some.0 b) (is_first program recorded many some.0 f)
          (and_left (is_call_before program some.0 b) (is_first program recorded few some.0 f) some.2)
          (first_grows some.0 f (and_right (is_call_before program some.0 b) (is_first program recorded few some.0 f) some.2))))

-- a level keeps the nodes that the level before keeps
node_grows : (level : Level) (program : Program) (functions : List Function) (recorded : List ℕ) (a : ℕ) →
    IsNodeAt (before level) program (passes (before level) functions recorded) functions recorded a → IsNodeAt level program (passes level functions recorded) functions recorded a
node_grows Exact program functions recorded a i = i
node_grows Zcode program functions recorded a i = i
node_grows Zcall program functions recorded a i = inl i
node_grows Zlib program functions recorded a i = ⊎_elim inl
    (λ w. inr (walk_grows program (passes Zcall functions recorded) (passes Zlib functions recorded) (λ t h. never h) recorded a w)) i
node_grows Zfunc program functions recorded a i = ⊎_elim (λ r. kept r)
    (λ w. walk (walk_grows program (passes Zlib functions recorded) (passes Zfunc functions recorded) (zlib_zfunc functions recorded) recorded a w)) i

edge_grows : (level : Level) (program : Program) (recorded : Edges) (few many : List ℕ) → ((a : ℕ) → In few a → In many a) → (a b : ℕ) →
    IsEdgeAt (before level) program recorded few a b → IsEdgeAt level program recorded many a b
edge_grows Exact program recorded few many grows a b h = h
edge_grows Zcode program recorded few many grows a b h = inl (or_left (joins recorded a b) (has many a && (has (direct_at program a) b && has many b)) h)
edge_grows Zcall program recorded few many grows a b h = edges_grow program recorded few many grows a b h
edge_grows Zlib program recorded few many grows a b h = edges_grow program recorded few many grows a b h
edge_grows Zfunc program recorded few many grows a b h = edges_grow program recorded few many grows a b h

-- and its edges
pub levels_grow : (level : Level) (program : Program) (functions : List Function) (recorded few many : Record) →
    Keeps (before level) program functions recorded few → Keeps level program functions recorded many → IsWithin few many
levels_grow level program functions recorded few many f m = record {
  nodes = more;
  edges = λ a b h. (m.edges a b).1 (edge_grows level program recorded.edges few.nodes many.nodes more a b ((f.edges a b).0 h));
}
  where
    more : (a : ℕ) → In few.nodes a → In many.nodes a
    more a i = (m.nodes a).1 (node_grows level program functions recorded.nodes a ((f.nodes a).0 i))

-- a recorded edge is kept
recorded_edge : (level : Level) (program : Program) (recorded : Edges) (nodes : List ℕ) (a b : ℕ) → joins recorded a b ≡ true → IsEdgeAt level program recorded nodes a b
recorded_edge Exact program recorded nodes a b h = h
recorded_edge Zcode program recorded nodes a b h = inl (or_left (joins recorded a b) (has nodes a && (has (direct_at program a) b && has nodes b)) h)
recorded_edge Zcall program recorded nodes a b h = inl (or_left (joins recorded a b) (has nodes a && (has (direct_at program a) b && has nodes b)) h)
recorded_edge Zlib program recorded nodes a b h = inl (or_left (joins recorded a b) (has nodes a && (has (direct_at program a) b && has nodes b)) h)
recorded_edge Zfunc program recorded nodes a b h = inl (or_left (joins recorded a b) (has nodes a && (has (direct_at program a) b && has nodes b)) h)

pub recorded_within : (level : Level) (program : Program) (functions : List Function) (recorded held : Record) →
    Keeps level program functions recorded held → IsWithin recorded held
recorded_within level program functions recorded held k = record {
  nodes = λ a i. (k.nodes a).1 (recorded_kept level program (passes level functions recorded.nodes) functions recorded.nodes a i);
  edges = λ a b h. (k.edges a b).1 (recorded_edge level program recorded.edges held.nodes a b h);
}

-- calls of equal tests are stepped over alike
pub keeps_same : (level : Level) (program : Program) (functions : List Function) (recorded held : Record) (passing : ℕ → Bool) →
    ((t : ℕ) → passing t ≡ passes level functions recorded.nodes t) →
    KeepsOver level program passing functions recorded held → Keeps level program functions recorded held
keeps_same level program functions recorded held passing tests k = subst P same k
  where
    same : passing ≡ passes level functions recorded.nodes
    same = λ i t. tests t i

    P : (ℕ → Bool) → Type 0
    P test = KeepsOver level program test functions recorded held
