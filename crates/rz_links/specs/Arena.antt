-- What a contract sees of an arena.
use Rattle.std.specs.Prelude.{◌-◌, ℕ, List, [], ◌∷◌, ◌++◌, length, map, replicate, refl}
use Rattle.std.specs.Coded.{Coded, code_by, coded×, coded_ℕ, coded_list}
use Rattle.rz_links.specs.declared.arena.Family.{Family}
use Rattle.rz_links.specs.declared.arena.Family.TheVariants.{Out, In}
use Rattle.rz_links.specs.Lists.{after, with_back, without}

-- the lists of nodes of each family, the value of each node from 0 on, and how many more nodes take no memory
pub record Arena (T : Type 0) : Type 0 where
  pub outs : List (List ℕ)
  pub ins : List (List ℕ)
  pub values : List T
  pub spare : ℕ

abbrev pub arena_code : {T : Type 0} → Coded T → Coded (Arena T)
arena_code {T} code =
    code_by
    (List (List ℕ) × (List (List ℕ) × (List T × ℕ)))
    (coded× (coded_list (coded_list coded_ℕ)) (coded× (coded_list (coded_list coded_ℕ)) (coded× (coded_list code) coded_ℕ)))
    (λ a. (a.outs, (a.ins, (a.values, a.spare))))
    (λ p. record { outs = p.0; ins = p.1.0; values = p.1.1.0; spare = p.1.1.1 })
    (λ _. refl)

module _ {T : Type 0} where
  -- so many empty lists and no nodes
  abbrev pub empty_arena : ℕ → ℕ → Arena T
  empty_arena outs ins = record { outs = replicate outs []; ins = replicate ins []; values = []; spare = 0 }

  -- the lists of a family
  abbrev pub lists_of : Arena T → Family → List (List ℕ)
  lists_of a Out = a.outs
  lists_of a In = a.ins

  -- with other lists in a family
  abbrev pub with_lists : Arena T → Family → List (List ℕ) → Arena T
  with_lists a Out lists = record a { outs = lists }
  with_lists a In lists = record a { ins = lists }

  -- with so many empty lists more in each family
  abbrev pub with_empty_lists : Arena T → ℕ → ℕ → Arena T
  with_empty_lists a outs ins = record a { outs = a.outs ++ replicate outs []; ins = a.ins ++ replicate ins [] }

  -- with a new node at the back of a list of each family
  abbrev pub with_node_at_back : Arena T → T → ℕ → ℕ → Arena T
  with_node_at_back a value out_list in_list =
      let new = length a.values in
      record { outs = with_back a.outs out_list new; ins = with_back a.ins in_list new; values = a.values ++ value ∷ []; spare = a.spare - 1 }

  -- with a new node just after another in its Out list, and at the back of an In list
  abbrev pub with_node_after : Arena T → T → ℕ → ℕ → Arena T
  with_node_after a value node in_list =
      let new = length a.values in
      record { outs = map (after node new) a.outs; ins = with_back a.ins in_list new; values = a.values ++ value ∷ []; spare = a.spare - 1 }

  -- with a node moved to the back of a list of a family
  abbrev pub with_node_moved : Arena T → ℕ → Family → ℕ → Arena T
  with_node_moved a node f list = with_lists a f (with_back (map (without node) (lists_of a f)) list node)

  -- without a node in any list
  abbrev pub without_node : Arena T → ℕ → Arena T
  without_node a node = record a { outs = map (without node) a.outs; ins = map (without node) a.ins }
