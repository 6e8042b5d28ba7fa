-- The items of a kept node simulate its instruction, and take what the code part has for them.
use Rattle.std.proofs.Common.{◌≡◌, ℕ, ◌+◌, ◌*◌, ◌^◌, ◌<◌, Bool, true, false, ◌||◌, ◌==◌, if◌then◌else◌, nat_le, List, [], ◌∷◌, length, filter, eqb-true, Option, Some, None, refl, sym, ap, ◌∙◌, subst, arith}
use Rattle.std.proofs.lemmas.Bool.Decides.{nat_tests}
use Rattle.rz_isa.specs.declared.rows.Row.{Row}
use Rattle.rz_isa.specs.declared.instruction.Insn.{Insn}
use Rattle.rz_isa.specs.declared.item_list.Item.{Item}
use Rattle.rz_isa.specs.Decoded.{decoded}
use Rattle.rz_isa.specs.Insn.{kind_of, rip_target_of}
use Rattle.rz_isa.specs.Nodes.{Decoder, Code, is_site, spelled_at}
use Rattle.rz_isa.specs.Sizes.{IsSized}
use Rattle.rz_isa.specs.Spells.{Spells}
use Rattle.rz_isa.specs.Targets.{NamesLow}
use Rattle.rz_elf.specs.Elf.{Image}
use Rattle.rz_machine.specs.Kept.{Kept, has_node, has_edge, sorted_edges, targets_of}
use Rattle.rz_machine.specs.Laws.Lookups.{no_digits}
use Rattle.rz_machine.specs.Laws.Targets.{targets_keep}
use Rattle.rz_machine.specs.Simulates.{Simulates}
use Rattle.rz_machine.specs.Sequence.{fragment_items, site_items, items_of}
use Rattle.rz_machine.specs.Tables.{site_steps}
use Rattle.rz_sites.specs.Site.{IsSite}
use Rattle.rz_rewrite.specs.Reach.{is_high, is_out_of_reach, first_out_of_reach}
use Rattle.rz_rewrite.specs.Calls.Table.{TableFacts}
use Rattle.rz_rewrite.proofs.SiteSums.{most_of}
use Rattle.rz_rewrite.proofs.KeptTargets.{each_member, has_target, target_count}

-- ---- what is in reach

low_of : (o : Option ℕ) (a : ℕ) → is_high o ≡ false → o ≡ Some a → a < 2 ^ 31
low_of None a h e = cc
low_of (Some b) a h e = let same : b ≡ a = cc in below b a h same
  where
    below : (b a : ℕ) → nat_le (2 ^ 31) b ≡ false → b ≡ a → a < 2 ^ 31
    below b a h e = grind (arith, nat_tests, h, e)

pub names_low : (x : Insn) → is_high (rip_target_of x) ≡ false → NamesLow x
names_low x h a e = low_of (rip_target_of x) a h e

-- where none is out of reach, each is in reach
pub in_reach : (dec : Decoder) (code : Code) (nodes : List ℕ) (b : ℕ) → first_out_of_reach dec code nodes ≡ None → has_node nodes b ≡ true → is_out_of_reach (spelled_at dec code b) ≡ false
in_reach dec code [] b h m = cc
in_reach dec code (a ∷ rest) b h m = go (is_out_of_reach (spelled_at dec code a)) refl h (a == b) refl m (in_reach dec code rest b)
  where
    go : (v : Bool) → is_out_of_reach (spelled_at dec code a) ≡ v → (if v then Some a else first_out_of_reach dec code rest) ≡ None → (e : Bool) → (a == b) ≡ e → (e || has_node rest b) ≡ true
        → (first_out_of_reach dec code rest ≡ None → has_node rest b ≡ true → is_out_of_reach (spelled_at dec code b) ≡ false) → is_out_of_reach (spelled_at dec code b) ≡ false
    go true f h e g m ih = cc
    go false f h true g m ih = subst (λ c. is_out_of_reach (spelled_at dec code c) ≡ false) (eqb-true a b g) f
    go false f h false g m ih = ih h m

module _ (rows : List Row) (facts : TableFacts rows) (x : Image) (kept : Kept) (scratch : ℕ) (page : scratch + 16 < 2 ^ 31)
    (nodes_low : (b : ℕ) → has_node kept.nodes b ≡ true → b < 2 ^ 31) (ends : (a b : ℕ) → has_edge kept.edges a b ≡ true → has_node kept.nodes b ≡ true) where
  -- of a node
  module _ (b n : ℕ) (y : Insn) (low : n < 2 ^ 31) (names : NamesLow y) (spelled : (bytes : List ℕ) × (c : ℕ) × Spells rows bytes c y)
      (few : is_site (kind_of y) ≡ true → length (targets_of kept.edges b) < 2 ^ 28) where
    abbrev items : List Item
    items = items_of scratch kept.edges b n y

    is_site_of : is_site (kind_of y) ≡ true → IsSite scratch (targets_of kept.edges b) n y
    is_site_of e = record {
      kind = e;
      next_low = low;
      few = few e;
      targets_low = each_member (λ t. t < 2 ^ 31) (targets_of kept.edges b) (λ t m. nodes_low t (ends b t (sym (has_target kept.edges b t) ∙ m)));
      scratch_low = page;
    }

    -- in at most so many steps
    abbrev pub steps : Bool → ℕ
    steps site = site_steps (if site then length (targets_of kept.edges b) else 0)

    pub items_simulate : Simulates (decoded rows) scratch (steps (is_site (kind_of y))) (targets_of kept.edges b) b n y items
    items_simulate = go (is_site (kind_of y)) refl
      where
        go : (v : Bool) → is_site (kind_of y) ≡ v → Simulates (decoded rows) scratch (steps v) (targets_of kept.edges b) b n y (if v then site_items scratch (targets_of kept.edges b) b n y else fragment_items (has_edge kept.edges b) b n y)
        go true e = facts.sites_simulate scratch (targets_of kept.edges b) b n y (is_site_of e)
        go false e =
            subst (λ d. Simulates (decoded rows) scratch (64 + 16 * d) (targets_of kept.edges b) b n y (fragment_items (has_edge kept.edges b) b n y)) (sym no_digits)
            (subst (λ keeps. Simulates (decoded rows) scratch 64 (targets_of kept.edges b) b n y (fragment_items keeps b n y)) (targets_keep kept.edges b)
            (facts.fragments_simulate scratch (targets_of kept.edges b) b n y e low))

    pub items_sized : (site : ℕ → Bool) → site b ≡ is_site (kind_of y) → IsSized rows items (most_of site (sorted_edges kept.edges) b)
    items_sized site same = go (is_site (kind_of y)) refl
      where
        all : ℕ
        all = length (filter (λ e. e.0 == b) (sorted_edges kept.edges))

        most : (v : Bool) → is_site (kind_of y) ≡ v → most_of site (sorted_edges kept.edges) b ≡ (if v then 128 + 48 * all else 32)
        most v e = ap (λ u. if u then 128 + 48 * all else 32) (same ∙ e)

        go : (v : Bool) → is_site (kind_of y) ≡ v → IsSized rows (if v then site_items scratch (targets_of kept.edges b) b n y else fragment_items (has_edge kept.edges b) b n y) (most_of site (sorted_edges kept.edges) b)
        go true e =
            let long : 128 + 48 * length (targets_of kept.edges b) ≡ most_of site (sorted_edges kept.edges) b = ap (λ c. 128 + 48 * c) (target_count kept.edges b) ∙ sym (most true e) in
            subst (IsSized rows (site_items scratch (targets_of kept.edges b) b n y)) long (facts.sites_sized scratch (targets_of kept.edges b) b n spelled.0 spelled.1 y spelled.2 (is_site_of e) names)
        go false e =
            subst (IsSized rows (fragment_items (has_edge kept.edges b) b n y)) (sym (most false e)) (facts.fragments_sized (has_edge kept.edges b) b n spelled.0 spelled.1 y spelled.2 e names low)
