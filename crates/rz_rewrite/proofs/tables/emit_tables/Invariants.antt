use Rattle.std.proofs.Common.{◌≡◌, ◌++◌, ℕ, drop}
use Rattle.std.specs.List.{AllByRecursion}
use Rattle.rz_machine.specs.Tables.{IsTable, placed}
use Rattle.rz_rewrite.specs.Calls.Places.{beside_or_zero}
use Rattle.rz_rewrite.specs.Fragments.{all_tables, targets_from}
use Rattle.rz_rewrite.proofs.tables.emit_tables.Given as goal

abbrev pub invariant-loop-site : goal.invariant-loop-site
invariant-loop-site l =
    let stub : ℕ → ℕ = beside_or_zero l.stubs in
    let place : ℕ → ℕ = beside_or_zero l.places in
    let rest = drop l.site-index l.sites in
    record {
      value : l.out ++ all_tables (targets_from l.edges) place stub rest ≡ all_tables (targets_from l.edges) place stub l.sites;
      tables : AllByRecursion (λ a. IsTable (stub a) (placed place (targets_from l.edges a))) rest;
    }
