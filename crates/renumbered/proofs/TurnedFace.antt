-- S-9, one interior face turned round: every cell and face keeps its number, and so a refusal its place.
use Prim.Native.Nat.{ℕ, ◌-◌, ◌<◌}
use mathlib.Core.Path.{◌≡◌, refl, sym, ap, ◌∙◌}
use mathlib.Core.Logic.{◌≢◌}
use mathlib.Core.Bool.{Bool, true, false, cond}
use mathlib.Core.List.{List}
use native.Mathlib.Omega.{arith}
use lib.Dec.{eqb}
use lib.ListN.{set, length-set}
use lib.IntN.{ℤ, pos, neg_ℤ}
use Rattle.lists.specs.Renumbering.{unmoved}
use Rattle.lists.specs.Table.{table, over}
use Rattle.lists.proofs.Tests.{Same, same, same?}
use Rattle.lists.proofs.Tables.{get_d_set, get_d_over, over-set, table-cong}
use Rattle.signed.specs.Sign.{turn}
use Rattle.model.specs.Mesh.{Mesh, first, second, share, rim, updated}
use Rattle.model.specs.Step.{mass}
use Rattle.model.specs.Causes.{fine, granted, Call, input_of, mesh_tables, mesh_verdict, field_table, step_tables}
use Rattle.model.specs.Calls.{Scheme, corrected, plain, next_table, moved_table}
use Rattle.model.specs.Alike.{Facing, straight, turned, AlikeMesh}
use Rattle.model.proofs.Agree.{whole}
use Rattle.renumbered.specs.Renumbered.{amount_in}
use Rattle.renumbered.specs.Turned.{turned_mesh, turned_call, TurnsRound, S9Turned}
use Rattle.renumbered.proofs.Schemes.{Numberless, corrected-numberless, plain-numberless}
use Rattle.renumbered.proofs.TwoSteps.{lent, Meshes, Calls, mesh-passes, calls-lent, answer-same, moves-same, masses-same, granted-same}
use Rattle.renumbered.proofs.Renumbered.{next_is, moved_is}

module _ (M : Mesh) (mesh_fine : mesh_verdict M ≡ fine) (g : ℕ) (inside : g < M.faces) (interior : second M g ≢ rim) where
  abbrev M' : Mesh
  M' = turned_mesh M g

  faces-alike : (f : ℕ) → f < M.faces → Facing M M' (λ c. c) f f (eqb g f)
  faces-alike f l = go (eqb g f) (same? g f)
      (get_d_set M.firsts g f (second M g) 0 (omega (arith, (lent M mesh_fine).firsts_long)))
      (get_d_set M.seconds g f (first M g) 0 (omega (arith, (lent M mesh_fine).seconds_long)))
    where
      go : (b : Bool) → Same g f b → first M' f ≡ cond b (second M g) (first M f) → second M' f ≡ cond b (first M g) (second M f) → Facing M M' (λ c. c) f f b
      go false s p q = straight p (q ∙ whole (second M f))
      go true (same e) p q = turned (rw e at interior) (p ∙ ap (second M) e) (q ∙ ap (first M) e)

  -- what stands at g, and what at the other faces
  at_g : {A : Type 0} (turns : A → A) (x : ℕ → A) (f : ℕ) → cond (eqb g f) (turns (x g)) (x f) ≡ cond (eqb g f) (turns (x f)) (x f)
  at_g turns x f = go (eqb g f) (same? g f)
    where
      go : (b : Bool) → Same g f b → cond b (turns (x g)) (x f) ≡ cond b (turns (x f)) (x f)
      go true (same e) = ap (λ (i : ℕ). turns (x i)) e
      go false s = refl

  alike : AlikeMesh M M' (unmoved M.cells) (unmoved M.faces) (eqb g)
  alike = record {
    ends_alike = record { cells_same = refl; faces_same = refl; facing = faces-alike };
    volume_same = λ c h. refl;
    share_same = λ f l. get_d_set M.shares g f (256 - share M g) 0 (omega (arith, (lent M mesh_fine).shares_long)) ∙ at_g (λ w. 256 - w) (share M) f;
    reach_same = λ f l. refl;
  }

  tables_same : mesh_tables M' ≡ mesh_tables M
  unfolding mesh_tables
  tables_same = simp length-set

  meshes : Meshes true M M' (unmoved M.cells) (unmoved M.faces) (eqb g)
  meshes = record { mesh_fine = mesh_fine; cells_kept = λ e c h. refl; faces_kept = λ e f l. refl; alike = alike; tables_same = tables_same }

  module _ (s : Scheme) (blind : Numberless s) (field : List ℕ) (k : Call) where
    abbrev k' : Call
    k' = turned_call M g k

    field_same : field_table M' field ≡ field_table M field
    unfolding field_table
    field_same = refl

    call_same : step_tables M' field k' ≡ step_tables M field k
    unfolding step_tables
    call_same = simp length-set

    turn_at : (x : ℕ → ℤ) (f : ℕ) → cond (eqb g f) (neg_ℤ (x g)) (x f) ≡ turn (eqb g f) (x f)
    turn_at x f = at_g neg_ℤ x f ∙ go (eqb g f)
      where
        go : (b : Bool) → cond b (neg_ℤ (x f)) (x f) ≡ turn b (x f)
        go true = refl
        go false = refl

    both : Calls true M M' (unmoved M.cells) (unmoved M.faces) (eqb g) field field k k'
    both = record {
      meshes = meshes;
      field_same = field_same;
      call_same = call_same;
      long_alike = λ masses_long c. record {
        mesh_alike = alike;
        mass_same = λ c h. refl;
        release_same = λ c h. refl;
        flux_same = λ f l. get_d_set k.fluxes g f (neg_ℤ (amount_in k.fluxes g)) (pos 0) (omega (arith, c.fluxes_long)) ∙ turn_at (amount_in k.fluxes) f;
        outside_same = λ f l. refl;
      };
    }

    next-kept : s.finds M field k ≡ fine → over (table M.cells (updated M' (mass (input_of M' field k')) (s.moves M' field k'))) k.nexts
        ≡ over (table M.cells (updated M (mass (input_of M field k)) (s.moves M field k))) k.nexts
    next-kept e = ap (λ (xs : List ℕ). over xs k.nexts) (table-cong 0 M.cells _ _ (masses-same both s blind e))

    moved-negated : s.finds M field k ≡ fine
        → over (table M.faces (s.moves M' field k')) k.moveds ≡ set (moved_table s M k field) g (neg_ℤ (amount_in (moved_table s M k field) g))
    unfolding moved_table
    moved-negated e = rw (e, get_d_over M.faces (s.moves M field k) k.moveds (pos 0) g inside)
        (over-set M.faces (s.moves M field k) (s.moves M' field k') k.moveds g _ (pos 0) (calls-lent both s blind e).1.moveds_long inside
        (λ f l. moves-same both s blind e f l ∙ sym (turn_at (s.moves M field k) f)))

    turns-round : TurnsRound M g s field k
    turns-round = record { answer = answer-same both s blind; next_masses = next_masses; moved_masses = moved_masses }
      where
        next_masses : next_table s M' k' field ≡ next_table s M k field
        next_masses = next_is s M' k' field ∙ granted-same both s blind _ _ k.nexts next-kept ∙ sym (next_is s M k field)

        moved_masses : moved_table s M' k' field
            ≡ granted (s.finds M field k) (set (moved_table s M k field) g (neg_ℤ (amount_in (moved_table s M k field) g))) k.moveds
        moved_masses = moved_is s M' k' field ∙ granted-same both s blind _ _ k.moveds moved-negated

pub s9-turned : (s : Scheme) → Numberless s → S9Turned s
s9-turned s blind M mesh_fine g inside interior = (mesh-passes (meshes M mesh_fine g inside interior), turns-round M mesh_fine g inside interior s blind)

pub s9-turned-corrected : S9Turned corrected
s9-turned-corrected = s9-turned corrected corrected-numberless

pub s9-turned-plain : S9Turned plain
s9-turned-plain = s9-turned plain plain-numberless
